use Rattle.neg_initiator.proofs.Taking.{least_low, first_ask_of}
use Rattle.neg_initiator.proofs.initiator.first_ask.Goals as goal

pub tell_split-requires : goal.tell_split-requires
tell_split-requires c = rw c.new.ensures least_low

pub returns : goal.returns
returns c =
    first_ask_of c.args.roll.now c.args.limit c.in_ok-draft.draft c.new.result c.into_message.result c.into_message.ensures.value c.len.ensures.roll c.into_message.ensures.draft c.new.ensures
    c.in_ok-draft.ensures.told c.in_ok-draft.ensures.exact
