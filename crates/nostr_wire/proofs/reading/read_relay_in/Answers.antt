use Rattle.std.proofs.lemmas.Result.{IfOk-weaker, IfErr-weaker}
use Rattle.nostr_wire.specs.Forms.{relay_form, relay_table}
use Rattle.nostr_wire.proofs.Laws.{one_message, refused_none}
use Rattle.nostr_wire.proofs.reading.read_relay_in.Goals as goal

pub returns-clause-no_other : goal.returns-clause-no_other
returns-clause-no_other c =
    IfOk-weaker c.relay_text-read.result _ _ (λ m reads other also. one_message relay_table c.args.text.now (relay_form m) other reads also) c.relay_text-read.ensures.ok

pub returns-clause-no_message : goal.returns-clause-no_message
returns-clause-no_message c =
    IfErr-weaker c.relay_text-read.result _ _ (λ f refused. refused_none relay_table c.args.text.now f refused) c.relay_text-read.ensures.err
