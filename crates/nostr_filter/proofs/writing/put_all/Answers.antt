use Rattle.std.proofs.Common.{◌<◌, ◌-◌, subst, sym, arith}
use Rattle.nostr_filter.specs.declared.conditions.TagCondition.{TagCondition}
use Rattle.nostr_filter.proofs.Standing.{letter_small}
use Rattle.nostr_filter.proofs.writing.put_all.Goals as goal

pub put_condition-requires : goal.put_condition-requires
put_condition-requires c =
    let small = letter_small c.args.conditions.now (c.loop-left.left - 1) c.index-conditions-left.result c.requires (omega arith) in
    subst (λ (t : TagCondition). t.letter < 128) (sym c.index-conditions-left.is) small
