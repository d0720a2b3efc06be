use Rattle.std.proofs.Common.{[], arith, sym, ◌∙◌}
use Rattle.mirror_run.proofs.PlacingLemmas.{members_more, refused_present, refused_full, taken_more}
use Rattle.mirror_run.proofs.placing.first_refused.Goals as goal

pub returns-then-contains-clause-refused : goal.returns-then-contains-clause-refused
returns-then-contains-clause-refused c =
    refused_present c.args.items.now c.loop-i.i _ (omega arith) c.if-item.false (sym (c.loop-i.invariant.members _) ∙ sym c.contains.ensures ∙ c.if-contains.true) c.loop-i.invariant.taken

pub returns-then-i-ge1000000-clause-refused : goal.returns-then-i-ge1000000-clause-refused
returns-then-i-ge1000000-clause-refused c =
    refused_full c.args.items.now c.loop-i.i _ (omega arith) c.if-item.false (sym (c.loop-i.invariant.members _) ∙ sym c.contains.ensures ∙ c.if-contains.false) (omega arith) c.loop-i.invariant.taken

pub loop-i-preserved : goal.loop-i-preserved
loop-i-preserved c = record {
  taken = taken_more c.args.items.now c.loop-i.i (record { time = 0; id = record { 0 = [] } }) (omega arith) (omega (arith, c.if-item.false)) (sym (c.loop-i.invariant.members _) ∙ sym c.contains.ensures ∙ c.if-contains.false) (omega arith) c.loop-i.invariant.taken;
  members = λ q. members_more q _ c.args.items.now c.loop-i.i _ _ (omega arith) (c.in_ok-insert.ensures.updates.0 q) (c.loop-i.invariant.members q);
}
