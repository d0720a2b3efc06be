use Rattle.std.proofs.Common.{ap, sym, ◌∙◌, length, arith}
use Rattle.std.specs.Arc.{arc_value}
use Rattle.event_table.proofs.Matched.{all_match}
use Rattle.event_store.proofs.snapshot.Snapshot.of_few.Goals as goal

pub returns-then-len-most-clause-many : goal.returns-then-len-most-clause-many
returns-then-len-most-clause-many c none =
    let all = all_match c.args.filter.now (arc_value c.args.state) (c.leaves_none_out.ensures c.if-leaves_none_out.true) in
    omega (arith, c.if-len-most.true, c.len.ensures, ap length (c.events.ensures.list ∙ c.deref.ensures ∙ sym all))

pub returns-then-leaves_none_out-clause-few : goal.returns-then-leaves_none_out-clause-few
returns-then-leaves_none_out-clause-few c =
    let all = all_match c.args.filter.now (arc_value c.args.state) (c.leaves_none_out.ensures c.if-leaves_none_out.true) in
    omega (arith, c.if-len-most.false, c.len.ensures, ap length (c.events.ensures.list ∙ c.deref.ensures), ap length (c.in_ok-of.ensures.events ∙ all))
