use Rattle.std.proofs.Common.{sym, ◌∙◌}
use Rattle.std.specs.Arc.{arc_value}
use Rattle.event_table.proofs.Matched.{all_match}
use Rattle.event_store.proofs.snapshot.Snapshot.of.Goals as goal

pub returns-then-leaves_none_out-clause-events : goal.returns-then-leaves_none_out-clause-events
returns-then-leaves_none_out-clause-events c =
    c.in_ok-events.ensures ∙ c.events-all.ensures.list ∙ c.deref.ensures
    ∙ sym (all_match c.args.filter.now (arc_value c.args.state) (c.leaves_none_out.ensures c.if-leaves_none_out.true))
