use Rattle.std.proofs.Common.{◌≡◌, length, map, take, rules}
use Rattle.std.specs.Arc.{arc_value}
use Rattle.event_table.proofs.More.{longer_begins}
use Rattle.event_store.proofs.desk.Desk.load.Goals as goal

pub show-requires-clause-begins : goal.show-requires-clause-begins
show-requires-clause-begins g c =
    let published : c.deref.result.now ≡ c.args.self.now = search rules in
    longer_begins (take (length c.in_ok-state.fresh.items) (map arc_value c.args.events.now)) c.deref.result.now c.args.self.now _ published c.in_ok-state.ensures.list
