use Rattle.std.proofs.Common.{◌≡◌, map, take, drop}
use Rattle.std.specs.Prelude.{IfOk}
use Rattle.std.specs.Arc.{arc_value}
use Rattle.std.specs.List.{AllByRecursion}
use Rattle.std.specs.Vec.Iter.{into_iter_items}
use Rattle.ws_serve.specs.Gathered.{ids_of, Follow}
use Rattle.ws_serve.proofs.together.stored_all.Given as goal

abbrev pub invariant-loop-event : goal.invariant-loop-event
invariant-loop-event g l = record {
  placed : AllByRecursion (λ s. IfOk s.placed (λ p. p.id ≡ s.id)) l.all.items;
  ids : map (λ s. s.id) l.all.items ≡ ids_of (map arc_value (take l.event-index l.events));
  left : Follow (map (λ p. p.id) (into_iter_items l.placed)) (ids_of (map arc_value (drop l.event-index l.events)));
}
