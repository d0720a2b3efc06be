use Rattle.std.proofs.Common.{◌≡◌, ◌++◌, map}
use Rattle.std.specs.Prelude.{IfOk}
use Rattle.std.specs.Arc.{arc_value}
use Rattle.std.specs.List.{AllByRecursion}
use Rattle.std.specs.Vec.Iter.{into_iter_items}
use mathlib.Core.List.{IsPrefix}
use Rattle.ws_serve.specs.Gathered.{ids_of, SaysOfAll}
use Rattle.ws_serve.proofs.together.answer_each.Given as goal

abbrev pub invariant-loop-one : goal.invariant-loop-one
invariant-loop-one g l = record {
  reader : IsPrefix l.initial.reader l.reader;
  placed : AllByRecursion (λ s. IfOk s.placed (λ p. p.id ≡ s.id)) (into_iter_items l.one-iterator);
  says : SaysOfAll (map (λ s. s.id) l.yielded) l.initial.socket l.socket;
  split : ids_of (map arc_value l.events) ≡ map (λ s. s.id) l.yielded ++ map (λ s. s.id) (into_iter_items l.one-iterator);
  kept : l.conn.kept ≡ l.initial.conn.kept;
  limits : l.conn.limits ≡ l.initial.conn.limits;
}
