use Rattle.std.proofs.Common.{◌≡◌, length, take}
use Rattle.std.specs.Prelude.{option_map}
use Rattle.event_store.proofs.blank.Front.add_from.Given as goal

abbrev pub invariant-loop-place : goal.invariant-loop-place
invariant-loop-place g l = record {
  list : l.self ≡ take l.place l.events;
  head : l.head ≡ option_map (λ _. length l.self) l.fn.head;
}
