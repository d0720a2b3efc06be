use Rattle.std.proofs.Common.{◌≡◌, ℕ, List, [], take, length}
use Rattle.std.specs.List.{zip}
use Rattle.round_core.specs.Left.{Leaves}
use Rattle.round_core.proofs.round.Round.answers.Given as goal

abbrev pub invariant-loop-event : goal.invariant-loop-event
invariant-loop-event l = record {
  left : (lanes : List ℕ) → Leaves lanes [] l.fn.self → Leaves lanes (zip (take l.event-index l.events) l.answers.items) l.self;
  long : length l.answers.items ≡ l.event-index;
}
