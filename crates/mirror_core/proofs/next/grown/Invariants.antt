use Rattle.std.proofs.Common.{◌≡◌, ℕ, ◌+◌, ◌≤◌, min}
use Rattle.sharing.specs.declared.TheConstants.{MOST_BASE}
use Rattle.sharing.specs.Bases.{base_of}
use Rattle.mirror_core.specs.Next.{asked_of}
use Rattle.mirror_core.proofs.next.grown.Given as goal

abbrev pub invariant-loop-at : goal.invariant-loop-at
invariant-loop-at l = (r : ℕ) → base_of l.bases r ≤ MOST_BASE → base_of l.grown r ≡ min (base_of l.bases r + asked_of l.last.gives l.cells r l.at) MOST_BASE
