use Rattle.std.proofs.Common.{arith, inl, inr}
use Rattle.sharing.specs.Sharing.{taken, load}
use Rattle.sharing.proofs.Counting.{no_base, same_greatest}
use Rattle.sharing.proofs.loads_without_bases.Goals as goal

pub returns-clause-shows : goal.returns-clause-shows
returns-clause-shows c base offers group most none = (
  λ shows. elim shows [ inl zero ↦ inl zero | inr more ↦ inr (more.0, omega (arith, more.1, no_base base group none)) ],
  λ shows. elim shows [ inl zero ↦ inl zero | inr more ↦ inr (more.0, omega (arith, more.1, no_base base group none)) ],
)

pub returns-clause-least : goal.returns-clause-least
returns-clause-least c base offers least none = (
  λ smaller g most share greatest. smaller g most share (same_greatest (taken g offers) (load base g offers) most (λ r. omega (arith, none r)) greatest),
  λ smaller g most share greatest. smaller g most share (same_greatest (load base g offers) (taken g offers) most (λ r. omega (arith, none r)) greatest),
)
