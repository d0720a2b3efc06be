use Rattle.std.proofs.Common.{◌<◌, List, ℕ, All, drop, sym, ap, ◌∙◌}
use Rattle.sharing.specs.declared.TheConstants.{RELAYS}
use Rattle.plan_check.specs.PlanText.{relays_text, group_line}
use Rattle.plan_check.proofs.KindLemmas.{no_line, other_line}
use Rattle.plan_check.proofs.scanning.scan_group.Goals as goal

abbrev AreSmall : List ℕ → Type 0
AreSmall relays = All (λ r. r < RELAYS) relays

pub returns-in_err-line-clause-none : goal.returns-in_err-line-clause-none
returns-in_err-line-clause-none c = rw c.from_residual.ensures (no_line group_line AreSmall _ c.in_err-line.ensures.none)

pub returns-in_err-relays-clause-none : goal.returns-in_err-relays-clause-none
returns-in_err-relays-clause-none c = rw c.from_residual-in_err-relays.ensures (other_line group_line AreSmall c.in_ok-line.line.now _ _ c.in_ok-line.ensures.lines (λ group is same. c.in_err-relays.ensures.none (relays_text group) same))

pub returns-in_err-rises-clause-none : goal.returns-in_err-rises-clause-none
returns-in_err-rises-clause-none c = rw c.from_residual-in_err-rises.ensures (other_line group_line AreSmall c.in_ok-line.line.now _ _ c.in_ok-line.ensures.lines (λ group is same. c.in_err-rises.ensures.none (group, is, ap (drop 5) (sym c.in_ok-relays.ensures.found ∙ same))))
