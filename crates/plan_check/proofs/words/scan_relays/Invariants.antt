use Rattle.std.proofs.Common.{ℕ, ◌≡◌, ◌<◌, ◌++◌, List, length, All, None}
use Rattle.sharing.specs.declared.TheConstants.{RELAYS}
use Rattle.plan_check.specs.Lines.{rises}
use Rattle.plan_check.specs.PlanText.{relays_text}
use Rattle.plan_check.specs.PlanParts.{AreRelaysText}
use Rattle.plan_check.proofs.Runs.{last_from}
use Rattle.plan_check.proofs.words.scan_relays.Given as goal

abbrev pub invariant-loop-rest : goal.invariant-loop-rest
invariant-loop-rest l = record {
  relays : List ℕ;
  told : l.text ≡ relays_text relays ++ l.rest;
  small : All (λ r. r < RELAYS) relays;
  ok : l.ok ≡ rises relays;
  before : l.before ≡ last_from (λ r. r) None relays;
  whole : AreRelaysText l.text → AreRelaysText l.rest;
}

abbrev pub decreases-loop-rest : goal.decreases-loop-rest
decreases-loop-rest l = length l.rest
