use Rattle.std.proofs.Common.{◌≡◌, ◌<◌, ◌≤◌, ◌++◌, length, All}
use Rattle.sharing.specs.declared.TheConstants.{RELAYS}
use Rattle.sharing.specs.Offers.{AreRelays}
use Rattle.plan_check.specs.PlanText.{relays_text}
use Rattle.plan_check.proofs.words.parse_relays.Given as goal

abbrev pub invariant-loop-relay : goal.invariant-loop-relay
invariant-loop-relay l = record {
  told : l.text ≡ relays_text l.relays.items ++ l.rest;
  ordered : AreRelays l.relays.items;
  below : All (λ r. r < l.next) l.relays.items;
  small : l.next ≤ RELAYS;
}

abbrev pub decreases-loop-relay : goal.decreases-loop-relay
decreases-loop-relay l = length l.rest
