use Rattle.std.proofs.Common.{◌≡◌, ◌<◌, ◌≤◌, ◌++◌, ◌∷◌, [], ℕ, sym, ap, subst, arith}
use Rattle.std.specs.List.{All}
use Rattle.std.proofs.lemmas.List.Elements.{All-nil}
use Rattle.sharing.specs.Offers.{AreRelays}
use Rattle.plan_check.specs.PlanText.{relays_text}
use Rattle.plan_check.proofs.NumberLemmas.{more_relays}
use Rattle.plan_check.proofs.Taken.{no_relays, relays_push, below_push}
use Rattle.plan_check.proofs.words.parse_relays.Goals as goal

pub loop-relay-init : goal.loop-relay-init
loop-relay-init c =
    let none = sym c.in_ok-relays.ensures.items in
    record {
      told = ap (λ rs. relays_text rs ++ c.args.text.now) none;
      ordered = subst AreRelays none no_relays;
      below = subst (All (λ (r : ℕ). r < 0)) none (All-nil (λ (r : ℕ). r < 0));
      small = omega arith;
    }

pub loop-relay-preserved : goal.loop-relay-preserved
loop-relay-preserved c =
    let inv = c.loop-relay.invariant in
    let r : ℕ = c.in-Some.relay in
    let h = c.in-Some.ensures in
    let relays = c.loop-relay.relays.items in
    let next : ℕ = c.loop-relay.next in
    let behind : next ≤ r = omega (arith, c.if-relay-next.false) in
    let pushed : c.push.new.self.items ≡ relays ++ r ∷ [] = c.in_ok-push.ensures.items in
    record {
      told = rw pushed (more_relays _ _ _ relays r inv.told h.found);
      ordered = rw pushed (relays_push relays r next inv.ordered inv.below behind h.small);
      below = rw pushed (below_push relays r next inv.below behind);
      small = omega (arith, h.small);
    }
