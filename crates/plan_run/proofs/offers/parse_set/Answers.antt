use Rattle.std.proofs.Common.{◌≡◌, ◌+◌, ◌<◌, ◌++◌, ◌∷◌, [], ℕ, List, sym, ap, subst, arith}
use Rattle.std.specs.List.{All}
use Rattle.std.proofs.lemmas.List.Elements.{All-nil, All-push, All-weaker}
use Rattle.sharing.specs.Offers.{AreRelays}
use Rattle.plan_check.specs.PlanText.{relays_text}
use Rattle.plan_check.proofs.NumberLemmas.{more_relays}
use Rattle.plan_check.proofs.Taken.{no_relays}
use Rattle.plan_run.proofs.Fronts.{with_last}
use Rattle.plan_run.proofs.offers.parse_set.Goals as goal

pub loop-relay-init : goal.loop-relay-init
loop-relay-init c = record {
  told = ap (λ rs. relays_text rs ++ c.args.text.now) (sym c.empty-relays.ensures);
  ordered = subst AreRelays (sym c.empty-relays.ensures) no_relays;
  below = subst (All (λ (r : ℕ). r < 0)) (sym c.empty-relays.ensures) (All-nil (λ (r : ℕ). r < 0));
  small = omega arith;
}

pub loop-relay-preserved : goal.loop-relay-preserved
loop-relay-preserved c =
    let h = c.loop-relay.invariant in
    let r = c.in-Some.relay in
    let relays : List ℕ = c.loop-relay.relays in
    let pushed : c.with-relays.result ≡ relays ++ r ∷ [] = with_last relays c.with-relays.result r c.loop-relay.next h.ordered c.with-relays.ensures.relays h.below (omega (arith, c.if-relay-next.false)) c.with-relays.ensures.member in
    record {
      told = rw pushed (more_relays _ _ _ relays r h.told c.in-Some.ensures.found);
      ordered = c.with-relays.ensures.relays;
      below = rw pushed (All-push (λ (x : ℕ). x < r + 1) relays r (All-weaker (λ (x : ℕ). x < c.loop-relay.next) (λ (x : ℕ). x < r + 1) (λ x lt. omega (arith, c.if-relay-next.false)) relays h.below) (omega arith));
      small = omega (arith, c.in-Some.ensures.small);
    }
