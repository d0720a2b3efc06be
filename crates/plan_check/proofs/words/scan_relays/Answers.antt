use Rattle.std.proofs.Common.{◌<◌, ◌++◌, ◌∷◌, ◌&&◌, [], ℕ, length, None, sym, ap, ◌∙◌, arith}
use Rattle.std.specs.Ordering.{nat_cmp}
use Rattle.std.proofs.lemmas.Bool.Decides.{nat_tests}
use Rattle.std.proofs.lemmas.List.Elements.{All-push}
use Rattle.sharing.specs.declared.TheConstants.{RELAYS}
use Rattle.plan_check.specs.Lines.{is_behind}
use Rattle.plan_check.specs.PlanParts.{AreRelaysText}
use Rattle.plan_check.proofs.NumberLemmas.{no_relays, more_relays, later_relays}
use Rattle.plan_check.proofs.Runs.{last_from, rises_push, last_number}
use Rattle.plan_check.proofs.words.scan_relays.Goals as goal

pub returns-in_err-relay-clause-none : goal.returns-in_err-relay-clause-none
returns-in_err-relay-clause-none c = rw c.from_residual.ensures (λ told.
    let some : 0 < length c.loop-rest.rest.now = grind (arith, nat_tests) in
    let rest : AreRelaysText c.loop-rest.rest.now = c.loop-rest.invariant.whole told in
    no_relays _ rest.0 some c.in_err-relay.ensures.none rest.1 rest.2)

pub loop-rest-preserved-then-ok : goal.loop-rest-preserved-then-ok
loop-rest-preserved-then-ok c =
    let r = c.in_ok-relay.relay in
    let h = c.in_ok-relay.ensures in
    let inv = c.loop-rest.invariant in
    record {
      relays = inv.relays ++ r ∷ [];
      told = more_relays _ _ _ inv.relays r inv.told h.found;
      small = All-push (λ r. r < RELAYS) inv.relays r inv.small h.small;
      ok = c.comes_next-ok.ensures ∙ ap (λ b. is_behind nat_cmp b r) inv.before ∙ sym (ap (λ t. t && is_behind nat_cmp (last_from (λ (x : ℕ). x) None inv.relays) r) (sym inv.ok ∙ c.if-ok.true)) ∙ sym (rises_push None inv.relays r);
      before = sym (last_number None inv.relays r);
      whole = λ told. let rest : AreRelaysText c.loop-rest.rest.now = inv.whole told in later_relays _ _ rest.0 r h.small h.rest h.found rest.1 rest.2;
    }

pub loop-rest-preserved : goal.loop-rest-preserved
loop-rest-preserved c =
    let r = c.in_ok-relay.relay in
    let h = c.in_ok-relay.ensures in
    let inv = c.loop-rest.invariant in
    record {
      relays = inv.relays ++ r ∷ [];
      told = more_relays _ _ _ inv.relays r inv.told h.found;
      small = All-push (λ r. r < RELAYS) inv.relays r inv.small h.small;
      ok = c.if-ok.false ∙ sym (ap (λ t. t && is_behind nat_cmp (last_from (λ (x : ℕ). x) None inv.relays) r) (sym inv.ok ∙ c.if-ok.false)) ∙ sym (rises_push None inv.relays r);
      before = sym (last_number None inv.relays r);
      whole = λ told. let rest : AreRelaysText c.loop-rest.rest.now = inv.whole told in later_relays _ _ rest.0 r h.small h.rest h.found rest.1 rest.2;
    }
