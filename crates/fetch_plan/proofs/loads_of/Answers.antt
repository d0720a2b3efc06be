use Rattle.std.proofs.Common.{◌≢◌, ◌<◌, ℕ, length, set, sym, ap, ◌∙◌, arith, inl, inr, below_more}
use Rattle.std.proofs.lemmas.Bool.{cases_lt}
use Rattle.std.proofs.lemmas.List.{get_or-set_same, get_or-set_other, length-set, get_or_past}
use Rattle.sharing.specs.declared.TheConstants.{RELAYS}
use Rattle.fetch_plan.specs.Takers.{at}
use Rattle.fetch_plan.proofs.loads_of.Goals as goal

pub loop-relay-preserved : goal.loop-relay-preserved
loop-relay-preserved c =
    let inv = c.loop-relay.invariant in
    let loads = c.loop-relay.loads in
    let x : ℕ = c.of.result in
    let slot : ℕ = c.from.result in
    let fits : slot < length loads = omega (arith, inv.wide, c.from.ensures, c.loop-relay-test.true) in
    record {
      told = below_more _ _
          (λ r lt. (let ne : r ≢ slot = omega (arith, c.from.ensures) in get_or-set_other loads slot r x 0 ne ∙ inv.told r lt))
          (ap (at (set loads slot x)) (sym c.from.ensures) ∙ get_or-set_same loads slot x 0 fits ∙ c.of.ensures.value);
      bases = λ _. c.of.ensures.bases;
      wide = length-set loads slot x ∙ inv.wide;
    }

pub returns-clause-loads : goal.returns-clause-loads
returns-clause-loads c r =
    let inv = c.loop-relay.invariant in
    elim (cases_lt r RELAYS) [
      | inl lt ↦ inv.told r (omega (arith, c.loop-relay-test.false))
      | inr ge ↦ get_or_past c.loop-relay.loads r 0 (omega (arith, inv.wide)) ∙ sym (get_or_past c.args.bases.now r 0 (omega (arith, (inv.bases (omega (arith, c.loop-relay-test.false))).long)))
    ]
