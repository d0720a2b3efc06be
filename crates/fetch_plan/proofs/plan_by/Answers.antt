use Rattle.std.proofs.Common.{◌≡◌, ◌≢◌, ◌<◌, ◌+◌, ◌++◌, ℕ, List, length, take, drop, ap, ◌∙◌, arith, inl, inr}
use Rattle.std.proofs.lemmas.List.{take-append-le, take_all}
use Rattle.sharing.specs.declared.TheConstants.{RELAYS}
use Rattle.sharing.specs.Bases.{base_of}
use Rattle.sharing.proofs.Counting.{none_smaller}
use Rattle.fetch_plan.specs.Takers.{at, held}
use Rattle.fetch_plan.specs.Plan.{IsPlanOf}
use Rattle.fetch_plan.proofs.Planned.{planned, held_in}
use Rattle.fetch_plan.proofs.plan_by.Goals as goal
use Rattle.fetch_plan.proofs.plan_by.Goals.{then-least_max-eq0, else-least_max-eq0}

-- a list of which all is written anew
anew : (old new : List ℕ) (n : ℕ) → length new ≡ length old → n ≡ length old → take n (new ++ drop (length new) old) ≡ new
anew old new n same all = take-append-le n new (drop (length new) old) (omega arith) ∙ take_all n new (omega arith)

settled_takers : (c : goal.After-result-1) → c.deref-3.result.now ≡ c.settle.new.takers
settled_takers c =
    c.deref-3.ensures.value ∙ anew c.in_ok-takers.takers.items c.settle.new.takers c.in_ok-takers.takers.len (omega (arith, c.in_ok-reached.ensures.offered.long, c.in_ok-takers.ensures.long)) (omega arith)

settled_loads : (c : goal.After-result-1) (r : ℕ) → r < RELAYS → at c.settle.new.loads r ≡ base_of c.args.bases.now r + held c.settle.new.takers r
settled_loads c r lt =
    omega (arith, c.in_ok-reached.ensures.loads r lt, c.add_loads.ensures r, c.loads_of-loads.ensures.loads r, ap {B = ℕ} (λ xs. held xs r) c.deref-2.ensures.value, ap {B = ℕ} (λ xs. held xs r) c.deref_mut.ensures.value)

made : (c : goal.After-result-1) → IsPlanOf c.args.bases.now c.args.offers.now (record { bases = c.args.bases.now; gives = c.in_ok-gives.gives.items; least_max = c.greatest-least_max.result; group = c.if-least_max-eq0.group })
made c =
    let g = c.greatest-least_max.ensures in
    planned c.args.bases.now c.args.offers.now c.settle.new.takers c.in_ok-gives.gives.items c.settle.new.loads c.in_ok-reached.reached c.if-least_max-eq0.group c.greatest-least_max.result c.loads_of-loads.ensures.bases
    (record { offers_ok = c.requires.offers; few = c.requires.few })
    c.in_ok-reached.ensures.offered c.in_ok-gives.ensures.ids (c.in_ok-gives.ensures.takers ∙ settled_takers c) (settled_loads c) c.in_ok-reached.ensures.settled g.bound g.one
    (elim c.if-least_max-eq0.branch [
      | then-least_max-eq0 w ↦ inl (w.if-least_max-eq0.true, w.group-is ∙ w.empty-group.ensures)
      | else-least_max-eq0 w ↦ (let ne : c.greatest-least_max.result ≢ 0 = w.if-least_max-eq0.false in inr (omega arith, w.group-is))
    ])

pub returns-clause-planned : goal.returns-clause-planned
returns-clause-planned c = made c.before.before

pub invariant_of-result : goal.invariant_of-result
invariant_of-result c = (
  (made c).plan_ok,
  λ r lt. omega (arith, settled_loads c r lt, held_in c.in_ok-gives.gives.items r, ap {B = ℕ} (λ xs. held xs r) (c.in_ok-gives.ensures.takers ∙ settled_takers c)),
)

pub returns-clause-least : goal.returns-clause-least
returns-clause-least c =
    none_smaller (base_of c.args.bases.now) c.args.offers.now c.if-least_max-eq0.group c.greatest-least_max.result (made c.before.before).least.shows
