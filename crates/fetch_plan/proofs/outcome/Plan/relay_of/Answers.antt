use Rattle.std.proofs.Common.{◌≡◌, ℕ, List, Result, Some, None, get_or, map, rules, sym, ap, ◌∙◌, subst}
use Rattle.std.specs.Prelude.{MatchResult}
use Rattle.std.proofs.lemmas.List.Sorted.{answers_always}
use Rattle.item_key.specs.declared.Id.{Id}
use Rattle.sharing.specs.Offers.{Ascend, beside}
use Rattle.sharing.proofs.Searched.{looked}
use Rattle.fetch_plan.proofs.outcome.Plan.relay_of.Goals as goal

Found : List (Id × ℕ) → Id → Result ℕ ℕ → Type 0
Found gives id r = MatchResult r (λ i. (d : Id × ℕ) → beside gives id ≡ Some (get_or gives i d).1) (λ i. beside gives id ≡ None)

abbrev id_of : Id × ℕ → Id
id_of g = g.0

pub returns-in-Ok : goal.returns-in-Ok
unfolding Found
returns-in-Ok c =
    let e = c.binary_search_by_key.ensures in
    let gives = c.deref.result.now in
    let ascend : Ascend (map (λ g. g.0) gives) = subst (λ (gs : List (Id × ℕ)). Ascend (map (λ g. g.0) gs)) (sym c.deref.ensures.value) c.self.invariant.0.ascend in
    let all : Found gives c.args.id.now c.binary_search_by_key.result = looked {X = ℕ} 0 gives ascend c.args.id.now c.binary_search_by_key.result e.bound (e.position id_of (answers_always _ _ _ (λ f a r g called. search rules))) in
    let one = subst (Found gives c.args.id.now) c.in-Ok.is all in
    let give = c.index.result.now in
    ap (λ (g : Id × ℕ). Some g.1) c.index.ensures ∙ ap (λ (gs : List (Id × ℕ)). Some (get_or gs c.in-Ok.place give).1) (sym c.deref.ensures.value) ∙ sym (one give)
    ∙ ap (λ gs. beside gs c.args.id.now) c.deref.ensures.value ∙ ap (λ p. beside p.gives c.args.id.now) c.self.view_is

pub returns-in-Err : goal.returns-in-Err
unfolding Found
returns-in-Err c =
    let e = c.binary_search_by_key.ensures in
    let gives = c.deref.result.now in
    let ascend : Ascend (map (λ g. g.0) gives) = subst (λ (gs : List (Id × ℕ)). Ascend (map (λ g. g.0) gs)) (sym c.deref.ensures.value) c.self.invariant.0.ascend in
    let all : Found gives c.args.id.now c.binary_search_by_key.result = looked {X = ℕ} 0 gives ascend c.args.id.now c.binary_search_by_key.result e.bound (e.position id_of (answers_always _ _ _ (λ f a r g called. search rules))) in
    let none = subst (Found gives c.args.id.now) c.in-Err.is all in
    sym none ∙ ap (λ gs. beside gs c.args.id.now) c.deref.ensures.value ∙ ap (λ p. beside p.gives c.args.id.now) c.self.view_is
