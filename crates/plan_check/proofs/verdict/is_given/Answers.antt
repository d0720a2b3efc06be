use Rattle.std.proofs.Common.{◌≡◌, ℕ, List, [], Result, Some, None, get_or, rules, sym, ap, ◌∙◌}
use Rattle.std.specs.Prelude.{MatchResult, is_some, is_ok, Ok, Err}
use Rattle.std.specs.Ordering.{is_eq}
use Rattle.std.proofs.lemmas.List.Sorted.{answers_always}
use Rattle.item_key.specs.declared.Id.{Id}
use Rattle.sharing.specs.Offers.{beside}
use Rattle.sharing.proofs.Orders.{same_id}
use Rattle.sharing.proofs.Looks.{found_itself}
use Rattle.sharing.proofs.Searched.{looked}
use Rattle.plan_check.proofs.verdict.is_given.Goals as goal

abbrev id_of : Id × ℕ → Id
id_of g = g.0

-- a search answers Ok where the id is among the gives
told : (gives : List (Id × ℕ)) (id : Id) (r : Result ℕ ℕ) → MatchResult r (λ i. (d : Id × ℕ) → beside gives id ≡ Some (get_or gives i d).1) (λ i. beside gives id ≡ None) → is_ok r ≡ is_some (beside gives id)
told gives id (Ok i) found = sym (ap is_some (found (id, 0)))
told gives id (Err i) none = sym (ap is_some none)

pub returns : goal.returns
returns c =
    let e = c.binary_search_by_key.ensures in
    c.is_ok.ensures.value ∙ told c.args.gives.now c.args.id.now c.binary_search_by_key.result (looked 0 c.args.gives.now c.requires c.args.id.now c.binary_search_by_key.result e.bound (e.position id_of (answers_always _ _ _ (λ f a r g called. search rules))))

pub returns-then-is_eq : goal.returns-then-is_eq
returns-then-is_eq c =
    let gives = c.args.gives.now in
    let place : ℕ = c.args.place in
    let none : Id × ℕ = (record { 0 = [] }, 0) in
    let same = same_id c.args.id.now (get_or gives place none).0 (ap is_eq (sym c.cmp.ensures) ∙ sym c.is_eq.ensures ∙ c.if-is_eq.true) in
    sym (ap is_some (ap (beside gives) same ∙ found_itself gives c.requires place none c.if-place-gives.true))
