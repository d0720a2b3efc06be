use Rattle.std.proofs.Common.{◌≡◌, ℕ, List, [], Result, Some, None, get_or, rules, sym, ap, ◌∙◌, subst}
use Rattle.std.specs.Prelude.{MatchResult, unwrap_or}
use Rattle.std.proofs.lemmas.List.Sorted.{answers_always}
use Rattle.item_key.specs.declared.Id.{Id}
use Rattle.sharing.specs.Offers.{beside}
use Rattle.offer_table.proofs.Runs.{id_of}
use Rattle.sharing.proofs.Searched.{looked}
use Rattle.offer_table.proofs.table.looked_up.Goals as goal

Found : List (Id × List ℕ) → Id → Result ℕ ℕ → Type 0
Found pairs id r = MatchResult r (λ i. (d : Id × List ℕ) → beside pairs id ≡ Some (get_or pairs i d).1) (λ i. beside pairs id ≡ None)

pub returns-in-Ok : goal.returns-in-Ok
unfolding Found
returns-in-Ok c =
    let e = c.binary_search_by_key.ensures in
    let all : Found c.args.offers.now c.args.id.now c.binary_search_by_key.result = looked [] c.args.offers.now c.requires c.args.id.now c.binary_search_by_key.result e.bound (e.position id_of (answers_always _ _ _ (λ f a r g called. search rules))) in
    let one = subst (Found c.args.offers.now c.args.id.now) c.in-Ok.is all in
    sym (ap (λ o. unwrap_or o []) (one c.index-offers-at.result))

pub returns-in-Err : goal.returns-in-Err
unfolding Found
returns-in-Err c =
    let e = c.binary_search_by_key.ensures in
    let all : Found c.args.offers.now c.args.id.now c.binary_search_by_key.result = looked [] c.args.offers.now c.requires c.args.id.now c.binary_search_by_key.result e.bound (e.position id_of (answers_always _ _ _ (λ f a r g called. search rules))) in
    let none = subst (Found c.args.offers.now c.args.id.now) c.in-Err.is all in
    c.empty.ensures ∙ sym (ap (λ o. unwrap_or o []) none)
