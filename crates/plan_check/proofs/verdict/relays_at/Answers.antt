use Rattle.std.proofs.Common.{◌≡◌, ℕ, List, [], ◌∷◌, Result, Ok, Err, Option, Some, None, get_or, map, length, rules, refl, sym, ap, ◌∙◌, subst, arith}
use Rattle.std.specs.Prelude.{MatchResult, option_map}
use Rattle.std.specs.Global.{Vec}
use Rattle.std.specs.Ordering.{is_eq}
use Rattle.std.specs.List.Sorted.{IsSearchInRange, IsBinarySearchResult}
use Rattle.std.proofs.lemmas.List.{get_or_default}
use Rattle.std.proofs.lemmas.List.Sorted.{answers_always}
use Rattle.std.proofs.lemmas.Map.Made.{lookup-map_values}
use Rattle.item_key.specs.declared.Id.{Id}
use Rattle.sharing.specs.Offers.{id_cmp, is_id, Ascend, beside}
use Rattle.sharing.proofs.Orders.{same_id}
use Rattle.sharing.proofs.Looks.{map_twice, found_itself}
use Rattle.sharing.proofs.Searched.{looked}
use Rattle.plan_check.specs.File.{pairs_of}
use Rattle.plan_check.proofs.verdict.relays_at.Goals as goal

abbrev id_of : Id × Vec ℕ → Id
id_of o = o.0

abbrev items_of : Vec ℕ → List ℕ
items_of relays = relays.items

Found : List (Id × Vec ℕ) → Id → Result ℕ ℕ → Type 0
Found offers id r = MatchResult r (λ i. (d : Id × Vec ℕ) → beside offers id ≡ Some (get_or offers i d).1) (λ i. beside offers id ≡ None)

ordered : (offers : List (Id × Vec ℕ)) → Ascend (map (λ o. o.0) (pairs_of offers)) → Ascend (map (λ o. o.0) offers)
ordered offers h = subst Ascend (map_twice (λ (p : Id × List ℕ). p.0) (λ (o : Id × Vec ℕ). (o.0, o.1.items)) offers) h

found : (offers : List (Id × Vec ℕ)) (id : Id) (r : Result ℕ ℕ) → Ascend (map (λ o. o.0) (pairs_of offers)) → IsSearchInRange r (length offers) → IsBinarySearchResult (λ o. id_cmp o.0 id) offers r → Found offers id r
unfolding Found
found [] id (Ok i) h within told = absurd (omega (arith, within))
found [] id (Err i) h within told = refl
found (o ∷ os) id r h within told = looked o.1 (o ∷ os) (ordered (o ∷ os) h) id r within told

-- what stands beside an id in the pairs, where it is known of the offers
beside_pairs : (offers : List (Id × Vec ℕ)) (id : Id) (relays : Option (Vec ℕ)) → beside offers id ≡ relays → beside (pairs_of offers) id ≡ option_map items_of relays
beside_pairs offers id relays is = lookup-map_values items_of (is_id id) offers ∙ ap (option_map items_of) is

pub returns-in-Ok : goal.returns-in-Ok
unfolding Found
returns-in-Ok c =
    let e = c.binary_search_by_key.ensures in
    let offers = c.args.offers.now in
    let all = found offers c.args.id.now c.binary_search_by_key.result c.requires e.bound (e.position id_of (answers_always _ _ _ (λ f a r g called. search rules))) in
    let one = subst (Found offers c.args.id.now) c.in-Ok.is all in
    sym (beside_pairs offers c.args.id.now _ (one c.index-offers-found.result) ∙ ap Some (sym c.deref-in-Ok.ensures.value))

pub returns-in-Err : goal.returns-in-Err
unfolding Found
returns-in-Err c =
    let e = c.binary_search_by_key.ensures in
    let offers = c.args.offers.now in
    let all = found offers c.args.id.now c.binary_search_by_key.result c.requires e.bound (e.position id_of (answers_always _ _ _ (λ f a r g called. search rules))) in
    sym (beside_pairs offers c.args.id.now None (subst (Found offers c.args.id.now) c.in-Err.is all))

pub returns-then-is_eq : goal.returns-then-is_eq
returns-then-is_eq c =
    let offers = c.args.offers.now in
    let place : ℕ = c.args.place in
    let first = c.index-offers-place.result in
    let same = same_id c.args.id.now (get_or offers place first).0 (ap is_eq (sym c.cmp.ensures) ∙ sym c.is_eq.ensures ∙ c.if-is_eq.true) in
    let stands = ap (beside offers) same ∙ found_itself offers (ordered offers c.requires) place first c.if-place-offers.true in
    let again = get_or_default offers place first c.index-offers-place-then-is_eq.result c.if-place-offers.true in
    sym (beside_pairs offers c.args.id.now _ stands ∙ ap (λ (o : Id × Vec ℕ). Some o.1.items) again ∙ ap Some (sym c.deref.ensures.value))
