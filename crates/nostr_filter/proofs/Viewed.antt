-- JSON arrays that are made of a list, one value of each item.
use Rattle.std.proofs.Common.{◌≡◌, ◌∙◌, ℕ, ◌+◌, ◌<◌, ◌≤◌, List, [], ◌∷◌, ◌++◌, length, get_or, map, take, sym, ap, ap₂, Vec, Global}
use Rattle.std.proofs.lemmas.List.{take_more, take_all, map-append}
use Rattle.serde_json.specs.Data.{Data, array}
use Rattle.serde_json.specs.View.{view, items_of}
use Rattle.serde_json.specs.declared.value.Value.{Value, Array}
use Rattle.serde_json.proofs.Views.{view-Array}

-- one more value is that of one more item
pub viewed_more : {X : Type 0} (told : X → Data) (xs : List X) (i : ℕ) (d : X) (vs : List Value) (v : Value) → i < length xs
    → map view vs ≡ map told (take i xs) → view v ≡ told (get_or xs i d) → map view (vs ++ v ∷ []) ≡ map told (take (i + 1) xs)
viewed_more told xs i d vs v below so_far here =
    map-append view vs (v ∷ []) ∙ ap₂ (λ ds (e : Data). ds ++ e ∷ []) so_far here
    ∙ sym (map-append told (take i xs) (get_or xs i d ∷ [])) ∙ ap (map told) (sym (take_more xs i d below))

-- the values of all items are the array
pub viewed_all : {X : Type 0} (told : X → Data) (xs ys : List X) (i : ℕ) (vs : Vec Value Global) → length xs ≤ i
    → map view vs.items ≡ map told (take i xs) → xs ≡ ys → view (Array vs) ≡ array (items_of (map told ys))
viewed_all told xs ys i vs end so_far same =
    let all = so_far ∙ ap (map told) (take_all i xs end ∙ same) in
    view-Array vs ∙ ap (λ ds. array (items_of ds)) all
