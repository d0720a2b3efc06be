-- Texts of hexadecimal digits among JSON data.
use Rattle.std.proofs.Common.{◌≡◌, ◌↔◌, ◌∙◌, ℕ, ◌+◌, ◌<◌, List, [], ◌∷◌, ◌++◌, length, get_or, map, take, drop, Option, None, Some, is_some, IfSome, IsTrue, option_map, option_and_then, All, true≢false, refl, sym, ap, ap₂}
use Rattle.std.proofs.lemmas.List.{drop_more, take_more, map-append}
use Rattle.std.proofs.lemmas.List.Elements.{All-cons, All-head, All-tail}
use Rattle.hex.specs.Hex.{encode_lower}
use Rattle.serde_json.specs.Data.{Data, Items, item}
use Rattle.serde_json.specs.Find.{get, as_str, as_array}
use Rattle.serde_json.specs.View.{view, items_view}
use Rattle.serde_json.specs.declared.value.Value.{Value}
use Rattle.nostr_event.specs.EventView.{IsBytesOf}
use Rattle.nostr_filter.specs.FilterJson.{each_item, hex_texts, All32, IsHex, AreHex, IsHexAt}

-- ---- one value

pub not_spelled : (d : Data) (text : List ℕ) → as_str d ≡ Some text → ((b : List ℕ) → IsBytesOf 32 b → ¬ (text ≡ encode_lower b)) → ¬ IsHex d
not_spelled d text here none = λ h.
    let same : Some text ≡ Some (encode_lower h.0) = sym here ∙ h.2 in
    let is : text ≡ encode_lower h.0 = cc in
    none h.0 h.1 is

pub hex_found : (d : Data) (r : Option (List ℕ)) → IfSome r (λ b. IsBytesOf 32 b × (as_str d ≡ Some (encode_lower b))) → (r ≡ None → ¬ IsHex d) → (IsTrue (is_some r) ↔ IsHex d)
hex_found d (Some b) found missing = (λ yes. (b, found.0, found.1), λ h. refl)
hex_found d None found missing = (λ yes. absurd (true≢false (sym yes)), λ h. absurd (missing refl h))

pub no_text : (d : Data) → as_str d ≡ None → ¬ IsHex d
no_text d here = λ h.
    let both : None ≡ Some (encode_lower h.0) = sym here ∙ h.2 in
    cc

-- ---- an array's items

both_some : {X : Type 0} (o : Option X) (r : Option (List X)) (y : X) (ys : List X) → option_and_then (λ x. option_map (λ (xs : List X). x ∷ xs) r) o ≡ Some (y ∷ ys) → (o ≡ Some y) × (r ≡ Some ys)
both_some None r y ys e = absurd (let bad = e in cc)
both_some (Some x) None y ys e = absurd (let bad = e in cc)
both_some (Some x) (Some xs) y ys e =
    let head : x ≡ y = cc in
    let tail : xs ≡ ys = cc in
    (ap Some head, ap Some tail)

nothing_some : {X : Type 0} (o : Option X) (r : Option (List X)) → ¬ (option_and_then (λ x. option_map (λ (xs : List X). x ∷ xs) r) o ≡ Some [])
nothing_some None r = λ e. cc
nothing_some (Some x) None = λ e. cc
nothing_some (Some x) (Some xs) = λ e. cc

parts : (d : Data) (ds : Items) (values : List (List ℕ)) → All (IsBytesOf 32) values → each_item as_str (item d ds) ≡ Some (hex_texts values) → IsHex d × AreHex ds
parts d ds [] all e = absurd (nothing_some (as_str d) (each_item as_str ds) e)
parts d ds (b ∷ bs) all e =
    let both = both_some (as_str d) (each_item as_str ds) (encode_lower b) (hex_texts bs) e in
    ((b, All-head (IsBytesOf 32) b bs all, both.0), (bs, All-tail (IsBytesOf 32) b bs all, both.1))

more : (d : Data) (ds : Items) → IsHex d → AreHex ds → AreHex (item d ds)
more d ds one h = (one.0 ∷ h.0, All-cons (IsBytesOf 32) one.0 h.0 one.1 h.1, rw (one.2, h.2) refl)

-- the values from one on are such texts where this one is, and those behind it are
pub hex_step : (vs : List Value) (i : ℕ) (v : Value) → i < length vs → v ≡ get_or vs i v → IsHex (view v) → (AreHex (items_view (drop i vs)) ↔ AreHex (items_view (drop (i + 1) vs)))
hex_step vs i v below at one =
    let here : drop i vs ≡ v ∷ drop (i + 1) vs = drop_more vs i v below ∙ ap (λ x. x ∷ drop (i + 1) vs) (sym at) in
    let ds = items_view (drop (i + 1) vs) in
    rw here (λ h. (parts (view v) ds h.0 h.1 h.2).1, λ h. more (view v) ds one h)

-- where they are, this one is, and those behind it are
pub hex_here : (vs : List Value) (i : ℕ) (v : Value) → i < length vs → v ≡ get_or vs i v → AreHex (items_view (drop i vs)) → IsHex (view v) × AreHex (items_view (drop (i + 1) vs))
hex_here vs i v below at =
    let here : drop i vs ≡ v ∷ drop (i + 1) vs = drop_more vs i v below ∙ ap (λ x. x ∷ drop (i + 1) vs) (sym at) in
    rw here (λ h. parts (view v) (items_view (drop (i + 1) vs)) h.0 h.1 h.2)

pub texts_more : (vs : List Value) (i : ℕ) (v : Value) (b : List ℕ) (bs : List (List ℕ)) → i < length vs → v ≡ get_or vs i v → map (λ u. as_str (view u)) (take i vs) ≡ map Some (hex_texts bs)
    → as_str (view v) ≡ Some (encode_lower b) → map (λ u. as_str (view u)) (take (i + 1) vs) ≡ map Some (hex_texts (bs ++ b ∷ []))
texts_more vs i v b bs below at so_far one =
    let f = λ (u : Value). as_str (view u) in
    let whole : take (i + 1) vs ≡ take i vs ++ v ∷ [] = take_more vs i v below ∙ ap (λ u. take i vs ++ u ∷ []) (sym at) in
    ap (map f) whole ∙ map-append f (take i vs) (v ∷ []) ∙ ap₂ (λ xs (x : Option (List ℕ)). xs ++ x ∷ []) so_far one
    ∙ sym (map-append Some (hex_texts bs) (encode_lower b ∷ [])) ∙ ap (map Some) (sym (map-append encode_lower bs (b ∷ [])))

pub hex_stops : (vs : List Value) (i : ℕ) (v : Value) → i < length vs → v ≡ get_or vs i v → ¬ IsHex (view v) → ¬ AreHex (items_view (drop i vs))
hex_stops vs i v below at other =
    let here : drop i vs ≡ v ∷ drop (i + 1) vs = drop_more vs i v below ∙ ap (λ x. x ∷ drop (i + 1) vs) (sym at) in
    let ds = items_view (drop (i + 1) vs) in
    rw here (λ h. other (parts (view v) ds h.0 h.1 h.2).0)

-- ---- a field

pub at_missing : (name : List ℕ) (d : Data) → get name d ≡ None → IsHexAt name d
at_missing name d none = (None, tt, rw none refl)

given_list : (ds : Items) (r : Option (List (List ℕ))) (values : Option (List (List ℕ))) → All32 values → each_item as_str ds ≡ r → option_map Some r ≡ Some (option_map hex_texts values) → AreHex ds
given_list ds None values all is e = absurd (let bad = e in cc)
given_list ds (Some ts) None all is e = absurd (let bad = e in cc)
given_list ds (Some ts) (Some values) all is e =
    let same : ts ≡ hex_texts values = cc in
    (values, all, is ∙ ap Some same)

pub at_list : (name : List ℕ) (d e : Data) (ds : Items) → get name d ≡ Some e → as_array e ≡ Some ds → (AreHex ds ↔ IsHexAt name d)
at_list name d e ds here list = (
  λ h. (Some h.0, h.1, rw (here, list, h.2) refl),
  λ h.
      let is : option_map Some (each_item as_str ds) ≡ Some (option_map hex_texts h.0) = rw (here, list) at h.2 in
      given_list ds (each_item as_str ds) h.0 h.1 refl is,
)

pub at_other : (name : List ℕ) (d e : Data) → get name d ≡ Some e → as_array e ≡ None → ¬ IsHexAt name d
at_other name d e here none = λ h.
    let is : None ≡ Some (option_map hex_texts h.0) = rw (here, none) at h.2 in
    cc
