-- Items of JSON arrays that read as one thing each.
use Rattle.std.proofs.Common.{◌≡◌, ℕ, zero, suc, ◌+◌, ◌<◌, ◌^◌, List, [], ◌∷◌, ◌++◌, length, get_or, map, take, Option, None, Some, is_some, ◌&&◌, option_map, option_and_then, All, nat_lt, true, refl, sym, ap, ap₂, ◌∙◌, arith}
use Rattle.std.proofs.lemmas.List.{take_more, map-append}
use Rattle.std.proofs.lemmas.List.Elements.{All-head, All-tail}
use Rattle.std.proofs.lemmas.Bool.{and_parts, lt-ltb}
use Rattle.std.specs.List.{list_all}
use Rattle.hex.specs.Hex.{encode_lower}
use Rattle.serde_json.specs.Data.{Data}
use Rattle.serde_json.specs.Find.{as_str}
use Rattle.serde_json.specs.View.{view, items_view}
use Rattle.serde_json.specs.declared.value.Value.{Value}
use Rattle.nostr_filter.specs.FilterJson.{each_item, kind_of, texts_of, texts_data, kinds_of, kinds_data, hex_texts, hex_data}

pub each_some : {X : Type 0} (p : Data → Option X) (vs : List Value) (xs : List X) → map (λ v. p (view v)) vs ≡ map Some xs → each_item p (items_view vs) ≡ Some xs
each_some p [] [] e = refl
each_some p [] (x ∷ xs) e = cc
each_some p (v ∷ vs) [] e = cc
each_some p (v ∷ vs) (x ∷ xs) e =
    let head : p (view v) ≡ Some x = cc in
    let tail : map (λ w. p (view w)) vs ≡ map Some xs = cc in
    rw (head, each_some p vs xs tail) refl

-- one more value reads as one more thing
pub each_more : {X : Type 0} (p : Data → Option X) (vs : List Value) (i : ℕ) (v : Value) (xs : List X) (x : X) → i < length vs → v ≡ get_or vs i v
    → map (λ u. p (view u)) (take i vs) ≡ map Some xs → p (view v) ≡ Some x → map (λ u. p (view u)) (take (i + 1) vs) ≡ map Some (xs ++ x ∷ [])
each_more {X = X} p vs i v xs x below at so_far here =
    let read = λ (u : Value). p (view u) in
    let whole : take (i + 1) vs ≡ take i vs ++ v ∷ [] = take_more vs i v below ∙ ap (λ u. take i vs ++ u ∷ []) (sym at) in
    ap (map read) whole ∙ map-append read (take i vs) (v ∷ []) ∙ ap₂ (λ os (o : Option X). os ++ o ∷ []) so_far here
    ∙ sym (map-append Some xs (x ∷ []))

none_after : {X : Type 0} (o : Option X) → option_and_then (λ x. option_map (λ (xs : List X). x ∷ xs) None) o ≡ None
none_after None = refl
none_after (Some x) = refl

pub each_none : {X : Type 0} (p : Data → Option X) (vs : List Value) (i : ℕ) (d : Value) → i < length vs → p (view (get_or vs i d)) ≡ None → each_item p (items_view vs) ≡ None
each_none p [] i d below h = absurd (omega arith)
each_none p (v ∷ vs) zero d below h = rw h refl
each_none p (v ∷ vs) (suc i) d below h = rw (each_none p vs i d (omega arith) h) (none_after (p (view v)))

some_more : {X : Type 0} (o : Option X) (r : Option (List X)) → (is_some o && is_some r) ≡ is_some (option_and_then (λ x. option_map (λ (xs : List X). x ∷ xs) r) o)
some_more None r = refl
some_more (Some x) None = refl
some_more (Some x) (Some xs) = refl

each_all : {X : Type 0} (p : Data → Option X) (vs : List Value) → list_all (λ v. is_some (p (view v))) vs ≡ is_some (each_item p (items_view vs))
each_all p [] = refl
each_all p (v ∷ vs) = ap (λ b. is_some (p (view v)) && b) (each_all p vs) ∙ some_more (p (view v)) (each_item p (items_view vs))

strings_among : (seen : List Value) (v : Value) (rest : List Value) → list_all (λ u. is_some (as_str (view u))) (seen ++ v ∷ rest) ≡ true → is_some (as_str (view v)) ≡ true
strings_among [] v rest all = (and_parts _ _ all).0
strings_among (u ∷ seen) v rest all = strings_among seen v rest (and_parts _ _ all).1

pub strings_all : (vs : List Value) → list_all (λ v. is_some (as_str (view v))) vs ≡ is_some (each_item as_str (items_view vs))
strings_all vs = each_all as_str vs

-- each item of an array of strings is one
pub string_at : (seen : List Value) (v : Value) (rest : List Value) → is_some (each_item as_str (items_view (seen ++ v ∷ rest))) ≡ true → is_some (as_str (view v)) ≡ true
string_at seen v rest some = strings_among seen v rest (strings_all (seen ++ v ∷ rest) ∙ some)

pub kinds_all : (vs : List Value) → list_all (λ v. is_some (kind_of (view v))) vs ≡ is_some (each_item kind_of (items_view vs))
kinds_all vs = each_all kind_of vs

pub given_some : {X : Type 0} (o : Option X) → is_some (option_map Some o) ≡ is_some o
given_some None = refl
given_some (Some x) = refl

pub texts_back : (texts : List (List ℕ)) → texts_of (texts_data texts) ≡ Some texts
texts_back [] = refl
texts_back (t ∷ ts) = ap (option_map (λ xs. t ∷ xs)) (texts_back ts)

pub hex_back : (values : List (List ℕ)) → texts_of (hex_data values) ≡ Some (hex_texts values)
hex_back [] = refl
hex_back (v ∷ vs) = ap (option_map (λ xs. encode_lower v ∷ xs)) (hex_back vs)

pub kinds_back : (kinds : List ℕ) → All (λ k. k < 2 ^ 16) kinds → kinds_of (kinds_data kinds) ≡ Some kinds
kinds_back [] h = refl
kinds_back (k ∷ ks) h =
    let fits : k < 65536 = All-head (λ n. n < 2 ^ 16) k ks h in
    let test : nat_lt k 65536 ≡ true = lt-ltb k 65536 fits in
    rw (test, kinds_back ks (All-tail (λ n. n < 2 ^ 16) k ks h)) refl
