-- What is left of an object whose conditions on tags are taken one by one.
use Rattle.std.proofs.Common.{◌≡◌, ◌≢◌, ◌∙◌, ℕ, zero, suc, ◌+◌, ◌<◌, ◌&&◌, Bool, true, false, cond, nat_lt, nat_cmp, is_eq, List, [], ◌∷◌, length, get_or, drop, Option, None, Some, is_some, option_map, option_and_then, string_bytes, true≢false, refl, sym, ap, ap₂, arith}
use Rattle.std.proofs.lemmas.Bool.{and_parts, ltb-true}
use Rattle.std.proofs.lemmas.Map.Text.{is_eq-slice_cmp}
use Rattle.std.proofs.lemmas.Slice.Eq.{bytes_eq-Decides}
use Rattle.std.specs.BTreeMap.{is_at}
use Rattle.std.specs.Cmp.Lexicographic.{slice_cmp}
use Rattle.std.specs.List.{list_all}
use Rattle.std.specs.Map.{lookup, remove_entry}
use Rattle.std.specs.Ordering.{match_ordering}
use Rattle.serde_json.specs.Data.{Data, Items}
use Rattle.serde_json.specs.Find.{get, get_member, as_str, as_array}
use Rattle.serde_json.specs.View.{view, members_view}
use Rattle.serde_json.proofs.Views.{Entry, view-lookup, member_later}
use Rattle.serde_json.specs.declared.value.Value.{Value}
use Rattle.nostr_filter.specs.declared.conditions.TagCondition.{TagCondition}
use Rattle.nostr_filter.specs.declared.fault.FilterField.TheVariants.{Tag}
use Rattle.nostr_filter.specs.Tags.{letters, tag_name}
use Rattle.nostr_filter.specs.FilterJson.{each_item, texts_of, field, optional, with_condition, conditions_of, first_failing, tag_tests}
use Rattle.nostr_filter.proofs.Items.{given_some}

-- ---- the other names

kept_at : (b : Bool) (q name : List ℕ) (e : Entry) (left rest : List Entry) → is_eq (slice_cmp nat_cmp name (string_bytes e.0)) ≡ b → q ≢ name
    → get_member q (members_view left) ≡ get_member q (members_view rest) → get_member q (members_view (cond b rest (e ∷ left))) ≡ get_member q (members_view (e ∷ rest))
kept_at true q name e left rest is other later =
    let named : name ≡ string_bytes e.0 = (bytes_eq-Decides name (string_bytes e.0)).0 (sym (is_eq-slice_cmp name (string_bytes e.0)) ∙ is) in
    let apart : q ≡ string_bytes e.0 → ⊥ = λ same. other (same ∙ sym named) in
    sym (member_later q e rest apart)
kept_at false q name e left rest is other later = ap (λ r. match_ordering (slice_cmp nat_cmp q (string_bytes e.0)) r (Some (view e.1)) r) later

-- what is found at another name stays when one is removed
pub others_kept : (q name : List ℕ) (es : List Entry) → q ≢ name → get_member q (members_view (remove_entry (is_at (λ k. slice_cmp nat_cmp name (string_bytes k))) es)) ≡ get_member q (members_view es)
others_kept q name [] other = refl
others_kept q name (e ∷ es) other = kept_at _ q name e (remove_entry (is_at (λ k. slice_cmp nat_cmp name (string_bytes k))) es) es refl other (others_kept q name es other)

-- ---- what is taken

pub found_is : (name : List ℕ) (es : List Entry) (r : Option Value) → r ≡ lookup (is_at (λ k. slice_cmp nat_cmp name (string_bytes k))) es → get_member name (members_view es) ≡ option_map view r
found_is name es r is = sym (view-lookup name es) ∙ ap (option_map view) (sym is)

pub shape_of : (name : List ℕ) (d e : Data) → get name d ≡ Some e → is_some (field texts_of name d) ≡ true → is_some (texts_of e) ≡ true
shape_of name d e here some = sym (given_some (texts_of e)) ∙ ap (λ (g : Option Data). is_some (optional texts_of g)) (sym here) ∙ some

pub list_shape : (e : Data) (ds : Items) → as_array e ≡ Some ds → is_some (texts_of e) ≡ true → is_some (each_item as_str ds) ≡ true
list_shape e ds list some = ap (λ (a : Option Items). is_some (option_and_then (each_item as_str) a)) (sym list) ∙ some

pub no_list : (e : Data) → as_array e ≡ None → ¬ (is_some (texts_of e) ≡ true)
no_list e none = λ some. true≢false (sym some ∙ ap (λ (a : Option Items). is_some (option_and_then (each_item as_str) a)) none)

pub list_read : (name : List ℕ) (d e : Data) (ds : Items) (texts : List (List ℕ)) → get name d ≡ Some e → as_array e ≡ Some ds → each_item as_str ds ≡ Some texts → field texts_of name d ≡ Some (Some texts)
list_read name d e ds texts here list read = rw (here, list, read) refl

-- ---- the letters behind one

apart : (x y : ℕ) → nat_lt x y ≡ true → tag_name y ≢ tag_name x
apart x y less = λ same.
    let is : y ≡ x = cc in
    let below = ltb-true x y less in
    omega (arith, is, below)

pub same_conditions : (xs : List ℕ) (x : ℕ) (d e : Data) → list_all (λ y. nat_lt x y) xs ≡ true → ((name : List ℕ) → name ≢ tag_name x → get name e ≡ get name d) → conditions_of xs d ≡ conditions_of xs e
same_conditions [] x d e above others = refl
same_conditions (y ∷ ys) x d e above others =
    let parts = and_parts (nat_lt x y) _ above in
    ap₂ (λ (g : Option Data) (rest : Option (List TagCondition)). option_and_then (λ values. option_map (with_condition y values) rest) (optional texts_of g))
    (sym (others (tag_name y) (apart x y parts.0))) (same_conditions ys x d e parts.1 others)

pub same_tests : (xs : List ℕ) (x : ℕ) (d e : Data) → list_all (λ y. nat_lt x y) xs ≡ true → ((name : List ℕ) → name ≢ tag_name x → get name e ≡ get name d) → first_failing (tag_tests xs d) ≡ first_failing (tag_tests xs e)
same_tests [] x d e above others = refl
same_tests (y ∷ ys) x d e above others =
    let parts = and_parts (nat_lt x y) _ above in
    ap₂ (λ (g : Option Data) rest. cond (is_some (optional texts_of g)) rest (Some (Tag y)))
    (sym (others (tag_name y) (apart x y parts.0))) (same_tests ys x d e parts.1 others)

abbrev ascend : List ℕ → Bool
ascend [] = true
ascend (x ∷ xs) = list_all (λ y. nat_lt x y) xs && ascend xs

letters_ascend : ascend letters ≡ true
unfolding letters
letters_ascend = refl

above_by : (xs : List ℕ) (i : ℕ) → ascend xs ≡ true → i < length xs → list_all (λ y. nat_lt (get_or xs i 0) y) (drop (suc i) xs) ≡ true
above_by [] i up below = absurd (omega arith)
above_by (x ∷ xs) zero up below = (and_parts _ _ up).0
above_by (x ∷ xs) (suc i) up below = above_by xs i (and_parts _ _ up).1 (omega arith)

-- the letters behind one are above it
pub letters_above : (i x : ℕ) → i < length letters → get_or letters i 0 ≡ x → list_all (λ y. nat_lt x y) (drop (i + 1) letters) ≡ true
letters_above i x below at =
    let more : i + 1 ≡ suc i = omega arith in
    rw (← at, more) (above_by letters i letters_ascend below)
