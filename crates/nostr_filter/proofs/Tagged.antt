-- Objects with no field whose name begins as those of conditions on tags do.
use Rattle.std.proofs.Common.{◌≡◌, ◌||◌, ◌∙◌, ℕ, Bool, true, false, List, [], ◌∷◌, map, Option, None, Some, bytes_eq, string_bytes, refl, sym, ap, subst}
use Rattle.std.specs.List.{list_any}
use Rattle.std.specs.Ordering.{nat_cmp, is_eq, match_ordering}
use Rattle.std.specs.Cmp.Lexicographic.{slice_cmp}
use Rattle.std.specs.declared.alloc.Global.{Global}
use Rattle.std.specs.declared.cmp.Ordering.{Ordering}
use Rattle.std.specs.declared.cmp.Ordering.TheVariants.{Less, Equal, Greater}
use Rattle.std.specs.declared.string.String.{String}
use Rattle.std.proofs.lemmas.Map.Text.{is_eq-slice_cmp}
use Rattle.std.proofs.lemmas.Slice.Eq.{bytes_eq-Decides}
use Rattle.serde_json.specs.Data.{Data, object}
use Rattle.serde_json.specs.Find.{get, get_member}
use Rattle.serde_json.specs.View.{view, members_view}
use Rattle.serde_json.specs.declared.value.Value.{Value}
use Rattle.nostr_filter.specs.Tags.{tag_name, begins_tag}
use Rattle.nostr_filter.specs.FilterJson.{conditions_of, tag_tests, first_failing}

-- whether one of the names does
abbrev pub any_tag : List (String Global) → Bool
any_tag names = list_any (λ s. begins_tag (string_bytes s)) names

abbrev pub names_of : List (String Global × Value) → List (String Global)
names_of entries = map (λ e. e.0) entries

or_parts : (a b : Bool) → (a || b) ≡ false → (a ≡ false) × (b ≡ false)
or_parts true b e = cc
or_parts false b e = (refl, e)

not_true : (b : Bool) → (b ≡ true → ⊥) → b ≡ false
not_true true apart = absurd (apart refl)
not_true false apart = refl

differs : (x : ℕ) (name : List ℕ) → begins_tag name ≡ false → bytes_eq (tag_name x) name ≡ false
differs x name other =
    not_true (bytes_eq (tag_name x) name) (λ e.
    let same : tag_name x ≡ name = (bytes_eq-Decides (tag_name x) name).0 e in
    let begins : begins_tag (tag_name x) ≡ false = subst (λ n. begins_tag n ≡ false) (sym same) other in
    cc)

passed_over : (o : Ordering) (d : Data) (rest : Option Data) → is_eq o ≡ false → rest ≡ None → match_ordering o rest (Some d) rest ≡ None
passed_over Less d rest apart none = none
passed_over Equal d rest apart none = cc
passed_over Greater d rest apart none = none

pub none_named : (x : ℕ) (entries : List (String Global × Value)) → any_tag (names_of entries) ≡ false → get (tag_name x) (object (members_view entries)) ≡ None
none_named x [] none = refl
none_named x (e ∷ es) none =
    let both = or_parts (begins_tag (string_bytes e.0)) (any_tag (names_of es)) none in
    let apart = is_eq-slice_cmp (tag_name x) (string_bytes e.0) ∙ differs x (string_bytes e.0) both.0 in
    passed_over (slice_cmp nat_cmp (tag_name x) (string_bytes e.0)) (view e.1) (get_member (tag_name x) (members_view es)) apart (none_named x es both.1)

-- what is read of such an object

pub no_conditions : (xs : List ℕ) (d : Data) → ((x : ℕ) → get (tag_name x) d ≡ None) → conditions_of xs d ≡ Some []
no_conditions [] d none = refl
no_conditions (x ∷ xs) d none = rw (none x, no_conditions xs d none) refl

pub none_fails : (xs : List ℕ) (d : Data) → ((x : ℕ) → get (tag_name x) d ≡ None) → first_failing (tag_tests xs d) ≡ None
none_fails [] d none = refl
none_fails (x ∷ xs) d none = rw (none x) (none_fails xs d none)
