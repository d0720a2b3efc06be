-- Reading the conditions on tags, letter by letter.
use Rattle.std.proofs.Common.{◌≡◌, ℕ, ◌+◌, ◌<◌, Bool, true, false, cond, List, [], ◌∷◌, ◌++◌, length, get_or, drop, Option, None, Some, is_some, option_map, option_and_then, refl, sym, ap, ◌∙◌, append_assoc, append-nil}
use Rattle.std.proofs.lemmas.List.{drop_more}
use Rattle.serde_json.specs.Data.{Data}
use Rattle.nostr_filter.specs.declared.conditions.TagCondition.{TagCondition}
use Rattle.nostr_filter.specs.declared.fault.FilterField.{FilterField}
use Rattle.nostr_filter.specs.declared.fault.FilterField.TheVariants.{Tag}
use Rattle.nostr_filter.specs.Tags.{letters, stand_among, are_in_order, tag_name}
use Rattle.nostr_filter.specs.FilterJson.{texts_of, field, conditions_of, with_condition, first_failing, tag_tests}
use Rattle.nostr_filter.proofs.Standing.{letters_of, more_among, first_among}

-- the conditions read so far, before what the rest reads as
abbrev pub after : List TagCondition → Option (List TagCondition) → Option (List TagCondition)
after out rest = option_map (λ (cs : List TagCondition). out ++ cs) rest

pub after_none : (out : List TagCondition) (x : ℕ) (rest : Option (List TagCondition)) → after out (option_map (with_condition x None) rest) ≡ after out rest
after_none out x None = refl
after_none out x (Some cs) = refl

pub after_some : (out : List TagCondition) (x : ℕ) (values : List (List ℕ)) (rest : Option (List TagCondition))
    → after out (option_map (with_condition x (Some values)) rest) ≡ after (out ++ record { letter = x; values = values } ∷ []) rest
after_some out x values None = refl
after_some out x values (Some cs) = ap Some (sym (append_assoc out (record { letter = x; values = values } ∷ []) cs))

pub after_all : (out : List TagCondition) → after out (Some []) ≡ Some out
after_all out = ap Some (append-nil out)

pub read_step : (xs : List ℕ) (d : Data) (i x : ℕ) (values : Option (List (List ℕ))) → i < length xs → get_or xs i 0 ≡ x → field texts_of (tag_name x) d ≡ Some values
    → conditions_of (drop i xs) d ≡ option_map (with_condition x values) (conditions_of (drop (i + 1) xs) d)
read_step xs d i x values below at found = rw (drop_more xs i 0 below, at, found) refl

pub test_step : (xs : List ℕ) (d : Data) (i x : ℕ) (values : Option (List (List ℕ))) → i < length xs → get_or xs i 0 ≡ x → field texts_of (tag_name x) d ≡ Some values
    → first_failing (tag_tests (drop i xs) d) ≡ first_failing (tag_tests (drop (i + 1) xs) d)
test_step xs d i x values below at found = rw (drop_more xs i 0 below, at, found) refl

pub test_fails : (xs : List ℕ) (d : Data) (i x : ℕ) → i < length xs → get_or xs i 0 ≡ x → field texts_of (tag_name x) d ≡ None
    → first_failing (tag_tests (drop i xs) d) ≡ Some (Tag x)
test_fails xs d i x below at found = rw (drop_more xs i 0 below, at, found) refl

-- the same for what is only tested
pub passed_step : (xs : List ℕ) (d : Data) (i x : ℕ) → i < length xs → get_or xs i 0 ≡ x → is_some (field texts_of (tag_name x) d) ≡ true
    → first_failing (tag_tests (drop i xs) d) ≡ first_failing (tag_tests (drop (i + 1) xs) d)
passed_step xs d i x below at passed = rw (drop_more xs i 0 below, at, passed) refl

pub failed_step : (xs : List ℕ) (d : Data) (i x : ℕ) → i < length xs → get_or xs i 0 ≡ x → is_some (field texts_of (tag_name x) d) ≡ false
    → first_failing (tag_tests (drop i xs) d) ≡ Some (Tag x)
failed_step xs d i x below at failed = rw (drop_more xs i 0 below, at, failed) refl

with_none : (x : ℕ) (rest : Option (List TagCondition)) → option_map (with_condition x None) rest ≡ rest
with_none x None = refl
with_none x (Some cs) = refl

pub missing_step : (xs : List ℕ) (d : Data) (i x : ℕ) → i < length xs → get_or xs i 0 ≡ x → field texts_of (tag_name x) d ≡ Some None
    → conditions_of (drop i xs) d ≡ conditions_of (drop (i + 1) xs) d
missing_step xs d i x below at found = read_step xs d i x None below at found ∙ with_none x (conditions_of (drop (i + 1) xs) d)

-- ---- what was read

among_at : (x : ℕ) (xs : List ℕ) (values : Option (List (List ℕ))) (rest : Option (List TagCondition)) (cs : List TagCondition)
    → ((ds : List TagCondition) → rest ≡ Some ds → stand_among xs (letters_of ds) ≡ true) → option_map (with_condition x values) rest ≡ Some cs → stand_among (x ∷ xs) (letters_of cs) ≡ true
among_at x xs values None cs later e = cc
among_at x xs None (Some ds) cs later e = let is : ds ≡ cs = cc in rw (← is) (more_among x xs (letters_of ds) (later ds refl))
among_at x xs (Some texts) (Some ds) cs later e =
    let is : record { letter = x; values = texts } ∷ ds ≡ cs = cc in
    rw (← is) (first_among x xs (letters_of ds) (later ds refl))

among_by : (x : ℕ) (xs : List ℕ) (found : Option (Option (List (List ℕ)))) (rest : Option (List TagCondition)) (cs : List TagCondition)
    → ((ds : List TagCondition) → rest ≡ Some ds → stand_among xs (letters_of ds) ≡ true)
    → option_and_then (λ values. option_map (with_condition x values) rest) found ≡ Some cs → stand_among (x ∷ xs) (letters_of cs) ≡ true
among_by x xs None rest cs later e = cc
among_by x xs (Some values) rest cs later e = among_at x xs values rest cs later e

read_among : (xs : List ℕ) (d : Data) (cs : List TagCondition) → conditions_of xs d ≡ Some cs → stand_among xs (letters_of cs) ≡ true
read_among [] d cs e = let is : [] ≡ cs = cc in rw (← is) refl
read_among (x ∷ xs) d cs e = among_by x xs (field texts_of (tag_name x) d) (conditions_of xs d) cs (λ ds. read_among xs d ds) e

pub read_in_order : (d : Data) (cs : List TagCondition) → conditions_of letters d ≡ Some cs → are_in_order cs ≡ true
read_in_order d cs e = read_among letters d cs e

passes_by : (x : ℕ) (found : Option (Option (List (List ℕ)))) (rest : Option (List TagCondition)) (cs : List TagCondition) (ts : List (FilterField × Bool))
    → ((ds : List TagCondition) → rest ≡ Some ds → first_failing ts ≡ None) → option_and_then (λ values. option_map (with_condition x values) rest) found ≡ Some cs
    → first_failing ((Tag x, is_some found) ∷ ts) ≡ None
passes_by x None rest cs ts later e = cc
passes_by x (Some values) None cs ts later e = cc
passes_by x (Some values) (Some ds) cs ts later e = later ds refl

-- where all conditions are read, no test fails
pub read_passes : (xs : List ℕ) (d : Data) (cs : List TagCondition) → conditions_of xs d ≡ Some cs → first_failing (tag_tests xs d) ≡ None
read_passes [] d cs e = refl
read_passes (x ∷ xs) d cs e = passes_by x (field texts_of (tag_name x) d) (conditions_of xs d) cs (tag_tests xs d) (λ ds. read_passes xs d ds) e

-- ---- tests one after another

later_at : (b : Bool) (f : FilterField) (ts us : List (FilterField × Bool)) → (first_failing ts ≡ None → first_failing (ts ++ us) ≡ first_failing us)
    → cond b (first_failing ts) (Some f) ≡ None → cond b (first_failing (ts ++ us)) (Some f) ≡ first_failing us
later_at true f ts us later e = later e
later_at false f ts us later e = cc

pub failing_later : (ts us : List (FilterField × Bool)) → first_failing ts ≡ None → first_failing (ts ++ us) ≡ first_failing us
failing_later [] us e = refl
failing_later (t ∷ ts) us e = later_at t.1 t.0 ts us (failing_later ts us) e

earlier_at : (b : Bool) (f g : FilterField) (ts us : List (FilterField × Bool)) → (first_failing ts ≡ Some g → first_failing (ts ++ us) ≡ Some g)
    → cond b (first_failing ts) (Some f) ≡ Some g → cond b (first_failing (ts ++ us)) (Some f) ≡ Some g
earlier_at true f g ts us later e = later e
earlier_at false f g ts us later e = e

pub failing_earlier : (ts us : List (FilterField × Bool)) (g : FilterField) → first_failing ts ≡ Some g → first_failing (ts ++ us) ≡ Some g
failing_earlier [] us g e = cc
failing_earlier (t ∷ ts) us g e = earlier_at t.1 t.0 g ts us (failing_earlier ts us g) e

-- ---- one step of the reading

pub after_nothing : (rest : Option (List TagCondition)) → after [] rest ≡ rest
after_nothing None = refl
after_nothing (Some cs) = refl

pub kept_none : (whole : Option (List TagCondition)) (d : Data) (out : List TagCondition) (i x : ℕ) → whole ≡ after out (conditions_of (drop i letters) d) → i < length letters → get_or letters i 0 ≡ x
    → field texts_of (tag_name x) d ≡ Some None → whole ≡ after out (conditions_of (drop (i + 1) letters) d)
kept_none whole d out i x so_far below at found =
    so_far ∙ ap (after out) (read_step letters d i x None below at found) ∙ after_none out x (conditions_of (drop (i + 1) letters) d)

pub kept_some : (whole : Option (List TagCondition)) (d : Data) (out : List TagCondition) (i x : ℕ) (values : List (List ℕ)) → whole ≡ after out (conditions_of (drop i letters) d) → i < length letters → get_or letters i 0 ≡ x
    → field texts_of (tag_name x) d ≡ Some (Some values) → whole ≡ after (out ++ record { letter = x; values = values } ∷ []) (conditions_of (drop (i + 1) letters) d)
kept_some whole d out i x values so_far below at found =
    so_far ∙ ap (after out) (read_step letters d i x (Some values) below at found) ∙ after_some out x values (conditions_of (drop (i + 1) letters) d)

-- a test that is passed among the others
passed_by : (b : Bool) (f : FilterField) (ts : List (FilterField × Bool)) → cond b (first_failing ts) (Some f) ≡ None → b ≡ true
passed_by true f ts passed = refl
passed_by false f ts passed = absurd (let bad = passed in cc)

pub passed_at : (xs : List ℕ) (d : Data) (i x : ℕ) → i < length xs → get_or xs i 0 ≡ x → first_failing (tag_tests (drop i xs) d) ≡ None → is_some (field texts_of (tag_name x) d) ≡ true
passed_at xs d i x below at passed =
    let here : first_failing (tag_tests (x ∷ drop (i + 1) xs) d) ≡ None = ap (λ l. first_failing (tag_tests l d)) (sym (drop_more xs i 0 below ∙ ap (λ y. y ∷ drop (i + 1) xs) at)) ∙ passed in
    passed_by _ (Tag x) (tag_tests (drop (i + 1) xs) d) here
