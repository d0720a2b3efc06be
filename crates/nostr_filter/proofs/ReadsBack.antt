-- What is written of a filter reads as that filter.
use Rattle.std.proofs.Common.{◌≡◌, ◌≢◌, ℕ, zero, suc, ◌<◌, ◌==◌, ◌&&◌, Bool, true, false, nat_lt, List, [], ◌∷◌, length, get_or, Option, None, Some, option_map, codes, refl, sym, ap, ◌∙◌, arith, inl, inr, bytes_eq, true≢false, if◌then◌else◌}
use Rattle.std.proofs.lemmas.Bool.{and_parts, cases_eq, ltb-true}
use Rattle.std.proofs.lemmas.Bool.Decides.{nat_tests}
use Rattle.std.proofs.lemmas.Slice.Eq.{bytes_eq-Decides}
use Rattle.std.specs.List.{list_all}
use Rattle.serde_json.specs.Data.{Data, Members, no_members}
use Rattle.serde_json.specs.Find.{get, get_member}
use Rattle.serde_json.proofs.Views.{get_member-put, get_member-put_other}
use Rattle.nostr_filter.specs.declared.conditions.TagCondition.{TagCondition}
use Rattle.nostr_filter.specs.declared.filter.Filter.{Filter}
use Rattle.nostr_filter.specs.Tags.{letters, stand_among, are_in_order, tag_name}
use Rattle.nostr_filter.specs.FilterJson.{Reads, All32, AllKinds, field, optional, texts_of, kinds_of, whole_of, conditions_of, hex_texts, texts_data, hex_data, kinds_data, whole_data, put_given, put_conditions, named_members, object_of}
use Rattle.nostr_filter.proofs.Items.{texts_back, hex_back, kinds_back}
use Rattle.nostr_filter.proofs.Standing.{letters_of, none_among, all_among}

-- ---- look-ups in what was put

skip_given : (k name : List ℕ) (o : Option Data) (ms : Members) → k ≢ name → get_member k (put_given name o ms) ≡ get_member k ms
skip_given k name None ms other = refl
skip_given k name (Some d) ms other = get_member-put_other k name d ms other

here_given : (k : List ℕ) (o : Option Data) (ms : Members) → get_member k ms ≡ None → get_member k (put_given k o ms) ≡ o
here_given k None ms none = none
here_given k (Some d) ms none = get_member-put k d ms

skip_conditions : (k : List ℕ) (cs : List TagCondition) (ms : Members) → ((x : ℕ) → k ≢ tag_name x) → get_member k (put_conditions cs ms) ≡ get_member k ms
skip_conditions k [] ms other = refl
skip_conditions k (c ∷ cs) ms other = get_member-put_other k (tag_name c.letter) (texts_data c.values) (put_conditions cs ms) (other c.letter) ∙ skip_conditions k cs ms other

-- the values of the letter's condition
abbrev condition_of : ℕ → List TagCondition → Option (List (List ℕ))
condition_of x [] = None
condition_of x (c ∷ cs) = if x == c.letter then Some c.values else condition_of x cs

eqb_itself : (x : ℕ) → (x == x) ≡ true
eqb_itself x = grind (arith, nat_tests)

eqb_other : (x y : ℕ) → x ≢ y → (x == y) ≡ false
eqb_other x y other = grind (arith, nat_tests)

tag_found : (x : ℕ) (cs : List TagCondition) (ms : Members) → get_member (tag_name x) ms ≡ None → get_member (tag_name x) (put_conditions cs ms) ≡ option_map texts_data (condition_of x cs)
tag_found x [] ms none = none
tag_found x (c ∷ cs) ms none = elim (cases_eq x c.letter) [
  | inl same ↦
      let here = get_member-put (tag_name c.letter) (texts_data c.values) (put_conditions cs ms) in
      rw (same, eqb_itself c.letter) here
  | inr other ↦
      let apart : tag_name x ≢ tag_name c.letter = λ e. other cc in
      get_member-put_other (tag_name x) (tag_name c.letter) (texts_data c.values) (put_conditions cs ms) apart
      ∙ tag_found x cs ms none ∙ ap (λ b. option_map texts_data (if b then Some c.values else condition_of x cs)) (sym (eqb_other x c.letter other))
]

text_values : (o : Option (List (List ℕ))) → optional texts_of (option_map texts_data o) ≡ Some o
text_values None = refl
text_values (Some texts) = ap (option_map Some) (texts_back texts)

-- ---- the conditions, letter by letter

abbrev rises : List ℕ → Bool
rises [] = true
rises (x ∷ xs) = list_all (λ y. nat_lt x y) xs && rises xs

-- d has just these conditions, at the letters xs
abbrev HasConditions : Data → List ℕ → List TagCondition → Type 0
HasConditions d xs cs = (k : ℕ) → k < length xs → field texts_of (tag_name (get_or xs k 0)) d ≡ Some (condition_of (get_or xs k 0) cs)

not_there : (x : ℕ) (cs : List TagCondition) → list_all (λ y. nat_lt x y) (letters_of cs) ≡ true → condition_of x cs ≡ None
not_there x [] above = refl
not_there x (c ∷ cs) above =
    let parts = and_parts (nat_lt x c.letter) (list_all (λ y. nat_lt x y) (letters_of cs)) above in
    let below : x < c.letter = ltb-true x c.letter parts.0 in
    rw (eqb_other x c.letter (λ e. absurd (omega arith))) (not_there x cs parts.1)

above_at : (x : ℕ) (xs : List ℕ) (k : ℕ) → list_all (λ y. nat_lt x y) xs ≡ true → k < length xs → x < get_or xs k 0
above_at x [] k all below = absurd (omega arith)
above_at x (y ∷ ys) zero all below = ltb-true x y (and_parts (nat_lt x y) _ all).0
above_at x (y ∷ ys) (suc k) all below = above_at x ys k (and_parts (nat_lt x y) _ all).1 (omega arith)

conditions_back : (d : Data) (xs : List ℕ) (cs : List TagCondition) → rises xs ≡ true → stand_among xs (letters_of cs) ≡ true → HasConditions d xs cs → conditions_of xs d ≡ Some cs
conditions_back d [] [] up among has = refl
conditions_back d [] (c ∷ cs) up among has = absurd (true≢false (sym among))
conditions_back d (x ∷ xs) [] up among has =
    let first : field texts_of (tag_name x) d ≡ Some None = has 0 (omega arith) in
    let parts = and_parts (list_all (λ y. nat_lt x y) xs) (rises xs) up in
    rw (first, conditions_back d xs [] parts.1 (none_among xs) (λ k below. has (suc k) (omega arith))) refl
conditions_back d (x ∷ xs) (c ∷ cs) up among has =
    let parts = and_parts (list_all (λ y. nat_lt x y) xs) (rises xs) up in
    elim (cases_eq x c.letter) [
      | inl same ↦
          let test : (x == c.letter) ≡ true = rw same (eqb_itself c.letter) in
          let rest : stand_among xs (letters_of cs) ≡ true = rw test at among in
          let first : field texts_of (tag_name x) d ≡ Some (Some c.values) = rw test at (has 0 (omega arith)) in
          let later : HasConditions d xs cs = λ k below.
          let apart : get_or xs k 0 ≢ c.letter = λ e. absurd (omega (arith, above_at x xs k parts.0 below)) in
          rw (eqb_other (get_or xs k 0) c.letter apart) at (has (suc k) (omega arith)) in
          rw (first, conditions_back d xs cs parts.1 rest later) (ap (λ n. Some (record { letter = n; values = c.values } ∷ cs)) same)
      | inr other ↦
          let test : (x == c.letter) ≡ false = eqb_other x c.letter other in
          let rest : stand_among xs (letters_of (c ∷ cs)) ≡ true = rw test at among in
          let missing : condition_of x (c ∷ cs) ≡ None = not_there x (c ∷ cs) (all_among (λ y. nat_lt x y) xs (letters_of (c ∷ cs)) parts.0 rest) in
          let first : field texts_of (tag_name x) d ≡ Some None = has 0 (omega arith) ∙ ap Some missing in
          rw (first, conditions_back d xs (c ∷ cs) parts.1 rest (λ k below. has (suc k) (omega arith))) refl
    ]

letters_rise : rises letters ≡ true
unfolding letters
letters_rise = refl

-- ---- the whole object

hex_read : (values : Option (List (List ℕ))) → optional texts_of (option_map hex_data values) ≡ Some (option_map hex_texts values)
hex_read None = refl
hex_read (Some values) = ap (option_map Some) (hex_back values)

kinds_read : (kinds : Option (List ℕ)) → AllKinds kinds → optional kinds_of (option_map kinds_data kinds) ≡ Some kinds
kinds_read None all = refl
kinds_read (Some kinds) all = ap (option_map Some) (kinds_back kinds all)

whole_read : (n : Option ℕ) → optional whole_of (option_map whole_data n) ≡ Some n
whole_read None = refl
whole_read (Some n) = refl

-- the members but for the conditions, one by one
abbrev from_until : Filter → Members
from_until f = put_given (codes "until") (option_map whole_data f.until) no_members

abbrev from_since : Filter → Members
from_since f = put_given (codes "since") (option_map whole_data f.since) (from_until f)

abbrev from_limit : Filter → Members
from_limit f = put_given (codes "limit") (option_map whole_data f.limit) (from_since f)

abbrev from_kinds : Filter → Members
from_kinds f = put_given (codes "kinds") (option_map kinds_data f.kinds) (from_limit f)

abbrev from_ids : Filter → Members
from_ids f = put_given (codes "ids") (option_map hex_data f.ids) (from_kinds f)

module _ (f : Filter) (k : List ℕ) where
  past_until : k ≢ codes "until" → get_member k (from_until f) ≡ None
  past_until until = skip_given k (codes "until") (option_map whole_data f.until) no_members until

  past_since : k ≢ codes "since" → k ≢ codes "until" → get_member k (from_since f) ≡ None
  past_since since until = skip_given k (codes "since") (option_map whole_data f.since) (from_until f) since ∙ past_until until

  past_limit : k ≢ codes "limit" → k ≢ codes "since" → k ≢ codes "until" → get_member k (from_limit f) ≡ None
  past_limit limit since until = skip_given k (codes "limit") (option_map whole_data f.limit) (from_since f) limit ∙ past_since since until

  past_kinds : k ≢ codes "kinds" → k ≢ codes "limit" → k ≢ codes "since" → k ≢ codes "until" → get_member k (from_kinds f) ≡ None
  past_kinds kinds limit since until = skip_given k (codes "kinds") (option_map kinds_data f.kinds) (from_limit f) kinds ∙ past_limit limit since until

  past_ids : k ≢ codes "ids" → k ≢ codes "kinds" → k ≢ codes "limit" → k ≢ codes "since" → k ≢ codes "until" → get_member k (from_ids f) ≡ None
  past_ids ids kinds limit since until = skip_given k (codes "ids") (option_map hex_data f.ids) (from_kinds f) ids ∙ past_kinds kinds limit since until

  past_all : k ≢ codes "authors" → k ≢ codes "ids" → k ≢ codes "kinds" → k ≢ codes "limit" → k ≢ codes "since" → k ≢ codes "until" → get_member k (named_members f) ≡ None
  past_all authors ids kinds limit since until = skip_given k (codes "authors") (option_map hex_data f.authors) (from_ids f) authors ∙ past_ids ids kinds limit since until

  past_tags : ((x : ℕ) → k ≢ tag_name x) → get k (object_of f) ≡ get_member k (named_members f)
  past_tags other = skip_conditions k f.tags (named_members f) other

  past_authors : k ≢ codes "authors" → get_member k (named_members f) ≡ get_member k (from_ids f)
  past_authors other = skip_given k (codes "authors") (option_map hex_data f.authors) (from_ids f) other

apart : (xs ys : List ℕ) → bytes_eq xs ys ≡ false → xs ≢ ys
apart xs ys differ = λ e. true≢false (sym ((bytes_eq-Decides xs ys).1 e) ∙ differ)

tag_at : (f : Filter) (x : ℕ) → field texts_of (tag_name x) (object_of f) ≡ Some (condition_of x f.tags)
tag_at f x =
    ap (optional texts_of) (tag_found x f.tags (named_members f) (past_all f (tag_name x) (apart _ _ refl) (apart _ _ refl) (apart _ _ refl) (apart _ _ refl) (apart _ _ refl) (apart _ _ refl)))
    ∙ text_values (condition_of x f.tags)

authors_at : (f : Filter) → get (codes "authors") (object_of f) ≡ option_map hex_data f.authors
authors_at f =
    past_tags f (codes "authors") (λ x. apart _ (tag_name x) refl)
    ∙ here_given (codes "authors") (option_map hex_data f.authors) (from_ids f) (past_ids f (codes "authors") (apart _ _ refl) (apart _ _ refl) (apart _ _ refl) (apart _ _ refl) (apart _ _ refl))

ids_at : (f : Filter) → get (codes "ids") (object_of f) ≡ option_map hex_data f.ids
ids_at f =
    past_tags f (codes "ids") (λ x. apart _ (tag_name x) refl) ∙ past_authors f (codes "ids") (apart _ _ refl)
    ∙ here_given (codes "ids") (option_map hex_data f.ids) (from_kinds f) (past_kinds f (codes "ids") (apart _ _ refl) (apart _ _ refl) (apart _ _ refl) (apart _ _ refl))

kinds_at : (f : Filter) → get (codes "kinds") (object_of f) ≡ option_map kinds_data f.kinds
kinds_at f =
    past_tags f (codes "kinds") (λ x. apart _ (tag_name x) refl) ∙ past_authors f (codes "kinds") (apart _ _ refl)
    ∙ skip_given (codes "kinds") (codes "ids") (option_map hex_data f.ids) (from_kinds f) (apart _ _ refl)
    ∙ here_given (codes "kinds") (option_map kinds_data f.kinds) (from_limit f) (past_limit f (codes "kinds") (apart _ _ refl) (apart _ _ refl) (apart _ _ refl))

limit_at : (f : Filter) → get (codes "limit") (object_of f) ≡ option_map whole_data f.limit
limit_at f =
    past_tags f (codes "limit") (λ x. apart _ (tag_name x) refl) ∙ past_authors f (codes "limit") (apart _ _ refl)
    ∙ skip_given (codes "limit") (codes "ids") (option_map hex_data f.ids) (from_kinds f) (apart _ _ refl)
    ∙ skip_given (codes "limit") (codes "kinds") (option_map kinds_data f.kinds) (from_limit f) (apart _ _ refl)
    ∙ here_given (codes "limit") (option_map whole_data f.limit) (from_since f) (past_since f (codes "limit") (apart _ _ refl) (apart _ _ refl))

since_at : (f : Filter) → get (codes "since") (object_of f) ≡ option_map whole_data f.since
since_at f =
    past_tags f (codes "since") (λ x. apart _ (tag_name x) refl) ∙ past_authors f (codes "since") (apart _ _ refl)
    ∙ skip_given (codes "since") (codes "ids") (option_map hex_data f.ids) (from_kinds f) (apart _ _ refl)
    ∙ skip_given (codes "since") (codes "kinds") (option_map kinds_data f.kinds) (from_limit f) (apart _ _ refl)
    ∙ skip_given (codes "since") (codes "limit") (option_map whole_data f.limit) (from_since f) (apart _ _ refl)
    ∙ here_given (codes "since") (option_map whole_data f.since) (from_until f) (past_until f (codes "since") (apart _ _ refl))

until_at : (f : Filter) → get (codes "until") (object_of f) ≡ option_map whole_data f.until
until_at f =
    past_tags f (codes "until") (λ x. apart _ (tag_name x) refl) ∙ past_authors f (codes "until") (apart _ _ refl)
    ∙ skip_given (codes "until") (codes "ids") (option_map hex_data f.ids) (from_kinds f) (apart _ _ refl)
    ∙ skip_given (codes "until") (codes "kinds") (option_map kinds_data f.kinds) (from_limit f) (apart _ _ refl)
    ∙ skip_given (codes "until") (codes "limit") (option_map whole_data f.limit) (from_since f) (apart _ _ refl)
    ∙ skip_given (codes "until") (codes "since") (option_map whole_data f.since) (from_until f) (apart _ _ refl)
    ∙ here_given (codes "until") (option_map whole_data f.until) no_members refl

pub object_of-Reads : (f : Filter) → are_in_order f.tags ≡ true → All32 f.authors → All32 f.ids → AllKinds f.kinds → Reads (object_of f) f
object_of-Reads f up author_bytes id_bytes kinds = record {
  object = refl;
  tags = conditions_back (object_of f) letters f.tags letters_rise up (λ k below. tag_at f (get_or letters k 0));
  authors = ap (optional texts_of) (authors_at f) ∙ hex_read f.authors;
  ids = ap (optional texts_of) (ids_at f) ∙ hex_read f.ids;
  kinds = ap (optional kinds_of) (kinds_at f) ∙ kinds_read f.kinds kinds;
  limit = ap (optional whole_of) (limit_at f) ∙ whole_read f.limit;
  since = ap (optional whole_of) (since_at f) ∙ whole_read f.since;
  until = ap (optional whole_of) (until_at f) ∙ whole_read f.until;
  author_bytes = author_bytes;
  id_bytes = id_bytes;
}
