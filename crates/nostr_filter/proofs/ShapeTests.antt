-- From what was read to what the tests of the shapes say.
use Rattle.std.proofs.Common.{◌≡◌, ◌⊎◌, inl, inr, ◌++◌, drop, Bool, true, false, cond, Option, None, Some, is_some, codes, true≢false, refl, sym, ◌∙◌}
use Rattle.serde_json.specs.Data.{Data}
use Rattle.serde_json.specs.Find.{as_object}
use Rattle.nostr_filter.specs.declared.fault.FilterField.{FilterField}
use Rattle.nostr_filter.specs.declared.fault.FilterField.TheVariants.{Object, Authors, Ids, Kinds, Limit, Since, Until}
use Rattle.nostr_filter.specs.declared.fault.FilterFault.{FilterFault}
use Rattle.nostr_filter.specs.declared.fault.FilterFault.TheVariants.{Shape, Memory}
use Rattle.nostr_filter.specs.Tags.{letters}
use Rattle.nostr_filter.specs.FilterJson.{field, texts_of, kinds_of, whole_of, Passes, Refuses, first_failing, tag_tests, named_tests, shape_tests}
use Rattle.nostr_filter.proofs.TagReading.{failing_later, failing_earlier}

pub refuse_or : (d : Data) (e : FilterFault) (f : FilterField) (P : Type 0) → Passes d → (e ≡ Memory) ⊎ ((e ≡ Shape f) × P) → (P → first_failing (shape_tests d) ≡ Some f) → Refuses d e
refuse_or d e f P passes (inl memory) shows = rw memory passes
refuse_or d e f P passes (inr h) shows = rw (h.0) (shows h.1)

pub tags_refuse : (d : Data) (f : FilterField) → is_some (as_object d) ≡ true → first_failing (tag_tests letters d) ≡ Some f → first_failing (shape_tests d) ≡ Some f
tags_refuse d f object fails = rw object (failing_earlier (tag_tests letters d) (named_tests d) f fails)

pub named_refuse : (d : Data) (f : Option FilterField) → is_some (as_object d) ≡ true → first_failing (tag_tests letters d) ≡ None → first_failing (named_tests d) ≡ f → first_failing (shape_tests d) ≡ f
named_refuse d f object passed fails = rw object (failing_later (tag_tests letters d) (named_tests d) passed ∙ fails)

-- where all tests of the shapes are passed, the value is an object, and those of the conditions on tags are passed
tags_by : (d : Data) (o : Option FilterField) → first_failing (tag_tests letters d) ≡ o → first_failing (tag_tests letters d ++ named_tests d) ≡ None → o ≡ None
tags_by d None is passed = refl
tags_by d (Some f) is passed = let fails = failing_earlier (tag_tests letters d) (named_tests d) f is in cc

object_by : (b : Bool) (d : Data) → cond b (first_failing (tag_tests letters d ++ named_tests d)) (Some Object) ≡ None → (b ≡ true) × (first_failing (tag_tests letters d ++ named_tests d) ≡ None)
object_by true d passed = (refl, passed)
object_by false d passed = absurd (let bad = passed in cc)

pub tags_pass : (d : Data) → first_failing (shape_tests d) ≡ None → (is_some (as_object d) ≡ true) × (first_failing (tag_tests letters d) ≡ None)
tags_pass d passed =
    let both = object_by (is_some (as_object d)) d passed in
    (both.0, tags_by d _ refl both.1)

-- ---- numbers

passes_by : (b : Bool) (f : FilterField) (later : Option FilterField) → cond b later (Some f) ≡ None → (b ≡ true) × (later ≡ None)
passes_by true f later passed = (refl, passed)
passes_by false f later passed = absurd (let bad = passed in cc)

-- each number has its shape
pub record HasNumbers (d : Data) : Type 0 where
  pub limit : is_some (field whole_of (codes "limit") d) ≡ true
  pub since : is_some (field whole_of (codes "since") d) ≡ true
  pub until : is_some (field whole_of (codes "until") d) ≡ true

-- where all tests are passed
pub numbers_pass : (d : Data) → Passes d → HasNumbers d
numbers_pass d passes =
    let both = object_by (is_some (as_object d)) d passes.0 in
    let named = sym (failing_later (tag_tests letters d) (named_tests d) (tags_pass d passes.0).1) ∙ both.1 in
    let authors = passes_by (is_some (field texts_of (codes "authors") d)) Authors (first_failing (drop 1 (named_tests d))) named in
    let ids = passes_by (is_some (field texts_of (codes "ids") d)) Ids (first_failing (drop 2 (named_tests d))) authors.1 in
    let kinds = passes_by (is_some (field kinds_of (codes "kinds") d)) Kinds (first_failing (drop 3 (named_tests d))) ids.1 in
    let limit = passes_by (is_some (field whole_of (codes "limit") d)) Limit (first_failing (drop 4 (named_tests d))) kinds.1 in
    let since = passes_by (is_some (field whole_of (codes "since") d)) Since (first_failing (drop 5 (named_tests d))) limit.1 in
    record {
      limit = limit.0;
      since = since.0;
      until = (passes_by (is_some (field whole_of (codes "until") d)) Until None since.1).0;
    }

pub not_missing : {X : Type 0} (o : Option X) → is_some o ≡ true → o ≡ None → ⊥
not_missing None some none = true≢false (sym some)
not_missing (Some x) some none = cc
