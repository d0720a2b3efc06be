-- A JSON value reads as at most one filter, and what refuses it leaves none.
use Rattle.std.proofs.Common.{◌≡◌, ◌≢◌, ℕ, List, [], ◌∷◌, Option, None, Some, option_map, All, refl, sym, ap, ap₂, ◌∙◌}
use Rattle.std.proofs.lemmas.List.Elements.{All-head, All-tail}
use Rattle.hex.specs.Hex.{encode_lower}
use Rattle.serde_json.specs.Data.{Data}
use Rattle.nostr_event.specs.EventView.{IsBytesOf}
use Rattle.nostr_event.proofs.Injective.{encode_lower-injective}
use Rattle.nostr_filter.specs.declared.conditions.TagCondition.{TagCondition}
use Rattle.nostr_filter.specs.declared.filter.Filter.{Filter}
use Rattle.nostr_filter.specs.declared.fault.FilterField.{FilterField}
use Rattle.nostr_filter.specs.declared.fault.FilterField.TheVariants.{Object, Tag, Authors, Ids, Kinds, Limit, Since, Until}
use Rattle.nostr_filter.specs.declared.fault.FilterFault.{FilterFault}
use Rattle.nostr_filter.specs.declared.fault.FilterFault.TheVariants.{Shape, Hex, Memory}
use Rattle.nostr_filter.specs.Tags.{letters}
use Rattle.nostr_filter.specs.FilterJson.{Reads, Refuses, IsFirstNotHex, All32, hex_texts, first_failing, shape_tests}
use Rattle.nostr_filter.proofs.TagReading.{read_passes}
use Rattle.nostr_filter.proofs.ShapeTests.{named_refuse}

hex_texts-injective : (xs ys : List (List ℕ)) → All (IsBytesOf 32) xs → All (IsBytesOf 32) ys → hex_texts xs ≡ hex_texts ys → xs ≡ ys
hex_texts-injective [] [] all also same = refl
hex_texts-injective [] (y ∷ ys) all also same = cc
hex_texts-injective (x ∷ xs) [] all also same = cc
hex_texts-injective (x ∷ xs) (y ∷ ys) all also same =
    let heads : encode_lower x ≡ encode_lower y = cc in
    let tails : hex_texts xs ≡ hex_texts ys = cc in
    let first : x ≡ y = encode_lower-injective x y (All-head (IsBytesOf 32) x xs all).1 (All-head (IsBytesOf 32) y ys also).1 heads in
    ap₂ (λ a b. a ∷ b) first (hex_texts-injective xs ys (All-tail (IsBytesOf 32) x xs all) (All-tail (IsBytesOf 32) y ys also) tails)

given-injective : (xs ys : Option (List (List ℕ))) → All32 xs → All32 ys → option_map hex_texts xs ≡ option_map hex_texts ys → xs ≡ ys
given-injective None None all also same = refl
given-injective None (Some ys) all also same = cc
given-injective (Some xs) None all also same = cc
given-injective (Some xs) (Some ys) all also same =
    let inner : hex_texts xs ≡ hex_texts ys = cc in
    ap Some (hex_texts-injective xs ys all also inner)

filter_of : Option (List (List ℕ)) → Option (List (List ℕ)) → Option (List ℕ) → List TagCondition → Option ℕ → Option ℕ → Option ℕ → Filter
filter_of ids authors kinds tags since until limit = record { ids = ids; authors = authors; kinds = kinds; tags = tags; since = since; until = until; limit = limit }

pub one_filter : (d : Data) (a b : Filter) → Reads d a → Reads d b → b ≡ a
unfolding filter_of
one_filter d a b p q =
    let tags : Some b.tags ≡ Some a.tags = sym q.tags ∙ p.tags in
    let author_texts : Some (option_map hex_texts b.authors) ≡ Some (option_map hex_texts a.authors) = sym q.authors ∙ p.authors in
    let id_texts : Some (option_map hex_texts b.ids) ≡ Some (option_map hex_texts a.ids) = sym q.ids ∙ p.ids in
    let some_authors : option_map hex_texts b.authors ≡ option_map hex_texts a.authors = cc in
    let some_ids : option_map hex_texts b.ids ≡ option_map hex_texts a.ids = cc in
    let authors : b.authors ≡ a.authors = given-injective b.authors a.authors q.author_bytes p.author_bytes some_authors in
    let ids : b.ids ≡ a.ids = given-injective b.ids a.ids q.id_bytes p.id_bytes some_ids in
    let kinds : Some b.kinds ≡ Some a.kinds = sym q.kinds ∙ p.kinds in
    let limit : Some b.limit ≡ Some a.limit = sym q.limit ∙ p.limit in
    let since : Some b.since ≡ Some a.since = sym q.since ∙ p.since in
    let until : Some b.until ≡ Some a.until = sym q.until ∙ p.until in
    let same : filter_of b.ids b.authors b.kinds b.tags b.since b.until b.limit ≡ filter_of a.ids a.authors a.kinds a.tags a.since a.until a.limit = cc in
    same

shapes_pass : (d : Data) (f : Filter) → Reads d f → first_failing (shape_tests d) ≡ None
shapes_pass d f h = named_refuse d None h.object (read_passes letters d f.tags h.tags) (rw (h.authors, h.ids, h.kinds, h.limit, h.since, h.until) refl)

all_hex : (d : Data) (f : Filter) (at : FilterField) → Reads d f → ¬ IsFirstNotHex d at
all_hex d f Object h = λ n. n
all_hex d f (Tag x) h = λ n. n
all_hex d f Authors h = λ n. n (f.authors, h.author_bytes, h.authors)
all_hex d f Ids h = λ n. n.1 (f.ids, h.id_bytes, h.ids)
all_hex d f Kinds h = λ n. n
all_hex d f Limit h = λ n. n
all_hex d f Since h = λ n. n
all_hex d f Until h = λ n. n

pub refused_none : (d : Data) (e : FilterFault) → Refuses d e → e ≢ Memory → (f : Filter) → ¬ Reads d f
refused_none d (Shape at) refused other f = λ h.
    let passed : first_failing (shape_tests d) ≡ None = shapes_pass d f h in
    cc
refused_none d (Hex at) refused other f = λ h. all_hex d f at h refused.1
refused_none d Memory refused other f = λ h. other refl
