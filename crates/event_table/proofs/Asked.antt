-- The ids of the events that a filter may match.
use Rattle.std.proofs.Common.{◌≡◌, ℕ, inl, inr, ◌+◌, ◌*◌, ◌^◌, ◌<◌, ◌≤◌, ◌&&◌, ◌||◌, cond, Bool, true, false, true≢false, List, [], ◌∷◌, get_or, map, refl, ap, sym, subst, arith, ◌∙◌, Option, None, Some}
use Rattle.std.specs.Prelude.{filter, bytes_eq, Contains, IsPermutation, nat_le, Result, Ok, Err, IfOk, IfSome}
use Rattle.std.specs.List.{list_any}
use Rattle.std.proofs.lemmas.Bool.{cases_lt, lt-ltb, le-leb}
use Rattle.std.proofs.lemmas.Bool.Decides.{nat_tests}
use Rattle.std.proofs.lemmas.List.{length-map, get_or-map}
use Rattle.std.proofs.lemmas.List.Folds.{list_any_at}
use Rattle.std.proofs.lemmas.List.Sorted.{Contains-permutation}
use Rattle.std.proofs.lemmas.Slice.Eq.{bytes_eq-Decides}
use Rattle.item_key.specs.declared.Id.{Id}
use Rattle.item_key.specs.declared.Item.{Item}
use Rattle.item_key.proofs.Order.{number_below}
use Rattle.item_key.specs.Keys.{place, least, zero_id, number_of_bytes, IsKey, id_of_bytes}
use Rattle.nostr_event.specs.EventView.{EventView, item_of}
use Rattle.nostr_filter.specs.declared.filter.Filter.{Filter}
use Rattle.nostr_filter.specs.Matching.{matches_of, within_of, met, has_text}
use Rattle.item_roll.specs.Parts.{is_between, part, ids_of}
use Rattle.event_table.specs.Places.{AreAsked, AreWithin}

and_last : (a b : Bool) → (a && b) ≡ true → b ≡ true
and_last true b h = h
and_last false b h = absurd (true≢false (sym h))

and_first : (a b : Bool) → (a && b) ≡ true → a ≡ true
and_first true b h = refl
and_first false b h = absurd (true≢false (sym h))

-- what matches is within the filter's times
pub times_met : (f : Filter) (e : EventView) → matches_of f e ≡ true → within_of f e.draft.created_at ≡ true
times_met f e h = and_last _ (within_of f e.draft.created_at) (and_first _ _ h)

-- what matches has one of the filter's ids
listed_any : (texts : List (List ℕ)) (id : List ℕ) → list_any (λ (x : Id). bytes_eq x.0 id) (map id_of_bytes texts) ≡ has_text texts id
listed_any [] id = refl
listed_any (t ∷ texts) id = ap (λ b. bytes_eq t id || b) (listed_any texts id)

pub listed_asked : (f : Filter) (texts : List (List ℕ)) (ids : List Id) (events : List EventView) → f.ids ≡ Some texts → ids ≡ map id_of_bytes texts → AreAsked f events ids
listed_asked f texts ids events is listed i e lt hit =
    let d : EventView = get_or events i e in
    let named : met (λ ids. has_text ids d.id.0) f.ids ≡ true = and_first _ _ (and_first _ _ (and_first _ _ (and_first _ _ hit))) in
    let some : has_text texts d.id.0 ≡ true = (λ j. met (λ ids. has_text ids d.id.0) (sym is j)) ∙ named in
    subst (λ (xs : List Id). list_any (λ (x : Id). bytes_eq x.0 d.id.0) xs ≡ true) (sym listed) (listed_any texts d.id.0 ∙ some)

-- ---- between two times

any_ids : (items : List Item) (id : List ℕ) → list_any (λ (x : Id). bytes_eq x.0 id) (ids_of items) ≡ list_any (λ (x : Item). bytes_eq x.id.0 id) items
any_ids [] id = refl
any_ids (x ∷ items) id = ap (λ b. bytes_eq x.id.0 id || b) (any_ids items id)

any_kept : (p q : Item → Bool) (items : List Item) → list_any q (filter p items) ≡ list_any (λ x. p x && q x) items
any_kept p q [] = refl
any_kept p q (x ∷ items) = go (p x) ∙ ap (λ b. (p x && q x) || b) (any_kept p q items)
  where
    go : (b : Bool) → list_any q (cond b (x ∷ filter p items) (filter p items)) ≡ ((b && q x) || list_any q (filter p items))
    go true = refl
    go false = refl

in_part : (items : List Item) (l u k : Item) → Contains items k → place l ≤ place k → place k < place u → list_any (λ (x : Id). bytes_eq x.0 k.id.0) (ids_of (part items l u)) ≡ true
unfolding part
in_part items l u k there low high =
    let test : Item → Bool = λ x. is_between l u x && bytes_eq x.id.0 k.id.0 in
    let here : test k ≡ true = rw (le-leb (place l) (place k) low, lt-ltb (place k) (place u) high) ((bytes_eq-Decides k.id.0 k.id.0).1 refl) in
    any_ids (filter (is_between l u) items) k.id.0 ∙ any_kept (is_between l u) (λ (x : Item). bytes_eq x.id.0 k.id.0) items
    ∙ list_any_at test items there.0 k there.1 (ap test there.2 ∙ here)

pub part_within : (f : Filter) (items : List Item) (l u : Item) (ids : List Id) → ids ≡ ids_of (part items l u) → ((k : Item) → Contains items k → IsKey k)
    → ((k : Item) → within_of f k.time ≡ true → place l ≤ place k) → ((k : Item) → IsKey k → within_of f k.time ≡ true → place k < place u) → AreWithin f items ids
part_within f items l u ids is keys low high k there hit =
    (λ j. list_any (λ (x : Id). bytes_eq x.0 k.id.0) (is j)) ∙ in_part items l u k there (low k hit) (high k (keys k there) hit)

-- the ids of the items between the filter's times are those of the events that it may match
pub within_asked : (f : Filter) (events : List EventView) (items : List Item) (ids : List Id) → IsPermutation (map item_of events) items → AreWithin f items ids → AreAsked f events ids
within_asked f events items ids moved h i e lt hit =
    let d : EventView = get_or events i e in
    let there : Contains (map item_of events) (item_of d) = (i, omega (arith, length-map events item_of, lt), get_or-map item_of events i e (item_of d) lt) in
    h (item_of d) (Contains-permutation (map item_of events) items (item_of d) moved there) (times_met f d hit)

pub under : {X E : Type 0} {P Q : X → Type 0} → ((x : X) → P x → Q x) → (r : Result (Option X) E) → IfOk r (λ o. IfSome o P) → IfOk r (λ o. IfSome o Q)
under f (Ok (Some x)) h = f x h
under f (Ok None) h = tt
under f (Err e) h = tt

-- ---- the bounds of a filter's times

pub not_below : {b : Bool} {x y : ℕ} → ((b ≡ true → x < y) × (x < y → b ≡ true)) → b ≡ false → y ≤ x
not_below {b} {x} {y} h e = elim (cases_lt x y) [
  | inl lt ↦ absurd (true≢false (sym (h.1 lt) ∙ e))
  | inr le ↦ le
]

least_below : (k : Item) → place least ≤ place k
unfolding place
least_below k = omega arith

pub below_all : (b k : Item) → b ≡ least → place b ≤ place k
below_all b k is = subst (λ (x : Item). place x ≤ place k) (sym is) (least_below k)

pub from_first : (f : Filter) (since : ℕ) (b k : Item) → f.since ≡ Some since → b ≡ record { time = since; id = zero_id } → within_of f k.time ≡ true → place b ≤ place k
unfolding place
from_first f since b k is at hit =
    let since_met : met (λ since. nat_le since k.time) f.since ≡ true = and_first _ _ hit in
    let le : nat_le since k.time ≡ true = (λ j. met (λ since. nat_le since k.time) (sym is j)) ∙ since_met in
    let low : since ≤ k.time = grind (arith, nat_tests) in
    subst (λ (x : Item). x.time * 256 ^ 32 + number_of_bytes x.id.0 ≤ k.time * 256 ^ 32 + number_of_bytes k.id.0) (sym at) (omega (arith, low))

pub to_last : (f : Filter) (until : ℕ) (b k : Item) → f.until ≡ Some until → b ≡ record { time = until + 1; id = zero_id } → IsKey k → within_of f k.time ≡ true → place k < place b
unfolding place
to_last f until b k is at key hit =
    let until_met : met (λ until. nat_le k.time until) f.until ≡ true = and_last _ _ hit in
    let le : nat_le k.time until ≡ true = (λ j. met (λ until. nat_le k.time until) (sym is j)) ∙ until_met in
    let low : k.time ≤ until = grind (arith, nat_tests) in
    let n : number_of_bytes k.id.0 < 256 ^ 32 = subst (λ (l : ℕ). number_of_bytes k.id.0 < 256 ^ l) key.id.len (number_below k.id.0 key.id.bytes) in
    subst (λ (x : Item). k.time * 256 ^ 32 + number_of_bytes k.id.0 < x.time * 256 ^ 32 + number_of_bytes x.id.0) (sym at) (omega (arith, n, low))
