-- The ranges that a piece of a roll is split into are true of it.
use Rattle.std.proofs.Common.{◌≡◌, ℕ, zero, suc, ◌+◌, ◌-◌, ◌*◌, ◌/◌, ◌%◌, ◌<◌, ◌≤◌, inl, inr, List, [], ◌∷◌, ◌++◌, length, get_or, take, replicate, refl, sym, ap, subst, ◌∙◌, arith}
use Rattle.std.specs.Prelude.{All, slice_get, Some}
use Rattle.std.specs.List.{slice_range}
use Rattle.std.proofs.Common.{map, append_assoc}
use Rattle.std.proofs.lemmas.List.{map-append}
use Rattle.std.proofs.lemmas.Option.{get_or_from_slice_get}
use Rattle.neg_codec.specs.declared.Range.{Range}
use Rattle.std.proofs.Math.Nat.{mul-le-mul_right, mul-le-mul_left}
use Rattle.std.proofs.lemmas.Bool.{cases_lt, cases_eq, lt-ltb, le-ltb}
use Rattle.std.proofs.lemmas.List.{length-append, length-take, length-replicate}
use Rattle.std.proofs.lemmas.List.Elements.{All-cons, All-nil, All-append, All-take, All-replicate}
use Rattle.item_key.specs.declared.Id.{Id}
use Rattle.item_key.specs.declared.Item.{Item}
use Rattle.item_key.specs.Keys.{place, least, IsKey}
use Rattle.neg_codec.specs.Ranges.{print, ids, Span, Ascends, span_of}
use Rattle.neg_print.specs.Print.{print_of}
use Rattle.item_roll.specs.Parts.{IsRoll, Ascending, part, ids_of, count_below}
use Rattle.item_roll.specs.Splits.{common_len, cut_item, minimal_bound_of, prints_at, split_of}
use Rattle.item_roll.specs.Truth.{IsTrueOf, SameIds}
use Rattle.item_roll.specs.Closed.{closed_from, EndsAt, IsTold, Reaches}
use Rattle.item_roll.proofs.Cuts.{part_is}
use Rattle.item_roll.proofs.Places.{low_item, high_item, count_rises}
use Rattle.item_roll.proofs.Bounds.{bound_between, common_small, ids_order, bound_same, bound_other}

-- ---- how a piece is cut

parts_step : (m more q r : ℕ) → (more + 2) * q + r ≡ m + more + 1 → r < more + 2 → more + 2 ≤ m → (1 ≤ q) × (q + more + 1 ≤ m)
parts_step m more zero r e lt le = absurd (omega arith)
parts_step m more (suc q) r e lt le = (
  omega arith,
  elim (cases_lt m (suc q + more + 1)) [
    | inl short ↦ absurd (
        let rest : (m - (more + 2)) + 2 ≤ suc q = omega arith in
        let a = mul-le-mul_right (more + 2) rest in
        let one : 1 ≤ more + 2 = omega arith in
        let b = mul-le-mul_left (m - (more + 2)) one in
        omega (arith, a, b))
    | inr enough ↦ enough
  ],
)

-- where the first of more + 2 pieces ends
abbrev pub next_of : ℕ → ℕ → ℕ → ℕ
next_of lo hi more = lo + (hi - lo + more + 1) / (more + 2)

pub parts_next : (m more : ℕ) → more + 2 ≤ m → (1 ≤ (m + more + 1) / (more + 2)) × ((m + more + 1) / (more + 2) + more + 1 ≤ m)
parts_next m more le =
    let whole : (more + 2) * ((m + more + 1) / (more + 2)) + (m + more + 1) % (more + 2) ≡ m + more + 1 = omega arith in
    let rem : (m + more + 1) % (more + 2) < more + 2 = omega arith in
    parts_step m more ((m + more + 1) / (more + 2)) ((m + more + 1) % (more + 2)) whole rem le

-- ---- the shortest bound between two neighbours

pub key_at : (items : List Item) (i : ℕ) (d : Item) → IsRoll items → i < length items → IsKey (get_or items i d)
key_at items i d roll lt = roll.keys i d lt

pub order_at : (xs : List Item) (i j : ℕ) (d : Item) → Ascending xs → i < j → j < length xs → place (get_or xs i d) < place (get_or xs j d)
order_at [] i j d up lt l = absurd (omega arith)
order_at (x ∷ xs) zero zero d up lt l = absurd (omega arith)
order_at (x ∷ xs) zero (suc j) d up lt l = up.0 j d (omega arith)
order_at (x ∷ xs) (suc i) zero d up lt l = absurd (omega arith)
order_at (x ∷ xs) (suc i) (suc j) d up lt l = order_at xs i j d up.1 (omega arith) (omega arith)

pub got : (items : List Item) (i : ℕ) (x : Item) → slice_get items i ≡ Some x → x ≡ get_or items i least
got items i x e = sym (get_or_from_slice_get items i x least e)

-- ---- the ranges, one after another

abbrev piece_first : ℕ → List Item → ℕ → ℕ → Item → ℕ → List Span
piece_first more items lo hi upper next =
    record { upper = minimal_bound_of (get_or items (next - 1) least) (get_or items next least); claim = print (print_of (ids_of (slice_range items lo next))) }
    ∷ prints_at more items next hi upper

pub prints_step : (more : ℕ) (items : List Item) (lo hi next pieces : ℕ) (upper : Item) (r : Span) → next ≡ lo + (hi - lo + pieces - 1) / pieces → pieces ≡ more + 2
    → r ≡ record { upper = minimal_bound_of (get_or items (next - 1) least) (get_or items next least); claim = print (print_of (ids_of (slice_range items lo next))) }
    → r ∷ prints_at more items next hi upper ≡ prints_at (suc more) items lo hi upper
unfolding prints_at
prints_step more items lo hi next pieces upper r e p f =
    let n : next ≡ lo + (hi - lo + more + 1) / (more + 2) = e ∙ rw p (ap (λ (x : ℕ). lo + x / (more + 2)) (omega arith)) in
    ap (λ (x : Span). x ∷ prints_at more items next hi upper) f ∙ ap (λ (m : ℕ). piece_first more items lo hi upper m) n

pub prints_last : (items : List Item) (lo hi : ℕ) (upper : Item) (r : Span) → r ≡ record { upper = upper; claim = print (print_of (ids_of (slice_range items lo hi))) } → r ∷ [] ≡ prints_at 0 items lo hi upper
unfolding prints_at
prints_last items lo hi upper r e = ap (λ (x : Span). x ∷ []) e

pub pushed : (old new : List Range) (x : Range) (rest tail whole : List Span) → new ≡ old ++ x ∷ [] → span_of x ∷ rest ≡ tail → map span_of old ++ tail ≡ whole → map span_of new ++ rest ≡ whole
pushed old new x rest tail whole e f so_far = ap (λ (v : List Range). map span_of v ++ rest) e ∙ ap (λ (v : List Span). v ++ rest) (map-append span_of old (x ∷ []))
    ∙ append_assoc (map span_of old) (span_of x ∷ []) rest ∙ ap (λ (v : List Span). map span_of old ++ v) f ∙ so_far

pub pushed_last : (old new : List Range) (x : Range) (tail whole : List Span) → new ≡ old ++ x ∷ [] → span_of x ∷ [] ≡ tail → map span_of old ++ tail ≡ whole → map span_of new ≡ whole
pushed_last old new x tail whole e f so_far = ap (λ (v : List Range). map span_of v) e ∙ map-append span_of old (x ∷ []) ∙ ap (λ (v : List Span). map span_of old ++ v) f ∙ so_far

-- ---- truth

-- from a lower bound with lo items below it, up to an upper bound with hi items below it
pub piece_is : (items : List Item) (lo hi : ℕ) (lower upper : Item) → Ascending items → count_below items lower ≡ lo → count_below items upper ≡ hi → place lower ≤ place upper
    → part items lower upper ≡ slice_range items lo hi
piece_is items lo hi lower upper up low high le = part_is items lower upper up le ∙ ap (λ (n : ℕ). slice_range items n (count_below items upper)) low ∙ ap (λ (n : ℕ). slice_range items lo n) high

print_true : (items : List Item) (lo hi : ℕ) (lower upper : Item) → part items lower upper ≡ slice_range items lo hi
    → IsTrueOf items (record { lower = lower; upper = upper; claim = print (print_of (ids_of (slice_range items lo hi))) })
print_true items lo hi lower upper e = ap (λ (xs : List Item). print_of (ids_of xs)) (sym e)

ids_true : (items : List Item) (lo hi : ℕ) (lower upper : Item) → part items lower upper ≡ slice_range items lo hi
    → IsTrueOf items (record { lower = lower; upper = upper; claim = ids (ids_of (slice_range items lo hi)) })
ids_true items lo hi lower upper e = subst (λ (xs : List Item). SameIds (ids_of (slice_range items lo hi)) (ids_of xs)) (sym e) (λ i. (λ h. h, λ h. h))

cut_key : (p c : Item) → IsKey p → IsKey c → place p < place c → IsKey (minimal_bound_of p c)
cut_key p c kp kc lt = elim (cases_eq p.time c.time) [
  | inl same ↦
      let l = ids_order p c same lt in
      let few = common_small p.id.0 c.id.0 (kp.id.len ∙ sym kc.id.len) l in
      let n : common_len p.id.0 c.id.0 + 1 ≤ 32 = omega (arith, few, kc.id.len) in
      subst IsKey (sym (bound_same p c same)) (cut_is_key c (common_len p.id.0 c.id.0 + 1) kc n)
  | inr other ↦ subst IsKey (sym (bound_other p c other)) (cut_is_key c 0 kc (omega arith))
]
  where
    cut_is_key : (k : Item) (n : ℕ) → IsKey k → n ≤ 32 → IsKey (cut_item k n)
    cut_is_key k n key le = record {
      time = key.time;
      id = record {
        len = omega (arith, length-append (take n k.id.0) (replicate (32 - n) 0), length-take n k.id.0, length-replicate {A = ℕ} (32 - n) 0, key.id.len);
        bytes = All-append (λ b. b < 256) (take n k.id.0) (replicate (32 - n) 0) (All-take (λ b. b < 256) n k.id.0 key.id.bytes) (All-replicate (λ b. b < 256) (32 - n) 0 (omega arith));
      };
    }

-- a bound between two neighbours
pub record IsCut (items : List Item) (next : ℕ) (b : Item) : Type 0 where
  pub key : IsKey b
  pub count : count_below items b ≡ next
  pub above : place (get_or items (next - 1) least) < place b
  pub upto : place b ≤ place (get_or items next least)

pub cut_at : (items : List Item) (next : ℕ) → IsRoll items → 0 < next → next < length items → IsCut items next (minimal_bound_of (get_or items (next - 1) least) (get_or items next least))
cut_at items next roll some lt =
    let kp = roll.keys (next - 1) least (omega arith) in
    let kc = roll.keys next least lt in
    let less : place (get_or items (next - 1) least) < place (get_or items next least) = order_at items (next - 1) next least roll.ascending (omega arith) lt in
    let b = bound_between (get_or items (next - 1) least) (get_or items next least) kp kc less in
    let low = low_item items (next - 1) (minimal_bound_of (get_or items (next - 1) least) (get_or items next least)) least roll.ascending (omega arith) b.above in
    let high = high_item items next (minimal_bound_of (get_or items (next - 1) least) (get_or items next least)) least roll.ascending lt b.upto in
    record { key = cut_key (get_or items (next - 1) least) (get_or items next least) kp kc less; count = omega (arith, low, high); above = b.above; upto = b.upto }

-- a bound with lo items below it isn't above one with more
pub count_order : (items : List Item) (lower upper : Item) → Ascending items → count_below items lower < count_below items upper → place lower ≤ place upper
count_order items lower upper up lt = elim (cases_lt (place upper) (place lower)) [
  | inl less ↦ absurd (omega (arith, count_rises items upper lower (omega (arith, less)), lt))
  | inr le ↦ le
]

pub prints_told : (more : ℕ) (items : List Item) (lo hi : ℕ) (lower upper : Item) → IsRoll items → hi ≤ length items → lo + more + 1 ≤ hi → count_below items upper ≡ hi
    → IsKey lower → count_below items lower ≡ lo → place lower ≤ place upper
    → All (IsTrueOf items) (closed_from lower (prints_at more items lo hi upper)) × Ascends lower (prints_at more items lo hi upper)
unfolding prints_at
prints_told zero items lo hi lower upper roll len room high key low le = (
  All-cons (IsTrueOf items) _ [] (print_true items lo hi lower upper (piece_is items lo hi lower upper roll.ascending low high le)) (All-nil (IsTrueOf items)),
  (key.time, le, tt),
)
prints_told (suc more) items lo hi lower upper roll len room high key low le =
    let enough : more + 2 ≤ hi - lo = omega arith in
    let parts = parts_next (hi - lo) more enough in
    let cut = cut_at items (next_of lo hi more) roll (omega arith) (omega arith) in
    let b = minimal_bound_of (get_or items (next_of lo hi more - 1) least) (get_or items (next_of lo hi more) least) in
    let first = count_order items lower (minimal_bound_of (get_or items (next_of lo hi more - 1) least) (get_or items (next_of lo hi more) least)) roll.ascending (omega (arith, low, cut.count)) in
    let later = count_order items (minimal_bound_of (get_or items (next_of lo hi more - 1) least) (get_or items (next_of lo hi more) least)) upper roll.ascending (omega (arith, high, cut.count)) in
    let piece = piece_is items lo (next_of lo hi more) lower (minimal_bound_of (get_or items (next_of lo hi more - 1) least) (get_or items (next_of lo hi more) least)) roll.ascending low cut.count first in
    let rest = prints_told more items (next_of lo hi more) hi (minimal_bound_of (get_or items (next_of lo hi more - 1) least) (get_or items (next_of lo hi more) least)) upper roll len (omega arith) high cut.key cut.count later in (
      All-cons (IsTrueOf items) _ _ (print_true items lo (next_of lo hi more) lower (minimal_bound_of (get_or items (next_of lo hi more - 1) least) (get_or items (next_of lo hi more) least)) piece) rest.0,
      (key.time, first, rest.1),
    )

pub ids_told : (items : List Item) (lo hi : ℕ) (lower upper : Item) → IsRoll items → count_below items upper ≡ hi → IsKey lower → count_below items lower ≡ lo → place lower ≤ place upper
    → let rs : List Span = record { upper = upper; claim = ids (ids_of (slice_range items lo hi)) } ∷ [] in All (IsTrueOf items) (closed_from lower rs) × Ascends lower rs
ids_told items lo hi lower upper roll high key low le = (
  All-cons (IsTrueOf items) _ [] (ids_true items lo hi lower upper (piece_is items lo hi lower upper roll.ascending low high le)) (All-nil (IsTrueOf items)),
  (key.time, le, tt),
)

-- ---- they reach up to the bound

ends_cons : (upper : Item) (r : Span) (rs : List Span) → EndsAt upper rs → EndsAt upper (r ∷ rs)
ends_cons upper r [] e = absurd e
ends_cons upper r (s ∷ rs) e = e

print_told : (upper : Item) (p : List ℕ) → IsTold (record { upper = upper; claim = print p })
print_told upper p e = cc

pub prints_reach : (more : ℕ) (items : List Item) (lo hi : ℕ) (upper : Item) → Reaches upper (prints_at more items lo hi upper)
unfolding prints_at
prints_reach zero items lo hi upper = record { ends = refl; told = All-cons IsTold _ [] (print_told upper _) (All-nil IsTold) }
prints_reach (suc more) items lo hi upper =
    let rest = prints_reach more items (next_of lo hi more) hi upper in
    let cut = minimal_bound_of (get_or items (next_of lo hi more - 1) least) (get_or items (next_of lo hi more) least) in
    let first : Span = record { upper = minimal_bound_of (get_or items (next_of lo hi more - 1) least) (get_or items (next_of lo hi more) least); claim = print (print_of (ids_of (slice_range items lo (next_of lo hi more)))) } in
    record {
      ends = ends_cons upper first (prints_at more items (next_of lo hi more) hi upper) rest.ends;
      told = All-cons IsTold first (prints_at more items (next_of lo hi more) hi upper) (print_told cut (print_of (ids_of (slice_range items lo (next_of lo hi more))))) rest.told;
    }

ids_told_is : (upper : Item) (list : List Id) → IsTold (record { upper = upper; claim = ids list })
ids_told_is upper list e = cc

pub ids_reach : (items : List Item) (lo hi : ℕ) (upper : Item) → Reaches upper (record { upper = upper; claim = ids (ids_of (slice_range items lo hi)) } ∷ [])
ids_reach items lo hi upper = record { ends = refl; told = All-cons IsTold _ [] (ids_told_is upper _) (All-nil IsTold) }

pub split_listed : (items : List Item) (lo hi : ℕ) (upper : Item) → hi - lo < 32 → split_of items lo hi upper ≡ record { upper = upper; claim = ids (ids_of (slice_range items lo hi)) } ∷ []
unfolding split_of
split_listed items lo hi upper lt = rw (lt-ltb (hi - lo) 32 lt) refl

pub split_printed : (items : List Item) (lo hi : ℕ) (upper : Item) → 32 ≤ hi - lo → split_of items lo hi upper ≡ prints_at 15 items lo hi upper
unfolding split_of
split_printed items lo hi upper le = rw (le-ltb (hi - lo) 32 le) refl
