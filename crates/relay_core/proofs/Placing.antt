-- Subscriptions in the order of their names.
use Rattle.std.proofs.Common.{◌≡◌, ℕ, zero, suc, ◌+◌, ◌<◌, ◌||◌, Bool, true, false, true≢false, cond, List, [], ◌∷◌, ◌++◌, length, take, drop, refl, ap, sym, subst, ◌∙◌, arith}
use Rattle.std.specs.Prelude.{filter, bytes_eq, not, slice_set, slice_index_or, Result, Ok, Err, OnOk, OnErr}
use Rattle.std.specs.declared.alloc.AllocError.{AllocError}
use Rattle.std.specs.List.{list_any, AllByRecursion}
use Rattle.std.specs.Ordering.{nat_cmp, is_lt, ordering_reverse}
use Rattle.std.specs.Cmp.Lexicographic.{slice_cmp}
use Rattle.std.specs.declared.cmp.Ordering.{Ordering}
use Rattle.std.specs.declared.cmp.Ordering.TheVariants.{Less, Equal, Greater}
use Rattle.std.proofs.lemmas.Cmp.{nat_list_cmp_total}
use Rattle.std.proofs.lemmas.List.{append-nil, drop_all, take_all}
use Rattle.std.proofs.lemmas.Map.Lookups.{exact_bytes}
use Rattle.std.proofs.lemmas.Slice.Eq.{bytes_eq-Decides}
use Rattle.relay_core.specs.declared.subs.Subscription.{Subscription}
use Rattle.relay_core.specs.Kept.{is_before, InOrder, put, other_subs}
use Rattle.relay_core.specs.Due.{further, marked}

-- ---- the order of names

less_is : (o : Ordering) → is_lt o ≡ true → o ≡ Less
less_is Less h = refl
less_is Equal h = absurd (true≢false (sym h))
less_is Greater h = absurd (true≢false (sym h))

before_trans : (a b c : List ℕ) → is_before a b ≡ true → is_before b c ≡ true → is_before a c ≡ true
before_trans a b c h k = ap is_lt (nat_list_cmp_total.trans a b c (less_is _ h) (less_is _ k))

turned : (o : Ordering) → is_lt o ≡ false → (o ≡ Equal → ⊥) → is_lt (ordering_reverse o) ≡ true
turned Less h other = absurd (true≢false h)
turned Equal h other = absurd (other refl)
turned Greater h other = refl

apart : (a b : List ℕ) → a ≡ b → bytes_eq b a ≡ false → ⊥
apart a b same other = true≢false (sym ((bytes_eq-Decides b a).1 (sym same)) ∙ other)

is_after : (a b : List ℕ) → is_before a b ≡ false → bytes_eq b a ≡ false → is_before b a ≡ true
is_after a b h other = ap is_lt (nat_list_cmp_total.antisymm b a) ∙ turned (slice_cmp nat_cmp a b) h (λ e. apart a b (exact_bytes a b e) other)

-- ---- in order

all_kept : (P : Subscription → Type 0) (p : Subscription → Bool) (subs : List Subscription) → AllByRecursion P subs → AllByRecursion P (filter p subs)
all_kept P p [] h = tt
all_kept P p (s ∷ subs) h = elim (p s) as (λ b. AllByRecursion P (cond b (s ∷ filter p subs) (filter p subs))) [
  | true ↦ (h.0, all_kept P p subs h.1)
  | false ↦ all_kept P p subs h.1
]

-- some of those that are in order are
pub in_order_kept : (p : Subscription → Bool) (subs : List Subscription) → InOrder subs → InOrder (filter p subs)
in_order_kept p [] h = tt
in_order_kept p (s ∷ subs) h = elim (p s) as (λ b. InOrder (cond b (s ∷ filter p subs) (filter p subs))) [
  | true ↦ (all_kept _ p subs h.0, in_order_kept p subs h.1)
  | false ↦ in_order_kept p subs h.1
]

all_marked : (a : List ℕ) (n : ℕ) (subs : List Subscription) → AllByRecursion (λ (t : Subscription). is_before a t.name ≡ true) subs → AllByRecursion (λ (t : Subscription). is_before a t.name ≡ true) (marked n subs)
all_marked a n [] h = tt
all_marked a n (s ∷ subs) h = (h.0, all_marked a n subs h.1)

pub in_order_marked : (n : ℕ) (subs : List Subscription) → InOrder subs → InOrder (marked n subs)
in_order_marked n [] h = tt
in_order_marked n (s ∷ subs) h = (all_marked s.name n subs h.0, in_order_marked n subs h.1)

all_put : (P : Subscription → Type 0) (s : Subscription) (subs : List Subscription) → P s → AllByRecursion P subs → AllByRecursion P (put s subs)
all_put P s [] one h = (one, tt)
all_put P s (t ∷ subs) one h = elim (is_before s.name t.name) as (λ b. AllByRecursion P (cond b (s ∷ t ∷ subs) (t ∷ put s subs))) [
  | true ↦ (one, h)
  | false ↦ (h.0, all_put P s subs one h.1)
]

all_behind : (a b : List ℕ) (subs : List Subscription) → is_before a b ≡ true → AllByRecursion (λ (u : Subscription). is_before b u.name ≡ true) subs → AllByRecursion (λ (u : Subscription). is_before a u.name ≡ true) subs
all_behind a b [] lt h = tt
all_behind a b (u ∷ subs) lt h = (before_trans a b u.name lt h.0, all_behind a b subs lt h.1)

or_first : (a b : Bool) → (a || b) ≡ false → a ≡ false
or_first true b h = absurd (true≢false h)
or_first false b h = refl

or_last : (a b : Bool) → (a || b) ≡ false → b ≡ false
or_last true b h = absurd (true≢false h)
or_last false b h = h

put_at : (b : Bool) (s t : Subscription) (subs : List Subscription) → is_before s.name t.name ≡ b → bytes_eq t.name s.name ≡ false → InOrder (t ∷ subs) → InOrder (put s subs) → InOrder (cond b (s ∷ t ∷ subs) (t ∷ put s subs))
put_at true s t subs is other h later = ((is, all_behind s.name t.name subs is h.0), h)
put_at false s t subs is other h later = (all_put _ s subs (is_after s.name t.name is other) h.0, later)

-- one of a new name in its place
pub in_order_put : (s : Subscription) (subs : List Subscription) → list_any (λ (t : Subscription). bytes_eq t.name s.name) subs ≡ false → InOrder subs → InOrder (put s subs)
in_order_put s [] other h = (tt, tt)
in_order_put s (t ∷ subs) other h =
    put_at (is_before s.name t.name) s t subs refl (or_first _ _ other) h (in_order_put s subs (or_last (bytes_eq t.name s.name) _ other) h.1)

left_at : (b : Bool) (name : List ℕ) (t : Subscription) (rest : List Subscription) → bytes_eq t.name name ≡ b → list_any (λ (u : Subscription). bytes_eq u.name name) rest ≡ false → list_any (λ (u : Subscription). bytes_eq u.name name) (cond (not b) (t ∷ rest) rest) ≡ false
left_at true name t rest is h = h
left_at false name t rest is h = rw is h

-- without those of a name there is none of it
pub none_left : (name : List ℕ) (subs : List Subscription) → list_any (λ (t : Subscription). bytes_eq t.name name) (other_subs name subs) ≡ false
none_left name [] = refl
none_left name (t ∷ subs) = left_at (bytes_eq t.name name) name t (other_subs name subs) refl (none_left name subs)

-- ---- what a refused growth leaves

pub in_order_either : (r : Result (Unit {0}) AllocError) (s : Subscription) (old new : List Subscription) → list_any (λ (t : Subscription). bytes_eq t.name s.name) old ≡ false → InOrder old → OnOk r (new ≡ put s old) → OnErr r (new ≡ old) → InOrder new
in_order_either (Ok u) s old new other h ok err = subst InOrder (sym ok) (in_order_put s old other h)
in_order_either (Err e) s old new other h ok err = subst InOrder (sym err) h

-- ---- marks

set_more : (n : ℕ) (all : List Subscription) (i : ℕ) (d : Subscription) → i < length all
    → slice_set (marked n (take i all) ++ drop i all) i (record { name = (slice_index_or (marked n (take i all) ++ drop i all) i d).name; filters = (slice_index_or (marked n (take i all) ++ drop i all) i d).filters; mark = further (slice_index_or (marked n (take i all) ++ drop i all) i d).mark n })
    ≡ marked n (take (suc i) all) ++ drop (suc i) all
set_more n [] i d lt = absurd (omega arith)
set_more n (s ∷ all) zero d lt = refl
set_more n (s ∷ all) (suc i) d lt = ap (λ xs. record { name = s.name; filters = s.filters; mark = further s.mark n } ∷ xs) (set_more n all i d (omega arith))

pub marked_more : (n : ℕ) (all subs : List Subscription) (i k : ℕ) (d : Subscription) → k ≡ i + 1 → i < length all → subs ≡ marked n (take i all) ++ drop i all
    → slice_set subs i (record { name = (slice_index_or subs i d).name; filters = (slice_index_or subs i d).filters; mark = further (slice_index_or subs i d).mark n }) ≡ marked n (take k all) ++ drop k all
marked_more n all subs i k d is lt so_far =
    let one : k ≡ suc i = omega (arith, is) in
    ap (λ xs. slice_set xs i (record { name = (slice_index_or xs i d).name; filters = (slice_index_or xs i d).filters; mark = further (slice_index_or xs i d).mark n })) so_far
    ∙ set_more n all i d lt ∙ ap (λ m. marked n (take m all) ++ drop m all) (sym one)

marked_len : (n : ℕ) (subs : List Subscription) → length (marked n subs) ≡ length subs
marked_len n [] = refl
marked_len n (s ∷ subs) = ap suc (marked_len n subs)

-- what is written back into a vector of so many
pub marked_back : (n len : ℕ) (old new : List Subscription) → new ≡ marked n old → len ≡ length old → InOrder old → InOrder (take len (new ++ drop (length new) old))
marked_back n len old new is all h =
    let same : length new ≡ length old = ap length is ∙ marked_len n old in
    let back : take len (new ++ drop (length new) old) ≡ marked n old =
    ap (λ xs. take len (new ++ xs)) (drop_all (length new) old (omega (arith, same))) ∙ ap (take len) (append-nil new) ∙ take_all len new (omega (arith, same, all)) ∙ is
    in
    subst InOrder (sym back) (in_order_marked n old h)
