-- What stands beside the chunks after one was cut in two.
use Rattle.std.proofs.Common.{◌≡◌, ℕ, zero, suc, ◌+◌, ◌-◌, ◌%◌, ◌^◌, ◌<◌, ◌≤◌, List, [], ◌∷◌, ◌++◌, length, take, drop, get_or, append_assoc, length-append, add-one, refl, sym, ap, subst, ◌∙◌, arith}
use Rattle.std.specs.Prelude.{slice_set}
use Rattle.std.specs.List.{insert}
use Rattle.std.proofs.lemmas.List.{take-append-drop, length-take, length-drop}
use Rattle.item_key.specs.declared.Item.{Item}
use Rattle.neg_print.specs.Total.{total_of}
use Rattle.item_roll.specs.declared.entries.Entry.{Entry}
use Rattle.std.specs.Prelude.{All}
use Rattle.std.proofs.lemmas.Grind.{flat_map-append}
use Rattle.std.proofs.lemmas.List.Elements.{All-take, All-drop}
use Rattle.item_roll.specs.Halves.{IsPart, IsHalved}
use Rattle.item_roll.specs.Sums.{sum_at}
use Rattle.item_roll.specs.Chunks.{items_at, joined, starts, Tells, AreHalves, Cut, HasRoom}
use Rattle.item_roll.proofs.Kept.{starts_next, PutAt}
use Rattle.item_roll.proofs.Totals.{sum_append}

abbrev in_two : {V : Type 0} → List (Entry V) → ℕ → Entry V → Entry V → List (Entry V)
in_two {V} es i l r = take i es ++ l ∷ r ∷ drop (suc i) es

pub cut_list : {V : Type 0} → (es : List (Entry V)) (i : ℕ) (l r : Entry V) → i < length es → slice_set (insert es (i + 1) r) i l ≡ in_two es i l r
cut_list {V} [] i l r lt = absurd (omega arith)
cut_list {V} (e ∷ es) zero l r lt = refl
cut_list {V} (e ∷ es) (suc i) l r lt =
    let rest : slice_set (insert es (suc i) r) i l ≡ in_two es i l r = rw (add-one i) at (cut_list es i l r (omega arith)) in
    rw (add-one (suc i)) (ap (λ (xs : List (Entry V)). e ∷ xs) rest)

two_join : {V : Type 0} → (its : V → List Item) (es : List (Entry V)) (i : ℕ) (l r : Entry V) → i < length es → ((d : Entry V) → AreHalves its (get_or es i d) l r) → joined its (in_two es i l r) ≡ joined its es
two_join {V} its [] i l r lt h = absurd (omega arith)
two_join {V} its (e ∷ es) zero l r lt h = sym (append_assoc (items_at its l) (items_at its r) (joined its es)) ∙ ap (λ (xs : List Item). xs ++ joined its es) (h e).items
two_join {V} its (e ∷ es) (suc i) l r lt h = ap (λ (xs : List Item). items_at its e ++ xs) (two_join its es i l r (omega arith) h)

two_tell : {V : Type 0} → (its : V → List Item) (top : ℕ) (es : List (Entry V)) (i n t : ℕ) (l r : Entry V) → Tells its top n t es → i < length es → ((d : Entry V) → AreHalves its (get_or es i d) l r)
    → Tells its top n t (in_two es i l r)
two_tell {V} its top [] i n t l r k lt h = absurd (omega arith)
two_tell {V} its top (e ∷ es) zero n t l r k lt h =
    let g = h e in
    let both = length-append (items_at its l) (items_at its r) in
    let all = ap length g.items in
    let count : n + length (items_at its e) ≡ n + length (items_at its l) + length (items_at its r) = omega (arith, both, all) in
    let whole = ap sum_at g.items in
    let parts = sum_append (items_at its l) (items_at its r) in
    let total : (t + sum_at (items_at its e)) % 2 ^ 256 ≡ ((t + sum_at (items_at its l)) % 2 ^ 256 + sum_at (items_at its r)) % 2 ^ 256 = omega (arith, whole, parts) in
    let rest : Tells its top (n + length (items_at its l) + length (items_at its r)) (((t + sum_at (items_at its l)) % 2 ^ 256 + sum_at (items_at its r)) % 2 ^ 256) es =
    subst (λ (m : ℕ). Tells its top m (((t + sum_at (items_at its l)) % 2 ^ 256 + sum_at (items_at its r)) % 2 ^ 256) es) count (subst (λ (u : ℕ). Tells its top (n + length (items_at its e)) u es) total k.3) in
    let second : total_of r.sum_before ≡ (t + sum_at (items_at its l)) % 2 ^ 256 = g.sum_second ∙ ap (λ (u : ℕ). (u + sum_at (items_at its l)) % 2 ^ 256) k.1 in (
      g.before_first ∙ k.0,
      ap total_of g.sum_first ∙ k.1,
      record { some = g.some_first; few = omega (arith, both, all, k.2.few) },
      (omega (arith, g.before_second, k.0), second, record { some = g.some_second; few = omega (arith, both, all, k.2.few) }, rest),
    )
two_tell {V} its top (e ∷ es) (suc i) n t l r k lt h = (k.0, k.1, k.2, two_tell its top es i _ _ l r k.3 (omega arith) h)

pub cut_join : {V : Type 0} → (its : V → List Item) (es fs : List (Entry V)) (i : ℕ) (xs : List Item) → i < length es → Cut its es i xs fs → joined its fs ≡ joined its es
cut_join {V} its es fs i xs lt c = ap (joined its) c.list ∙ two_join its es i c.left c.right lt c.halves

pub cut_tell : {V : Type 0} → (its : V → List Item) (top : ℕ) (es fs : List (Entry V)) (i : ℕ) (xs : List Item) → Tells its top 0 0 es → i < length es → Cut its es i xs fs → Tells its top 0 0 fs
cut_tell {V} its top es fs i xs k lt c = subst (λ (ys : List (Entry V)). Tells its top 0 0 ys) (sym c.list) (two_tell its top es i 0 0 c.left c.right k lt c.halves)

two_first : {V : Type 0} → (es : List (Entry V)) (i : ℕ) (l r d : Entry V) → i < length es → get_or (in_two es i l r) i d ≡ l
two_first {V} [] i l r d lt = absurd (omega arith)
two_first {V} (e ∷ es) zero l r d lt = refl
two_first {V} (e ∷ es) (suc i) l r d lt = two_first es i l r d (omega arith)

two_second : {V : Type 0} → (es : List (Entry V)) (i : ℕ) (l r d : Entry V) → i < length es → get_or (in_two es i l r) (suc i) d ≡ r
two_second {V} [] i l r d lt = absurd (omega arith)
two_second {V} (e ∷ es) zero l r d lt = refl
two_second {V} (e ∷ es) (suc i) l r d lt = two_second es i l r d (omega arith)

two_len : {V : Type 0} → (es : List (Entry V)) (i : ℕ) (l r : Entry V) → i < length es → length (in_two es i l r) ≡ length es + 1
two_len {V} [] i l r lt = absurd (omega arith)
two_len {V} (e ∷ es) zero l r lt = omega arith
two_len {V} (e ∷ es) (suc i) l r lt = omega (arith, two_len es i l r (omega arith))

two_starts : {V : Type 0} → (its : V → List Item) (es : List (Entry V)) (i : ℕ) (l r : Entry V) → i < length es → starts its (in_two es i l r) i ≡ starts its es i
two_starts {V} its [] i l r lt = absurd (omega arith)
two_starts {V} its (e ∷ es) zero l r lt = refl
two_starts {V} its (e ∷ es) (suc i) l r lt = omega (arith, two_starts its es i l r (omega arith), length-append (items_at its e) (joined its (take i (in_two es i l r))), length-append (items_at its e) (joined its (take i es)))

halved : {V : Type 0} → (its : V → List Item) (es : List (Entry V)) (i : ℕ) (e l r : Entry V) → ((d : Entry V) → AreHalves its (get_or es i d) l r) → e ≡ get_or es i e → length (items_at its l) + length (items_at its r) ≡ length (items_at its e)
halved {V} its es i e l r h is = omega (arith, length-append (items_at its l) (items_at its r), ap length (h e).items, ap (λ (x : Entry V). length (items_at its x)) is)

-- a place in the first half
pub room_first : {V : Type 0} → (its : V → List Item) (top : ℕ) (es fs : List (Entry V)) (p i j : ℕ) (e : Entry V) (xs : List Item) → PutAt its top es p i e → j ≡ p - e.before → e ≡ get_or es i e → Cut its es i xs fs → j ≤ length xs → HasRoom its top fs p i j
room_first {V} its top es fs p i j e xs put at is c le = subst (λ (ys : List (Entry V)). HasRoom its top ys p i j) (sym c.list) (record {
  within = omega (arith, two_len es i c.left c.right put.within);
  there = omega (arith, two_starts its es i c.left c.right put.within, put.there, at);
  inside = λ d. omega (arith, len d, le);
  room = λ d. omega (arith, len d, less);
})
  where
    len : (d : Entry V) → length (items_at its (get_or (in_two es i c.left c.right) i d)) ≡ length xs
    len d = ap (λ (x : Entry V). length (items_at its x)) (two_first es i c.left c.right d put.within) ∙ ap length c.first_is

    less : length xs < top
    less = omega (arith, halved its es i e c.left c.right c.halves is, ap length c.first_is, (c.halves e).some_second, put.part.few)

-- and in the second
pub room_second : {V : Type 0} → (its : V → List Item) (top : ℕ) (es fs : List (Entry V)) (p i j : ℕ) (e : Entry V) (xs : List Item) → PutAt its top es p i e → j ≡ p - e.before → e ≡ get_or es i e → Cut its es i xs fs → length xs < j → HasRoom its top fs p (i + 1) (j - length xs)
room_second {V} its top es fs p i j e xs put at is c above = subst (λ (ys : List (Entry V)). HasRoom its top ys p (i + 1) (j - length xs)) (sym c.list) (record {
  within = omega (arith, two_len es i c.left c.right put.within);
  there = omega (arith, next, first_length, two_starts its es i c.left c.right put.within, put.there, at, above);
  inside = λ d. omega (arith, len d, both, first_of, put.inside, at);
  room = λ d. omega (arith, len d, both, first_of, some, put.part.few);
})
  where
    first_of : length (items_at its c.left) ≡ length xs
    first_of = ap length c.first_is

    some : 0 < length (items_at its c.left)
    some = (c.halves e).some_first

    both : length (items_at its c.left) + length (items_at its c.right) ≡ length (items_at its e)
    both = halved its es i e c.left c.right c.halves is

    first_length : length (items_at its (get_or (in_two es i c.left c.right) i c.left)) ≡ length xs
    first_length = ap (λ (x : Entry V). length (items_at its x)) (two_first es i c.left c.right c.left put.within) ∙ ap length c.first_is

    next : starts its (in_two es i c.left c.right) (i + 1) ≡ starts its (in_two es i c.left c.right) i + length (items_at its (get_or (in_two es i c.left c.right) i c.left))
    next = starts_next its (in_two es i c.left c.right) i c.left (omega (arith, put.within, two_len es i c.left c.right put.within))

    len : (d : Entry V) → length (items_at its (get_or (in_two es i c.left c.right) (i + 1) d)) ≡ length (items_at its c.right)
    len d = rw (add-one i) (ap (λ (x : Entry V). length (items_at its x)) (two_second es i c.left c.right d put.within))

joined_some : {V : Type 0} → (its : V → List Item) (top : ℕ) (es : List (Entry V)) → 0 < length es → All (λ e. IsPart top (items_at its e)) es → 0 < length (joined its es)
joined_some {V} its top [] lt all = absurd (omega arith)
joined_some {V} its top (e ∷ es) lt all = omega (arith, (all 0 e (omega arith)).some, length-append (items_at its e) (joined its es))

-- a run's first parts and its others
pub run_halves : {V : Type 0} → (its : V → List Item) (top : ℕ) (es : List (Entry V)) (n : ℕ) (items l r : List Item) → joined its es ≡ items → l ≡ joined its (take n es) → r ≡ joined its (drop n es) → 0 < n → n < length es
    → All (λ e. IsPart top (items_at its e)) es → IsHalved items l r
run_halves {V} its top es n items l r list left right some more all = record {
  whole = ap (λ (xs : List Item). xs ++ r) left ∙ ap (λ (xs : List Item). joined its (take n es) ++ xs) right ∙ sym (flat_map-append (items_at its) (take n es) (drop n es)) ∙ ap (joined its) (take-append-drop n es) ∙ list;
  some_first = omega (arith, ap length left, joined_some its top (take n es) (omega (arith, length-take n es)) (All-take (λ e. IsPart top (items_at its e)) n es all));
  some_second = omega (arith, ap length right, joined_some its top (drop n es) (omega (arith, length-drop n es)) (All-drop (λ e. IsPart top (items_at its e)) n es all));
}
