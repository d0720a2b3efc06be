-- What stands beside a chunk, by its index.
use Rattle.std.proofs.Common.{◌≡◌, ℕ, zero, suc, ◌+◌, ◌-◌, ◌*◌, ◌%◌, ◌^◌, ◌<◌, ◌≤◌, inl, inr, List, [], ◌∷◌, ◌++◌, length, get_or, take, add-one, refl, sym, ap, subst, ◌∙◌, arith, length-append}
use Rattle.std.specs.Prelude.{All}
use Rattle.std.proofs.Math.Seq.{take-length}
use Rattle.std.proofs.lemmas.Bool.{cases_lt}
use Rattle.std.proofs.lemmas.List.Concat.{get_or-flat_map}
use Rattle.item_key.specs.declared.Item.{Item}
use Rattle.item_key.specs.Keys.{place, item_of}
use Rattle.neg_print.specs.Total.{total_of}
use Rattle.item_roll.specs.declared.entries.Entry.{Entry}
use Rattle.item_roll.specs.Parts.{Ascending, count_below}
use Rattle.item_roll.specs.Halves.{IsPart}
use Rattle.item_roll.specs.Chunks.{items_at, joined, starts, Tells, IsAt, Ends, HasRoom}
use Rattle.item_roll.proofs.Lists.{at_any}
use Rattle.item_roll.specs.Sums.{sum_at}
use Rattle.item_roll.proofs.Places.{low_item, high_item, count_most}
use Rattle.item_roll.proofs.Totals.{sum_none, sum_append}
use Rattle.std.proofs.Math.Seq.{take-append-add}
use Rattle.std.proofs.lemmas.List.{take-append-le}
use Rattle.std.proofs.Common.{append_assoc}
use Rattle.std.specs.Prelude.{slice_get, Some}
use Rattle.std.proofs.lemmas.Option.{slice_get-get_or}
use Rattle.std.proofs.Math.ListN.{get_or-append}

pub told_before : {V : Type 0} → (its : V → List Item) (top : ℕ) (es : List (Entry V)) (i n t : ℕ) (d : Entry V) → Tells its top n t es → i < length es → (get_or es i d).before ≡ n + starts its es i
told_before {V} its top [] i n t d k lt = absurd (omega arith)
told_before {V} its top (e ∷ es) zero n t d k lt = omega (arith, k.0)
told_before {V} its top (e ∷ es) (suc i) n t d k lt =
    omega (arith, told_before its top es i (n + length (items_at its e)) _ d k.3 (omega arith), length-append (items_at its e) (joined its (take i es)))

pub told_chunk : {V : Type 0} → (its : V → List Item) (top : ℕ) (es : List (Entry V)) (i n t : ℕ) (d : Entry V) → Tells its top n t es → i < length es → IsPart top (items_at its (get_or es i d))
told_chunk {V} its top [] i n t d k lt = absurd (omega arith)
told_chunk {V} its top (e ∷ es) zero n t d k lt = k.2
told_chunk {V} its top (e ∷ es) (suc i) n t d k lt = told_chunk its top es i _ _ d k.3 (omega arith)

pub told_all : {V : Type 0} → (its : V → List Item) (top : ℕ) (es : List (Entry V)) (n t : ℕ) → Tells its top n t es → All (λ e. IsPart top (items_at its e)) es
told_all {V} its top es n t k = λ i d lt. told_chunk its top es i n t d k lt

-- there are no more chunks than items, and at most 512 items in each
pub told_many : {V : Type 0} → (its : V → List Item) (top : ℕ) (es : List (Entry V)) (n t : ℕ) → Tells its top n t es → (length es ≤ length (joined its es)) × (length (joined its es) ≤ length es * top)
told_many {V} its top [] n t k = (omega arith, omega arith)
told_many {V} its top (e ∷ es) n t k =
    let rest = told_many its top es _ _ k.3 in
    let all = length-append (items_at its e) (joined its es) in (
      omega (arith, rest.0, all, k.2.some),
      omega (arith, rest.1, all, k.2.few),
    )

pub starts_next : {V : Type 0} → (its : V → List Item) (es : List (Entry V)) (i : ℕ) (d : Entry V) → i < length es → starts its es (i + 1) ≡ starts its es i + length (items_at its (get_or es i d))
starts_next {V} its [] i d lt = absurd (omega arith)
starts_next {V} its (e ∷ es) zero d lt = omega (arith, length-append (items_at its e) [])
starts_next {V} its (e ∷ es) (suc i) d lt =
    let ih : starts its es (suc i) ≡ starts its es i + length (items_at its (get_or es i d)) = rw (add-one i) at (starts_next its es i d (omega arith)) in
    rw (add-one (suc i)) (omega (arith, ih, length-append (items_at its e) (joined its (take (suc i) es)), length-append (items_at its e) (joined its (take i es))))

pub starts_all : {V : Type 0} → (its : V → List Item) (es : List (Entry V)) → starts its es (length es) ≡ length (joined its es)
starts_all {V} its es = ap (λ (xs : List (Entry V)). length (joined its xs)) (take-length es)

pub starts_most : {V : Type 0} → (its : V → List Item) (es : List (Entry V)) (i : ℕ) → starts its es i ≤ length (joined its es)
starts_most {V} its [] zero = omega arith
starts_most {V} its [] (suc i) = omega arith
starts_most {V} its (e ∷ es) zero = omega arith
starts_most {V} its (e ∷ es) (suc i) = omega (arith, starts_most its es i, length-append (items_at its e) (joined its (take i es)), length-append (items_at its e) (joined its es))

pub item_in : {V : Type 0} → (its : V → List Item) (es : List (Entry V)) (i j : ℕ) (d : Entry V) (x : Item) → i < length es → j < length (items_at its (get_or es i d)) → get_or (joined its es) (starts its es i + j) x ≡ get_or (items_at its (get_or es i d)) j x
item_in {V} its es i j d x lt l = get_or-flat_map (items_at its) es i j d x lt l

-- ---- an entry that was read from the list

pub before_is : {V : Type 0} → (its : V → List Item) (top : ℕ) (es : List (Entry V)) (i : ℕ) (e : Entry V) → Tells its top 0 0 es → i < length es → e ≡ get_or es i e → e.before ≡ starts its es i
before_is {V} its top es i e k lt is = omega (arith, ap (λ (x : Entry V). x.before) is, told_before its top es i 0 0 e k lt)

pub chunk_is : {V : Type 0} → (its : V → List Item) (top : ℕ) (es : List (Entry V)) (i : ℕ) (e : Entry V) → Tells its top 0 0 es → i < length es → e ≡ get_or es i e → IsPart top (items_at its e)
chunk_is {V} its top es i e k lt is = subst (λ (x : Entry V). IsPart top (items_at its x)) (sym is) (told_chunk its top es i 0 0 e k lt)

pub next_is : {V : Type 0} → (its : V → List Item) (es : List (Entry V)) (i : ℕ) (e : Entry V) → i < length es → e ≡ get_or es i e → starts its es (i + 1) ≡ starts its es i + length (items_at its e)
next_is {V} its es i e lt is = starts_next its es i e lt ∙ ap (λ (x : Entry V). starts its es i + length (items_at its x)) (sym is)

pub item_is : {V : Type 0} → (its : V → List Item) (es : List (Entry V)) (i j : ℕ) (e : Entry V) (x : Item) → i < length es → e ≡ get_or es i e → j < length (items_at its e) → get_or (joined its es) (starts its es i + j) x ≡ get_or (items_at its e) j x
item_is {V} its es i j e x lt is l =
    let l2 : j < length (items_at its (get_or es i e)) = subst (λ (y : Entry V). j < length (items_at its y)) is l in
    item_in its es i j e x lt l2 ∙ ap (λ (y : Entry V). get_or (items_at its y) j x) (sym is)

pub record Read {V : Type 0} (its : V → List Item) (es : List (Entry V)) (place : ℕ) (e : Entry V) : Type 0 where
  pub from : e.before ≤ place
  pub within : place - e.before < length (items_at its e)
  pub value : slice_get (joined its es) place ≡ slice_get (items_at its e) (place - e.before)

pub read : {V : Type 0} → (its : V → List Item) (top : ℕ) (es : List (Entry V)) (i p : ℕ) (e : Entry V) → Tells its top 0 0 es → IsAt its es p i → e ≡ get_or es i e → Read its es p e
read {V} its top es i p e k at is =
    let b = before_is its top es i e k at.within is in
    let n = next_is its es i e at.within is in
    let le : e.before ≤ p = omega (arith, b, at.from) in
    let lt : p - e.before < length (items_at its e) = omega (arith, b, n, at.below, at.from) in
    let sum : starts its es i + (p - e.before) ≡ p = omega (arith, b, at.from) in
    let all : p < length (joined its es) = omega (arith, at.below, starts_most its es (i + 1)) in
    let same : get_or (joined its es) p (item_of 0 []) ≡ get_or (items_at its e) (p - e.before) (item_of 0 []) =
    ap (λ (q : ℕ). get_or (joined its es) q (item_of 0 [])) (sym sum) ∙ item_is its es i (p - e.before) e (item_of 0 []) at.within is lt in
    record { from = le; within = lt; value = slice_get-get_or (joined its es) p (item_of 0 []) all ∙ ap (λ (y : Item). Some y) same ∙ sym (slice_get-get_or (items_at its e) (p - e.before) (item_of 0 []) lt) }

-- ---- order within a chunk

pub all_front : (P : Item → Type 0) (xs ys : List Item) → All P (xs ++ ys) → All P xs
all_front P xs ys h = λ k d lt. subst P (get_or-append xs ys d k lt) (h k d (omega (arith, length-append xs ys)))

pub ascending_front : (xs ys : List Item) → Ascending (xs ++ ys) → Ascending xs
ascending_front [] ys up = tt
ascending_front (x ∷ xs) ys up = (all_front (λ y. place x < place y) xs ys up.0, ascending_front xs ys up.1)

pub ascending_back : (xs ys : List Item) → Ascending (xs ++ ys) → Ascending ys
ascending_back [] ys up = up
ascending_back (x ∷ xs) ys up = ascending_back xs ys up.1

ascending_at : {V : Type 0} → (its : V → List Item) (es : List (Entry V)) (i : ℕ) (d : Entry V) → Ascending (joined its es) → i < length es → Ascending (items_at its (get_or es i d))
ascending_at {V} its [] i d up lt = absurd (omega arith)
ascending_at {V} its (e ∷ es) zero d up lt = ascending_front (items_at its e) (joined its es) up
ascending_at {V} its (e ∷ es) (suc i) d up lt = ascending_at its es i d (ascending_back (items_at its e) (joined its es) up) (omega arith)

pub ascending_is : {V : Type 0} → (its : V → List Item) (es : List (Entry V)) (i : ℕ) (e : Entry V) → Ascending (joined its es) → i < length es → e ≡ get_or es i e → Ascending (items_at its e)
ascending_is {V} its es i e up lt is = subst (λ (x : Entry V). Ascending (items_at its x)) (sym is) (ascending_at its es i e up lt)

-- the count below a bound, from where a chunk begins
pub found : {V : Type 0} → (its : V → List Item) (top : ℕ) (es : List (Entry V)) (i : ℕ) (e : Entry V) (b : Item) → Tells its top 0 0 es → Ascending (joined its es) → Ends its es (count_below (joined its es) b) i → e ≡ get_or es i e
    → e.before + count_below (items_at its e) b ≡ count_below (joined its es) b
found {V} its top es i e b k up at is = omega (arith, first, most (count_below (items_at its e) b) refl, least)
  where
    asc : Ascending (items_at its e)
    asc = ascending_is its es i e up at.within is

    first : e.before ≡ starts its es i
    first = before_is its top es i e k at.within is

    next : starts its es (i + 1) ≡ starts its es i + length (items_at its e)
    next = next_is its es i e at.within is

    below_all : starts its es (i + 1) ≤ length (joined its es)
    below_all = starts_most its es (i + 1)

    most : (m : ℕ) → m ≡ count_below (items_at its e) b → starts its es i + m ≤ count_below (joined its es) b
    most zero me = omega (arith, at.from)
    most (suc m) me =
        let lt : m < length (items_at its e) = omega (arith, me, count_most (items_at its e) b) in
        let x = get_or (items_at its e) m b in
        let low : place (get_or (items_at its e) m b) < place b = elim (cases_lt (place (get_or (items_at its e) m b)) (place b)) [
          | inl h ↦ h
          | inr h ↦ absurd (omega (arith, high_item (items_at its e) m b b asc lt h, me))
        ] in
        let same = item_is its es i m e b at.within is lt in
        let in_all : place (get_or (joined its es) (starts its es i + m) b) < place b = subst (λ (y : Item). place y < place b) (sym same) low in
        omega (arith, low_item (joined its es) (starts its es i + m) b b up (omega (arith, next, below_all, lt)) in_all)

    least : count_below (joined its es) b ≤ starts its es i + count_below (items_at its e) b
    least = elim (cases_lt (count_below (items_at its e) b) (length (items_at its e))) [
      | inl lt ↦
          let m = count_below (items_at its e) b in
          let same = item_is its es i (count_below (items_at its e) b) e b at.within is lt in
          elim (cases_lt (place (get_or (items_at its e) (count_below (items_at its e) b) b)) (place b)) [
            | inl h ↦ absurd (omega (arith, low_item (items_at its e) (count_below (items_at its e) b) b b asc lt h))
            | inr h ↦
                let in_all : place b ≤ place (get_or (joined its es) (starts its es i + count_below (items_at its e) b) b) = subst (λ (y : Item). place b ≤ place y) (sym same) h in
                high_item (joined its es) (starts its es i + count_below (items_at its e) b) b b up (omega (arith, next, below_all, lt)) in_all
          ]
      | inr ge ↦ omega (arith, at.upto, next, ge)
    ]

pub none_in : {V : Type 0} → (its : V → List Item) (es : List (Entry V)) (b : Item) → length es ≡ 0 → 0 ≡ count_below (joined its es) b
unfolding count_below
none_in {V} its [] b e = refl
none_in {V} its (x ∷ es) b e = absurd (omega arith)

pub told_sum : {V : Type 0} → (its : V → List Item) (top : ℕ) (es : List (Entry V)) (i n t : ℕ) (d : Entry V) → t < 2 ^ 256 → Tells its top n t es → i < length es → total_of (get_or es i d).sum_before ≡ (t + sum_at (joined its (take i es))) % 2 ^ 256
told_sum {V} its top [] i n t d small k lt = absurd (omega arith)
told_sum {V} its top (e ∷ es) zero n t d small k lt = omega (arith, k.1, sum_none, small)
told_sum {V} its top (e ∷ es) (suc i) n t d small k lt =
    let ih = told_sum its top es i (n + length (items_at its e)) ((t + sum_at (items_at its e)) % 2 ^ 256) d (omega arith) k.3 (omega arith) in
    let a = sum_append (items_at its e) (joined its (take i es)) in
    omega (arith, ih, a)

pub take_in : {V : Type 0} → (its : V → List Item) (es : List (Entry V)) (i j : ℕ) (d : Entry V) → i < length es → j ≤ length (items_at its (get_or es i d)) → take (starts its es i + j) (joined its es) ≡ joined its (take i es) ++ take j (items_at its (get_or es i d))
take_in {V} its [] i j d lt le = absurd (omega arith)
take_in {V} its (e ∷ es) zero j d lt le =
    let z : 0 + j ≡ j = omega arith in
    rw z (take-append-le j (items_at its e) (joined its es) le)
take_in {V} its (e ∷ es) (suc i) j d lt le =
    let n : starts its (e ∷ es) (suc i) + j ≡ length (items_at its e) + (starts its es i + j) = omega (arith, length-append (items_at its e) (joined its (take i es))) in
    ap (λ (m : ℕ). take m (items_at its e ++ joined its es)) n ∙ take-append-add (items_at its e) (joined its es) (starts its es i + j)
    ∙ ap (λ (ys : List Item). items_at its e ++ ys) (take_in its es i j d (omega arith) le) ∙ sym (append_assoc (items_at its e) (joined its (take i es)) (take j (items_at its (get_or es i d))))

pub small_sum : {V : Type 0} → (its : V → List Item) (top : ℕ) (es : List (Entry V)) (i : ℕ) (e : Entry V) → Tells its top 0 0 es → i < length es → e ≡ get_or es i e → total_of e.sum_before < 2 ^ 256
small_sum {V} its top es i e k lt is = omega (arith, told_sum its top es i 0 0 e (omega arith) k lt, ap (λ (x : Entry V). total_of x.sum_before) is)

-- the sum of what stands before a place, from where its chunk begins
pub sum_to : {V : Type 0} → (its : V → List Item) (top : ℕ) (es : List (Entry V)) (i p : ℕ) (e : Entry V) → Tells its top 0 0 es → IsAt its es p i → e ≡ get_or es i e
    → (total_of e.sum_before + sum_at (take (p - e.before) (items_at its e))) % 2 ^ 256 ≡ sum_at (take p (joined its es))
sum_to {V} its top es i p e k at is =
    let b = before_is its top es i e k at.within is in
    let n = next_is its es i e at.within is in
    let t = told_sum its top es i 0 0 e (omega arith) k at.within in
    let s = ap (λ (x : Entry V). total_of x.sum_before) is in
    let le : p - e.before ≤ length (items_at its (get_or es i e)) = omega (arith, b, n, at.below, at.from, ap (λ (x : Entry V). length (items_at its x)) is) in
    let cut = take_in its es i (p - e.before) e at.within le in
    let q : starts its es i + (p - e.before) ≡ p = omega (arith, b, at.from) in
    let all : take p (joined its es) ≡ joined its (take i es) ++ take (p - e.before) (items_at its e) =
    ap (λ (m : ℕ). take m (joined its es)) (sym q) ∙ cut ∙ ap (λ (x : Entry V). joined its (take i es) ++ take (p - e.before) (items_at its x)) (sym is) in
    let whole = ap (λ (xs : List Item). sum_at xs) all ∙ sum_append (joined its (take i es)) (take (p - e.before) (items_at its e)) in
    omega (arith, t, s, whole)

-- ---- where an item is put

-- the part at that index takes an item at that place
pub record PutAt {V : Type 0} (its : V → List Item) (top : ℕ) (es : List (Entry V)) (place i : ℕ) (e : Entry V) : Type 0 where
  pub within : i < length es
  pub from : e.before ≤ place
  pub inside : place - e.before ≤ length (items_at its e)
  pub there : starts its es i + (place - e.before) ≡ place
  pub part : IsPart top (items_at its e)
  pub few : length (items_at its e) ≤ length (joined its es)

pub placed : {V : Type 0} → (its : V → List Item) (top : ℕ) (es got : List (Entry V)) (i p q : ℕ) (e : Entry V) → got ≡ es → q ≡ p - 1 → Tells its top 0 0 es → IsAt its got q i → e ≡ get_or es i e → PutAt its top es p i e
placed {V} its top es got i p q e same before k at is =
    let there : IsAt its es (p - 1) i = rw (same, before) at at in
    let b = before_is its top es i e k there.within is in
    let n = next_is its es i e there.within is in
    record {
      within = there.within;
      from = omega (arith, b, there.from);
      inside = omega (arith, b, n, there.below);
      there = omega (arith, b, there.from);
      part = chunk_is its top es i e k there.within is;
      few = omega (arith, n, starts_most its es (i + 1));
    }

items_same : {V : Type 0} → (its : V → List Item) (es : List (Entry V)) (i : ℕ) (e d : Entry V) → i < length es → e ≡ get_or es i e → items_at its (get_or es i d) ≡ items_at its e
items_same {V} its es i e d lt is = ap (items_at its) (at_any es i d e lt ∙ sym is)

pub room_in : {V : Type 0} → (its : V → List Item) (top : ℕ) (es : List (Entry V)) (i p : ℕ) (e : Entry V) → PutAt its top es p i e → e ≡ get_or es i e → length (items_at its e) < top → HasRoom its top es p i (p - e.before)
room_in {V} its top es i p e put is room = record {
  within = put.within;
  there = put.there;
  inside = λ d. omega (arith, put.inside, ap length (items_same its es i e d put.within is));
  room = λ d. omega (arith, room, ap length (items_same its es i e d put.within is));
}

-- what is known of the items of an entry that was read
pub at_entry : {V : Type 0} → (its : V → List Item) (P : List Item → Type 0) (es : List (Entry V)) (i : ℕ) (e : Entry V) → i < length es → e ≡ get_or es i e → P (items_at its e) → (d : Entry V) → P (items_at its (get_or es i d))
at_entry {V} its P es i e lt is h d = subst P (sym (items_same its es i e d lt is)) h

-- the part at an index has some items, and no more than all
pub at_some : {V : Type 0} → (its : V → List Item) (top : ℕ) (es : List (Entry V)) (i : ℕ) (d : Entry V) → Tells its top 0 0 es → i < length es → 0 < length (items_at its (get_or es i d))
at_some {V} its top es i d k lt = (told_chunk its top es i 0 0 d k lt).some

pub at_less : {V : Type 0} → (its : V → List Item) (es : List (Entry V)) (i : ℕ) (d : Entry V) → i < length es → length (items_at its (get_or es i d)) ≤ length (joined its es)
at_less {V} its es i d lt = omega (arith, starts_next its es i d lt, starts_most its es (i + 1))
