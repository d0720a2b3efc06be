-- What stands beside the chunks after an item was put into one of them.
use Rattle.std.proofs.Common.{◌≡◌, ℕ, zero, suc, ◌+◌, ◌%◌, ◌^◌, ◌<◌, ◌≤◌, List, [], ◌∷◌, ◌++◌, length, take, length-append, get_or, refl, sym, ap, subst, ◌∙◌, arith}
use Rattle.std.proofs.lemmas.List.{length-set}
use Rattle.std.specs.Prelude.{slice_set}
use Rattle.std.specs.List.{insert}
use Rattle.std.specs.Arc.{arc_value}
use Rattle.item_key.specs.declared.Item.{Item}
use Rattle.neg_print.specs.Print.{little_number}
use Rattle.neg_print.specs.Total.{total_of}
use Rattle.item_roll.specs.declared.entries.Entry.{Entry}
use Rattle.item_roll.specs.Sums.{sum_at}
use Rattle.item_roll.specs.Halves.{IsPart}
use Rattle.item_roll.specs.Chunks.{items_at, joined, starts, Tells, IsRaised, Grown, AreFew}
use Rattle.item_roll.proofs.Totals.{sum_insert}
use Rattle.item_roll.proofs.Kept.{told_before, starts_most}

pub told_few : {V : Type 0} → (its : V → List Item) (top : ℕ) (es : List (Entry V)) → Tells its top 0 0 es → length (joined its es) ≤ 1000000 → AreFew es
told_few {V} its top es k few i d lt = omega (arith, told_before its top es i 0 0 d k lt, starts_most its es i, few)

pub set_few : {V : Type 0} → (es : List (Entry V)) (at : ℕ) (f d : Entry V) → at < length es → f.before ≡ (get_or es at d).before → AreFew es → (i : ℕ) (b : Entry V) → i < length es → (get_or (slice_set es at f) i b).before ≤ 1000000
set_few {V} [] at f d lt is few i b l = absurd (omega arith)
set_few {V} (e ∷ es) zero f d lt is few zero b l = omega (arith, is, few 0 b (omega arith))
set_few {V} (e ∷ es) zero f d lt is few (suc i) b l = few (suc i) b l
set_few {V} (e ∷ es) (suc at) f d lt is few zero b l = few 0 b (omega arith)
set_few {V} (e ∷ es) (suc at) f d lt is few (suc i) b l = set_few es at f d (omega arith) is (λ k x m. few (suc k) x (omega arith)) i b (omega arith)

pub raised_tells : {V : Type 0} → (its : V → List Item) (top : ℕ) (es fs : List (Entry V)) (s n t m u : ℕ) → Tells its top n t es → length fs ≡ length es → ((k : ℕ) (d : Entry V) → k < length es → IsRaised s (get_or es k d) (get_or fs k d))
    → m ≡ n + 1 → u ≡ (t + s) % 2 ^ 256 → Tells its top m u fs
raised_tells {V} its top [] [] s n t m u k len up me ue = tt
raised_tells {V} its top [] (f ∷ fs) s n t m u k len up me ue = absurd (omega arith)
raised_tells {V} its top (e ∷ es) [] s n t m u k len up me ue = absurd (omega arith)
raised_tells {V} its top (e ∷ es) (f ∷ fs) s n t m u k len up me ue =
    let r = up 0 e (omega arith) in
    let same : items_at its f ≡ items_at its e = ap its (ap arc_value r.part) in
    let again = raised_tells its top es fs s (n + length (items_at its e)) ((t + sum_at (items_at its e)) % 2 ^ 256) (m + length (items_at its f)) ((u + sum_at (items_at its f)) % 2 ^ 256) k.3 (omega arith)
    (λ i d l. up (suc i) d (omega arith)) (omega (arith, me, ap length same)) (omega (arith, ue, ap sum_at same)) in
    (omega (arith, r.before, k.0, me), omega (arith, r.sum, k.1, ue), subst (IsPart top) (sym same) k.2, again)

length_grown : (xs : List Item) (j : ℕ) (x : Item) → j ≤ length xs → length (insert xs j x) ≡ length xs + 1
length_grown [] zero x le = refl
length_grown [] (suc j) x le = absurd (omega arith)
length_grown (y ∷ xs) zero x le = omega arith
length_grown (y ∷ xs) (suc j) x le = omega (arith, length_grown xs j x (omega arith))

pub regrown : {V : Type 0} → (its : V → List Item) (top : ℕ) (es fs : List (Entry V)) (i j n t : ℕ) (x : Item) → Tells its top n t es → i < length es → ((d : Entry V) → j ≤ length (items_at its (get_or es i d))) → ((d : Entry V) → length (items_at its (get_or es i d)) < top)
    → Grown its es i j x fs → Tells its top n t fs
regrown {V} its top [] fs i j n t x k lt le room g = absurd (omega arith)
regrown {V} its top (e ∷ es) [] i j n t x k lt le room g = absurd (omega (arith, g.len))
regrown {V} its top (e ∷ es) (f ∷ fs) zero j n t x k lt le room g =
    let grown = g.items e in
    let len : length (items_at its f) ≡ length (items_at its e) + 1 = ap length grown ∙ length_grown (items_at its e) j x (le e) in
    let total : sum_at (items_at its f) ≡ (sum_at (items_at its e) + little_number x.id.0) % 2 ^ 256 = ap sum_at grown ∙ sum_insert (items_at its e) j x in
    let rest = raised_tells its top es fs (little_number x.id.0) (n + length (items_at its e)) ((t + sum_at (items_at its e)) % 2 ^ 256) (n + length (items_at its f)) ((t + sum_at (items_at its f)) % 2 ^ 256) k.3 (omega (arith, g.len))
    (λ i d l. g.back (suc i) d (omega arith) (omega arith)) (omega (arith, len)) (omega (arith, total)) in
    (g.before e ∙ k.0, ap total_of (g.sum e) ∙ k.1, record { some = omega (arith, len); few = omega (arith, len, room e) }, rest)
regrown {V} its top (e ∷ es) (f ∷ fs) (suc i) j n t x k lt le room g =
    let same : f ≡ e = g.front 0 e (omega arith) in
    let tail : Grown its es i j x fs = record { len = omega (arith, g.len); front = λ m d l. g.front (suc m) d (omega arith); before = g.before; sum = g.sum; items = g.items; back = λ m d a l. g.back (suc m) d (omega arith) (omega arith) } in
    subst (λ (y : Entry V). Tells its top n t (y ∷ fs)) (sym same) (k.0, k.1, k.2, regrown its top es fs i j (n + length (items_at its e)) ((t + sum_at (items_at its e)) % 2 ^ 256) x k.3 (omega arith) le room tail)

raised_join : {V : Type 0} → (its : V → List Item) (es fs : List (Entry V)) (s : ℕ) → length fs ≡ length es → ((k : ℕ) (d : Entry V) → k < length es → IsRaised s (get_or es k d) (get_or fs k d)) → joined its fs ≡ joined its es
raised_join {V} its [] [] s len up = refl
raised_join {V} its [] (f ∷ fs) s len up = absurd (omega arith)
raised_join {V} its (e ∷ es) [] s len up = absurd (omega arith)
raised_join {V} its (e ∷ es) (f ∷ fs) s len up =
    let same : items_at its f ≡ items_at its e = ap its (ap arc_value (up 0 e (omega arith)).part) in
    ap (λ (xs : List Item). xs ++ joined its fs) same ∙ ap (λ (ys : List Item). items_at its e ++ ys) (raised_join its es fs s (omega arith) (λ i d l. up (suc i) d (omega arith)))

pub set_is_few : {V : Type 0} → (es : List (Entry V)) (at : ℕ) (f d : Entry V) → at < length es → f.before ≡ (get_or es at d).before → AreFew es → AreFew (slice_set es at f)
set_is_few {V} es at f d lt is few = λ i b l. set_few es at f d lt is few i b (omega (arith, l, length-set es at f))

insert_front : (xs ys : List Item) (j : ℕ) (x : Item) → j ≤ length xs → insert (xs ++ ys) j x ≡ insert xs j x ++ ys
insert_front [] ys zero x le = refl
insert_front [] ys (suc j) x le = absurd (omega arith)
insert_front (y ∷ xs) ys zero x le = refl
insert_front (y ∷ xs) ys (suc j) x le = ap (λ (zs : List Item). y ∷ zs) (insert_front xs ys j x (omega arith))

insert_back : (xs ys : List Item) (m n : ℕ) (x : Item) → n ≡ length xs + m → insert (xs ++ ys) n x ≡ xs ++ insert ys m x
insert_back [] ys m n x e = let same : n ≡ m = omega arith in ap (λ (i : ℕ). insert ys i x) same
insert_back (y ∷ xs) ys m zero x e = absurd (omega arith)
insert_back (y ∷ xs) ys m (suc n) x e = ap (λ (zs : List Item). y ∷ zs) (insert_back xs ys m n x (omega arith))

-- the list of the grown chunks
pub grown_join : {V : Type 0} → (its : V → List Item) (es fs : List (Entry V)) (i j p : ℕ) (x : Item) → i < length es → ((d : Entry V) → j ≤ length (items_at its (get_or es i d))) → Grown its es i j x fs → p ≡ starts its es i + j → joined its fs ≡ insert (joined its es) p x
grown_join {V} its [] fs i j p x lt le g pe = absurd (omega arith)
grown_join {V} its (e ∷ es) [] i j p x lt le g pe = absurd (omega (arith, g.len))
grown_join {V} its (e ∷ es) (f ∷ fs) zero j p x lt le g pe =
    let same : p ≡ j = omega (arith, pe) in
    let rest = raised_join its es fs (little_number x.id.0) (omega (arith, g.len)) (λ i d l. g.back (suc i) d (omega arith) (omega arith)) in
    ap (λ (xs : List Item). xs ++ joined its fs) (g.items e) ∙ ap (λ (ys : List Item). insert (items_at its e) j x ++ ys) rest ∙ sym (insert_front (items_at its e) (joined its es) j x (le e))
    ∙ ap (λ (n : ℕ). insert (items_at its e ++ joined its es) n x) (sym same)
grown_join {V} its (e ∷ es) (f ∷ fs) (suc i) j p x lt le g pe =
    let same : f ≡ e = g.front 0 e (omega arith) in
    let tail : Grown its es i j x fs = record { len = omega (arith, g.len); front = λ m d l. g.front (suc m) d (omega arith); before = g.before; sum = g.sum; items = g.items; back = λ m d a l. g.back (suc m) d (omega arith) (omega arith) } in
    ap (λ (y : Entry V). items_at its y ++ joined its fs) same ∙ ap (λ (ys : List Item). items_at its e ++ ys) (grown_join its es fs i j (starts its es i + j) x (omega arith) le tail refl)
    ∙ sym (insert_back (items_at its e) (joined its es) (starts its es i + j) p x (omega (arith, pe, length-append (items_at its e) (joined its (take i es)))))
