-- A chunk behind the others; and the first chunks of a roll.
use Rattle.std.proofs.Common.{◌≡◌, ℕ, ◌+◌, ◌-◌, ◌%◌, ◌^◌, ◌<◌, ◌≤◌, List, [], ◌∷◌, ◌++◌, length, take, drop, get_or, append-nil, length-append, add-one, refl, sym, ap, subst, ◌∙◌, arith}
use Rattle.std.proofs.Math.Seq.{take-suc, take-add}
use Rattle.std.proofs.lemmas.Grind.{flat_map-append}
use Rattle.item_key.specs.declared.Item.{Item}
use Rattle.neg_print.specs.declared.sum.Sum.{Sum}
use Rattle.neg_print.specs.Total.{total_of}
use Rattle.item_roll.specs.declared.entries.Entry.{Entry}
use Rattle.item_roll.specs.Sums.{sum_at}
use Rattle.item_roll.specs.Halves.{IsPart}
use Rattle.item_roll.specs.Chunks.{items_at, joined, Tells, IsKept}
use Rattle.item_roll.proofs.Totals.{sum_append, sum_none, sum_small}

pub join_push : {V : Type 0} → (its : V → List Item) (es : List (Entry V)) (e : Entry V) → joined its (es ++ e ∷ []) ≡ joined its es ++ items_at its e
join_push {V} its es e = flat_map-append (items_at its) es (e ∷ []) ∙ ap (λ (xs : List Item). joined its es ++ xs) (append-nil (items_at its e))

-- the chunks up to the next one
pub join_next : {V : Type 0} → (its : V → List Item) (es : List (Entry V)) (i : ℕ) (d : Entry V) → i < length es → joined its (take (i + 1) es) ≡ joined its (take i es) ++ items_at its (get_or es i d)
join_next {V} its es i d lt = rw (add-one i) (ap (joined its) (take-suc es i d lt)) ∙ join_push its (take i es) (get_or es i d)

tell_push : {V : Type 0} → (its : V → List Item) (top : ℕ) (es : List (Entry V)) (e : Entry V) (n t : ℕ) → t < 2 ^ 256 → Tells its top n t es → e.before ≡ n + length (joined its es) → total_of e.sum_before ≡ (t + sum_at (joined its es)) % 2 ^ 256 → IsPart top (items_at its e)
    → Tells its top n t (es ++ e ∷ [])
tell_push {V} its top [] e n t small k b s c = (omega (arith, b), omega (arith, s, sum_none, small), c, tt)
tell_push {V} its top (f ∷ es) e n t small k b s c = (
  k.0,
  k.1,
  k.2,
  tell_push its top es e (n + length (items_at its f)) ((t + sum_at (items_at its f)) % 2 ^ 256) (omega arith) k.3
      (omega (arith, b, length-append (items_at its f) (joined its es))) (omega (arith, s, sum_append (items_at its f) (joined its es))) c,
)

pub kept_push : {V : Type 0} → (its : V → List Item) (top : ℕ) (es : List (Entry V)) (e : Entry V) (n m : ℕ) (s u : Sum) → IsKept its top es n s → IsPart top (items_at its e) → length (joined its es ++ items_at its e) ≤ 1000000
    → e.before ≡ n → e.sum_before ≡ s → m ≡ n + length (items_at its e) → total_of u ≡ (total_of s + sum_at (items_at its e)) % 2 ^ 256 → IsKept its top (es ++ e ∷ []) m u
kept_push {V} its top es e n m s u kept part few b f count total =
    let all = join_push its es e in
    record {
      tells = tell_push its top es e 0 0 (omega arith) kept.tells (omega (arith, b, kept.len)) (ap total_of f ∙ omega (arith, kept.sum, sum_small (joined its es))) part;
      len = omega (arith, count, kept.len, ap length all, length-append (joined its es) (items_at its e));
      sum = total ∙ ap (λ (n : ℕ). (n + sum_at (items_at its e)) % 2 ^ 256) kept.sum ∙ sym (sum_append (joined its es) (items_at its e)) ∙ ap sum_at (sym all);
      few = subst (λ (xs : List Item). length xs ≤ 1000000) (sym all) few;
    }

-- no part
pub kept_none : {V : Type 0} → (its : V → List Item) (top : ℕ) (es : List (Entry V)) (s : Sum) → es ≡ [] → total_of s ≡ 0 → IsKept its top es 0 s
kept_none {V} its top es s e z = subst (λ (xs : List (Entry V)). IsKept its top xs 0 s) (sym e) (record {
  tells = tt;
  len = refl;
  sum = omega (arith, z, sum_none);
  few = omega arith;
})

-- ---- what is made so far of a list, or of a roll's chunks

pub front_more : (xs so_far : List Item) (i next : ℕ) → so_far ≡ take i xs → i ≤ next → so_far ++ take (next - i) (drop i xs) ≡ take next xs
front_more xs so_far i next e le =
    let n : i + (next - i) ≡ next = omega arith in
    ap (λ (ys : List Item). ys ++ take (next - i) (drop i xs)) e ∙ sym (take-add i (next - i) xs) ∙ ap (λ (k : ℕ). take k xs) n

pub so_far_next : {V : Type 0} → (its : V → List Item) (es : List (Entry V)) (i : ℕ) (e : Entry V) (so_far items : List Item) → i < length es → e ≡ get_or es i e → so_far ≡ joined its (take i es) → items ≡ items_at its e → so_far ++ items ≡ joined its (take (i + 1) es)
so_far_next {V} its es i e so_far items lt is s same =
    ap (λ (xs : List Item). xs ++ items) s ∙ ap (λ (xs : List Item). joined its (take i es) ++ xs) (same ∙ ap (items_at its) is) ∙ sym (join_next its es i e lt)
