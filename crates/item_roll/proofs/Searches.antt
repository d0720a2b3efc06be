-- Where a search among parts ends.
use Rattle.std.proofs.Common.{◌≡◌, ℕ, zero, suc, ◌+◌, ◌-◌, ◌<◌, ◌≤◌, inl, inr, ltb, leb, Bool, true, false, List, [], ◌∷◌, length, get_or, take, refl, sym, subst, ◌∙◌, arith, length-append}
use Rattle.std.specs.List.Sorted.{IsPartitionedBy, IsPartitionPoint}
use Rattle.std.proofs.lemmas.Bool.{cases_lt, lt-ltb, le-ltb, le-leb, lt-leb, ltb-true, ltb-false}
use Rattle.item_key.specs.declared.Item.{Item}
use Rattle.item_key.specs.Keys.{place}
use Rattle.item_roll.specs.declared.entries.Entry.{Entry}
use Rattle.item_roll.specs.Parts.{Ascending, begins_below, count_below}
use Rattle.item_roll.specs.Chunks.{items_at, joined, starts, Tells}
use Rattle.item_roll.proofs.Places.{low_item, high_item}
use Rattle.item_roll.proofs.Kept.{told_before, told_chunk, starts_next, starts_all, starts_most, item_in}

first_of : {X : Type 0} → (xs : List X) → 0 < length xs → X
first_of [] some = absurd (omega arith)
first_of (x ∷ xs) some = x

first_below : (xs : List Item) (b d : Item) → 0 < length xs → begins_below xs b ≡ ltb (place (get_or xs 0 d)) (place b)
first_below [] b d some = absurd (omega arith)
first_below (x ∷ xs) b d some = refl

module _ {V : Type 0} (its : V → List Item) where
  -- a part that stands later begins no earlier
  starts_rise : (es : List (Entry V)) (i j : ℕ) → i ≤ j → starts its es i ≤ starts its es j
  starts_rise [] i j le = omega (arith, starts_most its [] i)
  starts_rise (e ∷ es) zero j le = omega arith
  starts_rise (e ∷ es) (suc i) zero le = absurd (omega arith)
  starts_rise (e ∷ es) (suc i) (suc j) le =
      omega (arith, starts_rise es i j (omega arith), length-append (items_at its e) (joined its (take i es)), length-append (items_at its e) (joined its (take j es)))

  module _ (es : List (Entry V)) where
    pub some_parts : 0 < length (joined its es) → 0 < length es
    some_parts some = elim (cases_lt 0 (length es)) [
      | inl h ↦ h
      | inr h ↦ absurd (omega (arith, starts_all its es, starts_rise es (length es) 0 h))
    ]

    -- a test that asks whether fewer than n items stand before a part
    abbrev pub TestsStarts : (Entry V → Bool) → ℕ → Type 0
    TestsStarts test n = (i : ℕ) (d : Entry V) → i < length es → test (get_or es i d) ≡ ltb (starts its es i) n

    module _ (test : Entry V → Bool) (n : ℕ) (tests : TestsStarts test n) where
      pub starts_parted : IsPartitionedBy test es
      starts_parted i j d le lt passed =
          let few = ltb-true _ _ (sym (tests j d lt) ∙ passed) in
          tests i d (omega arith) ∙ lt-ltb _ _ (omega (arith, starts_rise es i j le))

      -- the last part before which fewer stand
      pub last_start : (r i : ℕ) → i ≡ r - 1 → r ≤ length es → 0 < length es → n ≤ length (joined its es) → IsPartitionPoint (λ e. test e ≡ true) (λ e. test e ≡ false) es r
          → (i < length es) × (starts its es i ≤ n - 1) × (n ≤ starts its es (i + 1))
      last_start r i is within some most point = (omega arith, from, upto)
        where
          from : starts its es i ≤ n - 1
          from = elim (cases_lt 0 r) [
            | inl h ↦ omega (arith, ltb-true _ _ (sym (tests i (first_of es some) (omega arith)) ∙ point.0 i (first_of es some) (omega arith) (omega arith)))
            | inr h ↦ omega (arith, starts_rise es i 0 (omega arith))
          ]

          upto : n ≤ starts its es (i + 1)
          upto = elim (cases_lt r (length es)) [
            | inl h ↦ omega (arith, ltb-false _ _ (sym (tests r (first_of es some) h) ∙ point.1 r (first_of es some) (omega arith) h), starts_rise es r (i + 1) (omega arith))
            | inr h ↦ omega (arith, starts_all its es, starts_rise es (length es) (i + 1) (omega arith))
          ]

    module _ (top : ℕ) (k : Tells its top 0 0 es) where
      pub tests_before : (p : ℕ) → TestsStarts (λ e. leb e.before p) (p + 1)
      tests_before p i d lt =
          let told = told_before its top es i 0 0 d k lt in
          elim (cases_lt p (get_or es i d).before) [
            | inl h ↦ lt-leb _ _ h ∙ sym (le-ltb _ _ (omega arith))
            | inr h ↦ le-leb _ _ h ∙ sym (lt-ltb _ _ (omega arith))
          ]

      pub tests_first : (b : Item) → Ascending (joined its es) → TestsStarts (λ e. begins_below (items_at its e) b) (count_below (joined its es) b)
      tests_first b up i d lt =
          let xs = items_at its (get_or es i d) in
          let some = (told_chunk its top es i 0 0 d k lt).some in
          let here : starts its es i + 0 < length (joined its es) = omega (arith, some, starts_next its es i d lt, starts_most its es (i + 1)) in
          let same = sym (item_in its es i 0 d b lt some) in
          elim (cases_lt (place (get_or xs 0 b)) (place b)) [
            | inl h ↦
                let low = low_item (joined its es) (starts its es i + 0) b b up here (subst (λ (y : Item). place y < place b) same h) in
                first_below xs b b some ∙ lt-ltb _ _ h ∙ sym (lt-ltb _ _ (omega (arith, low)))
            | inr h ↦
                let high = high_item (joined its es) (starts its es i + 0) b b up here (subst (λ (y : Item). place b ≤ place y) same h) in
                first_below xs b b some ∙ le-ltb _ _ h ∙ sym (le-ltb _ _ (omega (arith, high)))
          ]
