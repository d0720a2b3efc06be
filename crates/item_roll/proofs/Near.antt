-- Where a bound stands, told by a few items.
use Rattle.std.proofs.Common.{◌≡◌, ℕ, zero, suc, ◌+◌, ◌-◌, ◌<◌, ◌≤◌, inl, inr, List, [], ◌∷◌, length, take, drop, get_or, refl, sym, ap, subst, ◌∙◌, arith}
use Rattle.std.specs.List.{slice_range}
use Rattle.std.proofs.lemmas.Bool.{cases_lt}
use Rattle.std.proofs.lemmas.List.{take-append-drop}
use Rattle.item_key.specs.declared.Item.{Item}
use Rattle.item_key.specs.Keys.{place}
use Rattle.item_roll.specs.Parts.{Ascending, count_below}
use Rattle.item_roll.proofs.Lists.{at_any}
use Rattle.item_roll.proofs.Kept.{ascending_front, ascending_back}
use Rattle.item_roll.proofs.Places.{low_item, high_item, count_most}

at_drop : (xs : List Item) (a k : ℕ) (d : Item) → get_or (drop a xs) k d ≡ get_or xs (a + k) d
at_drop xs zero k d = let z : 0 + k ≡ k = omega arith in rw z refl
at_drop [] (suc a) k d = none k ∙ sym (none (suc a + k))
  where
    none : (n : ℕ) → get_or {A = Item} [] n d ≡ d
    none zero = refl
    none (suc n) = refl
at_drop (x ∷ xs) (suc a) k d = let n : suc a + k ≡ suc (a + k) = omega arith in rw n (at_drop xs a k d)

at_take : (xs : List Item) (n k : ℕ) (d : Item) → k < n → get_or (take n xs) k d ≡ get_or xs k d
at_take xs zero k d lt = absurd (omega arith)
at_take [] (suc n) k d lt = refl
at_take (x ∷ xs) (suc n) zero d lt = refl
at_take (x ∷ xs) (suc n) (suc k) d lt = at_take xs n k d (omega arith)

-- an item of a piece
pub at_piece : (xs : List Item) (lo hi k : ℕ) (d : Item) → lo + k < hi → get_or (slice_range xs lo hi) k d ≡ get_or xs (lo + k) d
at_piece xs lo hi k d lt = at_take (drop lo xs) (hi - lo) k d (omega arith) ∙ at_drop xs lo k d

-- a piece is in order
pub ascending_piece : (xs : List Item) (lo hi : ℕ) → Ascending xs → Ascending (slice_range xs lo hi)
ascending_piece xs lo hi up =
    let back : Ascending (drop lo xs) = ascending_back (take lo xs) (drop lo xs) (subst Ascending (sym (take-append-drop lo xs)) up) in
    ascending_front (take (hi - lo) (drop lo xs)) (drop (hi - lo) (drop lo xs)) (subst Ascending (sym (take-append-drop (hi - lo) (drop lo xs))) back)

-- The first item of a piece stands below a bound, and its last doesn't: so the items below the bound end in the piece.
pub count_near : (items piece : List Item) (from : ℕ) (b d e : Item) → Ascending items → piece ≡ slice_range items from (from + length piece) → from + length piece ≤ length items → 0 < length piece
    → place (get_or piece 0 d) < place b → place b ≤ place (get_or piece (length piece - 1) e) → from + count_below piece b ≡ count_below items b
count_near items piece from b d e up is within some first last = omega (arith, most (count_below piece b) refl, least)
  where
    asc : Ascending piece
    asc = subst Ascending (sym is) (ascending_piece items from (from + length piece) up)

    same : (k : ℕ) → k < length piece → get_or piece k b ≡ get_or items (from + k) b
    same k lt = ap (λ (xs : List Item). get_or xs k b) is ∙ at_piece items from (from + length piece) k b (omega (arith, lt))

    at_first : place (get_or items from b) < place b
    at_first =
        let z : from + 0 ≡ from = omega arith in
        subst (λ (y : Item). place y < place b) (at_any piece 0 d b some ∙ same 0 some ∙ ap (λ (n : ℕ). get_or items n b) z) first

    at_last : place b ≤ place (get_or items (from + (length piece - 1)) b)
    at_last =
        let lt : length piece - 1 < length piece = omega (arith, some) in
        subst (λ (y : Item). place b ≤ place y) (at_any piece (length piece - 1) e b lt ∙ same (length piece - 1) lt) last

    most : (m : ℕ) → m ≡ count_below piece b → from + m ≤ count_below items b
    most zero me = omega (arith, low_item items from b b up (omega (arith, within, some)) at_first)
    most (suc m) me =
        let lt : m < length piece = omega (arith, me, count_most piece b) in
        let low : place (get_or piece m b) < place b = elim (cases_lt (place (get_or piece m b)) (place b)) [
          | inl h ↦ h
          | inr h ↦ absurd (omega (arith, high_item piece m b b asc lt h, me))
        ] in
        let in_all : place (get_or items (from + m) b) < place b = subst (λ (y : Item). place y < place b) (same m lt) low in
        omega (arith, low_item items (from + m) b b up (omega (arith, within, lt)) in_all)

    least : count_below items b ≤ from + count_below piece b
    least = elim (cases_lt (count_below piece b) (length piece)) [
      | inl lt ↦ elim (cases_lt (place (get_or piece (count_below piece b) b)) (place b)) [
        | inl h ↦ absurd (omega (arith, low_item piece (count_below piece b) b b asc lt h))
        | inr h ↦
            let in_all : place b ≤ place (get_or items (from + count_below piece b) b) = subst (λ (y : Item). place b ≤ place y) (same (count_below piece b) lt) h in
            high_item items (from + count_below piece b) b b up (omega (arith, within, lt)) in_all
      ]
      | inr ge ↦ omega (arith, ge, some, high_item items (from + (length piece - 1)) b b up (omega (arith, within, some)) at_last)
    ]
