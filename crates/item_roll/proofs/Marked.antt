-- Marks of a chunk, as one more is set, and as an item is put in.
use Rattle.std.proofs.Common.{◌≡◌, ℕ, zero, suc, ◌+◌, ◌*◌, ◌<◌, ◌≤◌, inl, inr, List, ◌∷◌, length, take, drop, get_or, set, sym, ap, ◌∙◌, arith}
use Rattle.std.specs.List.{insert}
use Rattle.std.proofs.lemmas.Bool.{cases_eq}
use Rattle.std.proofs.lemmas.List.{get_or-set_same, get_or-set_other, take-append-le, take-take, length-take}
use Rattle.item_key.specs.declared.Item.{Item}
use Rattle.neg_print.specs.declared.sum.Sum.{Sum}
use Rattle.neg_print.specs.Total.{total_of}
use Rattle.item_roll.specs.Sums.{sum_at, AreMarked, AreMarkedTo}
use Rattle.item_roll.proofs.Totals.{sum_none}

-- before the first item stand none
pub marked_none : (items : List Item) (marks : List Sum) → ((d : Sum) → total_of (get_or marks 0 d) ≡ 0) → AreMarkedTo 1 items marks
marked_none items marks none zero d below within reached = none d ∙ sym sum_none
marked_none items marks none (suc k) d below within reached = absurd (omega arith)

pub marked_more : (items : List Item) (marks : List Sum) (m : ℕ) (s : Sum) → m < length marks → AreMarkedTo m items marks → total_of s ≡ sum_at (take (16 * m) items) → AreMarkedTo (m + 1) items (set marks m s)
marked_more items marks m s lt before is k d below within reached = elim (cases_eq k m) [
  | inl e ↦ ap (λ (j : ℕ). total_of (get_or (set marks m s) j d)) e ∙ ap total_of (get_or-set_same marks m s d lt) ∙ is ∙ ap (λ (j : ℕ). sum_at (take (16 * j) items)) (sym e)
  | inr ne ↦ ap total_of (get_or-set_other marks m k s d ne) ∙ before k d (omega (arith, ne)) (omega arith) reached
]

-- the items before a place that another is put at or behind
take_same : (items : List Item) (at n : ℕ) (x : Item) → n ≤ at → at ≤ length items → take n (insert items at x) ≡ take n items
take_same items at n x le within = take-append-le n (take at items) (x ∷ drop at items) (omega (arith, length-take at items)) ∙ take-take n at items le

pub marked_front : (items : List Item) (marks : List Sum) (at m : ℕ) (x : Item) → AreMarked items marks → m < length marks → 16 * m ≤ at → at ≤ length items → AreMarkedTo (m + 1) (insert items at x) marks
marked_front items marks at m x marked lt le within k d below in_marks reached =
    marked k d in_marks in_marks (omega arith) ∙ ap sum_at (sym (take_same items at (16 * k) x (omega arith) within))
