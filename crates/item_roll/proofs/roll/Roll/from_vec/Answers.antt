use Rattle.std.proofs.Common.{◌≡◌, List, refl, sym, subst, arith}
use Rattle.std.specs.List.{All}
use Rattle.std.proofs.lemmas.List.Sorted.{All-permutation, IsPermutation-sym}
use Rattle.item_key.specs.declared.Item.{Item}
use Rattle.item_key.specs.Keys.{IsKey}
use Rattle.item_roll.specs.Repeats.{HasRepeat, IsFinite}
use Rattle.item_roll.proofs.Distinct.{twice_permuted, sorted_roll, never_twice, sorted_len}
use Rattle.item_roll.proofs.roll.Roll.from_vec.Goals as goal

finite : (items : List Item) → All IsKey items → All IsFinite items
finite items keys = λ k d lt. (keys k d lt).time

keys_of : (items now : List Item) → now ≡ items → All IsKey now → All IsKey items
keys_of items now same keys = subst (λ (xs : List Item). All IsKey xs) same keys

pub has_repeat-requires-clause-keys : goal.has_repeat-requires-clause-keys
has_repeat-requires-clause-keys c =
    subst (λ (xs : List Item). All IsKey xs) (sym c.deref-2.ensures.value) (All-permutation IsKey c.args.items.items c.in_order-sorted.result.items c.in_order-sorted.ensures.all (keys_of c.args.items.items c.deref.result.now c.deref.ensures.value (c.if-not-all_finite.ensures.finite refl)))

-- an item stands twice
pub returns-then-has_repeat-clause-present : goal.returns-then-has_repeat-clause-present
returns-then-has_repeat-clause-present c =
    let keys = keys_of c.args.items.items c.deref.result.now c.deref.ensures.value (c.if-not-all_finite.ensures.finite refl) in
    let again = subst HasRepeat c.deref-2.ensures.value (c.if-has_repeat.ensures.repeat refl) in
    let twice = twice_permuted c.in_order-sorted.result.items c.args.items.items c.one_place.ensures keys (IsPermutation-sym c.args.items.items c.in_order-sorted.result.items c.in_order-sorted.ensures.all) again in
    (λ e. (λ f. cc, finite c.args.items.items keys, twice), λ h. refl)

pub returns-then-has_repeat-clause-full : goal.returns-then-has_repeat-clause-full
returns-then-has_repeat-clause-full c =
    let keys = keys_of c.args.items.items c.deref.result.now c.deref.ensures.value (c.if-not-all_finite.ensures.finite refl) in
    let again = subst HasRepeat c.deref-2.ensures.value (c.if-has_repeat.ensures.repeat refl) in
    let twice = twice_permuted c.in_order-sorted.result.items c.args.items.items c.one_place.ensures keys (IsPermutation-sym c.args.items.items c.in_order-sorted.result.items c.in_order-sorted.ensures.all) again in
    (λ e. absurd cc, λ h. absurd (h.2 twice))

-- none does
pub returns-then-len-gt-MOST_ITEMS-clause-present : goal.returns-then-len-gt-MOST_ITEMS-clause-present
returns-then-len-gt-MOST_ITEMS-clause-present c =
    let roll = sorted_roll c.args.items.items c.in_order-sorted.result.items c.deref-2.result.now (keys_of c.args.items.items c.deref.result.now c.deref.ensures.value (c.if-not-all_finite.ensures.finite refl)) c.in_order-sorted.ensures.all c.deref-2.ensures.value (c.if-has_repeat.ensures.distinct refl) in
    let none = never_twice c.args.items.items c.in_order-sorted.result.items c.one_place.ensures roll c.in_order-sorted.ensures.all in
    (λ e. absurd cc, λ h. absurd (none h.2))

pub returns-then-len-gt-MOST_ITEMS-clause-full : goal.returns-then-len-gt-MOST_ITEMS-clause-full
returns-then-len-gt-MOST_ITEMS-clause-full c =
    let keys = keys_of c.args.items.items c.deref.result.now c.deref.ensures.value (c.if-not-all_finite.ensures.finite refl) in
    let roll = sorted_roll c.args.items.items c.in_order-sorted.result.items c.deref-2.result.now keys c.in_order-sorted.ensures.all c.deref-2.ensures.value (c.if-has_repeat.ensures.distinct refl) in
    let none = never_twice c.args.items.items c.in_order-sorted.result.items c.one_place.ensures roll c.in_order-sorted.ensures.all in
    let len = sorted_len c.args.items.items c.in_order-sorted.result.items c.deref-2.result.now _ c.len.result c.in_order-sorted.ensures.all c.deref-2.ensures.value c.deref-2.ensures.len c.len.ensures in
    (λ e. (λ f. cc, finite c.args.items.items keys, none, omega (arith, len, c.if-len-gt-MOST_ITEMS.true)), λ h. refl)

pub invariant_of-result : goal.invariant_of-result
invariant_of-result c = rw c.in_ok-groups.ensures (
  rw c.deref-3.ensures.value
      (sorted_roll c.args.items.items c.in_order-sorted.result.items c.deref-2.result.now (keys_of c.args.items.items c.deref.result.now c.deref.ensures.value (c.if-not-all_finite.ensures.finite refl)) c.in_order-sorted.ensures.all c.deref-2.ensures.value (c.if-has_repeat.ensures.distinct refl)),
  omega (arith, c.deref-3.ensures.len, c.len.ensures, c.if-len-gt-MOST_ITEMS.false),
)

pub returns-clause-present : goal.returns-clause-present
returns-clause-present c =
    let roll = sorted_roll c.args.items.items c.in_order-sorted.result.items c.deref-2.result.now (keys_of c.args.items.items c.deref.result.now c.deref.ensures.value (c.if-not-all_finite.ensures.finite refl)) c.in_order-sorted.ensures.all c.deref-2.ensures.value (c.if-has_repeat.ensures.distinct refl) in
    let none = never_twice c.args.items.items c.in_order-sorted.result.items c.one_place.ensures roll c.in_order-sorted.ensures.all in
    (λ e. absurd cc, λ h. absurd (none h.2))

pub returns-clause-full : goal.returns-clause-full
returns-clause-full c =
    let len = sorted_len c.args.items.items c.in_order-sorted.result.items c.deref-2.result.now _ c.len.result c.in_order-sorted.ensures.all c.deref-2.ensures.value c.deref-2.ensures.len c.len.ensures in
    (λ e. absurd cc, λ h. absurd (omega (arith, h.3, len, c.if-len-gt-MOST_ITEMS.false)))
