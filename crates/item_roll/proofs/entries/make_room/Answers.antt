use Rattle.std.proofs.Common.{◌≡◌, ◌≤◌, List, length, refl, arith}
use Rattle.std.specs.Prelude.{Option, Some, None, MatchOption}
use Rattle.item_key.specs.declared.Item.{Item}
use Rattle.item_roll.proofs.Kept.{placed, room_in, at_entry, told_many}
use Rattle.item_roll.proofs.Grows.{told_few}
use Rattle.item_roll.proofs.Halves.{cut_join, cut_tell, room_first, room_second}
use Rattle.item_roll.proofs.entries.make_room.Goals as goal

none_left : {X A : Type 0} → (B : X → Type 0) (o : Option X) → ((x : X) → o ≡ Some x → ⊥) → MatchOption o A B → A
none_left B None never m = m
none_left B (Some x) never m = absurd (never x refl)

pub entry_at-at-requires-clause-within : goal.entry_at-at-requires-clause-within
entry_at-at-requires-clause-within g c = rw c.deref.ensures.value (omega (arith, c.saturating_sub.ensures, c.requires.some, c.requires.within, (told_many g.P.Part.items g.P.Part.most c.args.entries.now.items 0 0 c.requires.tells).0))

pub overflow_sub-j : goal.overflow_sub-j
overflow_sub-j g c = (placed g.P.Part.items g.P.Part.most _ _ _ _ _ _ c.deref.ensures.value c.saturating_sub.ensures c.requires.tells c.entry_at-at.ensures c.index-entry.ensures).from

pub halves-requires-clause-few : goal.halves-requires-clause-few
halves-requires-clause-few g c = rw c.deref-2.ensures (omega (arith, (placed g.P.Part.items g.P.Part.most _ _ _ _ _ _ c.deref.ensures.value c.saturating_sub.ensures c.requires.tells c.entry_at-at.ensures c.index-entry.ensures).few, c.requires.few))

pub halves-requires-clause-part : goal.halves-requires-clause-part
halves-requires-clause-part g c = rw c.deref-2.ensures (placed g.P.Part.items g.P.Part.most _ _ _ _ _ _ c.deref.ensures.value c.saturating_sub.ensures c.requires.tells c.entry_at-at.ensures c.index-entry.ensures).part

pub returns-in_default-clause-room : goal.returns-in_default-clause-room
returns-in_default-clause-room g c =
    let less = none_left _ _ c.in_default.not-Some c.in_ok-left.ensures in
    room_in g.P.Part.items g.P.Part.most _ _ _ _ (placed g.P.Part.items g.P.Part.most _ _ _ _ _ _ c.deref.ensures.value c.saturating_sub.ensures c.requires.tells c.entry_at-at.ensures c.index-entry.ensures) c.index-entry.ensures (rw c.deref-2.ensures at less)

pub cut-requires-clause-few : goal.cut-requires-clause-few
cut-requires-clause-few g c = told_few g.P.Part.items g.P.Part.most c.args.entries.now.items c.requires.tells (omega (arith, c.requires.few))

pub cut-requires-clause-less : goal.cut-requires-clause-less
cut-requires-clause-less g c = at_entry g.P.Part.items (λ (xs : List Item). length xs ≤ 1000000) _ _ _ (placed g.P.Part.items g.P.Part.most _ _ _ _ _ _ c.deref.ensures.value c.saturating_sub.ensures c.requires.tells c.entry_at-at.ensures c.index-entry.ensures).within c.index-entry.ensures (omega (arith, (placed g.P.Part.items g.P.Part.most _ _ _ _ _ _ c.deref.ensures.value c.saturating_sub.ensures c.requires.tells c.entry_at-at.ensures c.index-entry.ensures).few, c.requires.few))

pub returns-then-j-len-clause-list : goal.returns-then-j-len-clause-list
returns-then-j-len-clause-list g c = cut_join g.P.Part.items _ _ _ _ (placed g.P.Part.items g.P.Part.most _ _ _ _ _ _ c.deref.ensures.value c.saturating_sub.ensures c.requires.tells c.entry_at-at.ensures c.index-entry.ensures).within c.in_ok-cut.ensures.ok

pub returns-then-j-len-clause-tells : goal.returns-then-j-len-clause-tells
returns-then-j-len-clause-tells g c = cut_tell g.P.Part.items g.P.Part.most _ _ _ _ c.requires.tells (placed g.P.Part.items g.P.Part.most _ _ _ _ _ _ c.deref.ensures.value c.saturating_sub.ensures c.requires.tells c.entry_at-at.ensures c.index-entry.ensures).within c.in_ok-cut.ensures.ok

pub returns-else-j-len-clause-list : goal.returns-else-j-len-clause-list
returns-else-j-len-clause-list g c = cut_join g.P.Part.items _ _ _ _ (placed g.P.Part.items g.P.Part.most _ _ _ _ _ _ c.deref.ensures.value c.saturating_sub.ensures c.requires.tells c.entry_at-at.ensures c.index-entry.ensures).within c.in_ok-cut.ensures.ok

pub returns-else-j-len-clause-tells : goal.returns-else-j-len-clause-tells
returns-else-j-len-clause-tells g c = cut_tell g.P.Part.items g.P.Part.most _ _ _ _ c.requires.tells (placed g.P.Part.items g.P.Part.most _ _ _ _ _ _ c.deref.ensures.value c.saturating_sub.ensures c.requires.tells c.entry_at-at.ensures c.index-entry.ensures).within c.in_ok-cut.ensures.ok

pub returns-then-j-len-clause-room : goal.returns-then-j-len-clause-room
returns-then-j-len-clause-room g c = room_first g.P.Part.items g.P.Part.most _ _ _ _ _ _ _ (placed g.P.Part.items g.P.Part.most _ _ _ _ _ _ c.deref.ensures.value c.saturating_sub.ensures c.requires.tells c.entry_at-at.ensures c.index-entry.ensures) refl c.index-entry.ensures c.in_ok-cut.ensures.ok (omega (arith, c.if-j-len.true, c.len-len.ensures))

pub returns-else-j-len-clause-room : goal.returns-else-j-len-clause-room
returns-else-j-len-clause-room g c = rw c.len-len.ensures (room_second g.P.Part.items g.P.Part.most _ _ _ _ _ _ _ (placed g.P.Part.items g.P.Part.most _ _ _ _ _ _ c.deref.ensures.value c.saturating_sub.ensures c.requires.tells c.entry_at-at.ensures c.index-entry.ensures) refl c.index-entry.ensures c.in_ok-cut.ensures.ok (omega (arith, c.if-j-len.false, c.len-len.ensures)))
