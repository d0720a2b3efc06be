use Rattle.std.proofs.Common.{◌≡◌, ◌+◌, ◌%◌, ◌^◌, ℕ, length, ap, ◌∙◌, arith}
use Rattle.neg_print.specs.Total.{total_of}
use Rattle.item_roll.specs.Sums.{sum_at}
use Rattle.item_roll.specs.Chunks.{joined, Grown}
use Rattle.item_roll.proofs.Lists.{written}
use Rattle.item_roll.proofs.Grows.{told_few}
use Rattle.item_roll.proofs.Kept.{at_less, at_some}
use Rattle.item_roll.proofs.Placed.{put_list, kept_put}
use Rattle.item_roll.proofs.run.RunPart.insert.Goals as goal

pub insert_into-requires-clause-few : goal.insert_into-requires-clause-few
insert_into-requires-clause-few g c = rw c.as_mut_slice.ensures.value (told_few g.P.Part.items g.P.Part.most c.make_room.new.entries.items c.in_ok-i.ensures.tells (rw c.in_ok-i.ensures.list c.self.invariant.few))

pub insert_into-requires-clause-some : goal.insert_into-requires-clause-some
insert_into-requires-clause-some g c = rw c.as_mut_slice.ensures.value (λ d. at_some g.P.Part.items g.P.Part.most c.make_room.new.entries.items _ d c.in_ok-i.ensures.tells c.in_ok-i.ensures.room.within)

pub insert_into-requires-clause-less : goal.insert_into-requires-clause-less
insert_into-requires-clause-less g c = rw c.as_mut_slice.ensures.value (λ d. omega (arith, at_less g.P.Part.items c.make_room.new.entries.items c.in_ok-i.i d c.in_ok-i.ensures.room.within, ap length (c.in_ok-i.ensures.list ∙ c.self.view_is), c.requires.few))

pub invariant_of-self-2 : goal.invariant_of-self-2
invariant_of-self-2 g c =
    let grown : Grown g.P.Part.items c.make_room.new.entries.items c.in_ok-i.i c.in_ok-i.j c.args.item c.insert_into.new.entries = rw c.as_mut_slice.ensures.value at c.in_ok-insert_into.ensures.ok in
    let all : c.make_room.new.entries.len ≡ length c.insert_into.new.entries = omega (arith, grown.len, c.as_mut_slice.ensures.len, ap length c.as_mut_slice.ensures.value) in
    let list = c.in_ok-i.ensures.list ∙ c.self.view_is in
    rw (written c.make_room.new.entries.items c.insert_into.new.entries c.make_room.new.entries.len all)
    (kept_put g.P.Part.items g.P.Part.most c.args.self.now c.make_room.new.entries.items c.insert_into.new.entries c.self.inside.len c.args.at c.in_ok-i.i c.in_ok-i.j c.self.inside.sum _ c.args.item
    c.requires.within c.requires.few list c.in_ok-i.ensures.tells c.in_ok-i.ensures.room grown
    (c.self.invariant.len ∙ ap length c.self.view_is) (c.self.invariant.sum ∙ ap sum_at c.self.view_is)
    (c.add-self-inside.ensures ∙ ap (λ (n : ℕ). (total_of c.self.inside.sum + n) % 2 ^ 256) c.of.ensures))

pub returns-clause-ok : goal.returns-clause-ok
returns-clause-ok g c =
    let grown : Grown g.P.Part.items c.make_room.new.entries.items c.in_ok-i.i c.in_ok-i.j c.args.item c.insert_into.new.entries = rw c.as_mut_slice.ensures.value at c.in_ok-insert_into.ensures.ok in
    let all : c.make_room.new.entries.len ≡ length c.insert_into.new.entries = omega (arith, grown.len, c.as_mut_slice.ensures.len, ap length c.as_mut_slice.ensures.value) in
    let list = c.in_ok-i.ensures.list ∙ c.self.view_is in
    ap (joined g.P.Part.items) (written c.make_room.new.entries.items c.insert_into.new.entries c.make_room.new.entries.len all)
    ∙ put_list g.P.Part.items g.P.Part.most c.args.self.now c.make_room.new.entries.items c.insert_into.new.entries c.args.at c.in_ok-i.i c.in_ok-i.j c.args.item list c.in_ok-i.ensures.room grown
