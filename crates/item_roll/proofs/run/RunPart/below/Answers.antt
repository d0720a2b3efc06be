use Rattle.std.proofs.Common.{ℕ, ◌+◌, length, arith, ◌∙◌, ap, sym}
use Rattle.std.proofs.lemmas.Bool.{eqb-true}
use Rattle.item_roll.specs.Chunks.{joined}
use Rattle.item_roll.proofs.Places.{count_most}
use Rattle.item_roll.proofs.Kept.{found, none_in, ascending_is}
use Rattle.item_roll.proofs.run.RunPart.below.Goals as goal

pub returns-then-is_empty-clause-value : goal.returns-then-is_empty-clause-value
returns-then-is_empty-clause-value g c = rw (← c.self.view_is) (none_in g.P.Part.items c.self.inside.entries.items c.args.edge.now (omega (arith, eqb-true (length c.as_slice-entries.result.now) 0 (sym c.if-is_empty.ensures), ap length c.as_slice-entries.ensures.value)))

pub below-requires : goal.below-requires
below-requires g c =
    let at = rw c.as_slice-entries.ensures.value at c.entry_below-at.ensures in
    let up = rw (← c.self.view_is) at c.requires in
    rw c.deref.ensures (ascending_is g.P.Part.items c.self.inside.entries.items _ c.index-entries-at.result up at.within (rw c.as_slice-entries.ensures.value at c.index-entries-at.is))

pub overflow_add-result : goal.overflow_add-result
overflow_add-result g c =
    let at = rw c.as_slice-entries.ensures.value at c.entry_below-at.ensures in
    let up = rw (← c.self.view_is) at c.requires in
    let e = found g.P.Part.items g.P.Part.most c.self.inside.entries.items _ c.index-entries-at.result c.args.edge.now c.self.invariant.tells up at (rw c.as_slice-entries.ensures.value at c.index-entries-at.is) in
    let n = rw c.deref.ensures at c.below.ensures.value in
    omega (arith, e, n, count_most (joined g.P.Part.items c.self.inside.entries.items) c.args.edge.now, c.self.invariant.few)

pub returns-clause-value : goal.returns-clause-value
returns-clause-value g c =
    let at = rw c.as_slice-entries.ensures.value at c.entry_below-at.ensures in
    let up = rw (← c.self.view_is) at c.requires in
    let e = found g.P.Part.items g.P.Part.most c.self.inside.entries.items _ c.index-entries-at.result c.args.edge.now c.self.invariant.tells up at (rw c.as_slice-entries.ensures.value at c.index-entries-at.is) in
    let n = rw c.deref.ensures at c.below.ensures.value in
    rw (← c.self.view_is) (ap (λ (m : ℕ). c.index-entries-at.result.before + m) n ∙ e)

pub returns-clause-within : goal.returns-clause-within
returns-clause-within g c =
    let at = rw c.as_slice-entries.ensures.value at c.entry_below-at.ensures in
    let up = rw (← c.self.view_is) at c.requires in
    let e = found g.P.Part.items g.P.Part.most c.self.inside.entries.items _ c.index-entries-at.result c.args.edge.now c.self.invariant.tells up at (rw c.as_slice-entries.ensures.value at c.index-entries-at.is) in
    let n = rw c.deref.ensures at c.below.ensures.value in
    rw (← c.self.view_is) (omega (arith, e, n, count_most (joined g.P.Part.items c.self.inside.entries.items) c.args.edge.now))
