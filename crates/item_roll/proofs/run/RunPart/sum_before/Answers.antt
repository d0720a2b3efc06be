use Rattle.std.proofs.Common.{ℕ, ◌+◌, ◌%◌, ◌^◌, arith, ◌∙◌, ap}
use Rattle.neg_print.specs.Total.{total_of}
use Rattle.item_roll.proofs.Kept.{read, sum_to}
use Rattle.item_roll.proofs.run.RunPart.sum_before.Goals as goal

pub overflow_sub-place : goal.overflow_sub-place
overflow_sub-place g c =
    let at = rw c.deref.ensures.value at c.entry_at-at.ensures in
    (read g.P.Part.items g.P.Part.most c.self.inside.entries.items _ c.args.place c.index-entry.result.now c.self.invariant.tells at c.index-entry.ensures).from

pub sum_before-requires : goal.sum_before-requires
sum_before-requires g c =
    let at = rw c.deref.ensures.value at c.entry_at-at.ensures in
    rw c.deref-2.ensures (omega (arith, (read g.P.Part.items g.P.Part.most c.self.inside.entries.items _ c.args.place c.index-entry.result.now c.self.invariant.tells at c.index-entry.ensures).within))

pub returns : goal.returns
returns g c =
    let at = rw c.deref.ensures.value at c.entry_at-at.ensures in
    let front = rw c.deref-2.ensures at c.sum_before.ensures in
    rw (← c.self.view_is) (c.add.ensures ∙ ap (λ (n : ℕ). (total_of c.index-entry.result.now.sum_before + n) % 2 ^ 256) front
    ∙ sum_to g.P.Part.items g.P.Part.most c.self.inside.entries.items _ c.args.place c.index-entry.result.now c.self.invariant.tells at c.index-entry.ensures)
