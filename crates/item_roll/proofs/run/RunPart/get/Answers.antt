use Rattle.std.proofs.Common.{◌∙◌}
use Rattle.item_roll.proofs.Kept.{read}
use Rattle.item_roll.proofs.run.RunPart.get.Goals as goal

pub overflow_sub-i : goal.overflow_sub-i
overflow_sub-i g c =
    let at = rw c.deref.ensures.value at c.entry_at-at.ensures in
    (read g.P.Part.items g.P.Part.most c.self.inside.entries.items _ c.args.i c.index-entry.result.now c.self.invariant.tells at c.index-entry.ensures).from

pub get-requires : goal.get-requires
get-requires g c =
    let at = rw c.deref.ensures.value at c.entry_at-at.ensures in
    rw c.deref-2.ensures (read g.P.Part.items g.P.Part.most c.self.inside.entries.items _ c.args.i c.index-entry.result.now c.self.invariant.tells at c.index-entry.ensures).within

pub returns : goal.returns
returns g c =
    let at = rw c.deref.ensures.value at c.entry_at-at.ensures in
    let there = rw c.deref-2.ensures at c.get.ensures in
    rw (← c.self.view_is) ((read g.P.Part.items g.P.Part.most c.self.inside.entries.items _ c.args.i c.index-entry.result.now c.self.invariant.tells at c.index-entry.ensures).value ∙ there)
