use Rattle.std.proofs.Common.{arith}
use Rattle.item_roll.proofs.Kept.{read}
use Rattle.item_roll.proofs.Pieces.{piece_from}
use Rattle.item_roll.proofs.run.RunPart.piece.Goals as goal

pub overflow_sub-hi : goal.overflow_sub-hi
overflow_sub-hi g c =
    let at = rw c.deref.ensures.value at c.entry_at-at.ensures in
    omega (arith, (read g.P.Part.items g.P.Part.most c.self.inside.entries.items _ c.args.lo c.index-entry.result.now c.self.invariant.tells at c.index-entry.ensures).from, c.requires.0)

pub overflow_sub-lo : goal.overflow_sub-lo
overflow_sub-lo g c =
    let at = rw c.deref.ensures.value at c.entry_at-at.ensures in
    (read g.P.Part.items g.P.Part.most c.self.inside.entries.items _ c.args.lo c.index-entry.result.now c.self.invariant.tells at c.index-entry.ensures).from

pub piece-requires : goal.piece-requires
piece-requires g c =
    let at = rw c.deref.ensures.value at c.entry_at-at.ensures in
    let there = (read g.P.Part.items g.P.Part.most c.self.inside.entries.items _ c.args.lo c.index-entry.result.now c.self.invariant.tells at c.index-entry.ensures) in
    let len = rw c.deref-2.ensures at c.len.ensures in
    rw c.deref-3.ensures (omega (arith, there.from, there.within, len, c.min-end.ensures, c.requires.0), omega (arith, len, c.min-end.ensures))

pub returns-clause-items : goal.returns-clause-items
returns-clause-items g c =
    let at = rw c.deref.ensures.value at c.entry_at-at.ensures in
    let there = (read g.P.Part.items g.P.Part.most c.self.inside.entries.items _ c.args.lo c.index-entry.result.now c.self.invariant.tells at c.index-entry.ensures) in
    let len = rw c.deref-2.ensures at c.len.ensures in
    let cut = rw c.deref-3.ensures at c.piece.ensures.items in
    rw (← c.self.view_is) (piece_from g.P.Part.items g.P.Part.most c.self.inside.entries.items _ c.args.lo c.index-entry.result.now c.piece.result.now c.self.invariant.tells at c.index-entry.ensures (omega (arith, len, c.min-end.ensures, c.piece.ensures.within)) cut)
