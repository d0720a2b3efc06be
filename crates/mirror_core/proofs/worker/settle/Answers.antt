use Rattle.std.proofs.Common.{◌≡◌, ◌+◌, ℕ, List, ◌∷◌, drop, sym, ap, ◌∙◌, subst, arith}
use Rattle.std.specs.Prelude.{Contains}
use Rattle.std.proofs.lemmas.List.{drop_more}
use Rattle.std.proofs.Math.ListN.{drop_of_length-le}
use Rattle.claim_board.proofs.Words.{in_first}
use Rattle.event_source.specs.Fetching.{ids_of}
use Rattle.mirror_core.specs.Batches.{Batched}
use Rattle.mirror_core.proofs.Batches.{holds_none, cell_within, cells_within, batched_ended, batched_clear, settles_ended, settles_none, settles_then, same_then}
use Rattle.mirror_core.proofs.worker.settle.Goals as goal

pub end_cell-requires-clause-cell : goal.end_cell-requires-clause-cell
end_cell-requires-clause-cell g c =
    let items = c.args.batch.now.cells.items in
    let k = c.loop-k.k in
    let x = c.index.result.now in
    let rest = drop (k + 1) items in
    let more : drop k items ≡ x ∷ rest = drop_more items k x (omega (arith, c.loop-k-test.true, c.loop-k.auto.k-end, c.len-k-end.ensures)) ∙ ap (λ (z : ℕ). z ∷ rest) (sym c.index.ensures) in
    let b = subst (λ (z : List ℕ). Batched c.args.board.now.cells c.args.batch.now.next z c.args.batch.now.ids.items c.loop-k.lane.own) more c.loop-k.invariant.batched in
    (cell_within _ _ x rest _ _ b, (b.holds.held x).1 (in_first x rest))

pub release_from-requires-clause-within : goal.release_from-requires-clause-within
release_from-requires-clause-within g c =
    let value = c.deref.ensures.value in
    λ i h. cells_within _ _ _ _ _ c.requires.batched i (subst (λ (z : List ℕ). Contains z i) value h)

pub returns-in_default-clause-settles : goal.returns-in_default-clause-settles
returns-in_default-clause-settles g c =
    settles_none c.args.board.now.cells c.args.batch.now.ids.items (ids_of c.args.given.now) c.args.lane.now.own c.release_from.new.lane.own c.release_from.ensures.ended

pub release_from-requires-in-Err-clause-within : goal.release_from-requires-in-Err-clause-within
release_from-requires-in-Err-clause-within g c =
    let value = c.deref-in-Err.ensures.value in
    λ i h. cells_within _ _ _ _ _ c.loop-k.invariant.batched i (subst (λ (z : List ℕ). Contains (drop c.loop-k.k z) i) value h)

pub returns-in-Err-clause-settles : goal.returns-in-Err-clause-settles
returns-in-Err-clause-settles g c =
    let cells = c.args.board.now.cells in
    let asked = c.args.batch.now.ids.items in
    let given = ids_of c.args.given.now in
    let same = same_then c.loop-k.lane c.end_cell.new.lane c.release_from-in-Err.new.lane c.end_cell.ensures.same c.release_from-in-Err.ensures.same in
    settles_then cells asked given c.args.lane.now.own c.loop-k.lane.own c.release_from-in-Err.new.lane.own same.relay c.loop-k.invariant.settles
    (settles_none cells asked given c.loop-k.lane.own c.release_from-in-Err.new.lane.own (c.release_from-in-Err.ensures.ended ∙ ap (λ z. z.own.ended) c.in-Err.ensures.err))

pub loop-k-preserved : goal.loop-k-preserved
loop-k-preserved g c =
    let cells = c.args.board.now.cells in
    let asked = c.args.batch.now.ids.items in
    let given = ids_of c.args.given.now in
    let items = c.args.batch.now.cells.items in
    let next = c.args.batch.now.next in
    let k = c.loop-k.k in
    let x = c.index.result.now in
    let rest = drop (k + 1) items in
    let e = c.loop-k.lane.own in
    let f = c.end_cell.new.lane.own in
    let more : drop k items ≡ x ∷ rest = drop_more items k x (omega (arith, c.loop-k-test.true, c.loop-k.auto.k-end, c.len-k-end.ensures)) ∙ ap (λ (z : ℕ). z ∷ rest) (sym c.index.ensures) in
    let b = subst (λ (z : List ℕ). Batched cells next z asked e) more c.loop-k.invariant.batched in
    let ended = c.in-Ok-end_cell.ensures.ended in
    let same = c.end_cell.ensures.same in
    record {
      board = same.board ∙ c.loop-k.invariant.board;
      same = same_then c.args.lane.now c.loop-k.lane c.end_cell.new.lane c.loop-k.invariant.same same;
      settles = settles_then cells asked given c.args.lane.now.own e f same.relay c.loop-k.invariant.settles (settles_ended cells next x rest asked e b given f ended);
      batched = batched_ended cells next x rest asked e b given f ended;
    }

pub returns-clause-batched : goal.returns-clause-batched
returns-clause-batched g c =
    let none = drop_of_length-le c.args.batch.now.cells.items (omega (arith, c.loop-k-test.false, c.loop-k.auto.k-end, c.len-k-end.ensures)) in
    batched_clear c.args.board.now.cells c.args.batch.now.next _ c.args.batch.now.ids.items c.loop-k.lane.own none c.loop-k.invariant.batched

pub returns-clause-held : goal.returns-clause-held
returns-clause-held g c =
    let none = drop_of_length-le c.args.batch.now.cells.items (omega (arith, c.loop-k-test.false, c.loop-k.auto.k-end, c.len-k-end.ensures)) in
    holds_none c.loop-k.lane.own (batched_clear c.args.board.now.cells c.args.batch.now.next _ c.args.batch.now.ids.items c.loop-k.lane.own none c.loop-k.invariant.batched).holds

pub returns-in_default-clause-same : goal.returns-in_default-clause-same
returns-in_default-clause-same g c = c.release_from.ensures.same

pub returns-in_default-clause-held : goal.returns-in_default-clause-held
returns-in_default-clause-held g c = c.release_from.ensures.held

pub returns-in-Err-clause-same : goal.returns-in-Err-clause-same
returns-in-Err-clause-same g c =
    let ended = same_then c.args.lane.now c.loop-k.lane c.end_cell.new.lane c.loop-k.invariant.same c.end_cell.ensures.same in
    same_then c.args.lane.now c.end_cell.new.lane c.release_from-in-Err.new.lane ended c.release_from-in-Err.ensures.same

pub returns-in-Err-clause-held : goal.returns-in-Err-clause-held
returns-in-Err-clause-held g c = c.release_from-in-Err.ensures.held

pub returns-clause-same : goal.returns-clause-same
returns-clause-same g c = c.loop-k.invariant.same

pub returns-clause-settles : goal.returns-clause-settles
returns-clause-settles g c = c.loop-k.invariant.settles

pub end_cell-requires-clause-board : goal.end_cell-requires-clause-board
end_cell-requires-clause-board g c = c.loop-k.invariant.board

pub release_from-requires-clause-holds : goal.release_from-requires-clause-holds
release_from-requires-clause-holds g c = rw c.deref.ensures.value c.requires.batched.holds

pub release_from-requires-in-Err-clause-board : goal.release_from-requires-in-Err-clause-board
release_from-requires-in-Err-clause-board g c = c.end_cell.ensures.same.board ∙ c.loop-k.invariant.board
