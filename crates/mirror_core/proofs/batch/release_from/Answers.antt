use Rattle.std.proofs.Common.{◌+◌, ℕ, List, drop, get_or, sym, ap, ◌∙◌, subst, arith}
use Rattle.std.specs.Prelude.{Contains}
use Rattle.std.proofs.lemmas.List.{drop_more}
use Rattle.std.proofs.Math.ListN.{drop_of_length-le}
use Rattle.claim_board.specs.Views.{LaneView}
use Rattle.claim_board.proofs.Words.{in_first, in_later}
use Rattle.mirror_core.specs.Batches.{Holds}
use Rattle.mirror_core.proofs.Batches.{holds_rest, holds_none}
use Rattle.mirror_core.proofs.batch.release_from.Goals as goal

pub release-requires-clause-cell : goal.release-requires-clause-cell
release-requires-clause-cell g c =
    let cells = c.args.cells.now in
    let k = c.loop-k.k in
    let x = get_or cells k 0 in
    let rest = drop (k + 1) cells in
    let more = drop_more cells k 0 (omega (arith, c.loop-k-test.true, c.loop-k.auto.k-end)) in
    let holds = subst (λ (z : List ℕ). Holds z c.loop-k.lane.own) more c.loop-k.invariant.holds in
    (c.loop-k.invariant.within x (subst (λ (z : List ℕ). Contains z x) (sym more) (in_first x rest)), (holds.held x).1 (in_first x rest))

pub loop-k-preserved : goal.loop-k-preserved
loop-k-preserved g c =
    let cells = c.args.cells.now in
    let k = c.loop-k.k in
    let x = get_or cells k 0 in
    let rest = drop (k + 1) cells in
    let more = drop_more cells k 0 (omega (arith, c.loop-k-test.true, c.loop-k.auto.k-end)) in
    let holds = subst (λ (z : List ℕ). Holds z c.loop-k.lane.own) more c.loop-k.invariant.holds in
    let old = c.loop-k.invariant in
    let is = c.release.ensures in
    record {
      board = ap (λ (z : LaneView). z.board) is ∙ old.board;
      same = record {
        board = ap (λ (z : LaneView). z.board) is ∙ old.same.board;
        others = ap (λ (z : LaneView). z.others) is ∙ old.same.others;
        lane = ap (λ (z : LaneView). z.own.lane) is ∙ old.same.lane;
        relay = ap (λ (z : LaneView). z.own.relay) is ∙ old.same.relay;
      };
      ended = ap (λ (z : LaneView). z.own.ended) is ∙ old.ended;
      holds = holds_rest x rest c.loop-k.lane.own c.release.new.lane.own (ap (λ (z : LaneView). z.own.held) is) holds;
      within = λ i h. old.within i (subst (λ (z : List ℕ). Contains z i) (sym more) (in_later x rest i h));
    }

pub returns-clause-held : goal.returns-clause-held
returns-clause-held g c =
    let none = drop_of_length-le c.args.cells.now (omega (arith, c.loop-k-test.false, c.loop-k.auto.k-end)) in
    holds_none c.loop-k.lane.own (subst (λ (z : List ℕ). Holds z c.loop-k.lane.own) none c.loop-k.invariant.holds)
