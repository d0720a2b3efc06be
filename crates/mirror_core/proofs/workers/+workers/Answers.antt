use Rattle.std.proofs.Common.{rules}
use Rattle.claim_board.specs.Views.{LaneView}
use Rattle.mirror_core.specs.Six.{AllSix}
use Rattle.mirror_core.proofs.Six.{AllSix-append}
use Rattle.mirror_core.proofs.workers.+workers.Goals as goal

pub returns : goal.returns
returns g t c =
    let R : LaneView → LaneView → g.row.S.Denot → g.row.S.Denot → g.row.E.Denot → g.row.E.Denot → Type 0 = λ l m s t' u end. g.H.Duty.did c.args.board.now.cells l m s t' end in
    let front : AllSix R c.split_at_mut-front.result.0.now c.front-1.given.0 c.split_at_mut-near.result.0.now c.near-1.given.0 c.split_at_mut-first.result.0.now c.first-1.given.0 = search rules in
    let back : AllSix R c.split_at_mut-front.result.1.now c.back-1.given.0 c.split_at_mut-near.result.1.now c.far-1.given.0 c.split_at_mut-first.result.1.now c.last-1.given.0 = search rules in
    rw (c.split_at_mut-front.ensures.value, c.split_at_mut-near.ensures.value, c.split_at_mut-first.ensures.value) (AllSix-append R _ _ _ _ _ _ _ _ _ _ _ _ front back)
