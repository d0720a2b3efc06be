use Rattle.std.proofs.Common.{◌≡◌, length, ℕ, List, sym, ap, ◌∙◌, arith, subst}
use Rattle.atomic_table.specs.Table.{Me}
use Rattle.claim_board.specs.declared.records.LaneRecord.{LaneRecord}
use Rattle.fetch_plan.specs.declared.cell.Cell.{Cell}
use Rattle.claim_board.specs.Steps.{own_of, others_of}
use Rattle.claim_board.specs.Views.{BoardView, LaneView, Sees}
use Rattle.claim_board.proofs.Lanes.{may_look, after_look, seated}
use Rattle.claim_board.proofs.board.Board.look.Goals as goal

pub load-found-requires : goal.load-found-requires
load-found-requires g c =
    let board = c.self.view_is in
    let lane = c.lane.view_is in
    let cells = ap (λ (z : BoardView). length z.cells) board in
    let words = c.self.invariant.1 in
    let low = c.requires.cell in (
      ap (λ (z : LaneView). z.board) lane ∙ (c.requires.board ∙ sym (ap (λ (z : BoardView). z.board) board)),
      omega arith,
      may_look _ _ c.self.invariant.0 _ _ _ _ _ _ c.lane.invariant (omega arith),
    )

pub cell_of-requires : goal.cell_of-requires
cell_of-requires g c = (after_look _ _ _ _ _ _ c.lane.invariant c.load-found.ensures.2).4

pub invariant_of-lane : goal.invariant_of-lane
invariant_of-lane g c = let t = after_look _ _ _ _ _ _ c.lane.invariant c.load-found.ensures.2 in seated _ _ _ _ t.0 c.lane.invariant t.1 t.2 t.3

pub returns-clause-same : goal.returns-clause-same
returns-clause-same g c = let t = after_look _ _ _ _ _ _ c.lane.invariant c.load-found.ensures.2 in
    (c.load-found.ensures.0 ∙ ap (λ (z : LaneView). z.board) c.lane.view_is, ap (λ (z : Me ℕ (List LaneRecord)). others_of z.0) t.1 ∙ ap (λ (z : LaneView). z.others) c.lane.view_is)

pub returns-clause-seen : goal.returns-clause-seen
returns-clause-seen g c = let t = after_look _ _ _ _ _ _ c.lane.invariant c.load-found.ensures.2 in
    let own : own_of c.lane.inside.seat.me.0 ≡ c.args.lane.now.own = ap (λ (z : LaneView). z.own) c.lane.view_is in
    let f : t.0 ≡ own_of c.load-found.new.seat.me.0 = sym (ap (λ (z : Me ℕ (List LaneRecord)). own_of z.0) t.1) in
    subst (λ (z : LaneRecord × LaneRecord × Cell). Sees c.args.cell z.0 z.2 z.1) (λ k. (own k, f k, sym c.cell_of.ensures k)) t.5
