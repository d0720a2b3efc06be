use Rattle.std.proofs.Common.{◌≡◌, length, ℕ, List, sym, ap, ◌∙◌, arith, subst}
use Rattle.std.specs.Prelude.{slice_index}
use Rattle.atomic_table.specs.Table.{Me}
use Rattle.claim_board.specs.declared.records.LaneRecord.{LaneRecord}
use Rattle.claim_board.specs.declared.records.Claimed.{Claimed}
use Rattle.claim_board.specs.declared.records.Claimed.TheVariants.{Lost}
use Rattle.claim_board.specs.Rules.{relays}
use Rattle.claim_board.specs.Steps.{own_of, others_of}
use Rattle.claim_board.specs.Views.{BoardView, LaneView, Claims}
use Rattle.claim_board.proofs.Lanes.{may_claim, after_claim, seated}
use Rattle.claim_board.proofs.board.Board.claim.Goals as goal
use Rattle.claim_board.proofs.board.Board.claim.Goals.{then-found-eq0, else-found-eq0}

pub compare_exchange-found-requires : goal.compare_exchange-found-requires
compare_exchange-found-requires g c =
    let board = c.self.view_is in
    let lane = c.lane.view_is in
    let cells = ap (λ (z : BoardView). length z.cells) board in
    let words = c.self.invariant.1 in
    let low = c.requires.cell.0 in (
      ap (λ (z : LaneView). z.board) lane ∙ (c.requires.board ∙ sym (ap (λ (z : BoardView). z.board) board)),
      omega arith,
      may_claim _ _ c.self.invariant.0 _ _ _ _ _ _ c.lane.invariant (omega arith)
          (ap (λ (z : LaneView). z.own.relay) lane ∙ (c.requires.cell.1 ∙ sym (ap (λ (z : BoardView). slice_index (relays z.cells) c.args.cell) board))),
    )

pub cell_of-requires : goal.cell_of-requires
cell_of-requires g c = let t = after_claim _ _ _ _ _ _ c.lane.invariant c.compare_exchange-found.ensures.2 in (t.5 c.if-found-eq0.false).0

pub invariant_of-lane : goal.invariant_of-lane
invariant_of-lane g c = let t = after_claim _ _ _ _ _ _ c.lane.invariant c.compare_exchange-found.ensures.2 in seated _ _ _ _ t.0 c.lane.invariant t.1 t.2 t.3

pub returns-clause-same : goal.returns-clause-same
returns-clause-same g c = let t = after_claim _ _ _ _ _ _ c.lane.invariant c.compare_exchange-found.ensures.2 in
    (c.compare_exchange-found.ensures.0 ∙ ap (λ (z : LaneView). z.board) c.lane.view_is, ap (λ (z : Me ℕ (List LaneRecord)). others_of z.0) t.1 ∙ ap (λ (z : LaneView). z.others) c.lane.view_is)

pub returns-clause-claimed : goal.returns-clause-claimed
returns-clause-claimed g c = let t = after_claim _ _ _ _ _ _ c.lane.invariant c.compare_exchange-found.ensures.2 in
    let own : own_of c.lane.inside.seat.me.0 ≡ c.args.lane.now.own = ap (λ (z : LaneView). z.own) c.lane.view_is in
    let f : t.0 ≡ own_of c.compare_exchange-found.new.seat.me.0 = sym (ap (λ (z : Me ℕ (List LaneRecord)). own_of z.0) t.1) in
    elim c.if-found-eq0.branch [
      | then-found-eq0 w ↦ subst (λ (z : LaneRecord × LaneRecord × Claimed). Claims c.args.cell z.0 z.2 z.1) (λ k. (own k, f k, sym w.result-is k)) (t.4 w.if-found-eq0.true)
      | else-found-eq0 w ↦ subst (λ (z : LaneRecord × LaneRecord × Claimed). Claims c.args.cell z.0 z.2 z.1) (λ k. (own k, f k, (ap (λ (x : _). Lost x) (sym w.cell_of.ensures) ∙ sym w.result-is) k)) (t.5 w.if-found-eq0.false).1
    ]
