use Rattle.std.proofs.Common.{◌≡◌, ℕ, ◌+◌, List, Some, sym, ap, ◌∙◌, subst, arith}
use Rattle.item_key.specs.declared.Id.{Id}
use Rattle.claim_board.specs.declared.records.LaneRecord.{LaneRecord}
use Rattle.mirror_core.specs.Batches.{Batched}
use Rattle.mirror_core.specs.Asked.{AreIdsOf}
use Rattle.mirror_core.proofs.Asked.{one_more, up_to}
use Rattle.mirror_core.proofs.Batches.{batched_met, batched_won}
use Rattle.mirror_core.proofs.batch.claim_next.Goals as goal

pub returns-in-Won-clause-batched : goal.returns-in-Won-clause-batched
returns-in-Won-clause-batched g c =
    let own = c.args.lane.now.own in
    let n = c.args.batch.now.next in
    let cell = c.cell-relay.result in
    let won = c.in-Won.ensures.claimed in
    let same : cell.1 ≡ own.relay = let f = c.if-relay.false in let r = c.relay.ensures in omega arith in
    let b = batched_won c.args.board.now.cells n c.args.batch.now.cells.items c.args.batch.now.ids.items own c.requires.batched cell.0 (c.cell-relay.ensures.value ∙ ap (λ (r : ℕ). Some (cell.0, r)) same) won.1 in
    subst (λ (z : List ℕ × List Id × LaneRecord). Batched c.args.board.now.cells (n + 1) z.0 z.1 z.2) (λ k. (sym c.push_reserved.ensures.items k, sym c.push_reserved-in-Won.ensures.items k, sym won.0 k)) b

pub returns-in-Lost-clause-batched : goal.returns-in-Lost-clause-batched
returns-in-Lost-clause-batched g c =
    let n = c.args.batch.now.next in
    let met = c.in-Lost.ensures.claimed in
    let b = batched_met c.args.board.now.cells n c.args.batch.now.cells.items c.args.batch.now.ids.items c.args.lane.now.own c.requires.batched _ met.0 in
    subst (Batched c.args.board.now.cells (n + 1) c.args.batch.now.cells.items c.args.batch.now.ids.items) (sym met.1) b

pub returns-then-relay-clause-asked : goal.returns-then-relay-clause-asked
returns-then-relay-clause-asked g c = λ first h. up_to c.args.board.now.cells c.args.lane.now.own.relay first c.args.batch.now.next (c.args.batch.now.next + 1) c.args.batch.now.ids.items (omega arith) h

pub returns-in-Won-clause-asked : goal.returns-in-Won-clause-asked
returns-in-Won-clause-asked g c =
    let own = c.args.lane.now.own in
    let n = c.args.batch.now.next in
    let cell = c.cell-relay.result in
    let same : cell.1 ≡ own.relay = let f = c.if-relay.false in let r = c.relay.ensures in omega arith in
    λ first h. subst (AreIdsOf c.args.board.now.cells own.relay first (n + 1)) (sym c.push_reserved-in-Won.ensures.items)
    (one_more c.args.board.now.cells own.relay first n c.args.batch.now.ids.items cell.0 h (c.cell-relay.ensures.value ∙ ap (λ (r : ℕ). Some (cell.0, r)) same))

pub returns-in-Lost-clause-asked : goal.returns-in-Lost-clause-asked
returns-in-Lost-clause-asked g c = λ first h. up_to c.args.board.now.cells c.args.lane.now.own.relay first c.args.batch.now.next (c.args.batch.now.next + 1) c.args.batch.now.ids.items (omega arith) h
