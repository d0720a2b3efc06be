use Rattle.std.proofs.Common.{rules, ◌<◌, ◌≤◌, ℕ, length, Err, refl, sym, ap, ◌∙◌, subst, arith}
use Rattle.std.proofs.lemmas.Bool.{false≢true}
use Rattle.claim_board.specs.Views.{LaneView}
use Rattle.mirror_core.proofs.Batches.{holds_none, same_then}
use Rattle.mirror_core.proofs.Logs.{logs_none, logs_then, worked}
use Rattle.mirror_core.proofs.Asked.{relay_kept, asked_batch}
use Rattle.mirror_core.proofs.worker.work_lane.Goals as goal

pub returns-in_default-clause-worked : goal.returns-in_default-clause-worked
returns-in_default-clause-worked g c =
    let cells = c.args.board.now.cells in
    let before = g.S.Source.log c.args.source.now in
    let after = g.S.Source.log c.loop-next.source in
    let old = c.loop-next.invariant in
    let fill = c.fill.ensures in
    let same = same_then c.args.lane.now c.loop-next.lane c.fill.new.lane old.same fill.same in
    let logs = logs_then cells c.args.lane.now.own c.loop-next.lane.own c.fill.new.lane.own before after after old.logs (logs_none cells c.loop-next.lane.own c.fill.new.lane.own after after refl fill.same.relay fill.ended) in
    worked cells c.args.lane.now c.fill.new.lane before after _ _ _ 0 c.requires.unused same (ap (λ (z : LaneView). z.own.held) c.in_default.ensures.err ∙ holds_none c.loop-next.lane.own old.batched.holds) logs
    (λ t. absurd (false≢true t)) (λ e. absurd (cc)) (λ rose. absurd (omega (arith, rose, old.faults))) c.loop-next.next (relay_kept cells before after c.loop-next.next c.loop-next.lane c.fill.new.lane fill.same.relay old.asked)

pub returns-in-Err-clause-worked : goal.returns-in-Err-clause-worked
returns-in-Err-clause-worked g c =
    let cells = c.args.board.now.cells in
    let before = g.S.Source.log c.args.source.now in
    let middle = g.S.Source.log c.loop-next.source in
    let after = g.S.Source.log c.fetch_batch.new.source in
    let old = c.loop-next.invariant in
    let fill = c.fill.ensures in
    let same = same_then c.args.lane.now c.loop-next.lane c.fill.new.lane old.same fill.same in
    let logs = logs_then cells c.args.lane.now.own c.loop-next.lane.own c.fill.new.lane.own before middle middle old.logs (logs_none cells c.loop-next.lane.own c.fill.new.lane.own middle middle refl fill.same.relay fill.ended) in
    worked cells c.args.lane.now c.fetch_batch.new.lane before after _ _ c.in-Err.stop 0 c.requires.unused
    (same_then c.args.lane.now c.fill.new.lane c.fetch_batch.new.lane same c.fetch_batch.ensures.same) c.fetch_batch.ensures.held
    (logs_then cells c.args.lane.now.own c.fill.new.lane.own c.fetch_batch.new.lane.own before middle after logs c.fetch_batch.ensures.log)
    (λ t. absurd (false≢true (sym c.in-Err.ensures.stop ∙ t)))
    (λ e. subst (λ (n : ℕ). n < g.S.Source.faults c.fetch_batch.new.source) old.faults (c.in-Err.ensures.failed (ap (λ z. Err z) e)))
    (λ rose. c.in-Err.ensures.told (subst (λ (n : ℕ). n < g.S.Source.faults c.fetch_batch.new.source) (sym old.faults) rose))
    _ (asked_batch cells c.loop-next.next _ _ before middle after c.loop-next.lane c.fetch_batch.new.lane (c.fetch_batch.ensures.same.relay ∙ fill.same.relay) old.asked c.in-Ok.ensures.asked c.fetch_batch.ensures.asked)

pub loop-next-preserved : goal.loop-next-preserved
loop-next-preserved g c =
    let cells = c.args.board.now.cells in
    let before = g.S.Source.log c.args.source.now in
    let middle = g.S.Source.log c.loop-next.source in
    let after = g.S.Source.log c.fetch_batch.new.source in
    let old = c.loop-next.invariant in
    let fill = c.fill.ensures in
    let same = same_then c.args.lane.now c.loop-next.lane c.fill.new.lane old.same fill.same in
    let logs = logs_then cells c.args.lane.now.own c.loop-next.lane.own c.fill.new.lane.own before middle middle old.logs (logs_none cells c.loop-next.lane.own c.fill.new.lane.own middle middle refl fill.same.relay fill.ended) in
    let becomes : g.S.Source.becomes c.args.source.now c.fetch_batch.new.source = search rules in
    record {
      board = c.fetch_batch.ensures.same.board ∙ (fill.same.board ∙ old.board);
      same = same_then c.args.lane.now c.fill.new.lane c.fetch_batch.new.lane same c.fetch_batch.ensures.same;
      batched = c.in-Ok-fetch_batch.ensures.batched;
      asked = asked_batch cells c.loop-next.next _ _ before middle after c.loop-next.lane c.fetch_batch.new.lane (c.fetch_batch.ensures.same.relay ∙ fill.same.relay) old.asked c.in-Ok.ensures.asked c.fetch_batch.ensures.asked;
      logs = logs_then cells c.args.lane.now.own c.fill.new.lane.own c.fetch_batch.new.lane.own before middle after logs c.fetch_batch.ensures.log;
      faults = c.in-Ok-fetch_batch.ensures.faults ∙ old.faults;
      becomes = becomes;
    }

pub returns-clause-worked : goal.returns-clause-worked
returns-clause-worked g c =
    let old = c.loop-next.invariant in
    let through : length c.args.board.now.cells ≤ c.loop-next.next = omega (arith, c.loop-next-test.false, c.len.ensures) in
    worked c.args.board.now.cells c.args.lane.now c.loop-next.lane _ _ _ _ _ c.loop-next.next c.requires.unused old.same (holds_none c.loop-next.lane.own old.batched.holds) old.logs (λ t. (old.batched, through)) (λ e. absurd (cc)) (λ rose. absurd (omega (arith, rose, old.faults))) c.loop-next.next old.asked
