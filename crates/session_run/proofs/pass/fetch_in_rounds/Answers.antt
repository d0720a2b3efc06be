use Rattle.std.proofs.Common.{◌≡◌, ◌+◌, ◌∙◌, List, sym, ap, subst, length, arith}
use Rattle.std.specs.Io.KnownBytes.{Appends}
use Rattle.session_run.specs.Lines.{round_text}
use Rattle.fetch_plan.specs.declared.cell.Cell.{Cell}
use Rattle.session_run.specs.Rounds.{Stage, CameOver, begin_at}
use Rattle.session_run.proofs.Written.{append_nothing}
use Rattle.session_run.proofs.Rounds.{none_ended, next_round, all_ended, as_many, none_left}
use Rattle.session_run.proofs.pass.fetch_in_rounds.Goals as goal

pub loop-round-init : goal.loop-round-init
loop-round-init g c = record {
  at = none_ended _ _ c.none-all.result c.none-all.ensures.given c.none-all.ensures.missed (append_nothing _);
  few = omega arith;
}

pub loop-round-preserved : goal.loop-round-preserved
loop-round-preserved g c =
    let ended = c.in_ok-counts.ensures in
    let later = c.ask_and_plan.new.plan in
    let next : Stage = begin_at c.ask_and_plan.new.table later in
    let number : c.saturating_add.result ≡ c.loop-round.round + 1 = omega (arith, c.saturating_add.ensures) in
    record {
      at = next_round _ _ c.loop-round.round _ _ _ c.loop-round.all c.in_ok-counts.counts c.with-all.result ended.0 next c.loop-round.invariant.at ended.1
          (record { given = c.with-all.ensures.given; missed = c.with-all.ensures.missed; left = c.with-all.ensures.left }) ended.2 (omega (arith, c.len.ensures.value))
          (subst (λ n. Appends (g.W.Write.contents c.loop-round.writer) (g.W.Write.contents c.say_round.new.writer) (round_text n later)) number c.in_ok-say_round.ensures);
      few = omega arith;
    }

pub returns-then-len-eq0 : goal.returns-then-len-eq0
returns-then-len-eq0 g c =
    let ended = c.in_ok-counts.ensures in
    let next : Stage = begin_at c.ask_and_plan.new.table c.ask_and_plan.new.plan in
    all_ended c.args.settings.now.rounds _ _ c.loop-round.round _ _ c.loop-round.all c.in_ok-counts.counts c.with-all.result ended.0 c.loop-round.invariant.at ended.1
    (record { given = c.with-all.ensures.given; missed = c.with-all.ensures.missed; left = c.with-all.ensures.left }) ended.2.whole ended.2.came
    (none_left c.args.settings.now.rounds _ _ c.loop-round.round _ _ c.loop-round.all ended.0 next c.loop-round.invariant.at (omega arith) ended.2 (omega (arith, c.len.ensures.value)))

pub returns : goal.returns
returns g c =
    let cells = c.as_slice.result.now in
    all_ended c.args.settings.now.rounds _ _ c.loop-round.round _ _ c.loop-round.all c.counts_of.result c.with.result cells c.loop-round.invariant.at c.counts_of.ensures
    (record { given = c.with.ensures.given; missed = c.with.ensures.missed; left = c.with.ensures.left })
    (ap length c.as_slice.ensures.value ∙ c.in_ok-ended.ensures.cells)
    (subst (λ (l : List Cell). CameOver c.loop-round.plan.gives l) (sym c.as_slice.ensures.value) c.in_ok-ended.ensures.came)
    (as_many c.args.settings.now.rounds _ _ c.loop-round.round _ _ c.loop-round.all cells c.loop-round.invariant.at (omega arith) c.loop-round.invariant.few)
