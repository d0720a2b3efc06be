use Rattle.std.proofs.Common.{◌≡◌, ◌≢◌, Result, Ok, Err, arith, refl, ap}
use Rattle.std.proofs.lemmas.Result.{err_from_is_err_and}
use Rattle.neg_initiator.specs.declared.initiator.Outcome.{Outcome}
use Rattle.neg_session.specs.declared.fault.SessionFault.{SessionFault}
use Rattle.neg_session.specs.declared.fault.SessionFault.TheVariants.{PeerFailed, Rounds}
use Rattle.neg_session.proofs.Beginning.{going_first, ran_quiet, ran_told, may_fail}
use Rattle.neg_session.proofs.Driver.{going_asked, ran_answered, ran_ended}
use Rattle.neg_session.proofs.session.reconcile_with.Goals as goal

-- what was found is no fault
no_fault : (o : Outcome) (e : SessionFault) → ◌≡◌ {A = Result Outcome SessionFault} (Ok o) (Err e) → ⊥
no_fault o e h = cc

-- one fault is no other
other_fault : (e f : SessionFault) → e ≢ f → ◌≡◌ {A = Result Outcome SessionFault} (Err e) (Err f) → ⊥
other_fault e f other h = other cc

not_rounds : Rounds ≢ PeerFailed
not_rounds h = cc

pub loop-round-init : goal.loop-round-init
loop-round-init g c = record {
  going = going_first _ _ _ _ _ _ c.in-Ok.ensures;
  becomes = g.met.P.Peer.stays c.args.peer.now;
}

pub returns-in_err-answer-clause-ran : goal.returns-in_err-answer-clause-ran
returns-in_err-answer-clause-ran g c =
    let p = err_from_is_err_and c.from_residual.result c.from_residual.ensures.1 in
    ran_told _ _ _ _ _ _ _ _ _ _ _ _ c.loop-round.invariant.going c.in_err-answer.ensures.err c.loop-round-test.true c.in_err-answer.field-0.0
    (λ e. (c.in_err-answer.ensures.failed (ap Err e)).0) (λ e. c.in_err-answer.ensures.memory (ap Err e)) c.from_residual.result _ p.1 p.2

pub returns-in_err-answer-clause-failed : goal.returns-in_err-answer-clause-failed
returns-in_err-answer-clause-failed g c =
    let p = err_from_is_err_and c.from_residual.result c.from_residual.ensures.1 in
    may_fail _ _ _ _ _ _ _ _ (g.P.Peer.faults c.ask.new.self) _ _ _ c.loop-round.invariant.going c.in_err-answer.ensures.err g.P.Peer.fails c.deref.result.now c.deref.ensures.value c.in_err-answer.field-0.0
    (λ e. (c.in_err-answer.ensures.failed (ap Err e)).1) c.from_residual.result _ p.1 p.2

pub returns-in_err-answer-clause-becomes : goal.returns-in_err-answer-clause-becomes
returns-in_err-answer-clause-becomes g c = g.met.P.Peer.goes_on _ _ _ c.loop-round.invariant.becomes c.ask.ensures.becomes

pub returns-in-Ok-Done-clause-ran : goal.returns-in-Ok-Done-clause-ran
returns-in-Ok-Done-clause-ran g c =
    let asked = rw c.deref.ensures.value at c.in_ok-answer.ensures.ok in
    ran_answered _ _ _ _ _ _ _ _ _ _ _ _ c.loop-round.invariant.going _ asked.0 asked.1 c.one_message.ensures c.deref-in-loop-round.result.now c.deref-in-loop-round.ensures.value
    c.take_answer.new.initiator c.in-Ok-Done.field-0 c.in-Ok-Done.ensures.goes c.in-Ok-Done.field-0-is c.loop-round-test.true c.in-Ok-Done.ensures.room
    c.outcome.result c.outcome.ensures.need c.outcome.ensures.have c.outcome.ensures.trusted c.outcome.ensures.once

pub returns-in-Ok-Done-clause-failed : goal.returns-in-Ok-Done-clause-failed
returns-in-Ok-Done-clause-failed g c = λ h. absurd (no_fault _ _ h)

pub returns-in-Ok-Done-clause-becomes : goal.returns-in-Ok-Done-clause-becomes
returns-in-Ok-Done-clause-becomes g c = g.met.P.Peer.goes_on _ _ _ c.loop-round.invariant.becomes c.ask.ensures.becomes

pub returns-in-Err-clause-ran : goal.returns-in-Err-clause-ran
returns-in-Err-clause-ran g c =
    let asked = rw c.deref.ensures.value at c.in_ok-answer.ensures.ok in
    ran_ended _ _ _ _ _ _ _ _ _ _ _ _ c.loop-round.invariant.going _ asked.0 asked.1 c.deref-in-loop-round.result.now c.deref-in-loop-round.ensures.value c.loop-round-test.true
    _ refl c.take_answer.new.initiator c.in-Err.fault c.in-Err.ensures.ends

pub returns-in-Err-clause-failed : goal.returns-in-Err-clause-failed
returns-in-Err-clause-failed g c = λ h. absurd (other_fault _ _ c.in-Err.ensures.ends.failed h)

pub returns-in-Err-clause-becomes : goal.returns-in-Err-clause-becomes
returns-in-Err-clause-becomes g c = g.met.P.Peer.goes_on _ _ _ c.loop-round.invariant.becomes c.ask.ensures.becomes

pub loop-round-preserved : goal.loop-round-preserved
loop-round-preserved g c =
    let asked = rw c.deref.ensures.value at c.in_ok-answer.ensures.ok in
    record {
      going = going_asked _ _ _ _ _ _ _ _ _ _ _ _ c.loop-round.invariant.going _ asked.0 asked.1 c.one_message.ensures c.deref-in-loop-round.result.now c.deref-in-loop-round.ensures.value
          c.take_answer.new.initiator c.in-Ok-Ask.field-0 c.in-Ok-Ask.ensures.goes c.in-Ok-Ask.next c.in-Ok-Ask.field-0-is c.len-left.result (omega (arith, c.len-left.ensures, c.in_ok-answer.answer.ok.0)) c.in-Ok-Ask.ensures.room;
      becomes = g.met.P.Peer.goes_on _ _ _ c.loop-round.invariant.becomes c.ask.ensures.becomes;
    }

pub returns-clause-ran : goal.returns-clause-ran
returns-clause-ran g c =
    let end : c.loop-round.round ≡ c.args.limits.now.rounds = omega (arith, c.loop-round-test.false) in
    ran_quiet _ _ _ _ _ _ _ _ _ _ _ _ c.loop-round.invariant.going refl (omega (arith, end)) _ (λ e. cc) (λ no. refl) (λ f e. cc) (λ e. end) (λ e. cc) (λ e. cc)

pub returns-clause-failed : goal.returns-clause-failed
returns-clause-failed g c = λ h. absurd (other_fault _ _ not_rounds h)

pub returns-clause-becomes : goal.returns-clause-becomes
returns-clause-becomes g c = c.loop-round.invariant.becomes
