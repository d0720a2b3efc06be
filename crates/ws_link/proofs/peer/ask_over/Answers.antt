use Rattle.std.proofs.Common.{◌∙◌, ℕ, List, [], ◌∷◌, ◌++◌, ap, refl}
use Rattle.std.proofs.lemmas.Result.{IfOk-from_err}
use Rattle.neg_session.specs.Exchange.{Exchange, exchange}
use Rattle.wire.specs.Line.{talk_of}
use Rattle.wire.proofs.Growing.{grows_chain}
use Rattle.ws_link.proofs.Failing.{on_err_also}
use Rattle.ws_link.proofs.peer.ask_over.Goals as goal

pub returns-in_err-put-clause-exchanged : goal.returns-in_err-put-clause-exchanged
returns-in_err-put-clause-exchanged g c = IfOk-from_err c.from_residual.result _ c.from_residual.ensures.0

pub returns-in_err-put-clause-logged : goal.returns-in_err-put-clause-logged
returns-in_err-put-clause-logged g c = IfOk-from_err c.from_residual.result _ c.from_residual.ensures.0

pub returns-in_err-put-clause-kept : goal.returns-in_err-put-clause-kept
returns-in_err-put-clause-kept g c = on_err_also c.from_residual.result refl

pub returns-in_err-put-clause-grows : goal.returns-in_err-put-clause-grows
returns-in_err-put-clause-grows g c = c.put.ensures.grows

pub returns-in_err-answer-clause-exchanged : goal.returns-in_err-answer-clause-exchanged
returns-in_err-answer-clause-exchanged g c = IfOk-from_err c.from_residual-in_err-answer.result _ c.from_residual-in_err-answer.ensures.0

pub returns-in_err-answer-clause-logged : goal.returns-in_err-answer-clause-logged
returns-in_err-answer-clause-logged g c = IfOk-from_err c.from_residual-in_err-answer.result _ c.from_residual-in_err-answer.ensures.0

pub returns-in_err-answer-clause-kept : goal.returns-in_err-answer-clause-kept
returns-in_err-answer-clause-kept g c = on_err_also c.from_residual-in_err-answer.result refl

pub returns-in_err-answer-clause-grows : goal.returns-in_err-answer-clause-grows
returns-in_err-answer-clause-grows g c = grows_chain (talk_of c.args.wire.now) (talk_of c.put.new.wire) (talk_of c.answer.new.wire) c.put.ensures.grows c.answer.ensures.grows

pub returns-in_err-pair_of-clause-exchanged : goal.returns-in_err-pair_of-clause-exchanged
returns-in_err-pair_of-clause-exchanged g c = IfOk-from_err c.from_residual-in_err-pair_of.result _ c.from_residual-in_err-pair_of.ensures.0

pub returns-in_err-pair_of-clause-logged : goal.returns-in_err-pair_of-clause-logged
returns-in_err-pair_of-clause-logged g c = IfOk-from_err c.from_residual-in_err-pair_of.result _ c.from_residual-in_err-pair_of.ensures.0

pub returns-in_err-pair_of-clause-kept : goal.returns-in_err-pair_of-clause-kept
returns-in_err-pair_of-clause-kept g c = on_err_also c.from_residual-in_err-pair_of.result refl

pub returns-in_err-pair_of-clause-grows : goal.returns-in_err-pair_of-clause-grows
returns-in_err-pair_of-clause-grows g c = grows_chain (talk_of c.args.wire.now) (talk_of c.put.new.wire) (talk_of c.answer.new.wire) c.put.ensures.grows c.answer.ensures.grows

pub returns-in_err-push-clause-exchanged : goal.returns-in_err-push-clause-exchanged
returns-in_err-push-clause-exchanged g c = IfOk-from_err c.from_residual-in_err-push.result _ c.from_residual-in_err-push.ensures.0

pub returns-in_err-push-clause-logged : goal.returns-in_err-push-clause-logged
returns-in_err-push-clause-logged g c = IfOk-from_err c.from_residual-in_err-push.result _ c.from_residual-in_err-push.ensures.0

pub returns-in_err-push-clause-kept : goal.returns-in_err-push-clause-kept
returns-in_err-push-clause-kept g c = on_err_also c.from_residual-in_err-push.result c.in_err-push.ensures.items

pub returns-in_err-push-clause-grows : goal.returns-in_err-push-clause-grows
returns-in_err-push-clause-grows g c = grows_chain (talk_of c.args.wire.now) (talk_of c.put.new.wire) (talk_of c.answer.new.wire) c.put.ensures.grows c.answer.ensures.grows

pub returns-clause-exchanged : goal.returns-clause-exchanged
returns-clause-exchanged g c =
    (talk_of c.put.new.wire, c.in_ok-put.ensures.said, c.in_ok-answer.ensures.answers)

pub returns-clause-logged : goal.returns-clause-logged
returns-clause-logged g c =
    let same = c.in_ok-pair_of.ensures ∙ ap (λ (a : List ℕ). exchange c.args.question.now a) c.as_slice.ensures.value in
    c.in_ok-push.ensures.items ∙ ap (λ (e : Exchange). c.args.pairs.now.items ++ e ∷ []) same

pub returns-clause-grows : goal.returns-clause-grows
returns-clause-grows g c = grows_chain (talk_of c.args.wire.now) (talk_of c.put.new.wire) (talk_of c.answer.new.wire) c.put.ensures.grows c.answer.ensures.grows
