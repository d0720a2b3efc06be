use Rattle.std.proofs.Common.{◌∙◌}
use Rattle.std.proofs.lemmas.Result.{MatchResult-from_err}
use Rattle.event_list.proofs.Prefixes.{prefix_trans}
use Rattle.ws_serve.proofs.Failing.{stream_fault}
use Rattle.ws_serve.proofs.Going.{serving_caught}
use Rattle.ws_serve.proofs.hearing.heed.Goals as goal

pub returns-in_err-went-clause-few : goal.returns-in_err-went-clause-few
returns-in_err-went-clause-few g c = c.answer_message.ensures.few

pub returns-in_err-went-clause-fault : goal.returns-in_err-went-clause-fault
returns-in_err-went-clause-fault g c = stream_fault c.from_residual.result c.in_err-went.field-0.0 c.from_residual.ensures.1 c.in_err-went.ensures.fault

pub returns-in_err-went-clause-limits : goal.returns-in_err-went-clause-limits
returns-in_err-went-clause-limits g c = c.answer_message.ensures.limits

pub returns-in_err-went-clause-served : goal.returns-in_err-went-clause-served
returns-in_err-went-clause-served g c = MatchResult-from_err c.from_residual.result _ _ c.from_residual.ensures.0 (λ _. c.in_err-went.ensures.served)

pub returns-in_err-went-clause-reader : goal.returns-in_err-went-clause-reader
returns-in_err-went-clause-reader g c = c.answer_message.ensures.reader

pub returns-then-ne-clause-few : goal.returns-then-ne-clause-few
returns-then-ne-clause-few g c = c.answer_message.ensures.few

pub returns-then-ne-clause-limits : goal.returns-then-ne-clause-limits
returns-then-ne-clause-limits g c = c.answer_message.ensures.limits

pub returns-then-ne-clause-served : goal.returns-then-ne-clause-served
returns-then-ne-clause-served g c = c.in_ok-went.ensures.served

pub returns-then-ne-clause-reader : goal.returns-then-ne-clause-reader
returns-then-ne-clause-reader g c = c.answer_message.ensures.reader

pub returns-in_err-catch_up-clause-few : goal.returns-in_err-catch_up-clause-few
returns-in_err-catch_up-clause-few g c = c.answer_message.ensures.few

pub returns-in_err-catch_up-clause-fault : goal.returns-in_err-catch_up-clause-fault
returns-in_err-catch_up-clause-fault g c = stream_fault c.from_residual-in_err-catch_up.result c.in_err-catch_up.field-0.0 c.from_residual-in_err-catch_up.ensures.1 c.in_err-catch_up.ensures.fault

pub returns-in_err-catch_up-clause-limits : goal.returns-in_err-catch_up-clause-limits
returns-in_err-catch_up-clause-limits g c = c.catch_up.ensures.limits ∙ c.answer_message.ensures.limits

pub returns-in_err-catch_up-clause-served : goal.returns-in_err-catch_up-clause-served
returns-in_err-catch_up-clause-served g c = MatchResult-from_err c.from_residual-in_err-catch_up.result _ _ c.from_residual-in_err-catch_up.ensures.0 (λ _. c.in_err-catch_up.ensures.stops _ _ _ c.in_ok-went.ensures.served)

pub returns-in_err-catch_up-clause-reader : goal.returns-in_err-catch_up-clause-reader
returns-in_err-catch_up-clause-reader g c = prefix_trans _ _ _ c.answer_message.ensures.reader c.catch_up.ensures.reader

pub returns-clause-few : goal.returns-clause-few
returns-clause-few g c = c.answer_message.ensures.few

pub returns-clause-limits : goal.returns-clause-limits
returns-clause-limits g c = c.catch_up.ensures.limits ∙ c.answer_message.ensures.limits

pub returns-clause-served : goal.returns-clause-served
returns-clause-served g c =
    serving_caught c.answer_message.new.conn c.catch_up.new.conn c.answer_message.new.socket c.catch_up.new.socket c.answer_message.new.reader c.catch_up.new.reader c.in_ok-went.ensures.served c.in_ok-catch_up.ensures.goes_on c.in_ok-catch_up.ensures.reads

pub returns-clause-reader : goal.returns-clause-reader
returns-clause-reader g c = prefix_trans _ _ _ c.answer_message.ensures.reader c.catch_up.ensures.reader
