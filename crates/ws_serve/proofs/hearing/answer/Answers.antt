use Rattle.std.proofs.Common.{ap, refl, ◌∙◌}
use Rattle.std.proofs.lemmas.Result.{on_err_weaker}
use Rattle.std.specs.Prelude.{option_map}
use Rattle.std.specs.Arc.{arc_value}
use Rattle.event_list.proofs.Prefixes.{prefix_self}
use Rattle.ws_serve.proofs.Answering.{answers_quiet, answers_stored_if}
use Rattle.ws_serve.proofs.Beginning.{fails}
use Rattle.ws_serve.proofs.Going.{serving_served, step_begun, step_told}
use Rattle.ws_serve.proofs.hearing.answer.Goals as goal

pub returns-in-None-clause-answers : goal.returns-in-None-clause-answers
returns-in-None-clause-answers g c =
    answers_quiet c.args.conn.now.limits _ _ _ c.in_ok-out.field-0 _ _ _ _ c.serve_text.ensures.reader (ap (option_map arc_value) c.in-None.is) c.in_ok-out.ensures.served c.in_ok-say_all.ensures.says

pub returns-in-Some-clause-answers : goal.returns-in-Some-clause-answers
returns-in-Some-clause-answers g c =
    answers_stored_if c.answer_one.result c.args.conn.now.limits _ _ _ _ c.in_ok-out.field-0 (arc_value c.in-Some.event) _ _ _ _ _ _ c.serve_text.ensures.reader c.answer_one.ensures.reader (ap (option_map arc_value) c.in-Some.is) c.in_ok-out.ensures.served c.in_ok-say_all.ensures.says c.answer_one.ensures.says c.answer_one.ensures.kept

pub returns-in_err-out-clause-failed : goal.returns-in_err-out-clause-failed
returns-in_err-out-clause-failed g c =
    fails c.from_residual.result
    (serving_served c.serve_text.new.conn c.args.socket.now c.serve_text.new.reader c.requires.serving c.serve_text.ensures.limits refl (prefix_self c.args.socket.now.said) c.serve_text.ensures.reader)

pub returns-in_err-say_all-clause-failed : goal.returns-in_err-say_all-clause-failed
returns-in_err-say_all-clause-failed g c =
    fails c.from_residual-in_err-say_all.result
    (step_begun c.args.text.now c.in_ok-out.field-0 c.args.conn.now c.serve_text.new.conn c.args.socket.now c.say_all.new.socket c.args.reader.now c.serve_text.new.reader c.requires.serving c.in_ok-out.ensures.served c.serve_text.ensures.limits c.serve_text.ensures.reader c.in_err-say_all.ensures.failed)

pub returns-in-Some-clause-failed : goal.returns-in-Some-clause-failed
returns-in-Some-clause-failed g c =
    on_err_weaker c.answer_one.result
    (step_told c.args.text.now c.in_ok-out.field-0 (arc_value c.in-Some.event) c.args.conn.now c.serve_text.new.conn c.answer_one.new.conn c.args.socket.now c.say_all.new.socket c.answer_one.new.socket c.args.reader.now c.serve_text.new.reader c.answer_one.new.reader c.requires.serving c.in_ok-out.ensures.served (c.answer_one.ensures.limits ∙ c.serve_text.ensures.limits) c.serve_text.ensures.reader c.answer_one.ensures.reader (ap (option_map arc_value) c.in-Some.is) c.in_ok-say_all.ensures.says)
    c.answer_one.ensures.failed
