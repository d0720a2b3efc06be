use Rattle.std.proofs.Common.{ap, sym, ◌∙◌}
use Rattle.std.specs.Prelude.{Err}
use Rattle.relay_core.specs.Sessions.{IsBad}
use Rattle.relay_core.proofs.Pinned.{is_answer}
use Rattle.relay_core.proofs.sessions.reply.Goals as goal

pub returns-in-Ok-clause-answer : goal.returns-in-Ok-clause-answer
returns-in-Ok-clause-answer c =
    let good : ¬ IsBad c.args.query.now = λ b. let other = sym c.in-Ok.is ∙ c.answer.ensures.refused b.0 b.1 b.2 in cc in
    is_answer c.args.limit c.args.roll.now c.args.query.now c.in-Ok.bytes.items c.new.result c.new.ensures good c.in-Ok.ensures.replies c.in-Ok.ensures.short c.in-Ok.ensures.version

pub returns-in-Err-Bad-clause-bad : goal.returns-in-Err-Bad-clause-bad
returns-in-Err-Bad-clause-bad c none =
    let h = c.answer.ensures.bad c.in-Err-Bad._fault (c.in-Err-Bad.is ∙ ap Err c.in-Err-Bad.field-0-is) in
    (c.in-Err-Bad._fault, h.0, h.1)
