use Rattle.std.proofs.Common.{◌∙◌, List, ℕ, subst}
use Rattle.std.proofs.lemmas.Result.{on_ok_weaker}
use Rattle.std.specs.Io.KnownBytes.{Appends}
use Rattle.pass_run.specs.Lines.{line_of}
use Rattle.pass_run.proofs.lines.say_pass.Goals as goal

pub returns : goal.returns
returns g c =
    on_ok_weaker c.say_line.result
    (λ p. (c.as_str.result.now, subst (λ (t : List ℕ). Appends (g.W.Write.contents c.args.writer.now) (g.W.Write.contents c.say_line.new.writer) (line_of c.as_str.result.now t)) (c.as_str-2.ensures.value ∙ c.in_ok-text.ensures.ok) p))
    c.say_line.ensures
