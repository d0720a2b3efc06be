use Rattle.std.proofs.lemmas.Result.{IfOk-weaker, IfErr-weaker}
use Rattle.mirror_run.specs.Refused.{IsTextRefusal}
use Rattle.mirror_run.proofs.InputLemmas.{known_whole, known_refusal}
use Rattle.mirror_run.proofs.input.read_all.Goals as goal

pub returns-in-Ok-clause-ok : goal.returns-in-Ok-clause-ok
returns-in-Ok-clause-ok g c =
    IfOk-weaker c.limited.result _ _ (λ v h. known_whole c.in-Ok.bytes.items v.items (g.R.Read.remaining c.args.reader.now) h.0 h.1 c.in-Ok.ensures.ok) c.limited.ensures.ok

pub returns-in-Ok-clause-err : goal.returns-in-Ok-clause-err
returns-in-Ok-clause-err g c =
    IfErr-weaker c.limited.result (IsTextRefusal c.in-Ok.bytes.items) _ (λ e h. known_refusal c.in-Ok.bytes.items e (g.R.Read.remaining c.args.reader.now) h c.in-Ok.ensures.ok) c.limited.ensures.err
