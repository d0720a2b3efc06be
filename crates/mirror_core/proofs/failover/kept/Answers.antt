use Rattle.std.proofs.Common.{sym, ◌∙◌}
use Rattle.std.proofs.lemmas.Bool.{false≢true}
use Rattle.mirror_core.proofs.Kept.{keeps_others}
use Rattle.mirror_core.proofs.failover.kept.Goals as goal

pub returns-clause-kept : goal.returns-clause-kept
returns-clause-kept c = keeps_others c.args.stopped c.args.relays c.minus-others.result c.minus-others.ensures.member (λ e. false≢true (sym c.if-is_empty.false ∙ c.is_empty.ensures.1 e))
