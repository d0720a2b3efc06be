use Rattle.std.proofs.Common.{inl, inr}
use Rattle.std.proofs.lemmas.Result.{IfErr-weaker}
use Rattle.toml.specs.View.{view, table_view}
use Rattle.mirror_settings.proofs.Refusals.{no_filter}
use Rattle.mirror_settings.proofs.reading.filter_at.Goals as goal

pub returns-in-Some-clause-err : goal.returns-in-Some-clause-err
returns-in-Some-clause-err c = IfErr-weaker c.filter_in.result _ _ (λ e h mirror. elim h [
  | inl memory ↦ inl memory
  | inr wrong ↦ inr (wrong.0, no_filter c.args.sync mirror (table_view c.args.table.now) (view c.in-Some.value.now) c.if-not-sync.false c.in-Some.ensures wrong.1)
]) c.filter_in.ensures.err
