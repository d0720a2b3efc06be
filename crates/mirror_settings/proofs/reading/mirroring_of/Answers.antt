use Rattle.std.proofs.Common.{Bool, sym, subst}
use Rattle.std.specs.Prelude.{IfErr}
use Rattle.toml.specs.View.{table_view}
use Rattle.mirror_settings.specs.Settings.{AreGoodBelow, RefusesTable}
use Rattle.mirror_settings.proofs.reading.mirroring_of.Goals as goal

pub returns-then-mirror-clause-err : goal.returns-then-mirror-clause-err
returns-then-mirror-clause-err c =
    let t = table_view c.args.table.now in
    subst (λ (b : Bool). IfErr c.mirroring_at.result (λ e. (sync : Bool) → AreGoodBelow sync b t 15 → RefusesTable sync b t e)) (sym c.if-mirror.true) c.mirroring_at.ensures.err
