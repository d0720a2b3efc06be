use Rattle.std.proofs.Common.{ℕ, inr, refl, arith}
use Rattle.toml.specs.View.{view}
use Rattle.mirror_settings.specs.Settings.{whole_data, IsLoad, IsWhole}
use Rattle.mirror_settings.proofs.Forms.{wrong_at}
use Rattle.mirror_settings.proofs.values.loads_in.Goals as goal

pub returns-in_default-clause-err : goal.returns-in_default-clause-err
returns-in_default-clause-err c =
    let none : (n : ℕ) → ¬ IsWhole 0 1000000000 (view c.value-item.result) n = c.in_default.ensures.none in
    inr (
      refl,
      wrong_at whole_data IsLoad c.args.values.now c.loop-value.value-index c.value-item.result (omega arith)
          (rw (← c.value-item.is) (λ n load e. none n (e, omega arith, load))),
    )
