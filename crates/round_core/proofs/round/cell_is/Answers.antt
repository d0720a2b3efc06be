use Rattle.std.proofs.Common.{◌≡◌, ◌≢◌, ℕ, refl, sym, ◌∙◌}
use Rattle.std.proofs.lemmas.Bool.{false≢true, false_from_ne_true}
use Rattle.fetch_plan.specs.declared.cell.Cell.{Cell}
use Rattle.fetch_plan.specs.declared.cell.Cell.TheVariants.{Free, Held, Done, Missed}
use Rattle.round_core.specs.History.{cell_after, holds, has_finished, has_missed}
use Rattle.round_core.proofs.Holders.{held_cell, cell_held, done_cell, cell_done, missed_cell, cell_missed}
use Rattle.round_core.proofs.round.cell_is.Goals as goal

pub returns-clause-held : goal.returns-clause-held
returns-clause-held c lanes h w i legal = (λ e. cell_held w i h e, λ t. held_cell lanes legal.0 h legal.1 w i t)

pub returns-clause-done : goal.returns-clause-done
returns-clause-done c lanes h i legal = (λ e. cell_done i h e, λ t. done_cell lanes legal.0 h legal.1 i t)

pub returns-clause-missed : goal.returns-clause-missed
returns-clause-missed c lanes h i legal = (λ e. cell_missed i h e, λ t. missed_cell lanes legal.0 h legal.1 i t)

else_free : (c : Cell) → ((w : ℕ) → c ≢ Held w) → c ≢ Done → c ≢ Missed → c ≡ Free
else_free Free held done missed = refl
else_free (Held w) held done missed = absurd (held w refl)
else_free Done held done missed = absurd (done refl)
else_free Missed held done missed = absurd (missed refl)

pub returns-clause-free : goal.returns-clause-free
returns-clause-free c lanes h i legal = (
  λ e. (
    λ w. false_from_ne_true (holds h w i) (λ t. let x : Free ≡ Held w = sym e ∙ held_cell lanes legal.0 h legal.1 w i t in cc),
    false_from_ne_true (has_finished h i) (λ t. let x : Free ≡ Done = sym e ∙ done_cell lanes legal.0 h legal.1 i t in cc),
    false_from_ne_true (has_missed h i) (λ t. let x : Free ≡ Missed = sym e ∙ missed_cell lanes legal.0 h legal.1 i t in cc),
  ),
  λ none. else_free (cell_after h i) (λ w e. false≢true (sym (none.0 w) ∙ cell_held w i h e)) (λ e. false≢true (sym none.1 ∙ cell_done i h e)) (λ e. false≢true (sym none.2 ∙ cell_missed i h e)),
)
