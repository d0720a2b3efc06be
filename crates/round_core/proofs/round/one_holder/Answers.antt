use Rattle.std.proofs.Common.{◌≡◌, ℕ, List, [], IsTrue, sym, ◌∙◌}
use Rattle.fetch_plan.specs.declared.cell.Cell.TheVariants.{Held}
use Rattle.round_core.specs.History.{History, holds}
use Rattle.round_core.specs.Legal.{Legal}
use Rattle.round_core.proofs.Holders.{held_cell, legal_front}
use Rattle.round_core.proofs.round.one_holder.Goals as goal

one : (lanes : List ℕ) (h : History) (w v i : ℕ) → Legal lanes h → IsTrue (holds h w i) → IsTrue (holds h v i) → w ≡ v
one lanes h w v i legal a b =
    let e : Held w ≡ Held v = sym (held_cell lanes legal.0 h legal.1 w i a) ∙ held_cell lanes legal.0 h legal.1 v i b in
    cc

pub returns : goal.returns
returns c = record {
  one = one;
  always = λ lanes h more w v i legal. one lanes h w v i (legal.0, legal_front lanes legal.0 [] h more legal.1);
}
