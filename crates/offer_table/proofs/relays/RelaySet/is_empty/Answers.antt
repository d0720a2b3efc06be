use Rattle.std.proofs.Common.{arith, sym, ◌∙◌}
use Rattle.std.proofs.lemmas.Bool.{eqb-true, eq-eqb}
use Rattle.offer_table.specs.Relays.{number}
use Rattle.offer_table.specs.RelayBits.{fits}
use Rattle.offer_table.proofs.Words.{none_of_zero, zero_of_none}
use Rattle.offer_table.proofs.relays.RelaySet.is_empty.Goals as goal

pub returns-then-self-eq0 : goal.returns-then-self-eq0
returns-then-self-eq0 c =
    let h = c.self.inside.high in
    let l = c.self.inside.low in (
      λ t. sym c.self.view_is ∙ none_of_zero (number h l) (omega (arith, c.if-self-eq0.true, eqb-true l 0 t)),
      λ e. eq-eqb l 0 (omega (arith, zero_of_none (number h l) (fits h l c.self.invariant.0 c.self.invariant.1) (c.self.view_is ∙ e))),
    )

pub returns-else-self-eq0 : goal.returns-else-self-eq0
returns-else-self-eq0 c =
    let h = c.self.inside.high in
    let l = c.self.inside.low in (
      λ t. absurd (omega (arith, c.if-self-eq0.false, eqb-true h 0 t)),
      λ e. absurd (omega (arith, c.if-self-eq0.false, zero_of_none (number h l) (fits h l c.self.invariant.0 c.self.invariant.1) (c.self.view_is ∙ e))),
    )
