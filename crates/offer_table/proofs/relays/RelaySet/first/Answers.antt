use Rattle.std.proofs.Common.{◌+◌, arith, sym, ◌∙◌, subst}
use Rattle.std.specs.Int.{w128, trailing_zeros}
use Rattle.std.proofs.lemmas.Nat.Bits.{bit_at-trailing_zeros}
use Rattle.offer_table.specs.Relays.{number, IsFirst}
use Rattle.offer_table.proofs.Words.{none_of_zero, first_low, first_high}
use Rattle.offer_table.proofs.relays.RelaySet.first.Goals as goal

pub returns-then-self-ne0 : goal.returns-then-self-ne0
returns-then-self-ne0 c =
    let s = c.self.inside in
    let b = bit_at-trailing_zeros w128 s.low (omega (arith, c.if-self-ne0.true)) c.self.invariant.1 in
    subst (λ x. IsFirst x (trailing_zeros w128 s.low)) c.self.view_is (first_low s.high s.low (trailing_zeros w128 s.low) b.0 b.1 b.2)

pub returns-then-self-ne0-2 : goal.returns-then-self-ne0-2
returns-then-self-ne0-2 c =
    let s = c.self.inside in
    let b = bit_at-trailing_zeros w128 s.high (omega (arith, c.if-self-ne0-2.true)) c.self.invariant.0 in
    subst (λ x. IsFirst x (trailing_zeros w128 s.high + 128)) c.self.view_is (first_high s.high s.low (trailing_zeros w128 s.high) c.if-self-ne0.false b.0 b.1 b.2)

pub returns : goal.returns
returns c = sym c.self.view_is ∙ none_of_zero (number c.self.inside.high c.self.inside.low) (omega (arith, c.if-self-ne0.false, c.if-self-ne0-2.false))
