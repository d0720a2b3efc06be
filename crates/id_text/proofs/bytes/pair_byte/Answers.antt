use Rattle.std.proofs.Common.{slice_index, ◌/◌, ◌%◌, ◌<◌, inl, inr, ap, sym, ◌∙◌, arith}
use Rattle.hex.specs.Hex.{lower_digits}
use Rattle.id_text.proofs.HexLemmas.{two_digits, one_high, one_low}
use Rattle.id_text.proofs.bytes.pair_byte.Goals as goal

pub returns-then-greater-gt15-clause-none : goal.returns-then-greater-gt15-clause-none
returns-then-greater-gt15-clause-none c = λ b small same. elim c.greater.ensures.one [
  | inl e ↦ c.hex_digit-high.ensures.other (omega (arith, e, c.if-greater-gt15.true)) (b / 16) (omega (arith, small)) (one_high c.args.pair.now b same)
  | inr e ↦ c.hex_digit-low.ensures.other (omega (arith, e, c.if-greater-gt15.true)) (b % 16) (omega arith) (one_low c.args.pair.now b same)
]

pub returns-clause-found : goal.returns-clause-found
returns-clause-found c =
    let digit = slice_index lower_digits in
    let above = c.greater.ensures.above in
    let high : c.hex_digit-high.result < 16 = omega (arith, above.0, c.if-greater-gt15.false) in
    let low : c.hex_digit-low.result < 16 = omega (arith, above.1, c.if-greater-gt15.false) in
    two_digits c.args.pair.now c.byte_of.result c.requires
    (c.hex_digit-high.ensures.digit high ∙ ap digit (sym (c.byte_of.ensures.high high low)))
    (c.hex_digit-low.ensures.digit low ∙ ap digit (sym (c.byte_of.ensures.low high low)))
