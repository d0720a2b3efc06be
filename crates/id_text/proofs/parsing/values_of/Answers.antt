use Rattle.std.proofs.Common.{rules, ◌<◌, length, map, take, take_all, slice_index, refl, ap, sym, ◌∙◌, arith}
use Rattle.std.proofs.lemmas.List.Elements.{All-push, All-nil}
use Rattle.std.proofs.lemmas.List.{take_more_set}
use Rattle.hex.specs.Hex.{lower_digits}
use Rattle.id_text.proofs.HexLemmas.{values_more, stray_more, no_stray}
use Rattle.id_text.proofs.parsing.values_of.Goals as goal

pub loop-i-init : goal.loop-i-init
loop-i-init c = record { len = refl; digits = λ _. refl; small = λ _. All-nil (λ v. v < 16); stray = λ large. absurd (omega (arith, large)) }

pub loop-i-preserved : goal.loop-i-preserved
loop-i-preserved c =
    let i = c.loop-i.i in
    let value = c.hex_digit-value.result in
    let within : i < length c.loop-i.values = omega (arith, c.loop-i.invariant.len) in
    record {
      len = search rules;
      digits = λ small.
          let above = c.greater-most.ensures.above in
          values_more c.args.text.now c.loop-i.values i value (omega arith) within (c.hex_digit-value.ensures.digit (omega (arith, small, above.1))) (c.loop-i.invariant.digits (omega (arith, small, above.0)));
      small = λ small.
          let above = c.greater-most.ensures.above in
          rw (take_more_set c.loop-i.values i value within) (All-push (λ v. v < 16) (take i c.loop-i.values) value (c.loop-i.invariant.small (omega (arith, small, above.0))) (omega (arith, small, above.1)));
      stray = λ large. stray_more c.args.text.now i c.loop-i.most value c.greater-most.result large c.greater-most.ensures.one c.loop-i.invariant.stray c.hex_digit-value.ensures.other;
    }

pub returns-clause-digits : goal.returns-clause-digits
returns-clause-digits c = λ small.
    sym (take_all c.loop-i.i c.args.text.now (omega arith)) ∙ c.loop-i.invariant.digits small ∙ ap (map (slice_index lower_digits)) (take_all c.loop-i.i c.loop-i.values (omega (arith, c.loop-i.invariant.len)))

pub returns-clause-small : goal.returns-clause-small
returns-clause-small c = λ small. rw (take_all c.loop-i.i c.loop-i.values (omega (arith, c.loop-i.invariant.len))) at c.loop-i.invariant.small small

pub returns-clause-other : goal.returns-clause-other
returns-clause-other c = λ large id is same. no_stray c.args.text.now id is same c.loop-i.i (c.loop-i.invariant.stray large) (omega arith)
