use Rattle.std.proofs.Common.{◌≡◌, List, get_or, map, subst, sym, ap, ◌∙◌, arith}
use Rattle.std.specs.Prelude.{All}
use Rattle.std.proofs.lemmas.List.{take_all, get_or-map, length-map}
use Rattle.std.proofs.lemmas.List.Elements.{All-more}
use Rattle.neg_codec.specs.Ranges.{Span, span_of, IsSpan}
use Rattle.neg_codec.proofs.message.spans_have_their_lengths.Goals as goal

pub loop-range-preserved : goal.loop-range-preserved
loop-range-preserved c =
    let r = c.range-item.result in
    let spans = map span_of c.args.ranges.now in
    let at : span_of r ≡ get_or spans c.loop-range.range-index (span_of r) = ap span_of c.range-item.is ∙ sym (get_or-map span_of c.args.ranges.now c.loop-range.range-index r (span_of r) c.loop-range-test.true) in
    All-more IsSpan spans c.loop-range.range-index (span_of r) (omega (arith, length-map c.args.ranges.now span_of, c.loop-range-test.true)) c.loop-range.invariant (subst IsSpan at c.span_has_its_lengths.ensures)

pub returns : goal.returns
returns c =
    let spans = map span_of c.args.ranges.now in
    subst (λ (x : List Span). All IsSpan x) (take_all c.loop-range.range-index spans (omega (arith, length-map c.args.ranges.now span_of, c.loop-range-test.false))) c.loop-range.invariant
