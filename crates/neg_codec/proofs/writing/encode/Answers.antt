use Rattle.std.proofs.Common.{◌≡◌, ℕ, ◌+◌, List, [], drop, map, sym, ap, subst, ◌∙◌, refl, arith}
use Rattle.std.specs.Prelude.{All}
use Rattle.std.proofs.Math.ListN.{drop_of_length-le}
use Rattle.std.proofs.lemmas.List.{length-map}
use Rattle.item_key.specs.Keys.{least}
use Rattle.neg_codec.specs.Ranges.{Span, Ascends, IsSpan, span_of}
use Rattle.neg_codec.specs.Text.{Spells}
use Rattle.neg_codec.specs.Encoding.{text_of}
use Rattle.neg_codec.proofs.Placing.{next_span, span_at}
use Rattle.neg_codec.proofs.Writes.{Rest, rest_time, rest_next, written_none, written_more, written_all, message_spells}
use Rattle.neg_codec.proofs.writing.encode.Goals as goal

pub loop-range-init : goal.loop-range-init
loop-range-init c =
    let spans = map span_of c.ranges-ranges.result.now in
    record {
      so_far = rw (c.in_ok-push.ensures.items, c.in_ok-out.ensures.items) (written_none spans);
      rest = record { lower = least; time = refl; ascends = subst (λ (rs : List Span). Ascends least rs) (sym c.ranges-ranges.ensures.value) c.ranges-ranges.ensures.ordered.ascends };
    }

pub put_range-requires : goal.put_range-requires
put_range-requires c =
    let ranges = c.ranges-ranges.result.now in
    let r = c.range-item.result in
    let next = next_span ranges c.loop-range.range-index r c.loop-range-test.true c.range-item.is in
    let fits = subst (λ (rs : List Span). All IsSpan rs) (sym c.ranges-ranges.ensures.value) c.ranges-ranges.ensures.ordered.fits in
    let rest = subst (λ (rs : List Span). Rest c.loop-range.before rs) next c.loop-range.invariant.rest in
    rest_time c.loop-range.before (span_of r) (drop (c.loop-range.range-index + 1) (map span_of ranges)) rest (span_at ranges c.loop-range.range-index r c.loop-range-test.true c.range-item.is fits)

pub loop-range-preserved : goal.loop-range-preserved
loop-range-preserved c =
    let ranges = c.ranges-ranges.result.now in
    let spans = map span_of ranges in
    let after = drop (c.loop-range.range-index + 1) spans in
    let r = c.range-item.result in
    let next = next_span ranges c.loop-range.range-index r c.loop-range-test.true c.range-item.is in
    let rest = subst (λ (rs : List Span). Rest c.loop-range.before rs) next c.loop-range.invariant.rest in
    rw c.time-before.ensures (record {
      so_far = written_more c.loop-range.before c.loop-range.out.items c.put_range.new.out.items (span_of r) after (text_of spans) c.in_ok-put_range.ensures (rw next at c.loop-range.invariant.so_far);
      rest = rest_next c.loop-range.before (span_of r) after rest;
    })

pub returns-clause-text : goal.returns-clause-text
returns-clause-text c =
    let spans = map span_of c.ranges-ranges.result.now in
    let none : drop c.loop-range.range-index spans ≡ [] = drop_of_length-le spans {i = c.loop-range.range-index} (omega (arith, length-map c.ranges-ranges.result.now span_of, c.loop-range-test.false)) in
    written_all c.loop-range.before c.loop-range.out.items (drop c.loop-range.range-index spans) (text_of spans) none c.loop-range.invariant.so_far ∙ ap text_of c.ranges-ranges.ensures.value

pub returns-clause-spelled : goal.returns-clause-spelled
returns-clause-spelled c =
    let spans = map span_of c.ranges-ranges.result.now in
    let none : drop c.loop-range.range-index spans ≡ [] = drop_of_length-le spans {i = c.loop-range.range-index} (omega (arith, length-map c.ranges-ranges.result.now span_of, c.loop-range-test.false)) in
    let text = written_all c.loop-range.before c.loop-range.out.items (drop c.loop-range.range-index spans) (text_of spans) none c.loop-range.invariant.so_far ∙ ap text_of c.ranges-ranges.ensures.value in
    subst (λ (bytes : List ℕ). Spells bytes c.args.message.now) (sym text) (message_spells c.args.message.now c.ranges-ranges.ensures.ordered)
