use Rattle.std.proofs.Common.{ℕ, ◌≡◌, ◌+◌, ◌-◌, ◌≤◌, List, refl, sym, subst, map, length, ap, arith}
use Rattle.std.specs.Prelude.{All}
use Rattle.item_key.specs.declared.Item.{Item}
use Rattle.neg_codec.specs.declared.Range.{Range}
use Rattle.item_roll.specs.Truth.{Follows}
use Rattle.neg_codec.specs.Ranges.{Span, Ascends, IsSpan, span_of}
use Rattle.neg_codec.specs.Encoding.{text_of}
use Rattle.item_key.specs.Keys.{least, infinity}
use Rattle.neg_draft.specs.Coverage.{passed, NoneEmpty, SkipsJoined}
use Rattle.neg_responder.specs.Reply.{SkipsSame, TellsOthers, IsReply}
use Rattle.neg_responder.proofs.Replying.{replied_none, replied_at, replied_whole, replied_others, replied_over}
use Rattle.neg_responder.proofs.ranges.reply.Goals as goal

pub loop-range-init : goal.loop-range-init
loop-range-init c = rw c.new-draft.ensures (replied_none c.args.limit c.args.roll.now (map span_of c.ranges-range-items.result.now))

pub loop-range-preserved : goal.loop-range-preserved
loop-range-preserved c =
    replied_at c.args.limit c.args.roll.now c.ranges-range-items.result.now c.loop-range.range-index c.range-item.result c.loop-range.draft c.in_ok-draft.draft (omega arith) c.range-item.is
    (rw c.ranges-range-items.ensures.value c.ranges-range-items.ensures.ordered.ascends) (rw c.ranges-range-items.ensures.value c.ranges-range-items.ensures.ordered.fits) c.in_ok-draft.ensures.draft c.loop-range.invariant c.in_ok-draft.ensures.responds

-- a draft's message
reply_of : (limit : ℕ) (roll : List Item) (asked out m : List Span) → m ≡ out → Follows roll asked out × SkipsSame limit (length (text_of out)) roll asked out → TellsOthers limit (length (text_of out)) roll asked out
    → NoneEmpty out → SkipsJoined out → IsReply limit (length (text_of m)) roll asked m
reply_of limit roll asked out m is follows others none_empty joined =
    subst (λ (s : List Span). IsReply limit (length (text_of s)) roll asked s) (sym is)
    (record { follows = follows.0; skips_same = follows.1; tells_others = others; none_empty = none_empty; skips_joined = joined })

pub returns-clause-replies : goal.returns-clause-replies
returns-clause-replies c =
    let ranges : List Range = c.ranges-range-items.result.now in
    let le : length ranges ≤ c.loop-range.range-index = omega arith in
    let up : Ascends least (map span_of ranges) = rw c.ranges-range-items.ensures.value c.ranges-range-items.ensures.ordered.ascends in
    let follows = replied_whole c.args.limit c.args.roll.now ranges c.loop-range.range-index c.loop-range.draft (passed c.loop-range.draft infinity) le up c.into_message-2.ensures.draft c.loop-range.invariant refl in
    let others = replied_others c.args.limit c.args.roll.now ranges c.loop-range.range-index c.loop-range.draft le c.loop-range.invariant in
    rw (← c.ranges-range-items.ensures.value)
    (reply_of c.args.limit c.args.roll.now (map span_of ranges) c.loop-range.draft.spans c.into_message-2.result c.into_message-2.ensures.value follows others c.into_message-2.ensures.draft.none_empty c.into_message-2.ensures.draft.skips_joined)

pub returns-clause-short : goal.returns-clause-short
returns-clause-short c =
    omega (arith, c.into_message-2.ensures.draft.fits, c.loop-range.invariant.bytes, ap (λ (m : List Span). length (text_of m)) c.into_message-2.ensures.value)

pub returns-then-is_over-clause-replies : goal.returns-then-is_over-clause-replies
returns-then-is_over-clause-replies c =
    let ranges : List Range = c.ranges-range-items.result.now in
    let up : Ascends least (map span_of ranges) = rw c.ranges-range-items.ensures.value c.ranges-range-items.ensures.ordered.ascends in
    let fits : All IsSpan (map span_of ranges) = rw c.ranges-range-items.ensures.value c.ranges-range-items.ensures.ordered.fits in
    let left : c.loop-range.range-index + (length ranges - c.loop-range.range-index) ≡ length ranges = omega arith in
    let all = replied_over c.args.limit c.args.roll.now ranges c.loop-range.range-index (length ranges - c.loop-range.range-index) c.range-item.result c.loop-range.draft left up fits c.into_message.ensures.draft (c.is_over.ensures.over.0 c.if-is_over.true) c.loop-range.invariant in
    let follows = replied_whole c.args.limit c.args.roll.now ranges (length ranges) c.loop-range.draft (passed c.loop-range.draft infinity) (omega arith) up c.into_message.ensures.draft all refl in
    let others = replied_others c.args.limit c.args.roll.now ranges (length ranges) c.loop-range.draft (omega arith) all in
    rw (← c.ranges-range-items.ensures.value)
    (reply_of c.args.limit c.args.roll.now (map span_of ranges) c.loop-range.draft.spans c.into_message.result c.into_message.ensures.value follows others c.into_message.ensures.draft.none_empty c.into_message.ensures.draft.skips_joined)
