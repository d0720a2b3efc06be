use Rattle.std.proofs.Common.{◌≡◌, ℕ, ◌+◌, ◌≤◌, ◌++◌, [], ◌∷◌, length, map, List, sym, ap, ◌∙◌, arith}
use Rattle.std.proofs.lemmas.List.{map-append}
use Rattle.item_key.specs.declared.Item.{Item}
use Rattle.item_key.specs.Keys.{place, least}
use Rattle.neg_codec.specs.Ranges.{Span, edge_of, span_of}
use Rattle.neg_codec.specs.Encoding.{text_of, range_text}
use Rattle.neg_codec.proofs.Writes.{time_le}
use Rattle.neg_draft.specs.Coverage.{end_of}
use Rattle.neg_draft.proofs.Covering.{end-append}
use Rattle.neg_draft.proofs.Telling.{text-push}
use Rattle.neg_draft.proofs.ranges.Ranges.push.Goals as goal

pub len_after-requires-clause-after : goal.len_after-requires-clause-after
len_after-requires-clause-after c =
    let above : place (edge_of c.self.inside.end) ≤ place (edge_of c.args.range.upper) = omega (arith, c.requires.above, ap place c.self.invariant.1, ap (λ (x : List Span). place (end_of least x)) c.self.view_is) in
    omega (arith, c.time.ensures, time_le (edge_of c.self.inside.end) (edge_of c.args.range.upper) c.edge.ensures.edge above)

-- how many bytes the message takes then
longer : (old : List Span) (r : Span) (time spent more : ℕ) → time ≡ (end_of least old).time → spent ≡ length (text_of old) → more ≡ length (range_text time r) → spent + more ≡ length (text_of (old ++ r ∷ []))
longer old r time spent more at was is =
    omega (arith, was, is ∙ ap (λ (t : ℕ). length (range_text t r)) at, text-push old r)

pub overflow_add-spent : goal.overflow_add-spent
overflow_add-spent c =
    let now = longer (map span_of c.self.inside.list.items) (span_of c.args.range) c.time.result c.self.inside.spent c.len_after.result
    (c.time.ensures ∙ ap (λ (x : Item). x.time) c.self.invariant.1) c.self.invariant.0 c.len_after.ensures.value in
    omega (arith, now, c.requires.fits, ap (λ (x : List Span). length (text_of (x ++ span_of c.args.range ∷ []))) c.self.view_is)

pub invariant_of-self-2 : goal.invariant_of-self-2
invariant_of-self-2 c =
    let now = longer (map span_of c.self.inside.list.items) (span_of c.args.range) c.time.result c.self.inside.spent c.len_after.result
    (c.time.ensures ∙ ap (λ (x : Item). x.time) c.self.invariant.1) c.self.invariant.0 c.len_after.ensures.value in
    let items : map span_of c.push.new.self.items ≡ map span_of c.self.inside.list.items ++ span_of c.args.range ∷ [] = ap (map span_of) c.in_ok-push.ensures.items ∙ map-append span_of c.self.inside.list.items (c.args.range ∷ []) in (
      now ∙ ap (λ (x : List Span). length (text_of x)) (sym items),
      sym (ap (end_of least) items ∙ end-append least (map span_of c.self.inside.list.items) (span_of c.args.range ∷ [])),
    )
