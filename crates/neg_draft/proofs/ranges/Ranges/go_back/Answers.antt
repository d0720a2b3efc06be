use Rattle.std.proofs.Common.{◌≡◌, List, map, take, length, sym, ap, ◌∙◌}
use Rattle.std.proofs.lemmas.List.{take-map}
use Rattle.neg_codec.specs.declared.Range.{Range}
use Rattle.item_key.specs.Keys.{least}
use Rattle.neg_codec.specs.Ranges.{Span, span_of}
use Rattle.neg_codec.specs.Encoding.{text_of}
use Rattle.neg_draft.specs.Coverage.{end_of}
use Rattle.neg_draft.proofs.ranges.Ranges.go_back.Goals as goal

pub invariant_of-self : goal.invariant_of-self
invariant_of-self c =
    let left : map span_of c.truncate.new.self.items ≡ take c.args.count c.args.self.now =
    ap (λ (x : List Range). map span_of x) c.truncate.ensures.items ∙ sym (take-map span_of c.args.count c.self.inside.list.items) ∙ ap (λ (x : List Span). take c.args.count x) c.self.view_is in
    (c.requires.spent ∙ ap (λ (x : List Span). length (text_of x)) (sym left), c.requires.end ∙ ap (λ (x : List Span). end_of least x) (sym left))

pub returns : goal.returns
returns c =
    ap (λ (x : List Range). map span_of x) c.truncate.ensures.items ∙ sym (take-map span_of c.args.count c.self.inside.list.items) ∙ ap (λ (x : List Span). take c.args.count x) c.self.view_is
