use Rattle.std.proofs.Common.{List, map, sym, ap, ◌∙◌, subst, refl}
use Rattle.std.specs.Prelude.{All}
use Rattle.neg_codec.specs.declared.Range.{Range}
use Rattle.neg_codec.specs.Ranges.{span_of, IsSpan}
use Rattle.neg_codec.specs.Misplaced.{first_misplaced}
use Rattle.neg_codec.proofs.Placing.{ascends_if_placed, never_both}
use Rattle.neg_codec.proofs.message.Message.of.Goals as goal

pub invariant_of-result : goal.invariant_of-result
invariant_of-result c = record {
  ascends = ascends_if_placed (map span_of c.args.ranges.items) (ap (λ (x : List Range). first_misplaced (map span_of x)) (sym c.deref-2.ensures.value) ∙ sym c.misplaced.ensures ∙ c.in-None.is);
  fits = subst (λ (x : List Range). All IsSpan (map span_of x)) c.deref.ensures.value c.spans_have_their_lengths.ensures;
}

pub returns-in-Some-clause-in_place : goal.returns-in-Some-clause-in_place
returns-in-Some-clause-in_place c =
    let placed = ap (λ (x : List Range). first_misplaced (map span_of x)) (sym c.deref-2.ensures.value) ∙ sym c.misplaced.ensures ∙ c.in-Some.is in
    (λ e. absurd cc, λ up. absurd (never_both (map span_of c.args.ranges.items) c.in-Some.fault up placed))

pub returns-in-None-clause-in_place : goal.returns-in-None-clause-in_place
returns-in-None-clause-in_place c =
    let placed = ap (λ (x : List Range). first_misplaced (map span_of x)) (sym c.deref-2.ensures.value) ∙ sym c.misplaced.ensures ∙ c.in-None.is in
    (λ e. ascends_if_placed (map span_of c.args.ranges.items) placed, λ up. refl)
