use Rattle.std.proofs.Common.{◌||◌, sym, ap, ◌∙◌}
use Rattle.std.specs.List.{list_any}
use Rattle.std.proofs.lemmas.Bool.{or_left}
use Rattle.sharing.specs.Sharing.{is_among}
use Rattle.offer_table.proofs.relays.RelaySet.meets.Goals as goal

pub returns-then-has : goal.returns-then-has
returns-then-has c =
    let p = is_among c.args.other in
    sym (or_left (p c.in-Some.parts.0) (list_any p c.in-Some.parts.1) (sym c.if-has.ensures.value)) ∙ sym (ap (list_any p) c.in-Some.ensures) ∙ c.loop-parts.invariant

pub loop-parts-preserved : goal.loop-parts-preserved
loop-parts-preserved c =
    let p = is_among c.args.other in
    sym (ap (λ b. b || list_any p c.in-Some.parts.1) (sym c.has.ensures.value ∙ c.if-has.false)) ∙ sym (ap (list_any p) c.in-Some.ensures) ∙ c.loop-parts.invariant

pub returns : goal.returns
returns c = sym (ap (list_any (is_among c.args.other)) c.in_default.ensures) ∙ c.loop-parts.invariant
