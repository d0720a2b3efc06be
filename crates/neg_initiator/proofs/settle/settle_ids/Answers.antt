use Rattle.std.proofs.Common.{◌≡◌, List, ap, sym, ◌∙◌, map}
use Rattle.item_key.specs.declared.Item.{Item}
use Rattle.neg_codec.specs.Ranges.{edge_of}
use Rattle.item_roll.specs.Parts.{part, ids_of}
use Rattle.neg_initiator.specs.Pairs.{pair_of}
use Rattle.neg_initiator.specs.Findings.{findings_of}
use Rattle.neg_initiator.proofs.Finding.{finds_ids}
use Rattle.neg_initiator.proofs.settle.settle_ids.Goals as goal

pub ids-requires : goal.ids-requires
ids-requires c = c.places-lo.ensures.within

pub returns-clause-finds : goal.returns-clause-finds
returns-clause-finds c =
    let own : c.deref.result.now ≡ ids_of (part c.args.roll.now (edge_of c.args.lower.now) (edge_of c.args.upper.now)) =
    c.deref.ensures.value ∙ c.in_ok-own.ensures ∙ ap (λ (xs : List Item). ids_of xs) (sym c.places-lo.ensures.part) in
    finds_ids c.args.roll.now (edge_of c.args.lower.now) (edge_of c.args.upper.now) c.args.listed.now c.deref.result.now (findings_of c.args.found.now) (findings_of c.compare.new.found) c.requires own
    c.in_ok-compare.ensures.need c.in_ok-compare.ensures.have (ap (λ v. map pair_of v.items) c.compare.ensures.kept.0)
