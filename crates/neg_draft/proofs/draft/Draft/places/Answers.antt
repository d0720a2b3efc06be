use Rattle.std.proofs.Common.{ap, ℕ, ◌∙◌, sym, arith}
use Rattle.std.specs.Prelude.{slice_range}
use Rattle.neg_codec.specs.Ranges.{edge_of}
use Rattle.neg_draft.proofs.Owning.{count_up}
use Rattle.neg_draft.proofs.draft.Draft.places.Goals as goal

pub returns-clause-within : goal.returns-clause-within
returns-clause-within c = (omega (arith, c.find_near-lo.ensures.value, c.find_near-hi.ensures.value, count_up c.args.roll.now (edge_of c.args.lower.now) (edge_of c.args.upper.now) c.requires), c.find_near-hi.ensures.within)

pub returns-clause-part : goal.returns-clause-part
returns-clause-part c = c.find_near-hi.ensures.part (edge_of c.args.lower.now) c.requires ∙ ap (λ (n : ℕ). slice_range c.args.roll.now n c.find_near-hi.result) (sym c.find_near-lo.ensures.value)
