use Rattle.std.proofs.Common.{◌≡◌, ℕ, ap, sym, ◌∙◌}
use Rattle.std.specs.List.{slice_range}
use Rattle.item_key.specs.declared.Item.{Item}
use Rattle.neg_codec.specs.Ranges.{edge_of}
use Rattle.item_roll.specs.Parts.{count_below}
use Rattle.item_roll.proofs.Cuts.{part_is}
use Rattle.item_roll.proofs.roll.Roll.find.Goals as goal

value : (c : goal.After-below) → c.below.result ≡ count_below c.args.self.now (edge_of c.args.bound.now)
value c = (rw c.self.view_is at c.below.ensures.value) ∙ ap (λ (b : Item). count_below c.args.self.now b) c.edge.ensures.value

pub returns-clause-part : goal.returns-clause-part
returns-clause-part c = λ lower le. part_is c.args.self.now lower (edge_of c.args.bound.now) c.items_rise.ensures.ascending le
    ∙ ap (λ (n : ℕ). slice_range c.args.self.now (count_below c.args.self.now lower) n) (sym (value c))
