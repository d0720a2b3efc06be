use Rattle.std.proofs.Common.{◌≡◌, ℕ, ap, sym, ◌∙◌, arith}
use Rattle.std.specs.List.{slice_range}
use Rattle.item_key.specs.declared.Item.{Item}
use Rattle.neg_codec.specs.Ranges.{edge_of}
use Rattle.item_roll.specs.Parts.{count_below}
use Rattle.item_roll.proofs.Cuts.{part_is}
use Rattle.item_roll.proofs.Places.{count_most}
use Rattle.item_roll.proofs.roll.Roll.find_near.Goals as goal

value : (c : goal.In-Some) → c.in-Some.place ≡ count_below c.args.self.now (edge_of c.args.bound.now)
value c = c.in-Some.ensures ∙ ap (λ (b : Item). count_below c.args.self.now b) c.edge.ensures.value

pub returns-in-Some-clause-within : goal.returns-in-Some-clause-within
returns-in-Some-clause-within c = omega (arith, value c, count_most c.args.self.now (edge_of c.args.bound.now))

pub returns-in-Some-clause-part : goal.returns-in-Some-clause-part
returns-in-Some-clause-part c = λ lower le. part_is c.args.self.now lower (edge_of c.args.bound.now) c.items_rise.ensures.ascending le
    ∙ ap (λ (n : ℕ). slice_range c.args.self.now (count_below c.args.self.now lower) n) (sym (value c))
