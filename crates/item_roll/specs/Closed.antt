-- The stretches of ranges alone, without the Skip that a message implies after its last range.
use Rattle.std.specs.Prelude.{◌≡◌, ◌≢◌, List, [], ◌∷◌, All}
use Rattle.item_key.specs.declared.Item.{Item}
use Rattle.neg_codec.specs.Ranges.{skip, Span, Stretch}

-- the first begins at the lower bound, each later one where the one before it ends
abbrev pub closed_from : Item → List Span → List Stretch
closed_from lower [] = []
closed_from lower (r ∷ rs) = record { lower = lower; upper = r.upper; claim = r.claim } ∷ closed_from r.upper rs

-- there is a last range, and it ends at the bound
abbrev pub EndsAt : Item → List Span → Type 0
EndsAt upper [] = ⊥
EndsAt upper (r ∷ []) = r.upper ≡ upper
EndsAt upper (r ∷ s ∷ rs) = EndsAt upper (s ∷ rs)

-- the range says something of its keys
abbrev pub IsTold : Span → Type 0
IsTold r = r.claim ≢ skip

-- ranges up to a bound, none of them a Skip
pub record Reaches (upper : Item) (ranges : List Span) : Type 0 where
  pub ends : EndsAt upper ranges
  pub told : All IsTold ranges
