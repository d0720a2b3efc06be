-- The ask that a session begins with.
use Rattle.std.specs.Prelude.{ℕ, ◌≡◌, ◌+◌, ◌≤◌, ◌⊎◌, List, length, All}
use Rattle.item_key.specs.declared.Item.{Item}
use Rattle.neg_codec.specs.Encoding.{text_of}
use Rattle.item_key.specs.Keys.{least, infinity}
use Rattle.neg_codec.specs.Ranges.{Span, stretches, IsSkip, Ascends}
use Rattle.neg_draft.specs.Coverage.{NoneEmpty, SkipsJoined}
use Rattle.item_roll.specs.Parts.{IsRoll, count_below}
use Rattle.item_roll.specs.Splits.{split_of}
use Rattle.item_roll.specs.Truth.{IsTrueOf}

-- It is a message of no more bytes than it may have, true of the own roll, that skips nothing. It tells the whole roll by a split, unless it
-- has nearly as many bytes as it may.
pub record IsFirstAsk (own : List Item) (limit : ℕ) (asked : List Span) : Type 0 where
  pub roll : IsRoll own
  pub ascends : Ascends least asked
  pub none_empty : NoneEmpty asked
  pub skips_joined : SkipsJoined asked
  pub truth : All (IsTrueOf own) (stretches asked)
  pub short : length (text_of asked) ≤ limit
  pub skips_nothing : All (λ t. IsSkip t → ⊥) (stretches asked)
  pub split : (asked ≡ split_of own (count_below own least) (count_below own infinity) infinity) ⊎ (limit ≤ length (text_of asked) + 256)
