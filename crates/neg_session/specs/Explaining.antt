-- Which lists of items explain what a peer answered.
use Rattle.std.specs.Prelude.{ℕ, List, All}
use Rattle.item_key.specs.declared.Item.{Item}
use Rattle.neg_codec.specs.Ranges.{Span}
use Rattle.neg_codec.specs.Text.{Spells}
use Rattle.item_roll.specs.Parts.{IsRoll}
use Rattle.item_roll.specs.Truth.{Follows}
use Rattle.neg_responder.specs.Reply.{Replies}
use Rattle.neg_session.specs.Exchange.{Exchange}

-- question and answer are messages, and the answer follows the list
pub record IsExplained (b : List Item) (e : Exchange) : Type 0 where
  pub asked : List Span
  pub answered : List Span
  pub asks : Spells e.asked asked
  pub answers : Spells e.answered answered
  pub follows : Follows b asked answered

-- a sorted list of distinct items, which each answer follows
pub record Explains (b : List Item) (log : List Exchange) : Type 0 where
  pub roll : IsRoll b
  pub each : All (IsExplained b) log

-- the answer is the list's own reply, of at most so many bytes, if the question is a message
abbrev pub AnswersBy : ℕ → List Item → Exchange → Type 0
AnswersBy limit b e = (q : List Span) → Spells e.asked q → Replies limit b q e.answered
