-- A peer in this process: its list, how many bytes an answer may have, what it was asked and answered, and how often it
-- failed.
use Rattle.std.specs.Prelude.{◌≡◌, ◌≤◌, ◌++◌, ℕ, List, length, All, Err, refl}
use Rattle.std.proofs.Common.{◌∙◌}
use Rattle.neg_codec.specs.declared.CodecFault.{CodecFault}
use Rattle.item_key.specs.declared.Item.{Item}
use Rattle.neg_codec.specs.Reading.{message_at}
use Rattle.item_roll.specs.Parts.{IsRoll}
use Rattle.neg_responder.specs.Reply.{RefusesQuery}
use Rattle.neg_session.specs.Exchange.{Exchange, gained}
use Rattle.neg_session.specs.Explaining.{Explains, AnswersBy}
use Rattle.neg_session.specs.Asking.{Chained}

pub record Local : Type 0 where
  pub roll : List Item
  pub limit : ℕ
  pub log : List Exchange
  pub faults : ℕ

-- the question is no message, by another fault than its version
abbrev pub IsRefusedQuestion : List ℕ → Type 0
IsRefusedQuestion question = (f : CodecFault) × (message_at question ≡ Err f) × RefusesQuery f

-- the question isn't refused, and its answer is no longer than the limit
pub record IsAnswered (limit : ℕ) (e : Exchange) : Type 0 where
  pub taken : IsRefusedQuestion e.asked → ⊥
  pub short : length e.answered ≤ limit

-- It keeps its list and its limit. If each answer to a message was the list's own reply within the limit, that is still so; if no
-- question was one that is refused, and each answer kept the limit, that is still so.
pub record Keeps (p q : Local) : Type 0 where
  pub roll : q.roll ≡ p.roll
  pub limit_is : q.limit ≡ p.limit
  pub answers : All (AnswersBy p.limit p.roll) p.log → All (AnswersBy q.limit q.roll) q.log
  pub pairs : All (IsAnswered p.limit) p.log → All (IsAnswered q.limit) q.log

pub keeps_itself : (p : Local) → Keeps p p
keeps_itself p = record { roll = refl; limit_is = refl; answers = λ h. h; pairs = λ h. h }

pub keeps_on : (p q r : Local) → Keeps p q → Keeps q r → Keeps p r
keeps_on p q r h k = record { roll = k.roll ∙ h.roll; limit_is = k.limit_is ∙ h.limit_is; answers = λ a. k.answers (h.answers a); pairs = λ a. k.pairs (h.pairs a) }

-- a list that answers each message by its own reply explains the pairs of a session
abbrev pub RollExplains : Type 0
RollExplains =
    (most limit : ℕ) (own b : List Item) (old new : List Exchange) → IsRoll b → All (AnswersBy most b) new
    → new ≡ old ++ gained old new → Chained limit own (gained old new) → Explains b (gained old new)
