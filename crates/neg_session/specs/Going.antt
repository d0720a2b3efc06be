-- Where a session stands between two questions.
use Rattle.std.specs.Prelude.{◌≡◌, ◌+◌, ◌≤◌, ◌++◌, ℕ, List, length, All, Contains, Ok}
use Rattle.item_key.specs.declared.Id.{Id}
use Rattle.item_key.specs.declared.Item.{Item}
use Rattle.neg_codec.specs.Ranges.{Span}
use Rattle.neg_codec.specs.Reading.{message_at}
use Rattle.neg_codec.specs.Text.{Spells}
use Rattle.neg_initiator.specs.declared.phase.Phase.TheVariants.{Asking}
use Rattle.neg_initiator.specs.Session.{Session, IsSound}
use Rattle.neg_initiator.specs.Settled.{HasOnePrint, ToldApart, OneTime, Settled}
use Rattle.neg_session.specs.Exchange.{Exchange, gained, answered_bytes}
use Rattle.neg_session.specs.Explaining.{Explains}
use Rattle.neg_session.specs.Asking.{Chained, MayAsk}
use Rattle.neg_session.specs.Ran.{IsOffered, IsWithheld, AsksForFew, IsShown, IsDue}
use Rattle.neg_session.specs.declared.limits.SessionLimits.{SessionLimits}

-- what the session knows of a list of the other side
pub record Knows (own b : List Item) (s : Session) : Type 0 where
  pub one_print : All (HasOnePrint own b) s.trusted
  pub settled : ToldApart own b s.trusted → OneTime own b → Settled own b s.asked s.need s.have

-- the answer is a message
abbrev pub IsRead : Exchange → Type 0
IsRead e = (m : List Span) × (message_at e.answered ≡ Ok m)

-- So many questions of the session have been answered, `question` is the next, and so many bytes of
-- answers are left.
pub record Going (own : List Item) (limits : SessionLimits) (asked : ℕ) (old now : List Exchange) (before after : ℕ) (question : List ℕ) (left : ℕ) (s : Session) : Type 0 where
  pub appended : now ≡ old ++ gained old now
  pub chained : Chained limits.limit own (gained old now)
  pub may : MayAsk limits.limit own (gained old now) question
  pub count : length (gained old now) ≡ asked
  pub bytes : left + answered_bytes (gained old now) ≡ limits.log
  pub read : All IsRead (gained old now)
  pub due : IsDue own (gained old now)
  pub unfailed : after ≡ before
  pub roll : s.roll ≡ own
  pub limit_is : s.limit ≡ limits.limit
  pub most : s.most ≡ limits.need
  pub few : length s.need ≤ limits.need
  pub phase : s.phase ≡ Asking
  pub sound : IsSound s
  pub spelled : Spells question s.asked
  pub offered : (i : Id) → Contains s.need i → IsOffered own (gained old now) i
  pub withheld : (i : Id) → Contains s.have i → IsWithheld own (gained old now) i
  pub few_asked : All (AsksForFew limits.limit own limits.need) (gained old now)
  pub shown : (t : Item × Item) → Contains s.trusted t → IsShown own (gained old now) t
  pub knows : (b : List Item) → Explains b (gained old now) → Knows own b s
