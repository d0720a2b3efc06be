-- What a session makes of one answer.
use Rattle.std.specs.Prelude.{◌≡◌, ◌≢◌, ◌<◌, ◌≤◌, ◌⊎◌, ℕ, Bool, false, List, length, Ok, IsTrue}
use Rattle.neg_codec.specs.declared.CodecFault.{CodecFault}
use Rattle.neg_codec.specs.Ranges.{Span}
use Rattle.neg_codec.specs.Reading.{message_at}
use Rattle.neg_codec.specs.Text.{Spells}
use Rattle.neg_initiator.specs.declared.initiator.Next.{Next}
use Rattle.neg_initiator.specs.Listed.{PassesMost}
use Rattle.neg_initiator.specs.Session.{Session, Taken, RefusesReply, IsAskDue}
use Rattle.neg_initiator.specs.Views.{Leaves, AsksWhereDue}
use Rattle.neg_session.specs.Ran.{IsRefusedAnswer}
use Rattle.neg_session.specs.declared.fault.SessionFault.{SessionFault}
use Rattle.neg_session.specs.declared.fault.SessionFault.TheVariants.{PeerFailed, Bad, Rounds, NeedFull, LogFull}

-- The answer was taken, and so it goes on. No more ids are needed than may be, where no more were.
pub record GoesBy (reply : List ℕ) (old new : Session) (next : Next) : Type 0 where
  pub answered : List Span
  pub spells : Spells reply answered
  pub read : message_at reply ≡ Ok answered
  pub taken : Taken answered old new
  pub within : length old.need ≤ old.most → length new.need ≤ new.most
  pub leaves : Leaves new next
  pub due : AsksWhereDue old.roll reply next

-- The answer ends the session with a fault, which has its cause. An answer that is no message is refused, and one that was taken ends it
-- where it is the last and more is due, or else where it has more bytes than are left.
pub record EndsBy (reply : List ℕ) (left : ℕ) (is_last : Bool) (old new : Session) (e : SessionFault) : Type 0 where
  pub failed : e ≢ PeerFailed
  pub bad : (c : CodecFault) → e ≡ Bad c → IsRefusedAnswer c reply
  pub refused : (c : CodecFault) → RefusesReply c → IsRefusedAnswer c reply → e ≡ Bad c
  pub need_full : e ≡ NeedFull → (answered : List Span) × (message_at reply ≡ Ok answered) × PassesMost old.roll answered old.need old.most
  pub rounds : e ≡ Rounds → IsTrue is_last × IsAskDue old.roll reply × ((next : Next) × GoesBy reply old new next)
  pub log_full : e ≡ LogFull → (left < length reply) × ((is_last ≡ false) ⊎ (IsAskDue old.roll reply → ⊥)) × ((next : Next) × GoesBy reply old new next)
