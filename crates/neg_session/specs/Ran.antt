-- What one session did to its peer's log, and what it found.
use Rattle.std.specs.Prelude.{◌≡◌, ◌↔◌, ◌<◌, ◌≤◌, ◌⊎◌, ◌++◌, ℕ, List, [], ◌∷◌, length, map, All, Contains, Result, Ok, Err, IfOk, OnOk}
use Rattle.neg_codec.specs.declared.CodecFault.{CodecFault}
use Rattle.item_key.specs.declared.Id.{Id}
use Rattle.item_key.specs.declared.Item.{Item}
use Rattle.neg_codec.specs.Ranges.{Span, stretches, IsSkip}
use Rattle.neg_codec.specs.Reading.{message_at}
use Rattle.neg_codec.specs.Text.{Spells}
use Rattle.neg_initiator.specs.declared.initiator.Outcome.{Outcome}
use Rattle.neg_initiator.specs.Listed.{IsListed, IsListedWhere, IsUnlisted, Distinct}
use Rattle.neg_initiator.specs.Session.{RefusesReply, IsAskDue}
use Rattle.neg_initiator.specs.Settled.{Needs, Has, HasOnePrint, ToldApart, OneTime, IsSkipped}
use Rattle.neg_initiator.specs.Trusting.{IsTrustedBy}
use Rattle.neg_initiator.specs.Pairs.{pair_of}
use Rattle.neg_session.specs.Exchange.{Exchange, gained, answered_bytes}
use Rattle.neg_session.specs.Explaining.{Explains}
use Rattle.neg_session.specs.Asking.{Chained, Resumes}
use Rattle.neg_session.specs.declared.limits.SessionLimits.{SessionLimits}
use Rattle.neg_session.specs.declared.fault.SessionFault.{SessionFault}
use Rattle.neg_session.specs.declared.fault.SessionFault.TheVariants.{PeerFailed, Bad, Rounds, NeedFull, LogFull}

-- the stretches that were taken as equal by their fingerprint alone
abbrev pub trusted_of : Outcome → List (Item × Item)
trusted_of o = map pair_of o.trusted.items

-- What was found is right for a list of the other side: the trusted stretches have one fingerprint,
-- and if fingerprints tell the parts apart and no id stands under two times, the ids found are just
-- those that one side has and the other lacks.
pub record IsRight (own b : List Item) (o : Outcome) : Type 0 where
  pub one_print : All (HasOnePrint own b) (trusted_of o)
  pub need : ToldApart own b (trusted_of o) → OneTime own b → (i : Id) → Contains o.need.keys i ↔ Needs own b i
  pub have : ToldApart own b (trusted_of o) → OneTime own b → (i : Id) → Contains o.have.keys i ↔ Has own b i

-- the last answer
abbrev pub LastAnswer : (List ℕ → Type 0) → List Exchange → Type 0
LastAnswer P [] = ⊥
LastAnswer P (e ∷ []) = P e.answered
LastAnswer P (e ∷ f ∷ es) = LastAnswer P (f ∷ es)

-- the answer is no message, by that fault of the reader
abbrev pub IsRefusedAnswer : CodecFault → List ℕ → Type 0
IsRefusedAnswer c answer = message_at answer ≡ Err c

-- some answer lists the id between bounds between which the own roll lacks it
pub record IsOffered (own : List Item) (log : List Exchange) (i : Id) : Type 0 where
  pub pair : Exchange
  pub answered : List Span
  pub stands : Contains log pair
  pub read : message_at pair.answered ≡ Ok answered
  pub listed : IsListed own answered i

-- some answer lists ids between bounds, and not this one, which the own roll has there
pub record IsWithheld (own : List Item) (log : List Exchange) (i : Id) : Type 0 where
  pub pair : Exchange
  pub answered : List Span
  pub stands : Contains log pair
  pub read : message_at pair.answered ≡ Ok answered
  pub unlisted : IsUnlisted own answered i

-- more ids are offered than may be needed
pub record OffersMore (own : List Item) (log : List Exchange) (most : ℕ) : Type 0 where
  pub ids : List Id
  pub distinct : Distinct ids
  pub more : most < length ids
  pub each : All (IsOffered own log) ids

-- The answer of a pair asks for no more ids than may be needed: so many are listed in stretches of which the next question skips a
-- key. Where none comes next, all is skipped.
pub record AsksForFew (limit : ℕ) (own : List Item) (most : ℕ) (pair : Exchange) : Type 0 where
  pub answered : List Span
  pub next : List Span
  pub read : message_at pair.answered ≡ Ok answered
  pub may : All IsSkip (stretches next) ⊎ ((question : List ℕ) × Spells question next × Resumes limit own pair question)
  pub few : (is : List Id) → Distinct is → All (IsListedWhere (IsSkipped next) own answered) is → length is ≤ most

-- the last pair is so
abbrev pub EndsIn : (Exchange → Type 0) → List Exchange → Type 0
EndsIn P log = (front : List Exchange) × (pair : Exchange) × (log ≡ front ++ pair ∷ []) × P pair

-- some answer shows that the stretch is the same: it has the own fingerprint, or skips a key of a fingerprint that was asked
pub record IsShown (own : List Item) (log : List Exchange) (t : Item × Item) : Type 0 where
  pub pair : Exchange
  pub asked : List Span
  pub answered : List Span
  pub stands : Contains log pair
  pub asks : Spells pair.asked asked
  pub read : message_at pair.answered ≡ Ok answered
  pub trusted : IsTrustedBy own asked answered t

-- a next question is due: none was asked yet, or the last answer left something open
abbrev pub IsDue : List Item → List Exchange → Type 0
IsDue own log = (log ≡ []) ⊎ LastAnswer (IsAskDue own) log

-- How a session with the own roll ended that found its peer's log at old and left it at new, and the
-- peer's count of failures at before and after.
pub record Ran (own : List Item) (limits : SessionLimits) (old new : List Exchange) (before after : ℕ) (result : Result Outcome SessionFault) : Type 0 where
  -- pairs were added, each question one that may follow the pair before it
  pub appended : new ≡ old ++ gained old new
  pub chained : Chained limits.limit own (gained old new)
  pub within : length (gained old new) ≤ limits.rounds
  -- whatever the end, the answers but the last have no more bytes than they may have
  pub gathered : (front : List Exchange) (e : Exchange) → gained old new ≡ front ++ e ∷ [] → answered_bytes front ≤ limits.log
  -- what was found is right for each list that explains the pairs
  pub exact : IfOk result (λ o. (b : List Item) → Explains b (gained old new) → IsRight own b o)
  pub done : OnOk result (IsDue own (gained old new) → ⊥)
  pub within_log : OnOk result (answered_bytes (gained old new) ≤ limits.log)
  pub few : IfOk result (λ o. length o.need.keys ≤ limits.need)
  -- whatever the answers are, each id that was found is told of by one of them
  pub offered : IfOk result (λ o. (i : Id) → Contains o.need.keys i → IsOffered own (gained old new) i)
  pub withheld : IfOk result (λ o. (i : Id) → Contains o.have.keys i → IsWithheld own (gained old new) i)
  -- no question, and no good end, follows an answer that asks for too many ids; nor is it told as one question too many
  pub few_before : (front : List Exchange) (e : Exchange) → gained old new ≡ front ++ e ∷ [] → All (AsksForFew limits.limit own limits.need) front
  pub few_done : OnOk result (All (AsksForFew limits.limit own limits.need) (gained old new))
  pub few_rounds : result ≡ Err Rounds → All (AsksForFew limits.limit own limits.need) (gained old new)
  -- each trusted stretch was shown to be the same, and is told once
  pub shown : IfOk result (λ o. (t : Item × Item) → Contains (trusted_of o) t → IsShown own (gained old new) t)
  pub once : IfOk result (λ o. Distinct o.trusted.items)
  -- each fault has its cause, and no other cause stands for a lower one of rounds, ids and bytes
  pub failed : result ≡ Err PeerFailed → before < after
  pub unfailed : (result ≡ Err PeerFailed → ⊥) → after ≡ before
  pub bad : (c : CodecFault) → result ≡ Err (Bad c) → LastAnswer (IsRefusedAnswer c) (gained old new)
  pub rounds : result ≡ Err Rounds → (length (gained old new) ≡ limits.rounds) × IsDue own (gained old new)
  pub need_full : result ≡ Err NeedFull → OffersMore own (gained old new) limits.need
  pub log_full : result ≡ Err LogFull → (limits.log < answered_bytes (gained old new)) × ((length (gained old new) < limits.rounds) ⊎ (IsDue own (gained old new) → ⊥)) × EndsIn (AsksForFew limits.limit own limits.need) (gained old new)
  -- and an answer that is no message is refused
  pub refused : (c : CodecFault) → RefusesReply c → LastAnswer (IsRefusedAnswer c) (gained old new) → result ≡ Err (Bad c)
