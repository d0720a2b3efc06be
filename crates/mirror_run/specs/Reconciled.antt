-- A session between two lists, and how `recon` ends.
use Rattle.std.specs.Prelude.{◌≡◌, ℕ, ◌<◌, ◌≤◌, List, [], length, Option, Ok, Err, All, IsPermutation}
use Rattle.std.specs.Io.KnownBytes.{Appends}
use Rattle.item_key.specs.declared.Item.{Item}
use Rattle.item_roll.specs.Parts.{IsRoll}
use Rattle.neg_initiator.specs.declared.initiator.Outcome.{Outcome}
use Rattle.neg_session.specs.declared.limits.SessionLimits.{SessionLimits}
use Rattle.neg_session.specs.declared.fault.SessionFault.{SessionFault}
use Rattle.neg_session.specs.Exchange.{Exchange, KeepsLimit}
use Rattle.neg_session.specs.Explaining.{Explains, AnswersBy}
use Rattle.neg_session.specs.Faults.{number_of}
use Rattle.neg_session.specs.Most.{AreMost}
use Rattle.neg_session.specs.Ran.{Ran, IsRight}
use Rattle.mirror_run.specs.declared.refusal.Refusal.{Refusal}
use Rattle.mirror_run.specs.declared.refusal.Refusal.TheVariants.{Write, Session, Memory}
use Rattle.mirror_run.specs.ItemLists.{IsInput}
use Rattle.mirror_run.specs.ReconText.{recon_text}
use Rattle.mirror_run.specs.Refused.{IsLinesRefusal, IsInputRefusal}

-- A session of `mine` with a peer that answers by `theirs`, its pairs and what it found: each answer is the reply of
-- `theirs` within the limit, no message is longer than it, and what was found is right for the two.
pub record Reconciles (limit : ℕ) (mine theirs : List Item) (log : List Exchange) (o : Outcome) : Type 0 where
  pub limits : SessionLimits
  pub are : AreMost limit limits
  pub ran : Ran mine limits [] log 0 0 (Ok o)
  pub short : All (KeepsLimit limit) log
  pub answers : All (AnswersBy limit theirs) log
  pub explained : Explains theirs log
  pub right : IsRight mine theirs o

-- Such a session that ended by a fault, which has that number. A peer that answers by a list neither fails nor answers
-- what is no message.
pub record Fails (limit : ℕ) (mine theirs : List Item) (number : ℕ) : Type 0 where
  pub limits : SessionLimits
  pub log : List Exchange
  pub failures : ℕ
  pub fault : SessionFault
  pub are : AreMost limit limits
  pub ran : Ran mine limits [] log 0 failures (Err fault)
  pub explained : Explains theirs log
  pub is : number ≡ number_of fault
  pub answered : 2 < number
  pub not_memory : number < 6

-- The input, which isn't too long, tells two lists, whose items in order, each once, are the rolls.
pub record TellsRolls (input : List ℕ) (mine theirs : List Item) : Type 0 where
  pub first : List Item
  pub second : List Item
  pub short : length input ≤ 67108864
  pub told : IsInput input first second
  pub mine_is : IsPermutation first mine
  pub theirs_is : IsPermutation second theirs
  pub mine_sorted : IsRoll mine
  pub theirs_sorted : IsRoll theirs

-- why a session gave nothing
abbrev pub IsSessionRefusal : ℕ → List Item → List Item → Refusal → Type 0
IsSessionRefusal limit mine theirs (Session number) = Fails limit mine theirs number
IsSessionRefusal limit mine theirs Memory = Unit {0}
IsSessionRefusal limit mine theirs _ = ⊥

-- what was written is the text of a session between the two lists of the input
pub record IsPrinted (limit : ℕ) (input : List ℕ) (old new : Option (List ℕ)) : Type 0 where
  pub mine : List Item
  pub theirs : List Item
  pub log : List Exchange
  pub outcome : Outcome
  pub told : TellsRolls input mine theirs
  pub session : Reconciles limit mine theirs log outcome
  pub written : Appends old new (recon_text log outcome.need.keys outcome.have.keys (length outcome.trusted.items))

-- why two lists told by a text gave nothing
abbrev pub IsListsRefusal : ℕ → List ℕ → Refusal → Type 0
IsListsRefusal limit text (Session number) =
    (mine : List Item) × (theirs : List Item) × TellsRolls text mine theirs × Fails limit mine theirs number
IsListsRefusal limit text e = IsLinesRefusal text e

-- why `recon` gave nothing
abbrev pub IsReconRefusal : ℕ → List ℕ → Refusal → Type 0
IsReconRefusal limit input Write = Unit {0}
IsReconRefusal limit input (Session number) =
    (mine : List Item) × (theirs : List Item) × TellsRolls input mine theirs × Fails limit mine theirs number
IsReconRefusal limit input e = IsInputRefusal input e
