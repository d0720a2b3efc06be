-- Where more ids are needed than a table takes.
use Rattle.std.specs.Prelude.{◌<◌, ℕ, List, length, Contains}
use Rattle.item_key.specs.declared.Id.{Id}
use Rattle.item_key.specs.declared.Item.{Item}
use Rattle.neg_initiator.specs.declared.initiator.Outcome.{Outcome}
use Rattle.neg_initiator.specs.Listed.{Distinct}
use Rattle.neg_session.specs.Exchange.{Exchange}
use Rattle.neg_session.specs.declared.limits.SessionLimits.{SessionLimits}
use Rattle.sharing.specs.declared.TheConstants.{MOST_IDS}
use Rattle.mirror_core.specs.declared.end.End.{End}
use Rattle.mirror_core.specs.Ends.{EachRan, FinishedWith}

-- a session finished, and found the id needed
abbrev pub IsNeeded : List End → Id → Type 0
IsNeeded ends i = (r : ℕ) × (o : Outcome) × FinishedWith ends r o × Contains o.need.keys i

-- distinct ids, more than a table takes, and each is needed
pub record NeedTooMany (ends : List End) : Type 0 where
  pub ids : List Id
  pub distinct : Distinct ids
  pub more : MOST_IDS < length ids
  pub each : (i : Id) → Contains ids i → IsNeeded ends i

-- there is no table of what the sessions found, and each of them ran; if it would be too large, too many ids are needed
pub record Stopped {P : Type 0} (log : P → List Exchange) (faults : P → ℕ) (becomes : P → P → Type 0) (own : List Item) (limits : SessionLimits) (olds news : List P) (full : Type 0) : Type 0 where
  pub ends : List End
  pub ran : EachRan log faults becomes own limits olds news ends
  pub too_many : full → NeedTooMany ends
