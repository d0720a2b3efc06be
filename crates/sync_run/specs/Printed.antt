-- What the job prints, and what is known of the plans in it.
use Rattle.std.specs.Prelude.{◌<◌, ◌≡◌, ℕ, List, ◌++◌, Option, None, Some}
use Rattle.std.specs.Io.KnownBytes.{Appends}
use Rattle.nostr_event.specs.EventView.{EventView}
use Rattle.toml.specs.Data.{Members}
use Rattle.toml.specs.Parse.{parse_document}
use Rattle.mirror_settings.specs.declared.job.Job.TheVariants.{Sync}
use Rattle.mirror_settings.specs.declared.settings.Settings.{Settings}
use Rattle.mirror_settings.specs.Settings.{TellsFor}
use Rattle.sharing.specs.Bases.{base_of}
use Rattle.offer_table.specs.Table.{Table}
use Rattle.fetch_plan.specs.Plan.{Planned}
use Rattle.fetch_plan.specs.declared.cell.Cell.{Cell}
use Rattle.mirror_core.specs.declared.end.End.{End}
use Rattle.session_run.specs.declared.fetching.Counts.{Counts}
use Rattle.session_run.specs.Lines.{ends_text, plan_text, counts_text}
use Rattle.session_run.specs.Rounds.{Stage, begin_at, AreRounds, AreCounts}
use Rattle.session_run.specs.Synced.{IsSynced}
use Rattle.session_run.specs.Fetched.{rounds_text}
use Rattle.sharing.specs.declared.TheConstants.{RELAYS}

-- How the sessions ended is printed and the plan that was made of what they found, then the later rounds, and at last what
-- became of the ids.
pub record Prints (settings : Settings) (bases : List ℕ) (seen : List EventView) (old new : Option (List ℕ)) : Type 0 where
  pub ends : List End
  pub table : Table
  pub plan : Planned
  pub rounds : List (List Cell × Stage)
  pub cells : List Cell
  pub counts : Counts
  pub synced : IsSynced settings bases seen ends table plan
  pub all : AreRounds settings.rounds (begin_at table plan) rounds cells
  pub counted : AreCounts rounds cells counts
  pub printed : Appends old new (ends_text ends ++ plan_text plan ++ rounds_text rounds ++ counts_text counts)

-- the same over what the loads begin with, by the settings' loads
abbrev pub PrintsOver : (List ℕ → List ℕ → Type 0) → Settings → List EventView → Option (List ℕ) → Option (List ℕ) → Type 0
PrintsOver Begin settings seen old new = (bases : List ℕ) × Begin settings.bases bases × Prints settings bases seen old new

-- the same over some list of events that was published
abbrev pub PrintsOfSome : (List ℕ → List ℕ → Type 0) → Settings → Option (List ℕ) → Option (List ℕ) → Type 0
PrintsOfSome Begin settings old new = (seen : List EventView) × PrintsOver Begin settings seen old new

-- Each relay's load begins with the one that the settings give it, or with 0 where they name fewer.
abbrev pub BeginWith : List ℕ → List ℕ → Type 0
BeginWith loads bases = (r : ℕ) → r < RELAYS → base_of bases r ≡ base_of loads r

-- What a job that is done has printed, where its settings name no place to listen. With one, the lines stand behind that of
-- the place, and nothing is said of them.
abbrev pub IsSyncDone : List ℕ → Option (List ℕ) → Option (List ℕ) → Type 0
IsSyncDone text old new =
    (t : Members) × (s : Settings) × (parse_document text ≡ Some t) × TellsFor Sync t s × (s.listen ≡ None → PrintsOfSome BeginWith s old new)
