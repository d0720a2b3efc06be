-- What a pass over slices of time comes to, and what is told of it.
use Rattle.std.specs.Prelude.{◌≡◌, ℕ, ◌+◌, ◌⊎◌, Bool, false, ◌||◌, nat_lt, List, ◌++◌, length, map, flat_map, fold, Option, All, ◌-◌, ◌^◌, unwrap_or}
use Rattle.std.specs.List.{sum_by, enumerate_from}
use Rattle.std.specs.Io.KnownBytes.{Appends}
use Rattle.nostr_event.specs.EventView.{EventView}
use Rattle.mirror_settings.specs.declared.settings.Settings.{Settings}
use Rattle.offer_table.specs.Table.{Table}
use Rattle.fetch_plan.specs.Plan.{Planned}
use Rattle.fetch_plan.specs.declared.cell.Cell.{Cell}
use Rattle.mirror_core.specs.declared.end.End.{End}
use Rattle.session_run.specs.declared.fetching.Counts.{Counts}
use Rattle.session_run.specs.Rounds.{BeginAt, Stage, begin_at, AreRounds, AreCounts}
use Rattle.session_run.specs.Synced.{IsSynced}
use Rattle.slices.specs.declared.times.Slice.{Slice}
use Rattle.slices.specs.declared.times.Ending.{Ending}
use Rattle.slices.specs.declared.times.Ending.TheVariants.{Taken, GivenUp}
use Rattle.slices.specs.Course.{Course, AreGoneOver, ended, halved}
use Rattle.pass_run.specs.declared.pass.Attempt.{Attempt}
use Rattle.pass_run.specs.declared.pass.Attempt.TheVariants as attempt
use Rattle.pass_run.specs.declared.pass.Outcome.{Outcome}
use Rattle.pass_run.specs.declared.pass.Outcome.TheVariants as outcome
use Rattle.pass_run.specs.declared.tally.Tally.{Tally}
use Rattle.pass_run.specs.declared.roster.News.{News}
use Rattle.pass_run.specs.Sums.{capped}
use Rattle.pass_run.specs.Span.{first_of, last_of, within}
use Rattle.pass_run.specs.Lines.{pass_text, news_text, line_of}

-- ---- a slice

abbrev pub no_ids : Tally
no_ids = record { need = 0; given = 0; missed = 0; left = 0 }

-- what became of ids that so many were needed of
abbrev pub tally_of : ℕ → Counts → Tally
tally_of need c = record { need = need; given = c.given; missed = c.missed; left = c.left }

-- What a plan gives was fetched in rounds, of which there may be so many.
pub record AreFetched (most : ℕ) (table : Table) (plan : Planned) (counts : Counts) : Type 0 where
  pub rounds : List (List Cell × Stage)
  pub cells : List Cell
  pub all : AreRounds most (begin_at table plan) rounds cells
  pub counted : AreCounts rounds cells counts

-- What became of the ids of a plan: it has none, or they were fetched.
abbrev pub IsFetchedBy : ℕ → Table → Planned → Tally → Type 0
IsFetchedBy most table plan t =
    ((length plan.gives ≡ 0) × (t ≡ no_ids)) ⊎ ((counts : Counts) × AreFetched most table plan counts × (t ≡ tally_of (length plan.gives) counts))

-- Sessions with relays over the events of a slice, how they ended, and the plan of what they found. The headline holds of it.
pub record IsPlannedFor (settings : Settings) (slice : Slice) (ends : List End) (table : Table) (plan : Planned) : Type 0 where
  pub seen : List EventView
  pub bases : List ℕ
  pub begin : BeginAt settings.bases bases
  pub synced : IsSynced (record settings { filter = within settings.filter slice }) bases seen ends table plan

-- a slice that was taken: it was compared, and what was planned was fetched
pub record IsTaken (settings : Settings) (slice : Slice) (tally : Tally) : Type 0 where
  pub ends : List End
  pub table : Table
  pub plan : Planned
  pub planned : IsPlannedFor settings slice ends table plan
  pub fetched : IsFetchedBy settings.rounds table plan tally

-- what an attempt at a slice came to, if a plan was made
abbrev pub IfPlanned : Attempt → (List End → Table → Planned → Type 0) → Type 0
IfPlanned (attempt.Planned done) P = P done.ends.items done.table done.plan
IfPlanned a P = Unit {0}

-- what a slice came to, if it was taken
abbrev pub IfWent : Outcome → (Tally → Type 0) → Type 0
IfWent (outcome.Went tally) P = P tally
IfWent o P = Unit {0}

-- ---- a pass

-- a slice, what became of it, and of its ids
pub record Came : Type 0 where
  pub slice : Slice
  pub ending : Ending
  pub tally : Tally

abbrev pub IsEnded : Settings → Ending → Slice → Tally → Type 0
IsEnded settings Taken slice tally = IsTaken settings slice tally
IsEnded settings GivenUp slice tally = tally ≡ no_ids

-- The slices of a pass, from the newest to the oldest: each time of the filter lies in exactly one of them. What became of the ids is
-- what became of those of each slice, each number up to the greatest of 64 bits.
pub record IsPass (settings : Settings) (came : List Came) (tally : Tally) : Type 0 where
  pub over : AreGoneOver (first_of settings.filter) (last_of settings.filter) (map (λ c. (c.slice, c.ending)) came)
  pub each : All (λ c. IsEnded settings c.ending c.slice c.tally) came
  pub need : tally.need ≡ capped (sum_by (λ c. c.tally.need) came)
  pub given : tally.given ≡ capped (sum_by (λ c. c.tally.given) came)
  pub missed : tally.missed ≡ capped (sum_by (λ c. c.tally.missed) came)
  pub left : tally.left ≡ capped (sum_by (λ c. c.tally.left) came)

-- what became of these ids and of others, each number up to the greatest of 64 bits
pub record IsBoth (before one both : Tally) : Type 0 where
  pub need : both.need ≡ capped (before.need + one.need)
  pub given : both.given ≡ capped (before.given + one.given)
  pub missed : both.missed ≡ capped (before.missed + one.missed)
  pub left : both.left ≡ capped (before.left + one.left)

-- A slice came out so: it has ended as taken, or as given up, or is halved. What became of the ids so far is what became of those of
-- slices that were taken.
abbrev pub GoesOn : Course → Tally → Outcome → Course → Tally → Type 0
GoesOn old before (outcome.Went tally) new all = (new ≡ ended Taken old) × IsBoth before tally all
GoesOn old before (outcome.TooLarge at) new all = ((new ≡ halved at old) ⊎ (new ≡ ended GivenUp old)) × (all ≡ before)
GoesOn old before outcome.GivenUp new all = (new ≡ ended GivenUp old) × (all ≡ before)

-- ---- what is told

-- a line of what is new of a relay, beside the time in front of it
abbrev pub Line : Type 0
Line = List ℕ × ℕ × News

abbrev pub news_lines : List Line → List ℕ
news_lines lines = flat_map (λ l. line_of l.0 (news_text l.1 l.2)) lines

-- a pass, and what was told of relays meanwhile
pub record ToldPass (settings : Settings) (old new : Option (List ℕ)) (tally : Tally) : Type 0 where
  pub came : List Came
  pub is_pass : IsPass settings came tally
  pub news : List Line
  pub printed : Appends old new (news_lines news)

-- a pass that was told
pub record Told : Type 0 where
  pub news : List Line
  pub stamp : List ℕ
  -- how many relays are level, of how many
  pub level : ℕ
  pub relays : ℕ
  pub tally : Tally
  pub millis : ℕ

-- its lines, where it is the pass of this number
abbrev pub told_text : ℕ → Told → List ℕ
told_text number p = news_lines p.news ++ line_of p.stamp (pass_text number p.level p.relays p.tally p.millis)

-- whether it left ids, or a relay isn't level
abbrev pub falls_short : Told → Bool
falls_short p = nat_lt 0 p.tally.left || nat_lt p.level p.relays

-- the same of the last of several; where there is none, nothing falls short
abbrev pub last_falls_short : List Told → Bool
last_falls_short passes = fold (λ (_ : Bool) p. falls_short p) false passes

-- the slices by which a pass came to its numbers
abbrev pub IsPassOf : Settings → Told → Type 0
IsPassOf settings p = (came : List Came) × IsPass settings came p.tally

-- one pass was told
pub record TellsPass (settings : Settings) (number : ℕ) (old new : Option (List ℕ)) (told : Told) : Type 0 where
  pub is_pass : IsPassOf settings told
  pub printed : Appends old new (told_text number told)

-- Passes were told, numbered from 1 on: as many as the settings say, and 2^64-1, more than there is time for, where they don't.
pub record TellsPasses (settings : Settings) (old new : Option (List ℕ)) (short : Bool) : Type 0 where
  pub passes : List Told
  pub as_many : length passes ≡ unwrap_or settings.mirroring.passes (2 ^ 64 - 1)
  pub each : All (IsPassOf settings) passes
  pub short_is : short ≡ last_falls_short passes
  pub printed : Appends old new (flat_map (λ p. told_text p.0 p.1) (enumerate_from 1 passes))
