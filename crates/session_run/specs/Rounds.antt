-- The rounds of a job: which plan is made of what the last one left, and what became of the ids.
use Rattle.std.specs.Prelude.{◌≡◌, ℕ, ◌+◌, ◌-◌, ◌^◌, ◌<◌, ◌≤◌, min, ◌⊎◌, Bool, true, false, List, [], ◌∷◌, length, count_by, All}
use Rattle.std.specs.List.{sum_by}
use Rattle.item_key.specs.declared.Id.{Id}
use Rattle.sharing.specs.declared.TheConstants.{RELAYS, MOST_BASE}
use Rattle.sharing.specs.Bases.{base_of}
use Rattle.sharing.specs.Offers.{StandsFor}
use Rattle.offer_table.specs.Table.{Table}
use Rattle.fetch_plan.specs.Plan.{Planned}
use Rattle.fetch_plan.specs.declared.cell.Cell.{Cell}
use Rattle.fetch_plan.specs.declared.cell.Cell.TheVariants.{Done, Missed}
use Rattle.event_source.specs.Fetching.{Fetching}
use Rattle.mirror_core.specs.Next.{IsLeft, asked_of}
use Rattle.mirror_core.specs.LeftOver.{IsFailover}
use Rattle.ws_link.specs.Fetched.{WasFetched}
use Rattle.stream_laws.specs.Streams.{AreOverStreams}
use Rattle.ws_link.specs.Wired.{Wired}
use Rattle.session_run.specs.declared.fetching.Counts.{Counts}

-- ---- what loads begin with

-- Each relay's load begins with the one that the settings give it, if that is one that a load may begin with.
abbrev pub BeginAt : List ℕ → List ℕ → Type 0
BeginAt loads bases = (r : ℕ) → r < RELAYS → base_of loads r ≤ MOST_BASE → base_of bases r ≡ base_of loads r

-- ---- what came over the streams of links

-- Cells are over streams, if each source's log was fetched over its stream.
abbrev pub IsOverIfFetched : {S : Type 0} → (S → List Fetching) → List (Id × ℕ) → List ℕ → List S → List Cell → Type 0
IsOverIfFetched {S} log gives lanes sources cells =
    (stream : S → Wired Fetching) → ((s : S) → log s ≡ (stream s).log) → All (λ s. WasFetched (stream s)) sources
    → AreOverStreams stream gives lanes sources cells

-- There are sources on lanes of relays. Of each id that is done one of its relay brought an event over its stream, and of each that is
-- missed one didn't.
abbrev pub CameOver : List (Id × ℕ) → List Cell → Type 0
CameOver gives cells = (lanes : List ℕ) × (sources : List (Wired Fetching)) × AreOverStreams (λ s. s) gives lanes sources cells

-- ---- one round behind another

-- Where a round begins: the offers, and the plan by which ids are fetched.
pub record Stage : Type 0 where
  pub offers : List (Id × List ℕ)
  pub plan : Planned

-- the first round
abbrev pub begin_at : Table → Planned → Stage
begin_at table plan = record { offers = table.offers; plan = plan }

-- A round ended with these cells, one for each id of its plan, and there the next one begins.
pub record IsNext (last : Stage) (cells : List Cell) (next : Stage) : Type 0 where
  pub whole : length cells ≡ length last.plan.gives
  pub came : CameOver last.plan.gives cells
  -- a load begins with what the relay was asked for besides
  pub grown : (r : ℕ) → base_of next.plan.bases r ≡ min (base_of last.plan.bases r + asked_of last.plan.gives cells r (length cells)) MOST_BASE
  -- the offers are those that are left
  pub left : StandsFor next.offers (IsLeft last.offers last.plan.gives cells)
  -- the plan is a least one of these, and passes over relays that stopped where others offer the id
  pub stopped : List ℕ
  pub planned : IsFailover next.plan.bases stopped next.offers next.plan

-- Rounds one behind another, each beside the cells of the one before. Each has ids to fetch.
abbrev pub GoOn : Stage → List (List Cell × Stage) → Type 0
GoOn first [] = Unit {0}
GoOn first (r ∷ rounds) = IsNext first r.0 r.1 × (0 < length r.1.plan.gives) × GoOn r.1 rounds

-- where the last of the rounds begins
abbrev pub last_of : Stage → List (List Cell × Stage) → Stage
last_of first [] = first
last_of first (r ∷ rounds) = last_of r.1 rounds

-- Rounds are over once there are as many as may be, or sooner where the next one would have no ids.
abbrev pub AreOver : ℕ → Stage → List (List Cell × Stage) → List Cell → Type 0
AreOver most first rounds cells =
    (length rounds ≡ most - 1) ⊎ ((length rounds + 1 < most) × (next : Stage) × IsNext (last_of first rounds) cells next × (length next.plan.gives ≡ 0))

-- All rounds of a job that may have so many of them. The last one ended with these cells.
pub record AreRounds (most : ℕ) (first : Stage) (rounds : List (List Cell × Stage)) (cells : List Cell) : Type 0 where
  pub follow : GoOn first rounds
  pub whole : length cells ≡ length (last_of first rounds).plan.gives
  pub came : CameOver (last_of first rounds).plan.gives cells
  pub over : AreOver most first rounds cells

-- ---- what became of the ids

abbrev pub is_done : Cell → Bool
is_done Done = true
is_done c = false

abbrev pub is_missed : Cell → Bool
is_missed Missed = true
is_missed c = false

-- neither of these
abbrev pub is_left : Cell → Bool
is_left Done = false
is_left Missed = false
is_left c = true

-- how many cells of a round ended how
pub record AreCounted (cells : List Cell) (counts : Counts) : Type 0 where
  pub given : counts.given ≡ count_by is_done cells
  pub missed : counts.missed ≡ count_by is_missed cells
  pub left : counts.left ≡ count_by is_left cells

-- a number, or the greatest one of 64 bits
abbrev pub capped : ℕ → ℕ
capped n = min n (2 ^ 64 - 1)

-- What became of the ids in all rounds. Those that are left are the last round's.
pub record AreCounts (rounds : List (List Cell × Stage)) (cells : List Cell) (counts : Counts) : Type 0 where
  pub given : counts.given ≡ capped (sum_by (λ r. count_by is_done r.0) rounds + count_by is_done cells)
  pub missed : counts.missed ≡ capped (sum_by (λ r. count_by is_missed r.0) rounds + count_by is_missed cells)
  pub left : counts.left ≡ count_by is_left cells
