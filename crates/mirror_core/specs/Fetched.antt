-- What the cells of a board come to once sources were asked, and what each source was asked.
use Rattle.std.specs.Prelude.{◌≡◌, ◌≢◌, ℕ, ◌<◌, ◌≤◌, true, List, [], ◌∷◌, ◌++◌, length, Some, slice_get, slice_index_or, Contains}
use Rattle.item_key.specs.declared.Id.{Id}
use Rattle.fetch_plan.specs.declared.cell.Cell.{Cell}
use Rattle.fetch_plan.specs.declared.cell.Cell.TheVariants.{Free, Held, Done, Missed}
use Rattle.event_source.specs.declared.source.SourceFault.TheVariants.{Failed}
use Rattle.event_source.specs.Fetching.{Fetching, fetched, WasGiven, WasMissed}
use Rattle.mirror_core.specs.declared.worker.Stop.{Stop}
use Rattle.mirror_core.specs.declared.worker.Stop.TheVariants.{Source, Memory}
use Rattle.mirror_core.specs.Working.{is_through}

-- what each source's log gained
abbrev pub logs_gained : {S : Type 0} → (S → List Fetching) → List S → List S → List (List Fetching)
logs_gained log [] ts = []
logs_gained log (s ∷ ss) [] = []
logs_gained log (s ∷ ss) (t ∷ ts) = fetched (log s) (log t) ∷ logs_gained log ss ts

-- What a cell with this id and relay comes to: done where a source on a lane of its relay was asked for the id and gave
-- it, missed where one was asked and didn't, and free only where no lane is of its relay, or a worker of such a lane
-- stopped early. No lane holds it.
pub record CellEnds {J : Type 0} (lanes : List ℕ) (logs : List (List Fetching)) (stops : List (Stop J)) (id : Id) (relay : ℕ) (c : Cell) : Type 0 where
  pub held : (w : ℕ) → c ≢ Held w
  pub done : c ≡ Done → (w : ℕ) × (slice_get lanes w ≡ Some relay) × WasGiven (slice_index_or logs w []) id
  pub missed : c ≡ Missed → (w : ℕ) × (slice_get lanes w ≡ Some relay) × WasMissed (slice_index_or logs w []) id
  pub free : c ≡ Free → ((w : ℕ) → slice_get lanes w ≡ Some relay → is_through (slice_index_or stops w Memory) ≡ true) → (w : ℕ) → slice_get lanes w ≢ Some relay

-- what became of each cell
pub record EachEnds {J : Type 0} (cells : List (Id × ℕ)) (lanes : List ℕ) (logs : List (List Fetching)) (stops : List (Stop J)) (found : List Cell) : Type 0 where
  pub long : length found ≡ length cells
  pub ends : (i : ℕ) (id : Id) (relay : ℕ) → slice_get cells i ≡ Some (id, relay) → CellEnds lanes logs stops id relay (slice_index_or found i Free)

-- A source's log only gained fetches, each of at most 100 ids. A worker stopped for a failure just where its source's count of failures rose.
pub record Fetches {J : Type 0} (before after : List Fetching) (faults faults' : ℕ) (stop : Stop J) : Type 0 where
  pub appended : after ≡ before ++ fetched before after
  pub few : (g : Fetching) → Contains (fetched before after) g → length g.asked ≤ 100
  pub failed : stop ≡ Source Failed → faults < faults'
  pub told : faults < faults' → stop ≡ Source Failed
