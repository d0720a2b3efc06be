-- What a worker did by the time that it ended.
use Rattle.std.specs.Prelude.{◌≡◌, ◌≢◌, ◌⊎◌, ℕ, ◌<◌, ◌≤◌, Bool, true, false, List, [], ◌++◌, length, Some, slice_get, slice_index, Contains}
use Rattle.item_key.specs.declared.Id.{Id}
use Rattle.fetch_plan.specs.declared.cell.Cell.{Cell}
use Rattle.fetch_plan.specs.declared.cell.Cell.TheVariants.{Free, Done, Missed}
use Rattle.claim_board.specs.declared.records.LaneRecord.{LaneRecord}
use Rattle.claim_board.specs.Rules.{relays}
use Rattle.claim_board.specs.Views.{LaneView}
use Rattle.event_store.specs.declared.desk.InsertFault.{InsertFault}
use Rattle.event_store.specs.declared.desk.InsertFault.TheVariants as refused
use Rattle.event_source.specs.declared.source.SourceFault.TheVariants.{Failed}
use Rattle.event_source.specs.Fetching.{Fetching, fetched, WasGiven, WasMissed}
use Rattle.mirror_core.specs.declared.worker.Stop.{Stop}
use Rattle.mirror_core.specs.declared.worker.Stop.TheVariants as ended
use Rattle.mirror_core.specs.Batches.{SameLane}
use Rattle.mirror_core.specs.Asked.{AreIdsOf, asked_in}

-- a refused insert ends a worker so
abbrev pub stop_of : {J : Type 0} → InsertFault J → Stop J
stop_of (refused.Full filled) = ended.Full filled
stop_of refused.Memory = ended.Memory

-- the worker came to all cells
abbrev pub is_through : {J : Type 0} → Stop J → Bool
is_through ended.Through = true
is_through s = false

-- no call was given the lane yet
pub record IsUnused (e : LaneRecord) : Type 0 where
  pub held : e.held ≡ []
  pub ended : e.ended ≡ []
  pub won : e.won ≡ []

-- what the lane ended is of its relay, and was asked for and given, or not given, in these fetches
pub record EndedByFetches (cells : List (Id × ℕ)) (log : List Fetching) (e : LaneRecord) : Type 0 where
  pub done : (i : ℕ) → Contains e.ended (i, Done) → (id : Id) × (slice_get cells i ≡ Some (id, e.relay)) × WasGiven log id
  pub missed : (i : ℕ) → Contains e.ended (i, Missed) → (id : Id) × (slice_get cells i ≡ Some (id, e.relay)) × WasMissed log id

-- The source's log gained some fetches, each of at most 100 ids. What the lane ended is by the fetches that the log has
-- gained since it was unused, if that was so before.
pub record Logs (cells : List (Id × ℕ)) (e f : LaneRecord) (before after : List Fetching) : Type 0 where
  pub gained : List Fetching
  pub appended : after ≡ before ++ gained
  pub few : (g : Fetching) → Contains gained g → length g.asked ≤ 100
  pub ends : (log : List Fetching) → EndedByFetches cells log e → EndedByFetches cells (log ++ gained) f

-- The lane went from one to the other while its source's log and its count of failures did, and the worker stopped so.
pub record Worked {J : Type 0} (cells : List (Id × ℕ)) (old new : LaneView) (before after : List Fetching) (faults faults' : ℕ) (stop : Stop J) : Type 0 where
  pub same : SameLane old new
  pub held : new.own.held ≡ []
  pub appended : after ≡ before ++ fetched before after
  pub few : (g : Fetching) → Contains (fetched before after) g → length g.asked ≤ 100
  pub asked : AreIdsOf cells new.own.relay 0 (length cells) (asked_in (fetched before after))
  pub ends : EndedByFetches cells (fetched before after) new.own
  pub won : is_through stop ≡ true → (i : ℕ) → Contains new.own.won i → Contains new.own.ended (i, Done) ⊎ Contains new.own.ended (i, Missed)
  pub seen : is_through stop ≡ true → (i : ℕ) → i < length cells → slice_index (relays cells) i ≡ new.own.relay → Contains new.own.won i ⊎ ((c : Cell) × (c ≢ Free) × Contains new.own.met (i, c))
  pub failed : stop ≡ ended.Source Failed → faults < faults'
  pub told : faults < faults' → stop ≡ ended.Source Failed
