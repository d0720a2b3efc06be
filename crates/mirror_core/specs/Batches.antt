-- What a lane is between two steps of its worker: the cells that it holds are a batch, which was or will be asked for.
use Rattle.std.specs.Prelude.{◌≡◌, ◌≢◌, ◌⊎◌, ℕ, ◌<◌, List, [], ◌∷◌, Some, slice_get, slice_index, Contains}
use mathlib.Core.Logic.{◌↔◌}
use Rattle.item_key.specs.declared.Id.{Id}
use Rattle.fetch_plan.specs.declared.cell.Cell.{Cell}
use Rattle.fetch_plan.specs.declared.cell.Cell.TheVariants.{Free, Done, Missed}
use Rattle.claim_board.specs.declared.records.LaneRecord.{LaneRecord}
use Rattle.claim_board.specs.Rules.{relays, IsIdOf}
use Rattle.claim_board.specs.Steps.{with_ended}
use Rattle.claim_board.specs.Views.{LaneView}

-- no cell stands there twice
abbrev pub NoneTwice : List ℕ → Type 0
NoneTwice [] = Unit {0}
NoneTwice (x ∷ xs) = (Contains xs x → ⊥) × NoneTwice xs

-- the lane holds just these cells
pub record Holds (batch : List ℕ) (e : LaneRecord) : Type 0 where
  pub once : NoneTwice batch
  pub held : (i : ℕ) → Contains e.held i ↔ Contains batch i

-- The lane holds just the batch, each a cell of its relay whose id is among these. What else it ever won is ended. Of
-- the cells below the next one, it won each of its relay, or met it held or ended.
pub record Batched (cells : List (Id × ℕ)) (next : ℕ) (batch : List ℕ) (ids : List Id) (e : LaneRecord) : Type 0 where
  pub holds : Holds batch e
  pub asked : (i : ℕ) → Contains batch i → (id : Id) × (slice_get cells i ≡ Some (id, e.relay)) × Contains ids id
  pub won : (i : ℕ) → Contains e.won i → (Contains e.ended (i, Done) ⊎ Contains e.ended (i, Missed)) ⊎ Contains batch i
  pub seen : (i : ℕ) → i < next → slice_index (relays cells) i ≡ e.relay → Contains e.won i ⊎ ((c : Cell) × (c ≢ Free) × Contains e.met (i, c))

-- the lane is the same one, whatever its lists say
pub record SameLane (p q : LaneView) : Type 0 where
  pub board : q.board ≡ p.board
  pub others : q.others ≡ p.others
  pub lane : q.own.lane ≡ p.own.lane
  pub relay : q.own.relay ≡ p.own.relay

-- the cell was ended as done if its id was given, else as missed
abbrev pub EndsCell : List (Id × ℕ) → List Id → ℕ → LaneRecord → LaneRecord → Type 0
EndsCell cells given i e f = (id : Id) × IsIdOf cells i id × (((f ≡ with_ended i Done e) × Contains given id) ⊎ ((f ≡ with_ended i Missed e) × (Contains given id → ⊥)))

-- what was ended since is of the lane's relay and was asked for, and is done where its id was given and missed where not
pub record Settles (cells : List (Id × ℕ)) (asked given : List Id) (e f : LaneRecord) : Type 0 where
  pub done : (i : ℕ) → Contains f.ended (i, Done) → Contains e.ended (i, Done) ⊎ ((id : Id) × (slice_get cells i ≡ Some (id, f.relay)) × Contains asked id × Contains given id)
  pub missed : (i : ℕ) → Contains f.ended (i, Missed) → Contains e.ended (i, Missed) ⊎ ((id : Id) × (slice_get cells i ≡ Some (id, f.relay)) × Contains asked id × (Contains given id → ⊥))
