-- The round that a history leaves.
use Rattle.std.specs.Prelude.{◌≡◌, ℕ, ◌+◌, ◌-◌, ◌<◌, ◌≤◌, ◌==◌, ◌&&◌, ◌||◌, ◌⊎◌, not, Bool, true, false, List, [], ◌∷◌, ◌++◌, length, map, drop, slice_index_or, slice_set, Option, Some, None, Result, Ok, Err, MatchResult, MatchOption, replicate, alloc_error, is_some}
use Rattle.std.specs.declared.alloc.AllocError.{AllocError}
use Rattle.std.specs.List.{list_any}
use Rattle.item_key.specs.declared.Id.{Id}
use Rattle.sharing.specs.Offers.{is_id, relays_of, AreRelays, Ascend, IsOffers}
use Rattle.sharing.specs.Bases.{base_of}
use Rattle.sharing.specs.Sharing.{is_among, NoneSmaller}
use Rattle.offer_table.specs.Table.{Table, IsTable}
use Rattle.offer_table.specs.declared.faults.OfferFault.{OfferFault}
use Rattle.offer_table.specs.declared.faults.OfferFault.TheVariants as fault
use Rattle.fetch_plan.specs.Plan.{Planned, IsPlanOf}
use Rattle.fetch_plan.specs.LeftOut.{gone_of}
use Rattle.fetch_plan.specs.declared.cell.Cell.{Cell}
use Rattle.fetch_plan.specs.declared.cell.Cell.TheVariants.{Free, Held, Done, Missed}
use Rattle.round_core.specs.declared.events.Refusal.TheVariants as why
use Rattle.round_core.specs.declared.events.RoundEvent.{RoundEvent}
use Rattle.round_core.specs.declared.events.RoundEvent.TheVariants as event
use Rattle.round_core.specs.declared.events.Touch.{Touch}
use Rattle.round_core.specs.declared.events.Touch.TheVariants.{Claim, Finish, Miss, Release}
use Rattle.round_core.specs.declared.events.Answer.{Answer}
use Rattle.round_core.specs.declared.events.Answer.TheVariants.{Taken, Sealed, Placed, Won, Finished, MissedIt, Released, Refused}
use Rattle.round_core.specs.History.{History, TableOf, is_sealed, sealings, gives_of, gives_before, no_give, cell_after, is_placed}
use Rattle.round_core.specs.Legal.{legal_after, report_answer, barred, or_refused, claim_answer, end_answer, finish_answer, is_held, IsLowestHeld}

pub record State : Type 0 where
  pub lanes : List ℕ
  -- the offers that the last plan shares out, before the seal those that were reported
  pub table : Table
  -- the last plan
  pub plan : Option Planned
  -- the cells of all plans
  pub cells : List Cell
  pub placed : List Id

-- the gives of the last plan, none before the seal
abbrev pub gives_in : Option Planned → List (Id × ℕ)
gives_in None = []
gives_in (Some plan) = plan.gives

-- the first cell of the last plan
abbrev pub first_in : Option Planned → List Cell → ℕ
first_in plan cells = length cells - length (gives_in plan)

-- the give of a cell of the last plan
abbrev pub give_in : Option Planned → List Cell → ℕ → Id × ℕ
give_in plan cells i = slice_index_or (gives_in plan) (i - first_in plan cells) no_give

-- all plans that were made, the last one after those before it
abbrev pub plans_of : List Planned → Option Planned → List Planned
plans_of earlier None = []
plans_of earlier (Some plan) = earlier ++ plan ∷ []

-- The history leaves a round whose table, plan, cells and placed ids are those that it tells of.
pub record Leaves (lanes : List ℕ) (h : History) (state : State) : Type 0 where
  pub same_lanes : state.lanes ≡ lanes
  pub earlier : List Planned
  pub count : sealings h ≡ length (plans_of earlier state.plan)
  pub sealed : is_sealed h ≡ is_some state.plan
  -- it is legal for these plans, whatever plans come later
  pub legal : (later : List Planned) → legal_after lanes (plans_of earlier state.plan ++ later) [] h
  pub table : TableOf h (gives_before (plans_of earlier state.plan) h) state.table
  pub long : length state.cells ≡ length (gives_of (plans_of earlier state.plan))
  pub cell : (i : ℕ) → slice_index_or state.cells i Free ≡ cell_after h i
  pub place : (id : Id) → list_any (is_id id) state.placed ≡ is_placed h id

-- whether an event is one on a cell
abbrev pub is_on_cell : RoundEvent → Bool
is_on_cell (event.Claim w i) = true
is_on_cell (event.Finish w i) = true
is_on_cell (event.Miss w i) = true
is_on_cell (event.Release w i) = true
is_on_cell e = false

-- the answer on a cell that the lane may touch
abbrev pub touch_answer : Touch → Cell → ℕ → Bool → Answer
touch_answer Claim c w placed = claim_answer c
touch_answer Finish c w placed = end_answer c w (finish_answer placed)
touch_answer Miss c w placed = end_answer c w MissedIt
touch_answer Release c w placed = end_answer c w Released

-- the answer to a touch, by the parts of a round
abbrev pub answer_in : Option Planned → List ℕ → List Cell → List Id → Touch → ℕ → ℕ → Answer
answer_in plan lanes cells placed touch w i =
    or_refused (barred (is_some plan) lanes (first_in plan cells) (length cells) (give_in plan cells i).1 w i)
    (touch_answer touch (slice_index_or cells i Free) w (list_any (is_id (give_in plan cells i).0) placed))

-- what a touch and its answer leave of the cells
abbrev pub cells_then : List Cell → Touch → ℕ → ℕ → Answer → List Cell
cells_then cells Claim w i Won = slice_set cells i (Held w)
cells_then cells Finish w i Finished = slice_set cells i Done
cells_then cells Miss w i MissedIt = slice_set cells i Missed
cells_then cells Release w i Released = slice_set cells i Free
cells_then cells touch w i a = cells

-- where an answer changes a cell, the cell is one of those from the first to before the end
abbrev pub IsInRange : Answer → ℕ → ℕ → ℕ → Type 0
IsInRange Won first end i = (first ≤ i) × (i < end)
IsInRange Finished first end i = (first ≤ i) × (i < end)
IsInRange MissedIt first end i = (first ≤ i) × (i < end)
IsInRange Released first end i = (first ≤ i) × (i < end)
IsInRange a first end i = Unit {0}

-- ---- reports
-- how a fault of a report is answered
abbrev pub refused_by : OfferFault → Result Answer AllocError
refused_by fault.Relay = Ok (Refused why.Relay)
refused_by fault.TableFull = Ok (Refused why.TableFull)
refused_by fault.Double = Ok (Refused why.Double)
refused_by fault.Memory = Err alloc_error

-- One more report: the table has its offers beside the ones before.
pub record HasReport (old : Table) (relay : ℕ) (need : List Id) (new : Table) : Type 0 where
  pub offers : (i : Id) (r : ℕ) → is_among (relays_of new.offers i) r ≡ (is_among (relays_of old.offers i) r || ((r == relay) && list_any (is_id i) need))
  pub reported : (r : ℕ) → is_among new.reported r ≡ (is_among old.reported r || (r == relay))
  pub relays : AreRelays new.reported
  pub table : IsTable new

-- The table after the report where it was taken, else as it was.
abbrev pub AddsBy : Answer → Table → ℕ → List Id → Table → Type 0
AddsBy Taken old relay need new = HasReport old relay need new
AddsBy a old relay need new = new ≡ old

abbrev pub Adds : Table → ℕ → List Id → Table → Result Answer AllocError → Type 0
Adds old relay need new result =
    MatchResult result (λ a. (a ≡ report_answer old relay need) × AddsBy a old relay need new) (λ _. new ≡ old)

-- what a report leaves, and its answer
abbrev pub ReportsTo : State → ℕ → List Id → Result Answer AllocError → State → Type 0
ReportsTo old relay need result new =
    MatchOption old.plan (Adds old.table relay need new.table result × (new ≡ record old { table = new.table }))
    (λ _. (result ≡ Ok (Refused why.Sealed)) × (new ≡ old))

-- ---- plans
-- a plan is made: its load is the answer, and its cells are free
pub record Plans (bases : List ℕ) (offers : List (Id × List ℕ)) (old : State) (table : Table) (a : Answer) (new : State) : Type 0 where
  pub plan : Planned
  pub planned : IsPlanOf bases offers plan
  pub least : NoneSmaller (base_of bases) offers plan.least_max
  pub answer : a ≡ Sealed plan.least_max
  pub after : new ≡ record old { table = table; plan = Some plan; cells = old.cells ++ replicate (length plan.gives) Free }

-- what the seal over these bases leaves, and its answer
abbrev pub SealsTo : State → List ℕ → Result Answer AllocError → State → Type 0
SealsTo old bases result new =
    MatchOption old.plan (MatchResult result (λ a. Plans bases old.table.offers old old.table a new) (λ _. new ≡ old))
    (λ _. (result ≡ Ok (Refused why.Sealed)) × (new ≡ old))

-- what the last cells leave out, which have these gives
abbrev pub gone_at_last : List (Id × List ℕ) → List (Id × ℕ) → List Cell → List (Id × List ℕ)
gone_at_last offers gives cells = gone_of offers gives (drop (length cells - length gives) cells)

-- the offers but those that are gone
abbrev pub AreWithout : List (Id × List ℕ) → List (Id × List ℕ) → List (Id × List ℕ) → Type 0
AreWithout offers gone left = (i : Id) (r : ℕ) → is_among (relays_of left i) r ≡ (is_among (relays_of offers i) r && not (is_among (relays_of gone i) r))

-- a plan of the offers but those that are gone
pub record PlansWithout (bases : List ℕ) (offers gone : List (Id × List ℕ)) (plan : Planned) : Type 0 where
  pub offered : List (Id × List ℕ)
  pub ordered : IsOffers offered
  pub left : AreWithout offers gone offered
  pub planned : IsPlanOf bases offered plan
  pub least : NoneSmaller (base_of bases) offered plan.least_max

-- another plan, of the offers that the last one's cells leave
pub record Replans (bases : List ℕ) (old : State) (last : Planned) (a : Answer) (new : State) : Type 0 where
  pub plan : Planned
  pub ascend : Ascend (map (λ g. g.0) last.gives)
  pub planned : PlansWithout bases old.table.offers (gone_at_last old.table.offers last.gives old.cells) plan
  pub table : Table
  pub table_ok : IsTable table
  pub left : AreWithout old.table.offers (gone_at_last old.table.offers last.gives old.cells) table.offers
  pub reported : table.reported ≡ old.table.reported
  pub answer : a ≡ Sealed plan.least_max
  pub after : new ≡ record old { table = table; plan = Some plan; cells = old.cells ++ replicate (length plan.gives) Free }

-- what another seal over these bases leaves, and its answer
abbrev pub AgainTo : State → List ℕ → Result Answer AllocError → State → Type 0
AgainTo old bases result new =
    MatchOption old.plan ((result ≡ Ok (Refused why.NotSealed)) × (new ≡ old))
    (λ last. MatchResult result
    (λ a. ((i : ℕ) × IsLowestHeld (λ k. slice_index_or old.cells k Free) i × (a ≡ Refused (why.Busy i)) × (new ≡ old)) ⊎ (((k : ℕ) → is_held (slice_index_or old.cells k Free) ≡ false) × Replans bases old last a new))
    (λ _. new ≡ old))

-- what an insert leaves, and its answer
abbrev pub InsertsTo : State → Id → Result Answer AllocError → State → Type 0
InsertsTo old id result new =
    MatchResult result
    (λ a. (a ≡ Placed (not (list_any (is_id id) old.placed))) × (new ≡ record old { placed = new.placed }) × ((other : Id) → list_any (is_id other) new.placed ≡ (list_any (is_id other) old.placed || is_id other id)))
    (λ _. new ≡ old)
