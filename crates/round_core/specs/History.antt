-- What a history of events and answers says of reports, plans, cells and placed ids.
use Rattle.std.specs.Prelude.{◌≡◌, ℕ, ◌-◌, ◌<◌, ◌==◌, ◌&&◌, Bool, true, false, List, [], map, take, length, slice_index_or, count_by, filter, flat_map, unwrap_or, None}
use Rattle.std.specs.List.{list_any, last_or}
use Rattle.item_key.specs.declared.Id.{Id}
use Rattle.sharing.specs.Sharing.{is_among}
use Rattle.sharing.specs.Offers.{StandsFor, AreRelays, is_id}
use Rattle.offer_table.specs.Table.{Table}
use Rattle.fetch_plan.specs.Plan.{Planned}
pub use Rattle.fetch_plan.specs.LeftOut.{no_give, leaves_out}
use Rattle.fetch_plan.specs.declared.cell.Cell.{Cell}
use Rattle.fetch_plan.specs.declared.cell.Cell.TheVariants.{Free, Held, Done, Missed}
use Rattle.round_core.specs.declared.events.RoundEvent.{RoundEvent}
use Rattle.round_core.specs.declared.events.RoundEvent.TheVariants.{Report, Claim, Finish, Miss, Release, Insert}
use Rattle.round_core.specs.declared.events.Answer.{Answer}
use Rattle.round_core.specs.declared.events.Answer.TheVariants.{Taken, Sealed, Won, Finished, MissedIt, Released}

abbrev pub History : Type 0
History = List (RoundEvent × Answer)

-- ---- plans
abbrev pub seals : Answer → Bool
seals (Sealed n) = true
seals a = false

abbrev pub is_sealed : History → Bool
is_sealed h = list_any (λ x. seals x.1) h

-- how many plans were made
abbrev pub sealings : History → ℕ
sealings h = count_by (λ x. seals x.1) h

-- The gives of these plans, each plan's after those of the plans before it: cell i has the i-th of them.
abbrev pub gives_of : List Planned → List (Id × ℕ)
gives_of plans = flat_map (λ p. p.gives) plans

-- Of the plans that a history fixes, one for each answer Sealed: the gives of those that were made so far.
abbrev pub gives_so_far : List Planned → History → List (Id × ℕ)
gives_so_far plans h = gives_of (take (sealings h) plans)

-- the same without the last plan
abbrev pub gives_before : List Planned → History → List (Id × ℕ)
gives_before plans h = gives_of (take (sealings h - 1) plans)

-- ---- cells
-- whether this is an answer Won, Finished, MissedIt or Released on cell i
abbrev pub changes : ℕ → RoundEvent → Answer → Bool
changes i (Claim v j) Won = j == i
changes i (Finish v j) Finished = j == i
changes i (Miss v j) MissedIt = j == i
changes i (Release v j) Released = j == i
changes i e a = false

-- what such an answer leaves of its cell
abbrev pub left_cell : RoundEvent → Answer → Cell
left_cell (Claim v j) Won = Held v
left_cell (Finish v j) Finished = Done
left_cell (Miss v j) MissedIt = Missed
left_cell e a = Free

-- what the last such answer on cell i leaves of it, free before the first
abbrev pub cell_after : History → ℕ → Cell
cell_after h i = unwrap_or (last_or None (map (λ x. left_cell x.0 x.1) (filter (λ x. changes i x.0 x.1) h))) Free

-- whether the event is lane w's
abbrev pub is_of : ℕ → RoundEvent → Bool
is_of w (Claim v j) = v == w
is_of w (Finish v j) = v == w
is_of w (Miss v j) = v == w
is_of w (Release v j) = v == w
is_of w e = false

abbrev pub is_won : Answer → Bool
is_won Won = true
is_won a = false

-- the last of w's answers Won, Finished, MissedIt, Released on cell i is Won
abbrev pub holds : History → ℕ → ℕ → Bool
holds h w i = unwrap_or (last_or None (map (λ x. is_won x.1) (filter (λ x. is_of w x.0 && changes i x.0 x.1) h))) false

-- whether this answer finishes cell i
abbrev pub finishes : ℕ → RoundEvent → Answer → Bool
finishes i (Finish w j) Finished = j == i
finishes i e a = false

abbrev pub has_finished : History → ℕ → Bool
has_finished h i = list_any (λ x. finishes i x.0 x.1) h

-- whether this answer misses cell i
abbrev pub misses : ℕ → RoundEvent → Answer → Bool
misses i (Miss w j) MissedIt = j == i
misses i e a = false

abbrev pub has_missed : History → ℕ → Bool
has_missed h i = list_any (λ x. misses i x.0 x.1) h

-- ---- ids
-- whether an event places this id
abbrev pub places : Id → RoundEvent → Bool
places id (Insert other) = is_id id other
places id e = false

abbrev pub is_placed : History → Id → Bool
is_placed h id = list_any (λ x. places id x.0) h

-- ---- offers
-- a report of relay r was taken
abbrev pub reports : ℕ → RoundEvent → Answer → Bool
reports r (Report q need) Taken = r == q
reports r e a = false

abbrev pub has_reported : History → ℕ → Bool
has_reported h r = list_any (λ x. reports r x.0 x.1) h

-- a report of relay r was taken in which it offers the id
abbrev pub wants_in : ℕ → Id → RoundEvent → Answer → Bool
wants_in r i (Report q need) Taken = (r == q) && list_any (is_id i) need.keys
wants_in r i e a = false

abbrev pub wants : History → ℕ → Id → Bool
wants h r i = list_any (λ x. wants_in r i x.0 x.1) h

-- The offer stands: a report of relay r had the id, and none of the cells with these gives leaves it out.
pub record Stands (h : History) (gives : List (Id × ℕ)) (r : ℕ) (i : Id) : Type 0 where
  pub wanted : wants h r i ≡ true
  pub kept : (k : ℕ) → k < length gives → leaves_out (cell_after h k) (slice_index_or gives k no_give) r i ≡ false

-- The table of the relays that reported and the offers that stand, where the cells with these gives count.
pub record TableOf (h : History) (gives : List (Id × ℕ)) (table : Table) : Type 0 where
  pub offers : StandsFor table.offers (Stands h gives)
  pub relays : AreRelays table.reported
  pub reported : (r : ℕ) → is_among table.reported r ≡ has_reported h r
