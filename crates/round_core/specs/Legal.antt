-- Which answers are right after a history.
use Rattle.std.specs.Prelude.{◌≡◌, ℕ, ◌+◌, ◌<◌, ◌==◌, ◌||◌, ◌⊎◌, nat_lt, Bool, true, false, not, List, [], ◌∷◌, ◌++◌, length, count_by, slice_index, slice_index_or, slice_get, Option, Some, None, is_some, MatchBool, if◌then◌else◌}
use Rattle.item_key.specs.declared.Id.{Id}
use Rattle.sharing.specs.declared.TheConstants.{RELAYS, MOST_IDS}
use Rattle.sharing.specs.Sharing.{is_among, NoneSmaller}
use Rattle.sharing.specs.Bases.{base_of}
use Rattle.sharing.specs.Offers.{beside, StandsFor}
use Rattle.offer_table.specs.Table.{Table}
use Rattle.fetch_plan.specs.Plan.{Planned, IsPlanOf}
use Rattle.fetch_plan.specs.declared.cell.Cell.{Cell}
use Rattle.fetch_plan.specs.declared.cell.Cell.TheVariants.{Free, Held, Done, Missed}
use Rattle.round_core.specs.declared.events.Refusal.{Refusal}
use Rattle.round_core.specs.declared.events.Refusal.TheVariants as why
use Rattle.round_core.specs.declared.events.RoundEvent.{RoundEvent}
use Rattle.round_core.specs.declared.events.RoundEvent.TheVariants.{Report, Seal, Again, Claim, Finish, Miss, Release, Insert}
use Rattle.round_core.specs.declared.events.Answer.{Answer}
use Rattle.round_core.specs.declared.events.Answer.TheVariants.{Taken, Sealed, Won, Lost, Finished, MissedIt, Released, Placed, Refused}
use Rattle.round_core.specs.History.{History, Stands, TableOf, is_sealed, sealings, gives_so_far, gives_before, no_give, cell_after, is_placed}

-- how many of these ids are not offered yet
abbrev pub new_ids : List (Id × List ℕ) → List Id → ℕ
new_ids offers ids = count_by (λ i. not (is_some (beside offers i))) ids

-- the answer to a report, before the seal
abbrev pub report_answer : Table → ℕ → List Id → Answer
report_answer table relay need =
    if not (nat_lt relay RELAYS) then Refused why.Relay
    else (if nat_lt MOST_IDS (length need) || nat_lt MOST_IDS (length table.offers + new_ids table.offers need) then Refused why.TableFull
    else (if is_among table.reported relay then Refused why.Double else Taken))

-- Why lane w may not touch cell i, where the last plan's cells are those from the first to before the end, and
-- the cell is given to that relay.
abbrev pub barred : Bool → List ℕ → ℕ → ℕ → ℕ → ℕ → ℕ → Option Refusal
barred sealed lanes first end relay w i =
    if not sealed then Some why.NotSealed
    else (if not (nat_lt w (length lanes)) then Some why.NoLane
    else (if nat_lt i first || not (nat_lt i end) then Some why.NoCell
    else (if slice_index lanes w == relay then None else Some why.OtherRelay)))

abbrev pub barred_after : List ℕ → List Planned → History → ℕ → ℕ → Option Refusal
barred_after lanes plans h w i =
    barred (is_sealed h) lanes (length (gives_before plans h)) (length (gives_so_far plans h)) (slice_index_or (gives_so_far plans h) i no_give).1 w i

abbrev pub or_refused : Option Refusal → Answer → Answer
or_refused None a = a
or_refused (Some r) a = Refused r

abbrev pub claim_answer : Cell → Answer
claim_answer Free = Won
claim_answer (Held w) = Lost (Held w)
claim_answer Done = Lost Done
claim_answer Missed = Lost Missed

abbrev pub is_held_by : Cell → ℕ → Bool
is_held_by (Held v) w = v == w
is_held_by c w = false

-- the answer to w's end of its holding of a cell
abbrev pub end_answer : Cell → ℕ → Answer → Answer
end_answer c w a = if is_held_by c w then a else Refused why.NotHeld

abbrev pub finish_answer : Bool → Answer
finish_answer placed = if placed then Finished else Refused why.NotPlaced

abbrev pub is_held : Cell → Bool
is_held (Held w) = true
is_held c = false

-- of all cells, i is the lowest that is held
pub record IsLowestHeld (cell : ℕ → Cell) (i : ℕ) : Type 0 where
  pub held : is_held (cell i) ≡ true
  pub lowest : (k : ℕ) → k < i → is_held (cell k) ≡ false

-- The plan is a least sharing of the offers that stand, over these bases, and the answer is its busiest load. It
-- is the next of the plans that the history fixes.
pub record MakesPlan (plans : List Planned) (before : History) (bases : List ℕ) (a : Answer) : Type 0 where
  pub plan : Planned
  pub next : slice_get plans (sealings before) ≡ Some plan
  pub offered : List (Id × List ℕ)
  pub offers : StandsFor offered (Stands before (gives_so_far plans before))
  pub planned : IsPlanOf bases offered plan
  pub least : NoneSmaller (base_of bases) offered plan.least_max
  pub answer : a ≡ Sealed plan.least_max

-- The answer is the right one after the history before it, which fixes these plans, one for each answer Sealed.
abbrev pub Right : List ℕ → List Planned → History → RoundEvent → Answer → Type 0
Right lanes plans before (Report r need) a =
    MatchBool (is_sealed before) (a ≡ Refused why.Sealed) ((table : Table) × TableOf before [] table × (a ≡ report_answer table r need.keys))
Right lanes plans before (Seal bases) a =
    MatchBool (is_sealed before) (a ≡ Refused why.Sealed) (MakesPlan plans before bases a)
Right lanes plans before (Again bases) a =
    MatchBool (is_sealed before)
    (((i : ℕ) × IsLowestHeld (cell_after before) i × (a ≡ Refused (why.Busy i))) ⊎ (((k : ℕ) → is_held (cell_after before k) ≡ false) × MakesPlan plans before bases a))
    (a ≡ Refused why.NotSealed)
Right lanes plans before (Claim w i) a = a ≡ or_refused (barred_after lanes plans before w i) (claim_answer (cell_after before i))
Right lanes plans before (Finish w i) a =
    a ≡ or_refused (barred_after lanes plans before w i) (end_answer (cell_after before i) w (finish_answer (is_placed before (slice_index_or (gives_so_far plans before) i no_give).0)))
Right lanes plans before (Miss w i) a = a ≡ or_refused (barred_after lanes plans before w i) (end_answer (cell_after before i) w MissedIt)
Right lanes plans before (Release w i) a = a ≡ or_refused (barred_after lanes plans before w i) (end_answer (cell_after before i) w Released)
Right lanes plans before (Insert id) a = a ≡ Placed (not (is_placed before id))

-- each answer is the right one after the history before it
abbrev pub legal_after : List ℕ → List Planned → History → History → Type 0
legal_after lanes plans before [] = Unit {0}
legal_after lanes plans before (x ∷ rest) = Right lanes plans before x.0 x.1 × legal_after lanes plans (before ++ x ∷ []) rest

-- a history whose answers are right, for the plans that it fixes
abbrev pub Legal : List ℕ → History → Type 0
Legal lanes h = (plans : List Planned) × legal_after lanes plans [] h
