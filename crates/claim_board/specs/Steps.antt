-- What one step tells the lane that makes it, which stands first in its view.
use Rattle.std.specs.Prelude.{◌≡◌, ◌≢◌, ◌⊎◌, ℕ, ◌+◌, ◌<◌, ◌==◌, List, [], ◌∷◌, ◌++◌, filter, Contains, not}
use mathlib.Core.Option.{some}
use lib.ListN.{get_elem?}
use Rattle.atomic_table.specs.Table.{Me, Step}
use Rattle.fetch_plan.specs.declared.cell.Cell.{Cell}
use Rattle.fetch_plan.specs.declared.cell.Cell.TheVariants.{Free, Held, Done, Missed}
use Rattle.claim_board.specs.declared.records.LaneRecord.{LaneRecord}
use Rattle.claim_board.specs.Rules.{cell_of, fresh}

-- the cells of a list but i
abbrev pub without : ℕ → List ℕ → List ℕ
without i cells = filter (λ j. not (j == i)) cells

abbrev pub with_won : ℕ → LaneRecord → LaneRecord
with_won i e = record e { held = e.held ++ i ∷ []; won = e.won ++ i ∷ [] }

abbrev pub with_met : ℕ → Cell → LaneRecord → LaneRecord
with_met i c e = record e { met = e.met ++ (i, c) ∷ [] }

abbrev pub with_ended : ℕ → Cell → LaneRecord → LaneRecord
with_ended i c e = record e { held = without i e.held; ended = e.ended ++ (i, c) ∷ [] }

abbrev pub with_released : ℕ → LaneRecord → LaneRecord
with_released i e = record e { held = without i e.held }

-- the lane holds cell i, or knows as what it ended
abbrev pub Knows : LaneRecord → ℕ → Cell → Type 0
Knows e i c = (Contains e.held i × (c ≡ Held e.lane)) ⊎ (((c ≡ Done) ⊎ (c ≡ Missed)) × (Contains e.ended (i, c) ⊎ Contains e.met (i, c)))

abbrev Sat : Type 0
Sat = Me ℕ (List LaneRecord)

-- what was found of cell i is met by the first lane of the view, and is what that lane knew
abbrev pub Met : ℕ → LaneRecord → List LaneRecord → ℕ → List LaneRecord → Type 0
Met i e rest found v = (found < 4096) × (cell_of found ≢ Free) × (v ≡ with_met i (cell_of found) e ∷ rest) × ((c : Cell) → Knows e i c → cell_of found ≡ c)

abbrev pub claimed : Step ℕ → Sat → ℕ → Sat → Type 0
claimed st m found m' = (i : ℕ) (e : LaneRecord) (rest : List LaneRecord) → st.word ≡ i + 1 → m.0 ≡ e ∷ rest
    → (m'.1 ≡ m.1) × (found ≡ 0 → (m'.0 ≡ with_won i e ∷ rest) × ((c : Cell) → Knows e i c → Free ≡ c)) × (found ≢ 0 → Met i e rest found m'.0)

abbrev pub looked : Step ℕ → Sat → ℕ → Sat → Type 0
looked st m found m' = (i : ℕ) (e : LaneRecord) (rest : List LaneRecord) → st.word ≡ i + 1 → m.0 ≡ e ∷ rest
    → (m'.1 ≡ m.1) × (found ≡ 0 → (m'.0 ≡ m.0) × ((c : Cell) → Knows e i c → Free ≡ c)) × (found ≢ 0 → Met i e rest found m'.0)

-- the first lane of the view ends cell i as c, or releases it
abbrev pub ended : Cell → Step ℕ → Sat → ℕ → Sat → Type 0
ended c st m found m' = (i : ℕ) (e : LaneRecord) (rest : List LaneRecord) → st.word ≡ i + 1 → m.0 ≡ e ∷ rest → (m'.1 ≡ m.1) × (m'.0 ≡ with_ended i c e ∷ rest)

abbrev pub released : Step ℕ → Sat → ℕ → Sat → Type 0
released st m found m' = (i : ℕ) (e : LaneRecord) (rest : List LaneRecord) → st.word ≡ i + 1 → m.0 ≡ e ∷ rest → (m'.1 ≡ m.1) × (m'.0 ≡ with_released i e ∷ rest)

-- no cell is held by two lanes of a view
abbrev pub HeldOnce : List LaneRecord → Type 0
HeldOnce v = (p q : ℕ) (e f : LaneRecord) (i : ℕ) → get_elem? v p ≡ some e → get_elem? v q ≡ some f → Contains e.held i → Contains f.held i → p ≡ q

-- the lanes of a view are compared
abbrev pub compared : Step ℕ → Sat → ℕ → Sat → Type 0
compared st m found m' = (m' ≡ m) × HeldOnce m.0

-- how a view is cut: its first lane, and the others
abbrev pub first_of : List LaneRecord → List LaneRecord
first_of [] = []
first_of (e ∷ rest) = e ∷ []

abbrev pub others_of : List LaneRecord → List LaneRecord
others_of [] = []
others_of (e ∷ rest) = rest

-- the first lane of a view
abbrev pub own_of : List LaneRecord → LaneRecord
own_of [] = fresh 0 0
own_of (e ∷ rest) = e

-- these lanes hold nothing
abbrev pub Idle : List LaneRecord → Type 0
Idle v = (place : ℕ) (f : LaneRecord) → get_elem? v place ≡ some f → f.held ≡ []

-- a seat with no slot stands for the lane of that number and relay, and for others that hold nothing
abbrev pub Seated : Sat → ℕ → ℕ → Type 0
Seated m number relay = (m ≡ (own_of m.0 ∷ others_of m.0, [])) × ((own_of m.0).lane ≡ number) × ((own_of m.0).relay ≡ relay) × Idle (others_of m.0)
