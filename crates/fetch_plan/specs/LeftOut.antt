-- What the cells of a plan leave out of later plans.
use Rattle.std.specs.Prelude.{ℕ, zero, suc, ◌==◌, ◌&&◌, Bool, false, List, [], ◌∷◌, ◌++◌, length, slice_index_or}
use Rattle.item_key.specs.declared.Id.{Id}
use Rattle.sharing.specs.Offers.{is_id, relays_of}
use Rattle.fetch_plan.specs.declared.cell.Cell.{Cell}
use Rattle.fetch_plan.specs.declared.cell.Cell.TheVariants.{Free, Done, Missed}

-- what is read beyond the gives
abbrev pub no_give : Id × ℕ
no_give = (record { 0 = [] }, 0)

-- A cell with this give leaves relay r's offer of the id out of later plans: a done one all offers of its id, a
-- missed one that of its own relay.
abbrev pub leaves_out : Cell → Id × ℕ → ℕ → Id → Bool
leaves_out Done g r i = is_id i g.0
leaves_out Missed g r i = is_id i g.0 && (r == g.1)
leaves_out c g r i = false

-- the relays whose offers of its id a cell with this give leaves out
abbrev pub gone_beside : List (Id × List ℕ) → Cell → Id × ℕ → List ℕ
gone_beside offers Done g = relays_of offers g.0
gone_beside offers Missed g = g.1 ∷ []
gone_beside offers c g = []

-- f 0 to f (n - 1)
abbrev pub first_of : {A : Type 0} → (ℕ → A) → ℕ → List A
first_of f zero = []
first_of f (suc n) = first_of f n ++ f n ∷ []

-- what cells with these gives leave out: beside each id its relays
abbrev pub gone_of : List (Id × List ℕ) → List (Id × ℕ) → List Cell → List (Id × List ℕ)
gone_of offers gives cells = first_of (λ k. ((slice_index_or gives k no_give).0, gone_beside offers (slice_index_or cells k Free) (slice_index_or gives k no_give))) (length gives)
