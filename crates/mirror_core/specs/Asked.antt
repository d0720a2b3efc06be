-- What a source was asked for, all in all.
use Rattle.std.specs.Prelude.{◌≡◌, ◌⊎◌, ℕ, ◌+◌, ◌≤◌, List, [], ◌∷◌, ◌++◌, length, Some, slice_get, slice_index_or}
use Rattle.item_key.specs.declared.Id.{Id}
use Rattle.event_source.specs.Fetching.{Fetching, fetching}

-- the ids are those of cells of the relay, from the first on and below the next one, in the order of the cells and each once
abbrev pub AreIdsOf : List (Id × ℕ) → ℕ → ℕ → ℕ → List Id → Type 0
AreIdsOf cells relay first next [] = first ≤ next
AreIdsOf cells relay first next (id ∷ ids) = (i : ℕ) × (first ≤ i) × (slice_get cells i ≡ Some (id, relay)) × AreIdsOf cells relay (i + 1) next ids

-- what the fetches of a log asked for, one after another
abbrev pub asked_in : List Fetching → List Id
asked_in [] = []
asked_in (f ∷ log) = f.asked ++ asked_in log

-- the log gained one fetch of these ids, or none
abbrev pub AsksOnce : List Id → List Fetching → List Fetching → Type 0
AsksOnce ids before after = (after ≡ before) ⊎ ((given : List Id) × (after ≡ before ++ fetching ids given ∷ []))

-- each source was asked for ids of cells of its lane's relay, in the order of the cells and each once at most
abbrev pub AskInOrder : List (Id × ℕ) → List ℕ → List (List Fetching) → Type 0
AskInOrder cells lanes logs = (w relay : ℕ) → slice_get lanes w ≡ Some relay → AreIdsOf cells relay 0 (length cells) (asked_in (slice_index_or logs w []))
