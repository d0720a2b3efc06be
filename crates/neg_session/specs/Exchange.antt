-- One question and its answer, as bytes, and what a log of them gained.
use Rattle.std.specs.Prelude.{ℕ, ◌≤◌, List, length, drop}
use Rattle.std.specs.List.{sum_by}

pub record Exchange : Type 0 where
  pub asked : List ℕ
  pub answered : List ℕ

abbrev pub exchange : List ℕ → List ℕ → Exchange
exchange q r = record { asked = q; answered = r }

-- both messages are no longer than the limit
abbrev pub KeepsLimit : ℕ → Exchange → Type 0
KeepsLimit limit e = (length e.asked ≤ limit) × (length e.answered ≤ limit)

-- what a log has after what it had
abbrev pub gained : List Exchange → List Exchange → List Exchange
gained old new = drop (length old) new

-- how many bytes the answers have together
abbrev pub answered_bytes : List Exchange → ℕ
answered_bytes log = sum_by (λ e. length e.answered) log
