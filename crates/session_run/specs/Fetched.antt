-- What fetching in rounds comes to, and what is printed of it.
use Rattle.std.specs.Prelude.{ℕ, List, Option, flat_map}
use Rattle.std.specs.List.{enumerate_from}
use Rattle.std.specs.Io.KnownBytes.{Appends}
use Rattle.fetch_plan.specs.declared.cell.Cell.{Cell}
use Rattle.session_run.specs.declared.fetching.Counts.{Counts}
use Rattle.session_run.specs.Lines.{round_text}
use Rattle.session_run.specs.Rounds.{Stage, AreRounds, AreCounts}

-- the later rounds, numbered from 2 on, each with its plan
abbrev pub rounds_text : List (List Cell × Stage) → List ℕ
rounds_text rounds = flat_map (λ p. round_text p.0 p.1.1.plan) (enumerate_from 2 rounds)

-- Later rounds are printed, and it is counted what became of the ids in all rounds.
pub record IsFetched (most : ℕ) (first : Stage) (old new : Option (List ℕ)) (counts : Counts) : Type 0 where
  pub rounds : List (List Cell × Stage)
  pub cells : List Cell
  pub all : AreRounds most first rounds cells
  pub counted : AreCounts rounds cells counts
  pub printed : Appends old new (rounds_text rounds)
