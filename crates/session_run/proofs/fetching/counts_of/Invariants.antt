use Rattle.std.proofs.Common.{◌≡◌, ◌≤◌, take}
use Rattle.std.specs.List.{count_by}
use Rattle.session_run.specs.Rounds.{is_done, is_missed, is_left}
use Rattle.session_run.proofs.fetching.counts_of.Given as goal

abbrev pub invariant-loop-at : goal.invariant-loop-at
invariant-loop-at l = record {
  given : l.given ≡ count_by is_done (take l.at l.cells);
  missed : l.missed ≡ count_by is_missed (take l.at l.cells);
  left : l.left ≡ count_by is_left (take l.at l.cells);
  few : (l.given ≤ l.at) × (l.missed ≤ l.at) × (l.left ≤ l.at);
}
