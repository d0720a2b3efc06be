use Rattle.std.proofs.Common.{◌≤◌, max}
use Rattle.session_run.specs.Rounds.{begin_at}
use Rattle.session_run.proofs.Rounds.{IsAt}
use Rattle.session_run.proofs.pass.fetch_in_rounds.Given as goal

abbrev pub invariant-loop-round : goal.invariant-loop-round
invariant-loop-round g l = record {
  at : IsAt (begin_at l.initial.table l.initial.plan) (begin_at l.table l.plan) l.round (g.W.Write.contents l.initial.writer) (g.W.Write.contents l.writer) l.all;
  few : l.round ≤ max 1 l.settings.rounds;
}
