use Rattle.std.proofs.Common.{◌≡◌, []}
use mathlib.Core.List.{IsPrefix}
use Rattle.ws_serve.specs.Counts.{AreFew}
use Rattle.ws_serve.specs.Served.{Serving}
use Rattle.ws_serve.proofs.turning.go.Given as goal

abbrev pub invariant-loop-step : goal.invariant-loop-step
invariant-loop-step g l = record { few : AreFew l.counts; serving : Serving [] l.conn l.socket l.reader; reader : IsPrefix l.initial.reader l.reader; limits : l.conn.limits ≡ l.initial.conn.limits }
