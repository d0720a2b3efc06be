use Rattle.std.proofs.Common.{◌≡◌, ◌<◌, ◌∷◌, map}
use Rattle.std.specs.Prelude.{string_bytes}
use Rattle.std.specs.Arc.{arc_value}
use mathlib.Core.List.{IsPrefix}
use Rattle.ws_serve.specs.Counts.{AreFew}
use Rattle.ws_serve.specs.Gathered.{Gathers}
use Rattle.ws_serve.specs.Pieces.{words}
use Rattle.ws_serve.specs.Served.{put_back}
use Rattle.ws_serve.proofs.together.gather.Given as goal

abbrev pub invariant-loop-event : goal.invariant-loop-event
invariant-loop-event g l = record {
  few : AreFew l.counts;
  room : l.counts.reads < 1000000;
  reader : IsPrefix l.initial.reader l.reader;
  limits : l.conn.limits ≡ l.initial.conn.limits;
  gathers : Gathers (map arc_value l.events.items) (words (string_bytes l.text) ∷ put_back l.socket) l.socket.conn l.socket.left l.conn l.socket l.reader;
}
