use Rattle.std.proofs.Common.{◌≡◌}
use mathlib.Core.List.{IsPrefix}
use Rattle.ws_serve.specs.Answering.{SaysDue, IfOpen}
use Rattle.ws_serve.specs.Served.{GoesOn}
use Rattle.ws_serve.specs.Traffic.{ReadsNone}
use Rattle.ws_serve.proofs.sending.catch_up.Given as goal

abbrev pub invariant-loop-part : goal.invariant-loop-part
invariant-loop-part g l = record {
  reader : IsPrefix l.initial.reader l.reader;
  limits : l.conn.limits ≡ l.initial.conn.limits;
  due : IfOpen (SaysDue l.reader l.initial.socket l.socket) l.initial.conn.kept l.conn.kept;
  goes_on : GoesOn l.initial.conn l.initial.socket l.initial.reader l.conn l.socket l.reader;
  reads : ReadsNone l.initial.socket l.socket;
}
