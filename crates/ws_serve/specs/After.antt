-- What a turn has come to.
use Rattle.std.specs.Prelude.{Bool, true, false, List, [], Option, None, Some, Result, Ok, Err}
use Rattle.nostr_event.specs.EventView.{EventView}
use Rattle.relay_core.specs.Kept.{Connection as Conn}
use Rattle.ws_socket.specs.declared.fault.LinkFault.{LinkFault}
use Rattle.ws_serve.specs.declared.turning.Turned.{Turned}
use Rattle.ws_serve.specs.Served.{Serving, Served}
use Rattle.ws_serve.specs.Steps.{Gives}
use Rattle.ws_serve.specs.Traffic.{Traffic}

-- all that was read is answered, unless the connection is over
abbrev pub AfterTurned : Turned → Conn → Traffic → List EventView → Type 0
AfterTurned Turned.Idle c t events = Serving [] c t events
AfterTurned Turned.Ready c t events = Serving [] c t events
AfterTurned Turned.Full c t events = Serving [] c t events
AfterTurned Turned.Later c t events = Serving [] c t events
AfterTurned Turned.Over c t events = Served c t events

abbrev pub AfterTurn : Result Turned LinkFault → Conn → Traffic → List EventView → Type 0
AfterTurn (Ok turned) c t events = AfterTurned turned c t events
AfterTurn (Err f) c t events = Served c t events

-- the same of a step, which may not end its turn
abbrev pub AfterStep : Result (Option Turned) LinkFault → Conn → Traffic → List EventView → Type 0
AfterStep (Ok None) c t events = Serving [] c t events
AfterStep (Ok (Some turned)) c t events = AfterTurned turned c t events
AfterStep (Err f) c t events = Served c t events

-- whether the connection is over behind it
abbrev pub is_over : Result Turned LinkFault → Bool
is_over (Ok Turned.Idle) = false
is_over (Ok Turned.Ready) = false
is_over (Ok Turned.Full) = false
is_over (Ok Turned.Later) = false
is_over (Ok Turned.Over) = true
is_over (Err f) = true

-- more of the stream was read, unless that ends the turn, which is not over
abbrev pub Refills : Result (Option Turned) LinkFault → Traffic → Traffic → Type 0
Refills (Ok (Some Turned.Over)) old new = ⊥
Refills (Ok (Some Turned.Idle)) old new = Gives old new
Refills (Ok (Some Turned.Ready)) old new = Gives old new
Refills (Ok (Some Turned.Full)) old new = Gives old new
Refills (Ok (Some Turned.Later)) old new = Gives old new
Refills (Ok None) old new = Gives old new
Refills (Err f) old new = Gives old new
