-- Why links fail.
use Rattle.std.specs.Prelude.{◌≡◌, ◌≢◌, ⊤, ℕ}
use Rattle.std.specs.IoError.{error_kind}
use Rattle.std.specs.declared.io.ErrorKind.TheVariants as kind
use Rattle.tungstenite.specs.declared.error.Error.{Error as SocketError}
use Rattle.tungstenite.specs.declared.error.Error.TheVariants as socket
use Rattle.websocket.specs.declared.error.ProtocolError.TheVariants as protocol
use Rattle.websocket.specs.declared.handshake.failure.HandshakeError.TheVariants as head
use Rattle.ws_socket.specs.declared.fault.LinkFault.{LinkFault}
use Rattle.ws_socket.specs.declared.fault.LinkFault.TheVariants.{Link, Refused, Wire, TooManyOthers, Memory}

abbrev pub number_of : LinkFault → ℕ
number_of Link = 1
number_of (Refused text) = 2
number_of Wire = 3
number_of TooManyOthers = 4
number_of Memory = 5

-- a fault that can come before anything is asked
abbrev pub IsOfStream : LinkFault → Type 0
IsOfStream Link = ⊤
IsOfStream (Refused text) = ⊥
IsOfStream Wire = ⊤
IsOfStream TooManyOthers = ⊥
IsOfStream Memory = ⊤

-- What a socket's error comes to: want of memory; that the stream failed, ended or was closed; or that the other side broke the protocol.
abbrev pub ComesTo : SocketError → LinkFault → Type 0
ComesTo socket.OutOfMemory f = f ≡ Memory
ComesTo (socket.Handshake h) f = (h ≡ head.OutOfMemory → f ≡ Memory) × (h ≢ head.OutOfMemory → f ≡ Wire)
ComesTo (socket.Io e) f = (error_kind e ≡ kind.OutOfMemory → f ≡ Memory) × (error_kind e ≢ kind.OutOfMemory → f ≡ Link)
ComesTo (socket.Protocol p) f = (p ≡ protocol.ResetWithoutClosingHandshake → f ≡ Link) × (p ≢ protocol.ResetWithoutClosingHandshake → f ≡ Wire)
ComesTo socket.ConnectionClosed f = f ≡ Link
ComesTo socket.AlreadyClosed f = f ≡ Link
ComesTo socket.HandshakeIncomplete f = f ≡ Link
ComesTo socket.WriteBufferFull f = f ≡ Link
ComesTo socket.Url f = f ≡ Link
ComesTo _ f = f ≡ Wire
