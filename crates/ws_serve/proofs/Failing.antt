-- What a fault that is handed on comes to.
use Rattle.std.proofs.Common.{◌≡◌, Result, Ok, Err, sym, subst}
use Rattle.std.specs.Prelude.{IsErrAnd, IfErr}
use Rattle.ws_socket.specs.declared.fault.LinkFault.{LinkFault}
use Rattle.ws_socket.specs.Faults.{IsOfStream}

-- a stream's fault stays one
pub stream_fault : {T : Type 0} (r : Result T LinkFault) (f : LinkFault) → IsErrAnd r (λ e. e ≡ f) → IsOfStream f → IfErr r IsOfStream
stream_fault (Ok v) f h s = absurd h
stream_fault (Err e) f h s = subst IsOfStream (sym h) s
