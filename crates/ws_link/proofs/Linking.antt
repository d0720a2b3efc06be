-- How a link goes on when its wire is put back.
use Rattle.std.proofs.Common.{◌≡◌, None, Some, Result, Ok, Err, OnOk, OnErr}
use Rattle.wire.specs.Line.{Line, talk_of}
use Rattle.wire.specs.Talk.{Grows}
use Rattle.ws_socket.specs.declared.fault.LinkFault.{LinkFault}
use Rattle.ws_link.specs.declared.link.Link.{Link}
use Rattle.ws_link.specs.Held.{given_by, taken_by}
use mathlib.Core.List.{IsPrefix}

module _ {S K E T : Type 0} where
  -- what the stream gave and took is no less then
  pub goes_back : (r : Result T LinkFault) (old new : Link S K E) (wire wire2 : Line S) → old.wire ≡ None → Grows (talk_of wire) (talk_of wire2)
      → OnOk r (new ≡ record old { wire = Some wire2 }) → OnErr r (new ≡ record old { given = wire2.given; taken = wire2.taken })
      → IsPrefix wire.given (given_by new.wire new.given) × IsPrefix wire.taken (taken_by new.wire new.taken)
  goes_back (Ok done) old new wire wire2 out grows ok err = rw ok grows
  goes_back (Err f) old new wire wire2 out grows ok err = rw (err, out) grows
