-- What the faults of a link make of a peer's and a source's calls.
use Rattle.std.specs.Prelude.{◌≡◌}
use Rattle.neg_session.specs.Exchange.{Exchange}
use Rattle.neg_session.specs.declared.peer.PeerFault.{PeerFault}
use Rattle.neg_session.specs.declared.peer.PeerFault.TheVariants as peer
use Rattle.event_source.specs.Fetching.{Fetching}
use Rattle.event_source.specs.declared.source.SourceFault.{SourceFault}
use Rattle.event_source.specs.declared.source.SourceFault.TheVariants as source
use Rattle.ws_socket.specs.declared.fault.LinkFault.{LinkFault}
use Rattle.ws_socket.specs.declared.fault.LinkFault.TheVariants.{Link, Refused, Wire, TooManyOthers, Memory}
use Rattle.ws_link.specs.Wired.{Wired, failed_by, with_bytes_of}

abbrev pub answer_of : LinkFault → PeerFault
answer_of Memory = peer.Memory
answer_of Link = peer.Failed
answer_of (Refused text) = peer.Failed
answer_of Wire = peer.Failed
answer_of TooManyOthers = peer.Failed

abbrev pub gives : LinkFault → SourceFault
gives Memory = source.Memory
gives Link = source.Failed
gives (Refused text) = source.Failed
gives Wire = source.Failed
gives TooManyOthers = source.Failed

-- a question failed by a fault of the link, and what the stream gave and took may be more
abbrev pub FailsBy : Wired Exchange → Wired Exchange → PeerFault → Type 0
FailsBy old new e = (f : LinkFault) × (new ≡ failed_by f (with_bytes_of new old)) × (e ≡ answer_of f)

-- the same for a fetch
abbrev pub MissesBy : Wired Fetching → Wired Fetching → SourceFault → Type 0
MissesBy old new e = (f : LinkFault) × (new ≡ failed_by f (with_bytes_of new old)) × (e ≡ gives f)
