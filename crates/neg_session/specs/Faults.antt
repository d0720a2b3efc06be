-- The numbers of a session's faults.
use Rattle.std.specs.Prelude.{◌≡◌, ℕ}
use Rattle.neg_initiator.specs.declared.fault.InitFault.{InitFault}
use Rattle.neg_initiator.specs.declared.fault.InitFault.TheVariants as initiator
use Rattle.neg_session.specs.declared.fault.SessionFault.{SessionFault}
use Rattle.neg_session.specs.declared.fault.SessionFault.TheVariants.{PeerFailed, Bad, Rounds, NeedFull, LogFull, Memory}
use Rattle.neg_session.specs.declared.peer.PeerFault.{PeerFault}
use Rattle.neg_session.specs.declared.peer.PeerFault.TheVariants as peer

abbrev pub number_of : SessionFault → ℕ
number_of PeerFailed = 1
number_of (Bad c) = 2
number_of Rounds = 3
number_of NeedFull = 4
number_of LogFull = 5
number_of Memory = 6

-- what a peer's fault makes of the session
abbrev pub fault_of : PeerFault → SessionFault
fault_of peer.Failed = PeerFailed
fault_of peer.Memory = Memory

-- what a fault of the initiator makes of it; a spent one is never asked
abbrev pub IsToldAs : InitFault → SessionFault → Type 0
IsToldAs (initiator.Bad c) e = e ≡ Bad c
IsToldAs initiator.NeedFull e = e ≡ NeedFull
IsToldAs initiator.Memory e = e ≡ Memory
IsToldAs initiator.Spent e = ⊥
