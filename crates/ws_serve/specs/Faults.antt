-- What faults of a connection make of its link.
use Rattle.relay_core.specs.declared.fault.ConnFault.{ConnFault}
use Rattle.relay_core.specs.declared.fault.ConnFault.TheVariants.{Gone, Memory, Closed}
use Rattle.ws_socket.specs.declared.fault.LinkFault.{LinkFault}
use Rattle.ws_socket.specs.declared.fault.LinkFault.TheVariants as link

abbrev pub link_of : ConnFault → LinkFault
link_of Gone = link.Link
link_of Memory = link.Memory
link_of Closed = link.Link
