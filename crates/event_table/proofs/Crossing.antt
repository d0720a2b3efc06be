-- A table may cross threads.
use denote.Param.Send.{IsSend, IsSync, sendable, view_send, view_sync}
use denote.Param.SendFields.{declared_send, declared_sync}
use Rattle.std.proofs.Crossing.{crosses}
use Rattle.std.specs.contracts.alloc.Global as Global
use Rattle.std.specs.contracts.impls.GlobalAllocator.TheImpl as heap
use Rattle.std.specs.contracts.sync.Arc as Arc
use Rattle.item_roll.proofs.roll.Roll.TheSendSync as roll
use Rattle.item_roll.specs.contracts.roll.Roll as Roll
use Rattle.id_map.proofs.Crossing.{map_send, map_sync}
use Rattle.event_index.proofs.Crossing.{index_send, index_sync}
use Rattle.event_index.specs.contracts.index.Index as Index
use Rattle.newest.proofs.Crossing.{order_send, order_sync}
use Rattle.event_list.proofs.list.EventList.TheSendSync as list
use Rattle.event_table.specs.contracts.listing.Listing as Listing
use Rattle.event_table.specs.contracts.listing.Listing.TheInside as InListing
use Rattle.event_table.specs.contracts.table.EventTable as EventTable
use Rattle.event_table.specs.contracts.table.EventTable.TheInside as InTable

roll_send : IsSend (Arc.the_row Roll.the_row Global.the_row heap.ghosts)
roll_send = search (sendable, crosses, roll.the_send, roll.the_sync)

roll_sync : IsSync (Arc.the_row Roll.the_row Global.the_row heap.ghosts)
roll_sync = search (sendable, crosses, roll.the_send, roll.the_sync)

shared_index_send : IsSend (Arc.the_row Index.the_row Global.the_row heap.ghosts)
shared_index_send = search (sendable, crosses, index_send, index_sync)

shared_index_sync : IsSync (Arc.the_row Index.the_row Global.the_row heap.ghosts)
shared_index_sync = search (sendable, crosses, index_send, index_sync)

listing_send : IsSend Listing.the_row
listing_send = view_send InListing.the_row _ _ _ _ (declared_send InListing.the_type (list.the_send, (map_send, (order_send, tt))))

listing_sync : IsSync Listing.the_row
listing_sync = view_sync InListing.the_row _ _ _ _ (declared_sync InListing.the_type (list.the_sync, (map_sync, (order_sync, tt))))

pub table_send : IsSend EventTable.the_row
table_send = view_send InTable.the_row _ _ _ _ (declared_send InTable.the_type (listing_send, (roll_send, (shared_index_send, tt))))

pub table_sync : IsSync EventTable.the_row
table_sync = view_sync InTable.the_row _ _ _ _ (declared_sync InTable.the_type (listing_sync, (roll_sync, (shared_index_sync, tt))))
