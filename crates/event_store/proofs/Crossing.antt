-- What is published may cross threads.
use denote.Param.Send.{IsSend, IsSync, sendable, view_send, view_sync}
use denote.Param.SendFields.{as_row_send, declared_send, declared_sync}
use denote.Struct.Field.{row_field}
use denote.RattleType.{RattleType}
use Rattle.std.proofs.Crossing.{crosses, send, sync, frees}
use Rattle.std.specs.contracts.alloc.Global as Global
use Rattle.std.specs.contracts.impls.GlobalAllocator.TheImpl as heap
use Rattle.std.specs.contracts.sync.Arc as Arc
use Rattle.std.specs.contracts.sync.Mutex as Mutex
use Rattle.item_roll.proofs.roll.Roll.TheSendSync as roll
use Rattle.item_roll.specs.contracts.roll.Roll as Roll
use Rattle.event_table.proofs.Crossing.{table_send, table_sync}
use Rattle.event_table.specs.contracts.table.EventTable as EventTable
use Rattle.event_store.specs.contracts.shown.Shown as Shown
use Rattle.event_store.specs.contracts.shown.Shown.TheInside as InShown
use Rattle.event_store.specs.contracts.snapshot.Snapshot as Snapshot
use Rattle.event_store.specs.contracts.snapshot.Snapshot.TheInside as InSnapshot
use Rattle.event_list.proofs.list.EventList.TheSendSync as list
use Rattle.event_store.proofs.mark.Mark.TheSendSync as mark
use Rattle.event_store.proofs.blank.Front.TheSendSync as front
use Rattle.event_store.proofs.blank.Head.TheSendSync as head
use Rattle.event_store.specs.declared.name.Naming.{Ghosts}
use Rattle.event_store.specs.contracts.reader.Reader as Reader
use Rattle.event_store.specs.contracts.reader.Reader.TheInside as InReader
use Rattle.event_store.specs.contracts.desk.Desk as Desk
use Rattle.event_store.specs.contracts.desk.Desk.TheInside as InDesk
use Rattle.event_store.specs.contracts.rule.View as View
use Rattle.event_store.specs.contracts.rule.Published as Published
use Rattle.event_store.specs.contracts.rule.PublishedProtocolShownView.TheImpl as protocol
use Rattle.event_store.specs.contracts.shown.ShownAbsorb.TheImpl as absorb
use Rattle.core.proofs.option.Option.TheSendSync as option
use Rattle.left_right.specs.contracts.reader.Reader as Side
use Rattle.left_right.specs.contracts.writer.Writer as Pen
use Rattle.left_right.proofs.reader.Reader.TheSendSync as side
use Rattle.left_right.proofs.writer.Writer.TheSendSync as pen

roll_send : IsSend (Arc.the_row Roll.the_row Global.the_row heap.ghosts)
roll_send = search (sendable, crosses, roll.the_send, roll.the_sync)

shared_send : IsSend (Arc.the_row EventTable.the_row Global.the_row heap.ghosts)
shared_send = search (sendable, crosses, table_send, table_sync)

shared_sync : IsSync (Arc.the_row EventTable.the_row Global.the_row heap.ghosts)
shared_sync = search (sendable, crosses, table_send, table_sync)

pub snapshot_send : IsSend Snapshot.the_row
snapshot_send = view_send InSnapshot.the_row _ _ _ _ (declared_send InSnapshot.the_type (shared_send, (list.the_send, (roll_send, tt))))

pub shown_send : IsSend Shown.the_row
shown_send = view_send InShown.the_row _ _ _ _ (declared_send InShown.the_type (shared_send, (mark.the_send, tt)))

pub shown_sync : IsSync Shown.the_row
shown_sync = view_sync InShown.the_row _ _ _ _ (declared_sync InShown.the_type (shared_sync, (mark.the_sync, tt)))

module _ (J : RattleType) (g : Ghosts J.Denot) where
  side_send : IsSend (Side.the_row Shown.the_row View.the_row (Published.the_row J) Global.the_row (protocol.ghosts J g protocol.no_dict) heap.ghosts)
  side_send = side.the_send Shown.the_row View.the_row (Published.the_row J) Global.the_row (protocol.ghosts J g protocol.no_dict) heap.ghosts send shown_sync sync frees

  pub reader_send : IsSend (Reader.the_row J g)
  reader_send = view_send (InReader.the_row J g) _ _ _ _ (declared_send (InReader.the_type J g) (side_send, (front.the_send J g, tt)))

  pen_send : IsSend (Pen.the_row Shown.the_row Shown.the_row View.the_row (Published.the_row J) Global.the_row Shown.the_row absorb.ghosts (protocol.ghosts J g protocol.no_dict) heap.ghosts)
  pen_send = pen.the_send Shown.the_row Shown.the_row View.the_row (Published.the_row J) Global.the_row Shown.the_row absorb.ghosts (protocol.ghosts J g protocol.no_dict) heap.ghosts shown_send shown_send send shown_sync sync frees

  pub desk_send : (R : RattleType) → IsSend R → IsSend (Desk.the_row J R g)
  desk_send R s = view_send (InDesk.the_row J R g) _ _ _ _ (declared_send (InDesk.the_type J R g) (pen_send, (head.the_send J g, (search sendable, (send, (as_row_send (row_field R) s, (option.the_send (Arc.the_row EventTable.the_row Global.the_row heap.ghosts) shared_send, tt)))))))

  -- a lock around a desk
  pub locked_desk_sync : (R : RattleType) → IsSend R → IsSync (Mutex.the_row (Desk.the_row J R g))
  locked_desk_sync R s = search (crosses, desk_send R s)

  pub locked_desk_send : (R : RattleType) → IsSend R → IsSend (Mutex.the_row (Desk.the_row J R g))
  locked_desk_send R s = search (crosses, desk_send R s)
