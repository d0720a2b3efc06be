-- What keeps events in a file may cross threads.
use denote.RattleType.{RattleType}
use denote.Struct.Field.{row_field}
use denote.Param.Send.{IsSend, IsSync}
use denote.Param.SendFields.{as_row_send, declared_send, declared_sync}
use Rattle.core.proofs.option.Option.TheSendSync as option
use Rattle.std.proofs.Crossing.{crosses}
use Rattle.std.proofs.time.Instant.TheSendSync as instant
use Rattle.core.specs.contracts.option.Option as Option
use Rattle.std.specs.contracts.sync.Mutex as Mutex
use Rattle.std.specs.contracts.time.Instant as Instant
use Rattle.event_store.specs.declared.name.Naming.{Ghosts}
use Rattle.event_store.proofs.Crossing.{reader_send}
use Rattle.event_log.specs.contracts.kept.Kept as Kept
use Rattle.event_log.proofs.log.Log.TheSendSync as log
use Rattle.event_log.proofs.kept.Kept.TheSendSync as kept
use Rattle.event_file.proofs.file.EventsFile.TheSendSync as file
use Rattle.event_file.specs.contracts.file.EventsFile as EventsFile
use Rattle.event_file.specs.contracts.file.EventsFileMedium.TheImpl as medium
use Rattle.mirror_settings.proofs.settings.Syncing.TheSendSync as syncing
use Rattle.store_run.specs.contracts.keeping.Trouble as Trouble
use Rattle.store_run.specs.contracts.keeping.Writing as Writing
use Rattle.store_run.specs.contracts.keeping.Keeping as Keeping
use Rattle.store_run.proofs.keeping.Trouble.TheSendSync as trouble

locked_sync : (T : RattleType) → IsSend T → IsSync (Mutex.the_row T)
locked_sync T s = search (crosses, s)

module _ (J : RattleType) (g : Ghosts J.Denot) (E : RattleType) where
  writing_send : IsSend E → IsSend (Writing.the_row J E g)
  writing_send s = declared_send (Writing.the_type J E g) (log.the_send J EventsFile.the_row g medium.ghosts file.the_send, (reader_send J g, (as_row_send (row_field E) s, (option.the_send Instant.the_row instant.the_send, (option.the_send Trouble.the_row trouble.the_send, tt)))))

  kept_send : IsSend (Option.the_row (Kept.the_row J EventsFile.the_row g))
  kept_send = option.the_send (Kept.the_row J EventsFile.the_row g) (kept.the_send J EventsFile.the_row g)

  pub keeping_sync : IsSend E → IsSync (Keeping.the_row J E g)
  keeping_sync s = declared_sync (Keeping.the_type J E g) (locked_sync (Writing.the_row J E g) (writing_send s), (locked_sync (Option.the_row (Kept.the_row J EventsFile.the_row g)) kept_send, (syncing.the_sync, tt)))
