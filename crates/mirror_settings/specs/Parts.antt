-- What a table tells, in the parts in which it is read.
use Rattle.std.specs.Prelude.{◌≡◌, ℕ, Bool, List, length}
use Rattle.toml.specs.Data.{Members}
use Rattle.mirror_settings.specs.declared.relay.Relay.{Relay}
use Rattle.mirror_settings.specs.declared.fault.SettingsFault.{SettingsFault}
use Rattle.mirror_settings.specs.declared.reading.Serving.{Serving}
use Rattle.mirror_settings.specs.declared.reading.Planning.{Planning}
use Rattle.mirror_settings.specs.declared.reading.Fetching.{Fetching}
use Rattle.mirror_settings.specs.declared.reading.Pace.{Pace}
use Rattle.mirror_settings.specs.declared.reading.Admission.{Admission}
use Rattle.mirror_settings.specs.declared.reading.Running.{Running}
use Rattle.mirror_settings.specs.Settings.{HasEvents, HasListen, HasConns, HasRelays, HasFilter, HasWorkers, HasBases, HasRounds}
use Rattle.mirror_settings.specs.Settings.{HasPushMs, HasTimeoutMs, HasFsync, HasSlowBytes, HasClients, HasPingMs, HasReadOnly}
use Rattle.mirror_settings.specs.Settings.{HasMirroring, AreGoodBelow, RefusesTable}

-- of the events file and of whom the run serves
pub record TellsServing (sync mirror : Bool) (t : Members) (s : Serving) : Type 0 where
  pub events : HasEvents t s.events
  pub listen : HasListen sync t s.listen
  pub conns : HasConns mirror t s.conns

-- of how fetches from so many relays are planned
pub record TellsPlanning (sync : Bool) (count : ℕ) (t : Members) (p : Planning) : Type 0 where
  pub workers : HasWorkers sync t p.workers
  pub bases : HasBases sync t count p.bases
  pub rounds : HasRounds sync t p.rounds

-- of the relays and of what is fetched from them
pub record TellsFetching (sync : Bool) (t : Members) (f : Fetching) : Type 0 where
  pub relays : HasRelays sync t f.relays
  pub filter : HasFilter sync t f.filter
  pub planning : TellsPlanning sync (length f.relays) t f.planning

-- of how long the run waits for others and for the disk
pub record TellsPace (sync : Bool) (t : Members) (p : Pace) : Type 0 where
  pub push_ms : HasPushMs t p.push_ms
  pub timeout_ms : HasTimeoutMs t p.timeout_ms
  pub fsync : HasFsync t p.fsync
  pub slow_bytes : HasSlowBytes sync t p.slow_bytes

-- of the clients
pub record TellsAdmission (mirror : Bool) (t : Members) (a : Admission) : Type 0 where
  pub clients : HasClients t a.clients
  pub ping_ms : HasPingMs t a.ping_ms
  pub read_only : HasReadOnly mirror t a.read_only

-- of how the run goes on
pub record TellsRunning (sync mirror : Bool) (t : Members) (r : Running) : Type 0 where
  pub pace : TellsPace sync t r.pace
  pub admission : TellsAdmission mirror t r.admission
  pub mirroring : HasMirroring mirror t r.mirroring

-- the fault of a table, where the keys before a place are good
abbrev pub RefusesFrom : ℕ → Bool → Bool → Members → SettingsFault → Type 0
RefusesFrom n sync mirror t e = AreGoodBelow sync mirror t n → RefusesTable sync mirror t e

-- the same from the number of workers on, where there are so many relays
abbrev pub RefusesPlanning : Bool → ℕ → Members → SettingsFault → Type 0
RefusesPlanning sync count t e =
    (mirror : Bool) (relays : List Relay) → HasRelays sync t relays → count ≡ length relays → RefusesFrom 5 sync mirror t e
