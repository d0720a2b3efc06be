-- The keys of the settings.
use Rattle.std.specs.Prelude.{ℕ, List, codes}
use Rattle.mirror_settings.specs.declared.fault.SettingsKey.{SettingsKey}
use Rattle.mirror_settings.specs.declared.fault.SettingsKey.TheVariants.{Events, Listen, Conns, Relays, Filter, Workers, Bases, Rounds, PushMs, TimeoutMs, Fsync, SlowBytes, Clients, PingMs, ReadOnly, EveryMs, Passes, Live}

abbrev pub name_of : SettingsKey → List ℕ
name_of Events = codes "events"
name_of Listen = codes "listen"
name_of Conns = codes "conns"
name_of Relays = codes "relays"
name_of Filter = codes "filter"
name_of Workers = codes "workers"
name_of Bases = codes "bases"
name_of Rounds = codes "rounds"
name_of PushMs = codes "push_ms"
name_of TimeoutMs = codes "timeout_ms"
name_of Fsync = codes "fsync"
name_of SlowBytes = codes "slow_bytes"
name_of Clients = codes "clients"
name_of PingMs = codes "ping_ms"
name_of ReadOnly = codes "read_only"
name_of EveryMs = codes "every_ms"
name_of Passes = codes "passes"
name_of Live = codes "live"

-- its place in the order in which the keys are looked at
abbrev pub place_of : SettingsKey → ℕ
place_of Events = 0
place_of Listen = 1
place_of Conns = 2
place_of Relays = 3
place_of Filter = 4
place_of Workers = 5
place_of Bases = 6
place_of Rounds = 7
place_of PushMs = 8
place_of TimeoutMs = 9
place_of Fsync = 10
place_of SlowBytes = 11
place_of Clients = 12
place_of PingMs = 13
place_of ReadOnly = 14
place_of EveryMs = 15
place_of Passes = 16
place_of Live = 17
