-- Keys that are good where the parts of the settings are told.
use Rattle.std.proofs.Common.{Bool}
use Rattle.toml.specs.Data.{Members}
use Rattle.mirror_settings.specs.declared.reading.Serving.{Serving}
use Rattle.mirror_settings.specs.declared.reading.Fetching.{Fetching}
use Rattle.mirror_settings.specs.declared.reading.Pace.{Pace}
use Rattle.mirror_settings.specs.declared.reading.Admission.{Admission}
use Rattle.mirror_settings.specs.declared.fault.SettingsKey.TheVariants.{Events, Listen, Conns, Relays, Filter, Workers, Bases}
use Rattle.mirror_settings.specs.declared.fault.SettingsKey.TheVariants.{Rounds, PushMs, TimeoutMs, Fsync, SlowBytes, Clients}
use Rattle.mirror_settings.specs.declared.fault.SettingsKey.TheVariants.{PingMs, ReadOnly}
use Rattle.mirror_settings.specs.Settings.{AreGoodBelow}
use Rattle.mirror_settings.specs.Parts.{TellsServing, TellsFetching, TellsPace, TellsAdmission}
use Rattle.mirror_settings.proofs.Refusals.{none_below, one_more}

pub serving_is_good : (sync mirror : Bool) (t : Members) (s : Serving)
    → TellsServing sync mirror t s → AreGoodBelow sync mirror t 3
serving_is_good sync mirror t s h =
    let events = one_more sync mirror t Events (none_below sync mirror t) (s.events, h.events) in
    let listen = one_more sync mirror t Listen events (s.listen, h.listen) in
    one_more sync mirror t Conns listen (s.conns, h.conns)

pub fetching_is_good : (sync mirror : Bool) (t : Members) (f : Fetching)
    → AreGoodBelow sync mirror t 3 → TellsFetching sync t f → AreGoodBelow sync mirror t 8
fetching_is_good sync mirror t f below h =
    let p = f.planning in
    let relays = one_more sync mirror t Relays below (f.relays, h.relays) in
    let filter = one_more sync mirror t Filter relays (f.filter, h.filter) in
    let workers = one_more sync mirror t Workers filter (p.workers, h.planning.workers) in
    let bases = one_more sync mirror t Bases workers (f.relays, p.bases, h.relays, h.planning.bases) in
    one_more sync mirror t Rounds bases (p.rounds, h.planning.rounds)

pub pace_is_good : (sync mirror : Bool) (t : Members) (p : Pace)
    → AreGoodBelow sync mirror t 8 → TellsPace sync t p → AreGoodBelow sync mirror t 12
pace_is_good sync mirror t p below h =
    let push_ms = one_more sync mirror t PushMs below (p.push_ms, h.push_ms) in
    let timeout_ms = one_more sync mirror t TimeoutMs push_ms (p.timeout_ms, h.timeout_ms) in
    let fsync = one_more sync mirror t Fsync timeout_ms (p.fsync, h.fsync) in
    one_more sync mirror t SlowBytes fsync (p.slow_bytes, h.slow_bytes)

pub admission_is_good : (sync mirror : Bool) (t : Members) (a : Admission)
    → AreGoodBelow sync mirror t 12 → TellsAdmission mirror t a → AreGoodBelow sync mirror t 15
admission_is_good sync mirror t a below h =
    let clients = one_more sync mirror t Clients below (a.clients, h.clients) in
    let ping_ms = one_more sync mirror t PingMs clients (a.ping_ms, h.ping_ms) in
    one_more sync mirror t ReadOnly ping_ms (a.read_only, h.read_only)
