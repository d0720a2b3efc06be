-- What settings a TOML table tells. Keys that aren't named here are passed over.
use Rattle.std.specs.Prelude.{◌≡◌, ◌≢◌, ◌≤◌, ◌<◌, ℕ, Bool, true, false, List, [], map, length, replicate, Option, None, Some, is_some, MatchOption, All, pos, codes, ◌⊎◌}
use Rattle.toml.specs.Data.{Data, string, integer, boolean, array, Members, get_member}
use Rattle.toml.specs.View.{items_of}
use Rattle.toml.specs.Parse.{parse_document}
use Rattle.serde_json.specs.Data.{Data as Json}
use Rattle.serde_json.specs.Read.{read as read_text}
use Rattle.nostr_filter.specs.declared.filter.Filter.{Filter as AFilter}
use Rattle.nostr_filter.specs.FilterJson.{Reads}
use Rattle.mirror_settings.specs.declared.address.Address.{Address}
use Rattle.mirror_settings.specs.declared.relay.Relay.{Relay}
use Rattle.mirror_settings.specs.declared.job.Job.{Job}
use Rattle.mirror_settings.specs.declared.job.Job.TheVariants.{Serve, Sync, Mirror}
use Rattle.mirror_settings.specs.declared.settings.Mirroring.{Mirroring}
use Rattle.mirror_settings.specs.declared.settings.Settings.{Settings}
use Rattle.mirror_settings.specs.declared.settings.Syncing.{Syncing}
use Rattle.mirror_settings.specs.declared.settings.Syncing.TheVariants.{Always, EverySecond, Never}
use Rattle.mirror_settings.specs.declared.fault.SettingsKey.{SettingsKey}
use Rattle.mirror_settings.specs.declared.fault.SettingsKey.TheVariants.{Events, Listen, Conns, Relays, Filter, Workers, Bases, Rounds, PushMs, TimeoutMs, Fsync, SlowBytes, Clients, PingMs, ReadOnly, EveryMs, Passes, Live}
use Rattle.mirror_settings.specs.declared.fault.SettingsFault.{SettingsFault}
use Rattle.mirror_settings.specs.declared.fault.SettingsFault.TheVariants.{Text, Key, Memory}
use Rattle.mirror_settings.specs.Addresses.{IsAddress, spelled}
use Rattle.mirror_settings.specs.Keys.{name_of, place_of}
use Rattle.mirror_settings.specs.Relays.{AreRelays}

-- the value at a key
abbrev pub at : SettingsKey → Members → Option Data
at key t = get_member (name_of key) t

-- ---- forms of values

abbrev pub whole_data : ℕ → Data
whole_data n = integer (pos n)

-- a whole number of a range
abbrev pub IsWhole : ℕ → ℕ → Data → ℕ → Type 0
IsWhole least most d n = (d ≡ whole_data n) × (least ≤ n) × (n ≤ most)

-- a string that spells an address
abbrev pub address_data : Address → Data
address_data a = string (spelled a)

abbrev pub IsAddressData : Data → Address → Type 0
IsAddressData d a = (d ≡ address_data a) × IsAddress a

-- an array of values, each of the form that f gives it
abbrev pub array_of : {X : Type 0} → (X → Data) → List X → Data
array_of f xs = array (items_of (map f xs))

-- true or false
abbrev pub IsFlag : Data → Bool → Type 0
IsFlag d b = d ≡ boolean b

-- a string that is the JSON of a filter
abbrev pub IsFilterData : Data → AFilter → Type 0
IsFilterData d f = (text : List ℕ) × (json : Json) × (d ≡ string text) × (read_text text ≡ Some json) × Reads json f

-- a string that says when lines of the events file are synced
abbrev pub syncing_name : Syncing → List ℕ
syncing_name Always = codes "always"
syncing_name EverySecond = codes "everysec"
syncing_name Never = codes "no"

abbrev pub IsSyncing : Data → Syncing → Type 0
IsSyncing d s = d ≡ string (syncing_name s)

-- ---- what a key may be without

-- absent, or of the form
abbrev pub Holds : {X : Type 0} → (Data → X → Type 0) → Option Data → Option X → Type 0
Holds Form None None = Unit {0}
Holds Form None (Some x) = ⊥
Holds Form (Some d) None = ⊥
Holds Form (Some d) (Some x) = Form d x

abbrev pub or_else : {X : Type 0} → X → Option X → X
or_else x None = x
or_else x (Some y) = y

-- of the form, or absent, which stands for a value
abbrev pub HoldsOr : {X : Type 0} → X → (Data → X → Type 0) → Option Data → X → Type 0
HoldsOr default Form o x = MatchOption o (x ≡ default) (λ d. Form d x)

-- ---- what a job reads

-- whether it reads relays; a mirror without any is a relay and nothing else
abbrev pub reads_relays : Job → Members → Bool
reads_relays Serve t = false
reads_relays Sync t = true
reads_relays Mirror t = is_some (at Relays t)

abbrev pub is_mirror : Job → Bool
is_mirror Serve = false
is_mirror Sync = false
is_mirror Mirror = true

-- ---- each key's value; `sync` says whether the run reads relays, and `mirror` whether it is a mirror

abbrev pub everything : AFilter
everything = record { ids = None; authors = None; kinds = None; tags = []; since = None; until = None; limit = None }

abbrev pub HasEvents : Members → List ℕ → Type 0
HasEvents t path = at Events t ≡ Some (string path)

-- a run without relays needs it
abbrev pub HasListen : Bool → Members → Option Address → Type 0
HasListen sync t v = Holds IsAddressData (at Listen t) v × (sync ≡ false → v ≢ None)

-- needed where `listen` is there; a mirror serves without an end
abbrev pub HasConns : Bool → Members → Option ℕ → Type 0
HasConns true t v = v ≡ None
HasConns false t v = Holds (IsWhole 1 1000000) (at Conns t) v × (v ≡ None → at Listen t ≡ None)

abbrev pub HasRelays : Bool → Members → List Relay → Type 0
HasRelays true t relays = (entries : List Data) × (at Relays t ≡ Some (array (items_of entries))) × AreRelays entries relays × (1 ≤ length relays) × (length relays ≤ 256)
HasRelays false t relays = relays ≡ []

abbrev pub HasFilter : Bool → Members → AFilter → Type 0
HasFilter true t f = HoldsOr everything IsFilterData (at Filter t) f
HasFilter false t f = f ≡ everything

abbrev pub HasWorkers : Bool → Members → ℕ → Type 0
HasWorkers true t n = HoldsOr 1 (IsWhole 1 4) (at Workers t) n
HasWorkers false t n = n ≡ 1

abbrev pub IsLoad : ℕ → Type 0
IsLoad n = n ≤ 1000000000

-- as many as there are relays
abbrev pub IsBases : ℕ → Data → List ℕ → Type 0
IsBases count d bases = (d ≡ array_of whole_data bases) × All IsLoad bases × (length bases ≡ count)

abbrev pub HasBases : Bool → Members → ℕ → List ℕ → Type 0
HasBases true t count bases = HoldsOr (replicate count 0) (IsBases count) (at Bases t) bases
HasBases false t count bases = bases ≡ []

abbrev pub HasRounds : Bool → Members → ℕ → Type 0
HasRounds true t n = HoldsOr 1 (IsWhole 1 16) (at Rounds t) n
HasRounds false t n = n ≡ 1

abbrev pub HasPushMs : Members → Option ℕ → Type 0
HasPushMs t v = Holds (IsWhole 1 60000) (at PushMs t) v

abbrev pub HasTimeoutMs : Members → Option ℕ → Type 0
HasTimeoutMs t v = Holds (IsWhole 1 3600000) (at TimeoutMs t) v

abbrev pub HasFsync : Members → Syncing → Type 0
HasFsync t s = HoldsOr Always IsSyncing (at Fsync t) s

abbrev pub HasSlowBytes : Bool → Members → ℕ → Type 0
HasSlowBytes true t n = HoldsOr 10000 (IsWhole 1 1000000000) (at SlowBytes t) n
HasSlowBytes false t n = n ≡ 10000

abbrev pub HasClients : Members → Option ℕ → Type 0
HasClients t v = Holds (IsWhole 1 100000) (at Clients t) v

abbrev pub HasPingMs : Members → Option ℕ → Type 0
HasPingMs t v = Holds (IsWhole 1 3600000) (at PingMs t) v

-- true for a mirror, and else false, where it is left out
abbrev pub HasReadOnly : Bool → Members → Bool → Type 0
HasReadOnly mirror t b = HoldsOr mirror IsFlag (at ReadOnly t) b

abbrev pub HasEveryMs : Bool → Members → ℕ → Type 0
HasEveryMs true t n = HoldsOr 300000 (IsWhole 1 86400000) (at EveryMs t) n
HasEveryMs false t n = n ≡ 300000

abbrev pub HasPasses : Bool → Members → Option ℕ → Type 0
HasPasses true t v = Holds (IsWhole 1 1000000000) (at Passes t) v
HasPasses false t v = v ≡ None

abbrev pub HasLive : Bool → Members → Bool → Type 0
HasLive true t b = HoldsOr true IsFlag (at Live t) b
HasLive false t b = b ≡ false

abbrev pub HasMirroring : Bool → Members → Mirroring → Type 0
HasMirroring mirror t m = HasEveryMs mirror t m.every_ms × HasPasses mirror t m.passes × HasLive mirror t m.live

-- the table tells the settings
pub record Tells (sync mirror : Bool) (t : Members) (s : Settings) : Type 0 where
  pub events : HasEvents t s.events
  pub listen : HasListen sync t s.listen
  pub conns : HasConns mirror t s.conns
  pub relays : HasRelays sync t s.relays
  pub filter : HasFilter sync t s.filter
  pub workers : HasWorkers sync t s.workers
  pub bases : HasBases sync t (length s.relays) s.bases
  pub rounds : HasRounds sync t s.rounds
  pub push_ms : HasPushMs t s.push_ms
  pub timeout_ms : HasTimeoutMs t s.timeout_ms
  pub fsync : HasFsync t s.fsync
  pub slow_bytes : HasSlowBytes sync t s.slow_bytes
  pub clients : HasClients t s.clients
  pub ping_ms : HasPingMs t s.ping_ms
  pub read_only : HasReadOnly mirror t s.read_only
  pub mirroring : HasMirroring mirror t s.mirroring

-- the same, by a job
abbrev pub TellsFor : Job → Members → Settings → Type 0
TellsFor job t s = Tells (reads_relays job t) (is_mirror job) t s

-- ---- what a refusal says

-- the key is there where it is needed, and its value is of its form
abbrev pub IsGood : Bool → Bool → Members → SettingsKey → Type 0
IsGood sync mirror t Events = (v : List ℕ) × HasEvents t v
IsGood sync mirror t Listen = (v : Option Address) × HasListen sync t v
IsGood sync mirror t Conns = (v : Option ℕ) × HasConns mirror t v
IsGood sync mirror t Relays = (v : List Relay) × HasRelays sync t v
IsGood sync mirror t Filter = (v : AFilter) × HasFilter sync t v
IsGood sync mirror t Workers = (v : ℕ) × HasWorkers sync t v
IsGood sync mirror t Bases = (relays : List Relay) × (v : List ℕ) × HasRelays sync t relays × HasBases sync t (length relays) v
IsGood sync mirror t Rounds = (v : ℕ) × HasRounds sync t v
IsGood sync mirror t PushMs = (v : Option ℕ) × HasPushMs t v
IsGood sync mirror t TimeoutMs = (v : Option ℕ) × HasTimeoutMs t v
IsGood sync mirror t Fsync = (v : Syncing) × HasFsync t v
IsGood sync mirror t SlowBytes = (v : ℕ) × HasSlowBytes sync t v
IsGood sync mirror t Clients = (v : Option ℕ) × HasClients t v
IsGood sync mirror t PingMs = (v : Option ℕ) × HasPingMs t v
IsGood sync mirror t ReadOnly = (v : Bool) × HasReadOnly mirror t v
IsGood sync mirror t EveryMs = (v : ℕ) × HasEveryMs mirror t v
IsGood sync mirror t Passes = (v : Option ℕ) × HasPasses mirror t v
IsGood sync mirror t Live = (v : Bool) × HasLive mirror t v

-- the keys before a place are good
abbrev pub AreGoodBelow : Bool → Bool → Members → ℕ → Type 0
AreGoodBelow sync mirror t n = (key : SettingsKey) → place_of key < n → IsGood sync mirror t key

-- the first key that isn't good
abbrev pub IsFirstWrong : Bool → Bool → Members → SettingsKey → Type 0
IsFirstWrong sync mirror t key = AreGoodBelow sync mirror t (place_of key) × ¬ IsGood sync mirror t key

-- want of memory, or the fault of a key, where its cause stands
abbrev pub Fails : SettingsKey → Type 0 → SettingsFault → Type 0
Fails key cause e = (e ≡ Memory) ⊎ ((e ≡ Key key) × cause)

-- the fault of one key
abbrev pub Stops : Bool → Bool → Members → SettingsKey → SettingsFault → Type 0
Stops sync mirror t key = Fails key (¬ IsGood sync mirror t key)

-- the fault of a table
abbrev pub RefusesTable : Bool → Bool → Members → SettingsFault → Type 0
RefusesTable sync mirror t Text = ⊥
RefusesTable sync mirror t (Key key) = IsFirstWrong sync mirror t key
RefusesTable sync mirror t Memory = Unit {0}

-- the same, by a job
abbrev pub RefusesTableFor : Job → Members → SettingsFault → Type 0
RefusesTableFor job t e = RefusesTable (reads_relays job t) (is_mirror job) t e

-- why the text holds no settings
abbrev pub Refuses : Job → List ℕ → SettingsFault → Type 0
Refuses job text Text = parse_document text ≡ None
Refuses job text (Key key) = (t : Members) × (parse_document text ≡ Some t) × IsFirstWrong (reads_relays job t) (is_mirror job) t key
Refuses job text Memory = Unit {0}
