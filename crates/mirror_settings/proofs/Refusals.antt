-- Keys that aren't good.
use Rattle.std.proofs.Common.{◌≡◌, ℕ, suc, ◌≤◌, Bool, true, false, List, [], ◌∷◌, length, get_or, map, replicate, Option, Some, All, inl, inr, refl, ap, sym, subst, ◌∙◌, arith}
use Rattle.std.proofs.lemmas.Bool.{cases_lt}
use Rattle.std.proofs.lemmas.List.{length-map}
use Rattle.toml.specs.Data.{Data, array, Members, Items, as_array, string, integer, float, boolean, datetime, table}
use Rattle.toml.specs.View.{view, items_of}
use Rattle.toml.specs.declared.value.Value.{Value}
use Rattle.nostr_filter.specs.declared.filter.Filter.{Filter as AFilter}
use Rattle.mirror_settings.specs.declared.relay.Relay.{Relay}
use Rattle.mirror_settings.specs.declared.fault.SettingsFault.{SettingsFault}
use Rattle.mirror_settings.specs.declared.fault.SettingsKey.{SettingsKey}
use Rattle.mirror_settings.specs.declared.fault.SettingsKey.TheVariants.{Events, Listen, Conns, Relays, Filter, Workers, Bases, Rounds, PushMs, TimeoutMs, Fsync, SlowBytes, Clients, PingMs, ReadOnly, EveryMs, Passes, Live}
use Rattle.mirror_settings.specs.Relays.{AreRelays}
use Rattle.mirror_settings.specs.Keys.{place_of}
use Rattle.mirror_settings.specs.Settings.{at, HoldsOr, whole_data, IsLoad, IsBases, IsFilterData, everything, HasRelays, HasBases, IsGood, AreGoodBelow, Stops, RefusesTable}
use Rattle.mirror_settings.proofs.Forms.{array_same, as_many_relays}

is_array : (d : Data) (items : Items) → Some items ≡ as_array d → d ≡ array items
is_array (array ds) items e = cc
is_array (string s) items e = cc
is_array (integer z) items e = cc
is_array (float x) items e = cc
is_array (boolean b) items e = cc
is_array (datetime dt) items e = cc
is_array (table ms) items e = cc

-- what stands at a key, where it is an array
pub stands : (o : Option Data) (d : Data) (items : Items) → Some d ≡ o → Some items ≡ as_array d → o ≡ Some (array items)
stands o d items e f = sym e ∙ ap Some (is_array d items f)

pub no_relays : (sync mirror : Bool) (t : Members) (vs : List Value) → sync ≡ true → at Relays t ≡ Some (array (items_of (map view vs)))
    → ((l : List Relay) → 1 ≤ length l → length l ≤ 256 → ¬ AreRelays (map view vs) l) → ¬ IsGood sync mirror t Relays
no_relays false mirror t vs s e none = absurd (cc)
no_relays true mirror t vs s e none = λ g.
    let h = g.1 in
    let same : array (items_of h.0) ≡ array (items_of (map view vs)) = cc (e, h.1) in
    none g.0 h.3 h.4 (subst (λ (ds : List Data). AreRelays ds g.0) (array_same _ _ same) h.2)

pub has_relays : (sync : Bool) (t : Members) (vs : List Value) (l : List Relay) → sync ≡ true → at Relays t ≡ Some (array (items_of (map view vs))) → 1 ≤ length vs → length vs ≤ 256
    → AreRelays (map view vs) l → HasRelays sync t l
has_relays false t vs l s e low high is = absurd (cc)
has_relays true t vs l s e low high is =
    let long : length vs ≡ length l = sym (length-map vs view) ∙ as_many_relays (map view vs) l is in
    (map view vs, e, is, omega (arith, long, low), omega (arith, long, high))

pub no_bases : (sync : Bool) (t : Members) (count : ℕ) (vs : List Value) → sync ≡ true → at Bases t ≡ Some (array (items_of (map view vs)))
    → ((l : List ℕ) → All IsLoad l → length l ≡ count → ¬ (map view vs ≡ map whole_data l)) → (v : List ℕ) → ¬ HasBases sync t count v
no_bases false t count vs s e none v = absurd (cc)
no_bases true t count vs s e none v = λ g.
    let h = subst (λ (o : Option Data). HoldsOr (replicate count 0) (IsBases count) o v) e g in
    none v h.1 h.2 (array_same _ _ h.0)

pub no_filter : (sync mirror : Bool) (t : Members) (d : Data) → sync ≡ true → Some d ≡ at Filter t → ((f : AFilter) → ¬ IsFilterData d f) → ¬ IsGood sync mirror t Filter
no_filter false mirror t d s e none = absurd (cc)
no_filter true mirror t d s e none = λ g. none g.0 (subst (λ (o : Option Data). HoldsOr everything IsFilterData o g.0) (sym e) g.1)

as_long : (sync : Bool) (t : Members) (l m : List Relay) → HasRelays sync t l → HasRelays sync t m → length l ≡ length m
as_long true t l m g h =
    let same : array (items_of g.0) ≡ array (items_of h.0) = cc (g.1, h.1) in
    sym (as_many_relays g.0 l g.2) ∙ ap length (array_same g.0 h.0 same) ∙ as_many_relays h.0 m h.2
as_long false t l m g h = rw (g, h) refl

-- as many bases as there are relays
pub as_many_bases : (sync mirror : Bool) (t : Members) (l : List Relay) (count : ℕ) (v : List ℕ) → HasRelays sync t l → count ≡ length l → HasBases sync t count v → IsGood sync mirror t Bases
as_many_bases sync mirror t l count v g long h = (l, v, g, subst (λ (n : ℕ). HasBases sync t n v) long h)

pub not_as_many : (sync mirror : Bool) (t : Members) (l : List Relay) (count : ℕ) → HasRelays sync t l → count ≡ length l → ((v : List ℕ) → ¬ HasBases sync t count v) → ¬ IsGood sync mirror t Bases
not_as_many sync mirror t l count g long none = λ h. none h.1 (subst (λ (n : ℕ). HasBases sync t n h.1) (as_long sync t h.0 l h.2 g ∙ sym long) h.3)

-- ---- the first key that isn't good

abbrev key_at : ℕ → SettingsKey
key_at n = get_or (Events ∷ Listen ∷ Conns ∷ Relays ∷ Filter ∷ Workers ∷ Bases ∷ Rounds ∷ PushMs ∷ TimeoutMs ∷ Fsync ∷ SlowBytes ∷ Clients ∷ PingMs ∷ ReadOnly ∷ EveryMs ∷ Passes ∷ []) n Live

at_its_place : (key : SettingsKey) → key_at (place_of key) ≡ key
at_its_place Events = refl
at_its_place Listen = refl
at_its_place Conns = refl
at_its_place Relays = refl
at_its_place Filter = refl
at_its_place Workers = refl
at_its_place Bases = refl
at_its_place Rounds = refl
at_its_place PushMs = refl
at_its_place TimeoutMs = refl
at_its_place Fsync = refl
at_its_place SlowBytes = refl
at_its_place Clients = refl
at_its_place PingMs = refl
at_its_place ReadOnly = refl
at_its_place EveryMs = refl
at_its_place Passes = refl
at_its_place Live = refl

pub none_below : (sync mirror : Bool) (t : Members) → AreGoodBelow sync mirror t 0
none_below sync mirror t key below = absurd (omega arith)

pub one_more : (sync mirror : Bool) (t : Members) (key : SettingsKey) → AreGoodBelow sync mirror t (place_of key) → IsGood sync mirror t key → AreGoodBelow sync mirror t (suc (place_of key))
one_more sync mirror t key below good other less = elim (cases_lt (place_of other) (place_of key)) [
  | inl h ↦ below other h
  | inr h ↦
      (let place : place_of key ≡ place_of other = omega arith in
      subst (λ (k : SettingsKey). IsGood sync mirror t k) (sym (at_its_place key) ∙ ap key_at place ∙ at_its_place other) good)
]

pub stopped : (sync mirror : Bool) (t : Members) (key : SettingsKey) (e : SettingsFault) → AreGoodBelow sync mirror t (place_of key) → Stops sync mirror t key e → RefusesTable sync mirror t e
stopped sync mirror t key e below (inl memory) = rw memory tt
stopped sync mirror t key e below (inr wrong) = rw wrong.0 (below, wrong.1)
