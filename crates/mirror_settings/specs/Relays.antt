-- The relays that entries of the setting `relays` name.
use Rattle.std.specs.Prelude.{◌≡◌, ◌≢◌, ℕ, ◌<◌, ◌≤◌, ◌^◌, List, [], ◌∷◌, ◌++◌, length, get_or, All, Some, MatchOption, codes, ◌⊎◌}
use Rattle.std.specs.Str.Iter.{HasSubslice}
use Rattle.toml.specs.Data.{Data, string, table, Members, get_member}
use Rattle.mirror_settings.specs.declared.address.Address.{Address}
use Rattle.mirror_settings.specs.declared.relay.Relay.{Relay}
use Rattle.mirror_settings.specs.Addresses.{IsAddress, spelled}

-- the byte isn't in the text
abbrev pub Lacks : ℕ → List ℕ → Type 0
Lacks c text = (i : ℕ) → i < length text → get_or text i 0 ≢ c

-- no blank or control character
abbrev pub IsGraphic : ℕ → Type 0
IsGraphic c = (33 ≤ c) × (c ≢ 127)

-- a text with `://`, as a URL has it
abbrev pub HasScheme : List ℕ → Type 0
HasScheme text = HasSubslice text (codes "://")

-- it begins with a slash
abbrev pub IsPath : List ℕ → Type 0
IsPath path = (rest : List ℕ) × (path ≡ 47 ∷ rest)

-- a number in brackets
abbrev pub IsBracketed : List ℕ → Type 0
IsBracketed host = (inside : List ℕ) × (host ≡ 91 ∷ inside ++ 93 ∷ [])

-- a host of a URL: colons stand in brackets alone
abbrev pub IsHost : List ℕ → Type 0
IsHost host = (0 < length host) × (Lacks 58 host ⊎ IsBracketed host)

-- `HOST:PORT`, or `HOST` alone, which means port 80
abbrev pub IsAuthority : List ℕ → Address → Type 0
IsAuthority text a = IsHost a.host × (a.port < 2 ^ 16) × ((text ≡ spelled a) ⊎ ((text ≡ a.host) × (a.port ≡ 80)))

-- ---- the forms of an entry

-- `HOST:PORT`: what is connected to, and named
abbrev pub IsPlain : List ℕ → Relay → Type 0
IsPlain text r = (text ≡ spelled r.via) × IsAddress r.via × (r.host ≡ text) × (r.path ≡ codes "/")

-- `ws://HOST/PATH` or `ws://HOST:PORT/PATH`: the path begins with the first slash behind the host, and is `/` where there is none
abbrev pub IsUrl : List ℕ → Relay → Type 0
IsUrl text r = All IsGraphic text × Lacks 47 r.host × IsAuthority r.host r.via × IsPath r.path
    × ((text ≡ codes "ws://" ++ r.host ++ r.path) ⊎ ((text ≡ codes "ws://" ++ r.host) × (r.path ≡ codes "/")))

abbrev pub IsRelayText : List ℕ → Relay → Type 0
IsRelayText text r = (IsPlain text r × ¬ HasScheme text) ⊎ IsUrl text r

-- what the handshake may name as its host: as a URL has it
abbrev pub IsNamed : List ℕ → Type 0
IsNamed host = All IsGraphic host × Lacks 47 host × ((a : Address) × IsAuthority host a)

-- what the handshake may ask for
abbrev pub IsAsked : List ℕ → Type 0
IsAsked path = All IsGraphic path × IsPath path

abbrev pub HasHost : Members → List ℕ → Type 0
HasHost t host = (get_member (codes "host") t ≡ Some (string host)) × IsNamed host

-- `/` where it is left out
abbrev pub HasPath : Members → List ℕ → Type 0
HasPath t path = MatchOption (get_member (codes "path") t) (path ≡ codes "/") (λ d. (d ≡ string path) × IsAsked path)

abbrev pub HasVia : Members → Address → Type 0
HasVia t a = (get_member (codes "via") t ≡ Some (string (spelled a))) × IsAddress a

-- a table of what is named, what is asked for and where to connect to
abbrev pub IsTunnelled : Members → Relay → Type 0
IsTunnelled t r = HasHost t r.host × HasPath t r.path × HasVia t r.via

-- an entry that names the relay
abbrev pub IsRelay : Data → Relay → Type 0
IsRelay (string text) r = IsRelayText text r
IsRelay (table t) r = IsTunnelled t r
IsRelay _ r = ⊥

-- the entries name the relays, one by one
abbrev pub AreRelays : List Data → List Relay → Type 0
AreRelays [] [] = Unit {0}
AreRelays (d ∷ ds) (r ∷ rs) = IsRelay d r × AreRelays ds rs
AreRelays _ _ = ⊥
