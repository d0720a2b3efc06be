-- Arrays of values of one form.
use Rattle.std.proofs.Common.{◌≡◌, ℕ, zero, suc, ◌+◌, ◌<◌, List, [], ◌∷◌, ◌++◌, length, get_or, map, take, All, refl, ap, arith}
use Rattle.std.proofs.lemmas.List.Elements.{All-head, All-tail}
use Rattle.toml.specs.Data.{Data, array}
use Rattle.toml.specs.View.{view, items_of}
use Rattle.toml.specs.declared.value.Value.{Value}
use Rattle.mirror_settings.specs.declared.relay.Relay.{Relay}
use Rattle.mirror_settings.specs.Relays.{IsRelay, AreRelays}

pub items_same : (ds es : List Data) → items_of ds ≡ items_of es → ds ≡ es
items_same [] [] e = refl
items_same [] (x ∷ es) e = cc
items_same (d ∷ ds) [] e = cc
items_same (d ∷ ds) (x ∷ es) e =
    let head : d ≡ x = cc in
    let tail : items_of ds ≡ items_of es = cc in
    rw (head, items_same ds es tail) refl

pub array_same : (ds es : List Data) → array (items_of ds) ≡ array (items_of es) → ds ≡ es
array_same ds es e = let items : items_of ds ≡ items_of es = cc in items_same ds es items

-- as many entries as relays
pub as_many_relays : (ds : List Data) (rs : List Relay) → AreRelays ds rs → length ds ≡ length rs
as_many_relays [] [] is = refl
as_many_relays [] (r ∷ rs) is = absurd is
as_many_relays (d ∷ ds) [] is = absurd is
as_many_relays (d ∷ ds) (r ∷ rs) is = ap suc (as_many_relays ds rs is.1)

next_relay : (vs : List Value) (i : ℕ) (v : Value) (rs : List Relay) (r : Relay) → i < length vs → AreRelays (map view (take i vs)) rs → IsRelay (view (get_or vs i v)) r
    → AreRelays (map view (take (suc i) vs)) (rs ++ r ∷ [])
next_relay [] i v rs r below is more = absurd (omega arith)
next_relay (w ∷ vs) zero v [] r below is more = (more, tt)
next_relay (w ∷ vs) zero v (s ∷ rs) r below is more = absurd is
next_relay (w ∷ vs) (suc i) v [] r below is more = absurd is
next_relay (w ∷ vs) (suc i) v (s ∷ rs) r below is more = (is.0, next_relay vs i v rs r (omega arith) is.1 more)

-- one entry more
pub and_a_relay : (vs : List Value) (i : ℕ) (v : Value) (rs : List Relay) (r : Relay) → i < length vs → AreRelays (map view (take i vs)) rs → IsRelay (view (get_or vs i v)) r
    → AreRelays (map view (take (i + 1) vs)) (rs ++ r ∷ [])
and_a_relay vs i v rs r below is more =
    let next : i + 1 ≡ suc i = omega arith in
    rw next (next_relay vs i v rs r below is more)

-- an entry that names none
pub no_relay_at : (vs : List Value) (i : ℕ) (v : Value) → i < length vs → ((r : Relay) → ¬ IsRelay (view (get_or vs i v)) r) → (rs : List Relay) → ¬ AreRelays (map view vs) rs
no_relay_at [] i v below none rs = absurd (omega arith)
no_relay_at (w ∷ vs) i v below none [] = λ is. is
no_relay_at (w ∷ vs) zero v below none (r ∷ rs) = λ is. none r is.0
no_relay_at (w ∷ vs) (suc i) v below none (r ∷ rs) = λ is. no_relay_at vs i v (omega arith) none rs is.1

-- a value of another form
pub wrong_at : {X : Type 0} (f : X → Data) (P : X → Type 0) (vs : List Value) (i : ℕ) (v : Value) → i < length vs → ((x : X) → P x → ¬ (view (get_or vs i v) ≡ f x))
    → (xs : List X) → All P xs → ¬ (map view vs ≡ map f xs)
wrong_at f P [] i v below none xs all = absurd (omega arith)
wrong_at f P (w ∷ vs) zero v below none [] all = λ e. cc
wrong_at f P (w ∷ vs) zero v below none (x ∷ xs) all = λ e. let head : view w ≡ f x = cc in none x (All-head P x xs all) head
wrong_at f P (w ∷ vs) (suc i) v below none [] all = λ e. cc
wrong_at f P (w ∷ vs) (suc i) v below none (x ∷ xs) all = λ e.
    let tail : map view vs ≡ map f xs = cc in
    wrong_at f P vs i v (omega arith) none xs (All-tail P x xs all) tail
