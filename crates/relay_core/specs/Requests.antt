-- Requests for events (REQ of NIP-01).
use Rattle.std.specs.Prelude.{◌≡◌, ℕ, ◌+◌, List, [], ◌∷◌, ◌++◌, length, map, filter_map, slice_get, nat_lt, nat_le, if◌then◌else◌, codes}
use Rattle.std.specs.Arc.{arc_value}
use Rattle.std.specs.declared.alloc.Global.{Global}
use Rattle.std.specs.declared.sync.Arc.{Arc}
use Rattle.nostr_event.specs.EventView.{EventView}
use Rattle.nostr_filter.specs.declared.filter.Filter.{Filter}
use Rattle.nostr_filter.specs.Choice.{chosen}
use Rattle.nostr_filter.specs.Sizes.{sizes_of}
use Rattle.nostr_wire.specs.Forms.{Form}
use Rattle.relay_core.specs.declared.limits.RelayLimits.{RelayLimits}
use Rattle.relay_core.specs.declared.subs.Subscription.{Subscription}
use Rattle.relay_core.specs.Limits.{most_values}
use Rattle.relay_core.specs.Messages.{event_to, all_sent, closed}
use Rattle.relay_core.specs.Kept.{Kept, kept_of, without_sub, put}
use Rattle.relay_core.specs.Turns.{Turn, says, says_one}

abbrev pub subscription : List ℕ → List Filter → ℕ → Subscription
subscription name filters mark = record { name = name; filters = filters; mark = mark }

-- the events at the places, in their order, and that these were all
abbrev pub stored_events : List ℕ → List EventView → List ℕ → List Form
stored_events name events places = map (event_to name) (filter_map (slice_get events) places) ++ all_sent name ∷ []

-- the subscription gets what its filters choose now, and later what is published behind it
abbrev pub subscribed : List EventView → List ℕ → List Filter → List ℕ → Kept → Turn
subscribed events name filters places t =
    says (stored_events name events places) (kept_of (put (subscription name filters (length events)) t.subs) t.sessions)

-- the bytes of the values of open subscriptions
abbrev pub open_sizes : List Subscription → ℕ
open_sizes [] = 0
open_sizes (s ∷ subs) = sizes_of s.filters + open_sizes subs

-- A request ends the subscription of its name, also where it is refused.
abbrev pub requested : RelayLimits → List EventView → List ℕ → List Filter → List ℕ → Kept → Turn
requested limits events name filters places t =
    let rest = without_sub name t in
    if nat_lt limits.filters (length filters) then says_one (closed name (codes "blocked: too many filters")) rest
    else if nat_lt most_values (open_sizes rest.subs + sizes_of filters) then says_one (closed name (codes "blocked: too many filters")) rest
    else if nat_le limits.subs (length rest.subs) then says_one (closed name (codes "blocked: too many subscriptions")) rest
    else subscribed events name filters places rest

-- the events are those that the filters choose, of all that are published
abbrev pub Requests : RelayLimits → List EventView → List ℕ → List Filter → Kept → Turn → Type 0
Requests limits events name filters t turn =
    (shared : List (Arc EventView Global)) → map arc_value shared ≡ events → turn ≡ requested limits events name filters (chosen filters shared) t
