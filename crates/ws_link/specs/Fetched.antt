-- Which events were asked for over a stream, and which it gave.
use Rattle.std.specs.Prelude.{◌≡◌, ◌⊎◌, ◌&&◌, ℕ, List, [], ◌∷◌, ◌++◌, map, Bool, not, if◌then◌else◌, Option, None, Some, bytes_eq, codes}
use Rattle.std.specs.List.{list_any}
use Rattle.item_key.specs.declared.Id.{Id}
use Rattle.nostr_event.specs.EventView.{EventView}
use Rattle.nostr_filter.specs.declared.filter.Filter.{Filter}
use Rattle.nostr_wire.specs.declared.messages.FromClient.TheVariants as client
use Rattle.nostr_wire.specs.declared.messages.FromRelay.TheVariants as relay
use Rattle.nostr_wire.specs.Forms.{Form, client_form, event_form, relay_form, relay_table}
use Rattle.nostr_wire.specs.Reading.{Reads}
use Rattle.nostr_wire.specs.Writing.{text_of}
use Rattle.event_source.specs.Fetching.{Fetching}
use Rattle.websocket.specs.Content.{Content, text}
use Rattle.wire.specs.Line.{Talk}
use Rattle.wire.specs.Talk.{Says}
use Rattle.ws_link.specs.Messages.{Hears, IsSaid}
use Rattle.ws_link.specs.Spoken.{IsClient}
use Rattle.ws_link.specs.Wired.{Wired}
use mathlib.Core.List.{IsPrefix}

-- ---- what is said

-- the name of a fetch's subscription
abbrev pub fetch : List ℕ
fetch = codes "fetch"

-- the filter that just the events with these ids match
abbrev pub with_ids : List Id → Filter
with_ids ids =
    record { ids = Some (map (λ i. i.0) ids); authors = None; kinds = None; tags = []; since = None; until = None; limit = None }

-- the message that asks for the events with these ids
abbrev pub requesting : List Id → Form
requesting ids = client_form (client.Req fetch (with_ids ids ∷ []))

-- the message that ends the subscription
abbrev pub closing : Form
closing = client_form (client.Close fetch)

-- ---- what comes

-- the message of an event for the fetch
abbrev pub bringing : EventView → Form
bringing e = event_form fetch e

-- the message that ends the stored events
abbrev pub ending : Form
ending = relay_form (relay.Eose fetch)

-- an event for the fetch, or the end of the stored events
abbrev pub IsForFetch : Form → Type 0
IsForFetch form = ((e : EventView) × (form ≡ bringing e)) ⊎ (form ≡ ending)

-- What was read brings this event for the fetch. Where none is told, it neither brings one nor ends the stored events.
abbrev pub Brings : Option EventView → Option Content → Type 0
Brings None m = (words : List ℕ) (form : Form) → m ≡ Some (text words) → Reads relay_table words form → IsForFetch form → ⊥
Brings (Some e) m = IsSaid (bringing e) m

-- messages came, one behind another, which brought these
abbrev pub Come : Talk → List (Option EventView) → Talk → Type 0
Come old [] new = new ≡ old
Come old (b ∷ bs) new = (mid : Talk) × Hears (Brings b) old mid × Come mid bs new

-- ---- what is kept of it

-- one of the ids is this one
abbrev pub has_id : List Id → Id → Bool
has_id ids id = list_any (λ i. bytes_eq i.0 id.0) ids

abbrev pub ids_in : List EventView → List Id
ids_in events = map (λ e. e.id) events

-- the event was asked for, and none of those kept has its id
abbrev pub is_due : List Id → List EventView → EventView → Bool
is_due asked kept e = has_id asked e.id && not (has_id (ids_in kept) e.id)

-- what is kept, with the event that is brought if it is due
abbrev pub keep : List Id → List EventView → Option EventView → List EventView
keep asked kept None = kept
keep asked kept (Some e) = if is_due asked kept e then kept ++ e ∷ [] else kept

-- the same of one after another
abbrev pub keep_all : List Id → List EventView → List (Option EventView) → List EventView
keep_all asked kept [] = kept
keep_all asked kept (b ∷ bs) = keep_all asked (keep asked kept b) bs

-- ---- a fetch

-- Messages came until the end of the stored events. Of the events that they brought these were kept: the first with each id that was
-- asked for, in the order in which they came.
pub record Answers (asked : List Id) (events : List EventView) (old new : Talk) : Type 0 where
  pub brought : List (Option EventView)
  pub mid : Talk
  pub came : Come old brought mid
  pub ended : Hears (IsSaid ending) mid new
  pub kept : events ≡ keep_all asked [] brought

-- The stream took the frame of the request for these ids, gave the answer behind it, and took the frame that ends the subscription.
pub record IsFetched (asked : List Id) (events : List EventView) (old new : Talk) : Type 0 where
  pub sent : Talk
  pub heard : Talk
  pub requested : Says old sent (text_of (requesting asked))
  pub answered : Answers asked events sent heard
  pub closed : Says heard new (text_of closing)

-- these fetches followed one another, and each gave the ids of such events
abbrev pub AreFetched : Talk → List Fetching → Talk → Type 0
AreFetched old [] new = new ≡ old
AreFetched old (f ∷ fs) new =
    (mid : Talk) × (events : List EventView) × IsFetched f.asked events old mid × (f.given ≡ ids_in events) × AreFetched mid fs new

-- All that was logged was fetched, from the handshake on, in bytes that the stream took and gave.
pub record WasFetched (s : Wired Fetching) : Type 0 where
  pub first : Talk
  pub last : Talk
  pub fresh : IsClient first
  pub fetched : AreFetched first s.log last
  pub given : IsPrefix last.given s.given
  pub taken : IsPrefix last.taken s.taken

-- What the stream gave and took between the two is one fetch of these ids, which gave these events.
pub record Gives (asked : List Id) (events : List EventView) (old new : Wired Fetching) : Type 0 where
  pub first : Talk
  pub last : Talk
  pub fetched : IsFetched asked events first last
  pub given_first : first.given ≡ old.given
  pub taken_first : first.taken ≡ old.taken
  pub given : last.given ≡ new.given
  pub taken : last.taken ≡ new.taken
