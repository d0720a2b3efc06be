-- A text whose event is to be stored has no other answer, and changes nothing that is kept.
use Rattle.std.proofs.Common.{◌≡◌, ℕ, ◌+◌, Bool, true, false, List, [], ◌∷◌, ◌++◌, length, map, Option, Some, None, inl, inr, refl, sym, ap, ◌∙◌, subst}
use Rattle.std.specs.Prelude.{MatchBool, MatchOption, nat_le, nat_lt, codes, if◌then◌else◌}
use Rattle.std.specs.Arc.{arc_value}
use Rattle.std.specs.declared.alloc.Global.{Global}
use Rattle.std.specs.declared.sync.Arc.{Arc}
use denote.RawPtr.{null_ptr}
use Rattle.event_table.specs.Events.{matching}
use Rattle.event_store.specs.Events.{Pinned}
use Rattle.item_key.specs.declared.Item.{Item}
use Rattle.nostr_event.specs.EventView.{EventView}
use Rattle.nostr_filter.specs.declared.filter.Filter.{Filter}
use Rattle.nostr_filter.specs.Choice.{chosen}
use Rattle.nostr_filter.specs.Sizes.{sizes_of}
use Rattle.nostr_wire.specs.declared.messages.FromClient.{FromClient}
use Rattle.nostr_wire.specs.declared.messages.FromClient.TheVariants as client
use Rattle.nostr_wire.specs.Forms.{Form, client_form, client_table}
use Rattle.nostr_wire.specs.Reading.{Reads}
use Rattle.relay_core.specs.declared.limits.RelayLimits.{RelayLimits}
use Rattle.relay_core.specs.Kept.{Kept, kept_of, without_session, without_sub, session_of}
use Rattle.relay_core.specs.Limits.{most_values}
use Rattle.relay_core.specs.Messages.{answered, ended, notice, okay}
use Rattle.relay_core.specs.Requests.{open_sizes, Requests}
use Rattle.relay_core.specs.Serving.{refusal, Takes, Brings, IsServed, Serves}
use Rattle.relay_core.specs.Sessions.{Answers, GoesOn, Opens, IsPin, Begins, session}
use Rattle.relay_core.specs.Turns.{Turn, says, says_one}
use Rattle.ws_serve.specs.Gathered.{Stores}

store_of : (turn told : Turn) → turn ≡ told → turn.store ≡ told.store
store_of turn told same = ap (λ (t : Turn). t.store) same

-- ---- requests

either_quiet : (b : Bool) (x y : Turn) → x.store ≡ None → y.store ≡ None → (if b then x else y).store ≡ None
either_quiet true x y h k = h
either_quiet false x y h k = k

shared_of : List EventView → List (Arc EventView Global)
shared_of [] = []
shared_of (e ∷ es) = record { ptr = null_ptr; value = e } ∷ shared_of es

shared_are : (es : List EventView) → map arc_value (shared_of es) ≡ es
unfolding shared_of
shared_are [] = refl
shared_are (e ∷ es) = ap (λ xs. e ∷ xs) (shared_are es)

request_quiet : (limits : RelayLimits) (events : List EventView) (name : List ℕ) (filters : List Filter) (t : Kept) (turn : Turn) → Requests limits events name filters t turn → turn.store ≡ None
request_quiet limits events name filters t turn h =
    let rest = without_sub name t in
    store_of turn _ (h (shared_of events) (shared_are events))
    ∙ either_quiet (nat_lt limits.filters (length filters)) _ _ refl
    (either_quiet (nat_lt most_values (open_sizes rest.subs + sizes_of filters)) _ _ refl
    (either_quiet (nat_le limits.subs (length rest.subs)) _ _ refl refl))

-- ---- sessions

answer_quiet : (limit : ℕ) (items : List Item) (name query : List ℕ) (t : Kept) (turn : Turn) → Answers limit items name query t turn → turn.store ≡ None
answer_quiet limit items name query t turn (inl h) = store_of turn (says_one (ended name (codes "invalid: bad message")) (without_session name t)) h.1
answer_quiet limit items name query t turn (inr h) = store_of turn (says_one (answered name h.0) t) h.2

found_quiet : (o : Option Pinned) (limits : RelayLimits) (name query : List ℕ) (t : Kept) (turn : Turn)
    → MatchOption o (turn ≡ says_one (ended name (codes "closed: no such session")) t) (λ (s : Pinned). Answers limits.limit s.roll name query t turn) → turn.store ≡ None
found_quiet None limits name query t turn h = store_of turn (says_one (ended name (codes "closed: no such session")) t) h
found_quiet (Some s) limits name query t turn h = answer_quiet limits.limit s.roll name query t turn h

goes_on_quiet : (limits : RelayLimits) (name query : List ℕ) (t : Kept) (turn : Turn) → GoesOn limits name query t turn → turn.store ≡ None
goes_on_quiet limits name query t turn h = found_quiet (session_of name t.sessions) limits name query t turn h

opened_quiet : (crowd big : Bool) (limits : RelayLimits) (events : List EventView) (name : List ℕ) (filter : Filter) (query : List ℕ) (t : Kept) (turn : Turn)
    → MatchBool crowd (turn ≡ says_one (ended name (codes "blocked: too many sessions")) t)
    (MatchBool big (turn ≡ says_one (ended name (codes "blocked: this query is too big")) t) ((s : Pinned) × IsPin filter events s × Begins limits s name query t turn))
    → turn.store ≡ None
opened_quiet true big limits events name filter query t turn h = store_of turn (says_one (ended name (codes "blocked: too many sessions")) t) h
opened_quiet false true limits events name filter query t turn h = store_of turn (says_one (ended name (codes "blocked: this query is too big")) t) h
opened_quiet false false limits events name filter query t turn h = goes_on_quiet limits name query (kept_of t.subs (t.sessions ++ session name h.0 ∷ [])) turn h.2

open_quiet : (limits : RelayLimits) (events : List EventView) (name : List ℕ) (filter : Filter) (query : List ℕ) (t : Kept) (turn : Turn) → Opens limits events name filter query t turn → turn.store ≡ None
open_quiet limits events name filter query t turn h =
    let rest = without_session name t in
    opened_quiet (nat_le limits.sessions (length rest.sessions)) (nat_lt limits.records (length (matching filter events))) limits events name filter query rest turn h

-- ---- texts

stored_not : (turn : Turn) (e : EventView) → turn.store ≡ None → turn.store ≡ Some e → ⊥
stored_not turn e none some = cc (none, some)

-- the turn stores the event, and does nothing else
abbrev IsFound : RelayLimits → List ℕ → EventView → Kept → Turn → Type 0
IsFound limits text e t turn = Stores limits text e × (turn ≡ record { out = []; store = Some e; kept = t })

event_stores : (limits : RelayLimits) (text : List ℕ) (e : Arc EventView Global) → nat_lt limits.text (length text) ≡ false
    → Reads client_table text (client_form (client.Event e)) → limits.is_read_only ≡ false → Stores limits text e.value
event_stores limits text e fits reads takes =
    λ events kept.
    let turn : Turn = record { out = []; store = Some e.value; kept = kept } in
    let taken : Takes limits e.value kept turn =
    subst (λ (b : Bool). MatchBool b (turn ≡ says_one (okay e.value.id false (codes "blocked: this relay takes no events")) kept) (turn ≡ record { out = []; store = Some e.value; kept = kept })) (sym takes) refl in
    subst (λ (b : Bool). MatchBool b (turn ≡ says_one (notice (codes "invalid: message too long")) kept) (IsServed limits events text kept turn)) (sym fits) (inl (client.Event e, reads, taken))

taken_found : (b : Bool) (limits : RelayLimits) (text : List ℕ) (ev : Arc EventView Global) (e : EventView) (t : Kept) (turn : Turn) → nat_lt limits.text (length text) ≡ false
    → Reads client_table text (client_form (client.Event ev)) → limits.is_read_only ≡ b
    → MatchBool b (turn ≡ says_one (okay ev.value.id false (codes "blocked: this relay takes no events")) t) (turn ≡ record { out = []; store = Some ev.value; kept = t })
    → turn.store ≡ Some e → IsFound limits text e t turn
taken_found true limits text ev e t turn fits reads takes h some = absurd (stored_not turn e (store_of turn _ h) some)
taken_found false limits text ev e t turn fits reads takes h some =
    let told : turn.store ≡ Some ev.value = store_of turn _ h in
    let same : e ≡ ev.value = cc (some, told) in
    rw same (event_stores limits text ev fits reads takes, h)

brought_found : (limits : RelayLimits) (events : List EventView) (text : List ℕ) (m : FromClient) (e : EventView) (t : Kept) (turn : Turn) → nat_lt limits.text (length text) ≡ false
    → Reads client_table text (client_form m) → Brings limits events t m turn → turn.store ≡ Some e → IsFound limits text e t turn
brought_found limits events text (client.Event ev) e t turn fits reads h some = taken_found limits.is_read_only limits text ev e t turn fits reads refl h some
brought_found limits events text (client.Req name filters) e t turn fits reads h some = absurd (stored_not turn e (request_quiet limits events name filters t turn h) some)
brought_found limits events text (client.Close name) e t turn fits reads h some = absurd (stored_not turn e (store_of turn _ h) some)
brought_found limits events text (client.NegOpen name filter query) e t turn fits reads h some = absurd (stored_not turn e (open_quiet limits events name filter query t turn h) some)
brought_found limits events text (client.NegMsg name query) e t turn fits reads h some = absurd (stored_not turn e (goes_on_quiet limits name query t turn h) some)
brought_found limits events text (client.NegClose name) e t turn fits reads h some = absurd (stored_not turn e (store_of turn _ h) some)

served_found : (b : Bool) (limits : RelayLimits) (events : List EventView) (text : List ℕ) (e : EventView) (t : Kept) (turn : Turn) → nat_lt limits.text (length text) ≡ b
    → MatchBool b (turn ≡ says_one (notice (codes "invalid: message too long")) t) (IsServed limits events text t turn) → turn.store ≡ Some e → IsFound limits text e t turn
served_found true limits events text e t turn fits h some = absurd (stored_not turn e (store_of turn _ h) some)
served_found false limits events text e t turn fits (inl h) some = brought_found limits events text h.0 e t turn fits h.1 h.2 some
served_found false limits events text e t turn fits (inr h) some = absurd (stored_not turn e (store_of turn _ h.3) some)

pub text_found : (limits : RelayLimits) (events : List EventView) (text : List ℕ) (e : EventView) (t : Kept) (turn : Turn) → Serves limits events text t turn → turn.store ≡ Some e
    → Stores limits text e × (turn ≡ record { out = []; store = Some e; kept = t })
text_found limits events text e t turn h some = served_found (nat_lt limits.text (length text)) limits events text e t turn refl h some
