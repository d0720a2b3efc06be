-- No text and nothing that is published brings about an OK with true.
use Rattle.std.proofs.Common.{◌≡◌, ℕ, ◌+◌, Bool, true, false, List, [], ◌∷◌, ◌++◌, length, map, Option, Some, None, inl, inr, refl, sym, ap, subst}
use Rattle.std.specs.Prelude.{MatchBool, MatchOption, filter, filter_map, slice_get, nat_le, nat_lt, codes, if◌then◌else◌}
use Rattle.std.specs.Arc.{arc_value}
use Rattle.std.specs.declared.alloc.Global.{Global}
use Rattle.std.specs.declared.sync.Arc.{Arc}
use denote.RawPtr.{null_ptr}
use Rattle.item_key.specs.declared.Id.{Id}
use Rattle.item_key.specs.declared.Item.{Item}
use Rattle.event_table.specs.Events.{matching}
use Rattle.event_store.specs.Events.{Pinned}
use Rattle.event_store.specs.declared.desk.InsertFault.TheVariants.{Full, Memory}
use Rattle.nostr_event.specs.EventView.{EventView}
use Rattle.nostr_filter.specs.declared.filter.Filter.{Filter}
use Rattle.nostr_filter.specs.Choice.{chosen}
use Rattle.nostr_filter.specs.Sizes.{sizes_of}
use Rattle.nostr_wire.specs.declared.fault.WireFault.{WireFault}
use Rattle.nostr_wire.specs.declared.fault.WireFault.TheVariants as wire
use Rattle.nostr_wire.specs.declared.messages.FromClient.{FromClient}
use Rattle.nostr_wire.specs.declared.messages.FromClient.TheVariants as client
use Rattle.nostr_wire.specs.Forms.{Form}
use Rattle.relay_core.specs.declared.limits.RelayLimits.{RelayLimits}
use Rattle.relay_core.specs.declared.storing.StoringFault.{StoringFault}
use Rattle.relay_core.specs.declared.storing.StoringFault.TheVariants.{Refused, Unkept}
use Rattle.relay_core.specs.declared.subs.Subscription.{Subscription}
use Rattle.relay_core.specs.Acknowledging.{acknowledges, AcknowledgeNone}
use Rattle.relay_core.specs.Due.{is_due, due_from}
use Rattle.relay_core.specs.Kept.{Kept, kept_of, without_session, without_sub, session_of}
use Rattle.relay_core.specs.Limits.{most_values}
use Rattle.relay_core.specs.Messages.{event_to, answered, ended, notice, okay}
use Rattle.relay_core.specs.Requests.{open_sizes, stored_events, Requests}
use Rattle.relay_core.specs.Serving.{refusal, Brings, IsServed, Serves}
use Rattle.relay_core.specs.Sessions.{Answers, GoesOn, Opens, IsPin, Begins, session}
use Rattle.relay_core.specs.Stored.{fault_answer}
use Rattle.relay_core.specs.Turns.{Turn, says_one}

-- ---- lists of messages

behind : (xs ys : List Form) → AcknowledgeNone xs → AcknowledgeNone ys → AcknowledgeNone (xs ++ ys)
behind [] ys h k = k
behind (x ∷ xs) ys h k = (h.0, behind xs ys h.1 k)

one : (m : Form) (t : Kept) (turn : Turn) → acknowledges m ≡ false → turn ≡ says_one m t → AcknowledgeNone turn.out
one m t turn quiet same = subst (λ (x : Turn). AcknowledgeNone x.out) (sym same) (quiet, tt)

-- ---- events

to_name : (name : List ℕ) (es : List EventView) → AcknowledgeNone (map (event_to name) es)
to_name name [] = tt
to_name name (e ∷ es) = (refl, to_name name es)

to_subs : (e : EventView) (subs : List Subscription) → AcknowledgeNone (map (λ (s : Subscription). event_to s.name e) subs)
to_subs e [] = tt
to_subs e (s ∷ subs) = (refl, to_subs e subs)

pub due_none : (p : ℕ) (subs : List Subscription) (events : List EventView) → AcknowledgeNone (due_from p subs events)
due_none p subs [] = tt
due_none p subs (e ∷ events) = behind _ _ (to_subs e (filter (is_due p e) subs)) (due_none (p + 1) subs events)

stored_none : (name : List ℕ) (events : List EventView) (places : List ℕ) → AcknowledgeNone (stored_events name events places)
stored_none name events places = behind _ _ (to_name name (filter_map (slice_get events) places)) (refl, tt)

-- ---- requests

either_none : (b : Bool) (x y : Turn) → AcknowledgeNone x.out → AcknowledgeNone y.out → AcknowledgeNone (if b then x else y).out
either_none true x y h k = h
either_none false x y h k = k

shared_of : List EventView → List (Arc EventView Global)
shared_of [] = []
shared_of (e ∷ es) = record { ptr = null_ptr; value = e } ∷ shared_of es

shared_are : (es : List EventView) → map arc_value (shared_of es) ≡ es
unfolding shared_of
shared_are [] = refl
shared_are (e ∷ es) = ap (λ xs. e ∷ xs) (shared_are es)

request_none : (limits : RelayLimits) (events : List EventView) (name : List ℕ) (filters : List Filter) (t : Kept) (turn : Turn) → Requests limits events name filters t turn → AcknowledgeNone turn.out
request_none limits events name filters t turn h =
    let rest = without_sub name t in
    let places = chosen filters (shared_of events) in
    subst (λ (x : Turn). AcknowledgeNone x.out) (sym (h (shared_of events) (shared_are events)))
    (either_none (nat_lt limits.filters (length filters)) _ _ (refl, tt)
    (either_none (nat_lt most_values (open_sizes rest.subs + sizes_of filters)) _ _ (refl, tt)
    (either_none (nat_le limits.subs (length rest.subs)) _ _ (refl, tt) (stored_none name events places))))

-- ---- sessions

answer_none : (limit : ℕ) (items : List Item) (name query : List ℕ) (t : Kept) (turn : Turn) → Answers limit items name query t turn → AcknowledgeNone turn.out
answer_none limit items name query t turn (inl h) = one (ended name (codes "invalid: bad message")) (without_session name t) turn refl h.1
answer_none limit items name query t turn (inr h) = one (answered name h.0) t turn refl h.2

found_none : (o : Option Pinned) (limits : RelayLimits) (name query : List ℕ) (t : Kept) (turn : Turn)
    → MatchOption o (turn ≡ says_one (ended name (codes "closed: no such session")) t) (λ (s : Pinned). Answers limits.limit s.roll name query t turn) → AcknowledgeNone turn.out
found_none None limits name query t turn h = one (ended name (codes "closed: no such session")) t turn refl h
found_none (Some s) limits name query t turn h = answer_none limits.limit s.roll name query t turn h

goes_on_none : (limits : RelayLimits) (name query : List ℕ) (t : Kept) (turn : Turn) → GoesOn limits name query t turn → AcknowledgeNone turn.out
goes_on_none limits name query t turn h = found_none (session_of name t.sessions) limits name query t turn h

opened_none : (crowd big : Bool) (limits : RelayLimits) (events : List EventView) (name : List ℕ) (filter : Filter) (query : List ℕ) (t : Kept) (turn : Turn)
    → MatchBool crowd (turn ≡ says_one (ended name (codes "blocked: too many sessions")) t)
    (MatchBool big (turn ≡ says_one (ended name (codes "blocked: this query is too big")) t) ((s : Pinned) × IsPin filter events s × Begins limits s name query t turn))
    → AcknowledgeNone turn.out
opened_none true big limits events name filter query t turn h = one (ended name (codes "blocked: too many sessions")) t turn refl h
opened_none false true limits events name filter query t turn h = one (ended name (codes "blocked: this query is too big")) t turn refl h
opened_none false false limits events name filter query t turn h = goes_on_none limits name query (kept_of t.subs (t.sessions ++ session name h.0 ∷ [])) turn h.2

open_none : (limits : RelayLimits) (events : List EventView) (name : List ℕ) (filter : Filter) (query : List ℕ) (t : Kept) (turn : Turn) → Opens limits events name filter query t turn → AcknowledgeNone turn.out
open_none limits events name filter query t turn h =
    let rest = without_session name t in
    opened_none (nat_le limits.sessions (length rest.sessions)) (nat_lt limits.records (length (matching filter events))) limits events name filter query rest turn h

-- ---- texts

taken_none : (b : Bool) (e : EventView) (t : Kept) (turn : Turn)
    → MatchBool b (turn ≡ says_one (okay e.id false (codes "blocked: this relay takes no events")) t) (turn ≡ record { out = []; store = Some e; kept = t }) → AcknowledgeNone turn.out
taken_none true e t turn h = one (okay e.id false (codes "blocked: this relay takes no events")) t turn refl h
taken_none false e t turn h = subst (λ (x : Turn). AcknowledgeNone x.out) (sym h) tt

brings_none : (limits : RelayLimits) (events : List EventView) (t : Kept) (m : FromClient) (turn : Turn) → Brings limits events t m turn → AcknowledgeNone turn.out
brings_none limits events t (client.Event e) turn h = taken_none limits.is_read_only e.value t turn h
brings_none limits events t (client.Req name filters) turn h = request_none limits events name filters t turn h
brings_none limits events t (client.Close name) turn h = subst (λ (x : Turn). AcknowledgeNone x.out) (sym h) tt
brings_none limits events t (client.NegOpen name filter query) turn h = open_none limits events name filter query t turn h
brings_none limits events t (client.NegMsg name query) turn h = goes_on_none limits name query t turn h
brings_none limits events t (client.NegClose name) turn h = subst (λ (x : Turn). AcknowledgeNone x.out) (sym h) tt

refusal_none : (f : WireFault) → acknowledges (refusal f) ≡ false
refusal_none wire.Json = refl
refusal_none wire.Kind = refl
refusal_none wire.Arity = refl
refusal_none wire.Sub = refl
refusal_none (wire.Event f (Some id)) = refl
refusal_none (wire.Event f None) = refl
refusal_none wire.Filter = refl
refusal_none wire.HexText = refl
refusal_none wire.Memory = refl

served_none : (b : Bool) (limits : RelayLimits) (events : List EventView) (text : List ℕ) (t : Kept) (turn : Turn)
    → MatchBool b (turn ≡ says_one (notice (codes "invalid: message too long")) t) (IsServed limits events text t turn) → AcknowledgeNone turn.out
served_none true limits events text t turn h = one (notice (codes "invalid: message too long")) t turn refl h
served_none false limits events text t turn (inl h) = brings_none limits events t h.0 turn h.2
served_none false limits events text t turn (inr h) = one (refusal h.0) t turn (refusal_none h.0) h.3

pub text_none : (limits : RelayLimits) (events : List EventView) (text : List ℕ) (t : Kept) (turn : Turn) → Serves limits events text t turn → AcknowledgeNone turn.out
text_none limits events text t turn h = served_none (nat_lt limits.text (length text)) limits events text t turn h

-- ---- events that aren't stored

pub fault_none : {J : Type 0} (id : Id) (fault : StoringFault J) → acknowledges (fault_answer id fault) ≡ false
fault_none id (Refused (Full filled)) = refl
fault_none id (Refused Memory) = refl
fault_none id Unkept = refl
