-- How fetches go on.
use Rattle.std.proofs.Common.{◌≡◌, ℕ, List, [], ◌∷◌, ◌++◌, map, true, false, Option, None, Some, Result, Ok, Err, OnOk, OnErr, IfOk, Vec, refl, sym, ap, ◌∙◌}
use Rattle.std.specs.Arc.{arc_value}
use Rattle.std.specs.declared.sync.Arc.{Arc as AnArc}
use Rattle.std.specs.declared.alloc.Global.{Global}
use Rattle.std.proofs.lemmas.List.{map-append}
use Rattle.item_key.specs.declared.Id.{Id}
use Rattle.nostr_event.specs.EventView.{EventView}
use Rattle.event_source.specs.Fetching.{Fetching, fetching, ids_of}
use Rattle.wire.specs.Line.{Line, Talk, talk_of}
use Rattle.wire.specs.Talk.{Grows}
use Rattle.wire.proofs.Growing.{prefix_self}
use Rattle.ws_socket.specs.declared.fault.LinkFault.{LinkFault}
use Rattle.ws_link.specs.declared.link.Link.{Link}
use Rattle.ws_link.specs.Fetched.{Answers, AreFetched, Brings, Come, IsFetched, WasFetched, Gives, ending, ids_in, is_due, keep, keep_all}
use Rattle.ws_link.specs.Held.{given_by, taken_by, StandsFetched}
use Rattle.ws_link.specs.Messages.{Hears, IsSaid}
use Rattle.ws_link.specs.Spoken.{IsClient}
use Rattle.ws_link.specs.Taken.{Keeps}
use Rattle.ws_link.specs.Wired.{Wired}

-- ---- what is kept

pub due_is_kept : (asked : List Id) (events after : List (AnArc EventView Global)) (event : AnArc EventView Global) → after ≡ events ++ event ∷ []
    → true ≡ is_due asked (map arc_value events) (arc_value event) → map arc_value after ≡ keep asked (map arc_value events) (Some (arc_value event))
due_is_kept asked events after event e due = rw (e, sym due) (map-append arc_value events (event ∷ []))

pub else_none_is : (asked : List Id) (events : List EventView) (event : EventView) → false ≡ is_due asked events event → events ≡ keep asked events (Some event)
else_none_is asked events event due = rw (sym due) refl

keep_more : (asked : List Id) (kept : List EventView) (bs : List (Option EventView)) (b : Option EventView) → keep_all asked kept (bs ++ b ∷ []) ≡ keep asked (keep_all asked kept bs) b
keep_more asked kept [] b = refl
keep_more asked kept (x ∷ bs) b = keep_more asked (keep asked kept x) bs b

come_more : (old mid new : Talk) (bs : List (Option EventView)) (b : Option EventView) → Come old bs mid → Hears (Brings b) mid new → Come old (bs ++ b ∷ []) new
come_more old mid new [] b h k = (new, rw h at k, refl)
come_more old mid new (x ∷ bs) b h k = (h.0, h.1, come_more h.0 mid new bs b h.2 k)

-- messages came, and these events were kept of them
abbrev pub Kept : List Id → Talk → List EventView → Talk → Type 0
Kept asked old events new = (bs : List (Option EventView)) × Come old bs new × (events ≡ keep_all asked [] bs)

pub kept_none : (asked : List Id) (old : Talk) (events : List (AnArc EventView Global)) → events ≡ [] → Kept asked old (map arc_value events) old
kept_none asked old events e = ([], refl, rw e refl)

pub kept_more : (asked : List Id) (old mid new : Talk) (events after : List EventView) → Kept asked old events mid → Keeps asked mid events new after → Kept asked old after new
kept_more asked old mid new events after h k =
    (h.0 ++ k.0 ∷ [], come_more old mid new h.0 k.0 h.1 k.1, k.2 ∙ (ap (λ z. keep asked z k.0) h.2 ∙ sym (keep_more asked [] h.0 k.0)))

pub answered : (asked : List Id) (old mid new : Talk) (events after : List EventView) → Kept asked old events mid → Hears (IsSaid ending) mid new → after ≡ events → Answers asked after old new
answered asked old mid new events after h k e =
    record { brought = h.0; mid = mid; came = h.1; ended = k; kept = e ∙ h.2 }

-- ---- fetches

fetched_more : (fs : List Fetching) (old mid new : Talk) (f : Fetching) (events : List EventView) → AreFetched old fs mid → IsFetched f.asked events mid new → f.given ≡ ids_in events → AreFetched old (fs ++ f ∷ []) new
fetched_more [] old mid new f events h k e = (new, events, rw h at k, e, refl)
fetched_more (x ∷ fs) old mid new f events h k e = (h.0, h.1, h.2, h.3, fetched_more fs h.0 mid new f events h.4 k e)

ids_match : (events : List (AnArc EventView Global)) → ids_of events ≡ ids_in (map arc_value events)
ids_match [] = refl
ids_match (e ∷ es) = ap (λ z. (arc_value e).id ∷ z) (ids_match es)

pub stands_unused : (log : List Fetching) (wire : Talk) → log ≡ [] → IsClient wire → (first : Talk) × IsClient first × AreFetched first log wire
stands_unused log wire e h = rw e (wire, h, refl)

module _ {S : Type 0} where
  pub was_fetched : (s : Wired Fetching) (wire : Option (Line S)) (given taken : List ℕ)
      → s.given ≡ given_by wire given → s.taken ≡ taken_by wire taken → StandsFetched s.log wire given taken → WasFetched s
  was_fetched s None given taken e f h =
      record { first = h.0; last = h.1; fresh = h.2; fetched = h.3; given = rw e h.4; taken = rw f h.5 }
  was_fetched s (Some wire) given taken e f h =
      record { first = h.0; last = talk_of wire; fresh = h.1; fetched = h.2; given = rw e (prefix_self wire.given); taken = rw f (prefix_self wire.taken) }

  gives_wires : (old new : Wired Fetching) (wire wire2 : Line S) (asked : List Id) (events : List EventView)
      → IsFetched asked events (talk_of wire) (talk_of wire2) → old.given ≡ wire.given → old.taken ≡ wire.taken → new.given ≡ wire2.given → new.taken ≡ wire2.taken
      → Gives asked events old new
  gives_wires old new wire wire2 asked events h a b c d =
      record { first = talk_of wire; last = talk_of wire2; fetched = h; given_first = sym a; taken_first = sym b; given = sym c; taken = sym d }

module _ {S K : Type 0} where
  -- the wire is put back behind a fetch, or let go
  pub fetched_stands : (r : Result (Vec (AnArc EventView Global) Global) LinkFault) (old new : Link S K Fetching) (log : List Fetching) (wire wire2 : Line S) (given taken : List ℕ) (asked : List Id)
      → StandsFetched log (Some wire) given taken → IfOk r (λ events. IsFetched asked (map arc_value events.items) (talk_of wire) (talk_of wire2))
      → IfOk r (λ events. old.log.items ≡ log ++ fetching asked (ids_of events.items) ∷ []) → OnErr r (old.log.items ≡ log) → Grows (talk_of wire) (talk_of wire2) → old.wire ≡ None
      → OnOk r (new ≡ record old { wire = Some wire2 }) → OnErr r (new ≡ record old { given = wire2.given; taken = wire2.taken })
      → StandsFetched new.log.items new.wire new.given new.taken
  fetched_stands (Ok events) old new log wire wire2 given taken asked was fetched logged kept grows out ok err =
      rw (ok, logged) (was.0, was.1, fetched_more log was.0 (talk_of wire) (talk_of wire2) (fetching asked (ids_of events.items)) (map arc_value events.items) was.2 fetched (ids_match events.items))
  fetched_stands (Err f) old new log wire wire2 given taken asked was fetched logged kept grows out ok err =
      rw (err, out, kept) (was.0, talk_of wire, was.1, was.2, grows.0, grows.1)

  -- what a fetch that went well gave
  pub fetch_gave : (r : Result (Vec (AnArc EventView Global) Global) LinkFault) (old new : Link S K Fetching) (wire wire2 : Line S) (asked : List Id) (before after : Wired Fetching) → old.wire ≡ None
      → IfOk r (λ events. IsFetched asked (map arc_value events.items) (talk_of wire) (talk_of wire2)) → OnOk r (new ≡ record old { wire = Some wire2 })
      → before.given ≡ wire.given → before.taken ≡ wire.taken → after.given ≡ given_by new.wire new.given → after.taken ≡ taken_by new.wire new.taken
      → IfOk r (λ events. Gives asked (map arc_value events.items) before after)
  fetch_gave (Ok events) old new wire wire2 asked before after out fetched ok a b c d = gives_wires before after wire wire2 asked (map arc_value events.items) fetched a b (rw ok at c) (rw ok at d)
  fetch_gave (Err f) old new wire wire2 asked before after out fetched ok a b c d = tt
