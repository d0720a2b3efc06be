-- What a round of sessions and fetches came to, in terms of the bytes that the relays' streams gave and took.
use Rattle.std.specs.Prelude.{◌≡◌, ℕ, List, Option, Some, Ok, Contains, All, slice_get}
use Rattle.item_key.specs.declared.Id.{Id}
use Rattle.item_key.specs.declared.Item.{Item}
use Rattle.neg_codec.specs.Ranges.{Span}
use Rattle.neg_codec.specs.Reading.{message_at}
use Rattle.neg_initiator.specs.declared.initiator.Outcome.{Outcome}
use Rattle.neg_initiator.specs.Listed.{IsListed}
use Rattle.neg_session.specs.Exchange.{Exchange}
use Rattle.neg_session.specs.Explaining.{Explains}
use Rattle.neg_session.specs.Ran.{IsRight}
use Rattle.neg_session.specs.declared.limits.SessionLimits.{SessionLimits}
use Rattle.nostr_event.specs.EventView.{EventView}
use Rattle.nostr_filter.specs.declared.filter.Filter.{Filter}
use Rattle.nostr_wire.specs.Writing.{text_of}
use Rattle.sharing.specs.Bases.{base_of}
use Rattle.offer_table.specs.Table.{Table}
use Rattle.fetch_plan.specs.Plan.{Planned, IsPlanOf}
use Rattle.fetch_plan.specs.declared.cell.Cell.{Cell}
use Rattle.fetch_plan.specs.declared.cell.Cell.TheVariants.{Done, Missed}
use Rattle.event_source.specs.Fetching.{Fetching}
use Rattle.mirror_core.specs.declared.end.End.{End}
use Rattle.mirror_core.specs.declared.worker.Stop.{Stop}
use Rattle.mirror_core.specs.Ends.{EachRan, FinishedWith}
use Rattle.mirror_core.specs.Fetched.{EachEnds, logs_gained}
use Rattle.mirror_core.specs.Headline.{MayHold, Offers, IsLeastPlan, Headline}
use Rattle.mirror_core.specs.Tables.{IsTableOf}
use Rattle.wire.specs.Line.{Talk}
use Rattle.wire.specs.Talk.{Says, Listened}
use Rattle.ws_link.specs.Fetched.{Come, WasFetched, bringing, ending, requesting}
use Rattle.ws_link.specs.Held.{left_of}
use Rattle.ws_link.specs.Messages.{Hears, IsSaid}
use Rattle.ws_link.specs.Spoken.{Exchanged, IsClient, Spoken, WasSpoken}
use Rattle.ws_link.specs.Wired.{Wired}
use mathlib.Core.List.{IsPrefix}

-- ---- sessions

-- The stream took a question, and gave its answer behind that. The answer lists the id between bounds between which the own items
-- lack it.
pub record IsListedOver (own : List Item) (i : Id) (p : Wired Exchange) : Type 0 where
  pub opens : Option Filter
  pub before : Talk
  pub pair : Exchange
  pub after : Talk
  pub answered : List Span
  pub exchanged : Exchanged opens before pair after
  pub read : message_at pair.answered ≡ Ok answered
  pub listed : IsListed own answered i
  pub given : IsPrefix after.given p.given
  pub taken : IsPrefix after.taken p.taken

-- These exchanges went over the stream, behind the handshake and those before them.
pub record WentOver (said : List Exchange) (p : Wired Exchange) : Type 0 where
  pub earlier : List Exchange
  pub first : Talk
  pub begun : Talk
  pub last : Talk
  pub fresh : IsClient first
  pub before : Spoken p.opens first earlier begun
  pub spoken : Spoken (left_of p.opens earlier) begun said last
  pub given : IsPrefix last.given p.given
  pub taken : IsPrefix last.taken p.taken

-- The session's exchanges went over the peer's stream. Each id that it found needed is listed by an answer of them, and what it found
-- is right for each list that explains them.
pub record IsToldOver (own : List Item) (said : List Exchange) (o : Outcome) (p : Wired Exchange) : Type 0 where
  pub went : WentOver said p
  pub listed : (i : Id) → Contains o.need.keys i → IsListedOver own i p
  pub right : (b : List Item) → Explains b said → IsRight own b o

-- The relay's peer is there, and this is so of it.
abbrev pub AtRelay : {P : Type 0} → List P → ℕ → (P → Type 0) → Type 0
AtRelay {P} peers r IsSo = (p : P) × (slice_get peers r ≡ Some p) × IsSo p

-- The headline, said of streams. Each session that finished was told over its peer's stream. Each id that the plan gives is listed over
-- the stream of the relay that it is given to. And for all lists that the relays may hold, by what went over their streams, the plan is
-- a least plan of what they offer.
pub record IsPlannedOver {P : Type 0} (stream : P → Wired Exchange) (base : ℕ → ℕ) (own : List Item) (peers : List P) (ends : List End) (table : Table) (plan : Planned) : Type 0 where
  pub said : ℕ → List Exchange
  pub told : (r : ℕ) (o : Outcome) → FinishedWith ends r o → AtRelay peers r (λ p. IsToldOver own (said r) o (stream p))
  pub given : (k : ℕ) (i : Id) (r : ℕ) → slice_get plan.gives k ≡ Some (i, r) → AtRelay peers r (λ p. IsListedOver own i (stream p))
  pub least : (holds : ℕ → List Item) → ((r : ℕ) (o : Outcome) → FinishedWith ends r o → MayHold own (holds r) (said r) o) → IsLeastPlan base (Offers own ends holds) table plan

-- What is proved of a round's peers is so of their streams, if each peer's log was spoken over its stream.
abbrev pub PlanIsOverStreams : {P : Type 0} → (P → List Exchange) → (P → ℕ) → (P → P → Type 0) → Type 0
PlanIsOverStreams {P} log faults becomes =
    (stream : P → Wired Exchange) → ((p : P) → log p ≡ (stream p).log)
    → (own : List Item) (limits : SessionLimits) (bases : List ℕ) (olds news : List P) (ends : List End) (table : Table) (plan : Planned)
    → EachRan log faults becomes own limits olds news ends → IsTableOf 0 ends table → IsPlanOf bases table.offers plan → Headline log (base_of bases) own olds news ends table plan
    → All (λ p. WasSpoken (stream p)) news
    → IsPlannedOver stream (base_of bases) own news ends table plan

-- ---- fetches

-- The stream took a request for the id, and gave behind that the message of an event with it.
pub record IsBroughtOver (id : Id) (s : Wired Fetching) : Type 0 where
  pub asked : List Id
  pub event : EventView
  pub before : Talk
  pub sent : Talk
  pub mid : Talk
  pub after : Talk
  pub wanted : Contains asked id
  pub requested : Says before sent (text_of (requesting asked))
  pub listened : Listened sent mid
  pub heard : Hears (IsSaid (bringing event)) mid after
  pub right : event.id ≡ id
  pub given : IsPrefix after.given s.given
  pub taken : IsPrefix after.taken s.taken

-- The stream took a request for the id, and of the messages that it gave behind that, up to the end of the stored events, none brought
-- an event with it.
pub record IsMissedOver (id : Id) (s : Wired Fetching) : Type 0 where
  pub asked : List Id
  pub brought : List (Option EventView)
  pub before : Talk
  pub sent : Talk
  pub mid : Talk
  pub after : Talk
  pub wanted : Contains asked id
  pub requested : Says before sent (text_of (requesting asked))
  pub came : Come sent brought mid
  pub ended : Hears (IsSaid ending) mid after
  pub none : (e : EventView) → Contains brought (Some e) → e.id ≡ id → ⊥
  pub given : IsPrefix after.given s.given
  pub taken : IsPrefix after.taken s.taken

-- a source on a lane of the relay is there, and this is so of it
abbrev pub OnLane : {S : Type 0} → List ℕ → List S → ℕ → (S → Type 0) → Type 0
OnLane {S} lanes sources relay IsSo = (w : ℕ) × (s : S) × (slice_get lanes w ≡ Some relay) × (slice_get sources w ≡ Some s) × IsSo s

-- Of each id that is done a source of its relay brought an event over its stream, and of each that is missed one didn't.
pub record AreOverStreams {S : Type 0} (stream : S → Wired Fetching) (cells : List (Id × ℕ)) (lanes : List ℕ) (sources : List S) (found : List Cell) : Type 0 where
  pub done : (k : ℕ) (i : Id) (r : ℕ) → slice_get cells k ≡ Some (i, r) → slice_get found k ≡ Some Done → OnLane lanes sources r (λ s. IsBroughtOver i (stream s))
  pub missed : (k : ℕ) (i : Id) (r : ℕ) → slice_get cells k ≡ Some (i, r) → slice_get found k ≡ Some Missed → OnLane lanes sources r (λ s. IsMissedOver i (stream s))

-- What is proved of a fetch's cells is so of the sources' streams, if each source's log was fetched over its stream.
abbrev pub CellsAreOverStreams : {S : Type 0} → (Names : Type 0) → (S → List Fetching) → Type 0
CellsAreOverStreams {S} Names log =
    (stream : S → Wired Fetching) → ((s : S) → log s ≡ (stream s).log)
    → (cells : List (Id × ℕ)) (lanes : List ℕ) (olds news : List S) (stops : List (Stop Names)) (found : List Cell)
    → EachEnds cells lanes (logs_gained log olds news) stops found
    → All (λ s. WasFetched (stream s)) news
    → AreOverStreams stream cells lanes news found
