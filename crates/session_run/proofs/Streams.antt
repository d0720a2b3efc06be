-- What is known of links, said of their streams alone.
use Rattle.std.proofs.Common.{◌≡◌, ◌∙◌, ℕ, List, Some, sym, ap, map}
use Rattle.std.specs.Prelude.{All, slice_get}
use Rattle.core.specs.Option.{option_map}
use Rattle.std.proofs.lemmas.List.Elements.{All-get_or}
use Rattle.std.proofs.lemmas.Option.{get_or_from_slice_get, slice_get-map, slice_get_within}
use Rattle.item_key.specs.declared.Id.{Id}
use Rattle.item_key.specs.declared.Item.{Item}
use Rattle.neg_session.specs.Exchange.{Exchange}
use Rattle.offer_table.specs.Table.{Table}
use Rattle.fetch_plan.specs.Plan.{Planned}
use Rattle.fetch_plan.specs.declared.cell.Cell.{Cell}
use Rattle.fetch_plan.specs.declared.cell.Cell.TheVariants.{Free, Done, Missed}
use Rattle.event_source.specs.Fetching.{Fetching}
use Rattle.mirror_core.specs.declared.end.End.{End}
use Rattle.stream_laws.specs.Streams.{AtRelay, OnLane, IsPlannedOver, AreOverStreams}
use Rattle.ws_link.specs.Wired.{Wired}
use Rattle.session_run.specs.Rounds.{CameOver, IsOverIfFetched}
use Rattle.session_run.specs.Synced.{log_of}
use Rattle.session_run.proofs.Headlines.{logged}
use mathlib.Core.List.{map-map}

-- ---- what is so of the stream behind one of them

module _ {P W : Type 0} (stream : P → W) where
  found_behind : (links : List P) (k : ℕ) (p : P) → slice_get links k ≡ Some p → slice_get (map stream links) k ≡ Some (stream p)
  found_behind links k p found = slice_get-map stream links k ∙ ap (option_map stream) found

  at_relay : (links : List P) (r : ℕ) (IsSo : W → Type 0) → AtRelay links r (λ p. IsSo (stream p)) → AtRelay (map stream links) r IsSo
  at_relay links r IsSo at = (stream at.0, found_behind links r at.0 at.1, at.2)

  on_lane : (lanes : List ℕ) (links : List P) (r : ℕ) (IsSo : W → Type 0) → OnLane lanes links r (λ p. IsSo (stream p)) → OnLane lanes (map stream links) r IsSo
  on_lane lanes links r IsSo on = (on.0, stream on.1, on.2, found_behind links on.0 on.1 on.3, on.4)

-- ---- of a round

pub logs_of_streams : {P : Type 0} (stream : P → Wired Exchange) (peers : List P) → map log_of (map stream peers) ≡ map (logged (λ p. (stream p).log) (λ p. (stream p).faults)) peers
logs_of_streams stream peers = map-map log_of stream peers

pub planned_over_streams : {P : Type 0} (stream : P → Wired Exchange) (base : ℕ → ℕ) (own : List Item) (peers : List P) (ends : List End) (table : Table) (plan : Planned)
    → IsPlannedOver stream base own peers ends table plan → IsPlannedOver (λ s. s) base own (map stream peers) ends table plan
planned_over_streams stream base own peers ends table plan over = record {
  said = over.said;
  told = λ r o finished. at_relay stream peers r _ (over.told r o finished);
  given = λ k i r gives. at_relay stream peers r _ (over.given k i r gives);
  least = over.least;
}

pub came_over_streams : {S : Type 0} (stream : S → Wired Fetching) (gives : List (Id × ℕ)) (lanes : List ℕ) (sources : List S) (cells : List Cell)
    → AreOverStreams stream gives lanes sources cells → CameOver gives cells
came_over_streams stream gives lanes sources cells over = (
  lanes,
  map stream sources,
  record {
    done = λ k i r is done. on_lane stream lanes sources r _ (over.done k i r is done);
    missed = λ k i r is missed. on_lane stream lanes sources r _ (over.missed k i r is missed);
  },
)

-- ---- of cells that stayed free

free_at : (cells : List Cell) (k : ℕ) (c : Cell) → All (λ x. x ≡ Free) cells → slice_get cells k ≡ Some c → c ≡ Free
free_at cells k c free is =
    sym (get_or_from_slice_get cells k c c is) ∙ All-get_or (λ x. x ≡ Free) cells k c (slice_get_within cells k c is) free

pub over_by_free : {S : Type 0} (log : S → List Fetching) (gives : List (Id × ℕ)) (lanes : List ℕ) (sources : List S) (cells : List Cell)
    → All (λ x. x ≡ Free) cells → IsOverIfFetched log gives lanes sources cells
over_by_free log gives lanes sources cells free stream logs fetched = record {
  done = λ k i r is done. let e : Done ≡ Free = free_at cells k Done free done in absurd (cc);
  missed = λ k i r is missed. let e : Missed ≡ Free = free_at cells k Missed free missed in absurd (cc);
}
