-- The ids of the events that a source gave.
use Rattle.std.proofs.Common.{◌≡◌, ◌<◌, ℕ, List, Some, length, get_or, sym, ap, ◌∙◌, arith}
use Rattle.std.specs.Prelude.{slice_get, Contains}
use Rattle.std.specs.Arc.{arc_value}
use Rattle.std.specs.declared.sync.Arc.{Arc as AnArc}
use Rattle.std.specs.declared.alloc.Global.{Global as AGlobal}
use Rattle.std.proofs.lemmas.List.{get_or-map, length-map}
use Rattle.std.proofs.lemmas.Option.{get_or_from_slice_get}
use Rattle.item_key.specs.declared.Id.{Id}
use Rattle.nostr_event.specs.EventView.{EventView}
use Rattle.event_source.specs.Fetching.{ids_of}

-- the id at the place of an event
pub id_at : (given : List (AnArc EventView AGlobal)) (k : ℕ) (e : AnArc EventView AGlobal) (v : EventView) (id other : Id) → k < length given → e ≡ get_or given k e → v ≡ arc_value e → id ≡ v.id → get_or (ids_of given) k other ≡ id
id_at given k e v id other lt is value its =
    get_or-map (λ (z : AnArc EventView AGlobal). (arc_value z).id) given k e other lt ∙ (ap (λ (z : AnArc EventView AGlobal). (arc_value z).id) (sym is) ∙ (ap (λ (z : EventView). z.id) (sym value) ∙ sym its))

pub given_at : (given : List (AnArc EventView AGlobal)) (k : ℕ) (e : AnArc EventView AGlobal) (id : Id) → k < length given → e ≡ get_or given k e → slice_get (ids_of given) k ≡ Some id → (arc_value e).id ≡ id
given_at given k e id lt is at =
    sym (get_or-map (λ (z : AnArc EventView AGlobal). (arc_value z).id) given k e id lt ∙ ap (λ (z : AnArc EventView AGlobal). (arc_value z).id) (sym is)) ∙ get_or_from_slice_get (ids_of given) k id id at

pub is_given : (given : List (AnArc EventView AGlobal)) (k : ℕ) (id : Id) → k < length given → slice_get (ids_of given) k ≡ Some id → Contains (ids_of given) id
is_given given k id lt at = (k, omega (arith, lt, length-map given (λ (z : AnArc EventView AGlobal). (arc_value z).id)), get_or_from_slice_get (ids_of given) k id id at)
