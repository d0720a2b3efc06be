-- Indices of the first of a store's events.
use Rattle.std.proofs.Common.{◌≡◌, ℕ, ◌+◌, ◌<◌, ◌≤◌, ◌==◌, ◌-◌, suc, inl, inr, true, List, [], ◌∷◌, ◌++◌, length, get_or, take, drop, ap, sym, subst, arith, ◌∙◌, length-append, length-take, length-drop, slice_get, Some}
use Rattle.std.specs.Prelude.{All, Contains}
use Rattle.std.specs.List.{list_any}
use Rattle.std.specs.Ordering.{nat_cmp}
use Rattle.std.specs.FinSet.{nat_cmp-IsAntisymmetric}
use Rattle.std.proofs.lemmas.Bool.{cases_lt}
use Rattle.std.proofs.lemmas.Bool.Decides.{nat_tests}
use Rattle.std.proofs.lemmas.Cmp.{nat_cmp_total}
use Rattle.std.proofs.Math.Seq.{take-suc}
use Rattle.std.proofs.lemmas.Option.{slice_get_within, get_or_from_slice_get}
use Rattle.std.proofs.lemmas.List.{take_all, get_or-drop, take-append-le, take-append-drop, get_or-take}
use Rattle.std.proofs.lemmas.List.Elements.{recursion_from_All}
use Rattle.std.proofs.lemmas.List.Folds.{list_any_at}
use mathlib.Core.List.{IsPrefix}
use Rattle.nostr_event.specs.EventView.{EventView}
use Rattle.nostr_filter.specs.declared.filter.Filter.{Filter}
use Rattle.nostr_filter.specs.Matching.{matches_of}
use Rattle.nostr_filter.specs.Choice.{in_order}
use Rattle.nostr_filter.proofs.Orders.{any_in_order}
use Rattle.event_index.specs.Postings.{Covered, Covers, HoldMatching}
use Rattle.event_table.specs.Places.{HaveMatching}
use Rattle.event_table.specs.States.{IsIndexed}
use Rattle.event_table.proofs.Matched.{rise_in_order}

-- an index of all
pub indexed_whole : (events : List EventView) (index : Covered) → Covers events index → IsIndexed events index
indexed_whole events index covers = record {
  within = omega (arith, covers.counted);
  covers = subst (λ (xs : List EventView). Covers xs index) (sym (take_all index.count events (omega (arith, covers.counted)))) covers;
}

-- events behind the others aren't among those that are covered
pub indexed_more : (events more : List EventView) (index : Covered) → IsPrefix events more → IsIndexed events index → IsIndexed more index
indexed_more events more index p h = subst (λ (xs : List EventView). IsIndexed xs index) p.1 (record {
  within = omega (arith, h.within, length-append events p.0);
  covers = subst (λ (xs : List EventView). Covers xs index) (sym (take-append-le index.count events p.0 h.within)) h.covers;
})

-- one more event of those from a place on
pub tail_more : (events : List EventView) (start place : ℕ) (e : EventView) → start ≤ place → slice_get events place ≡ Some e
    → take (place + 1 - start) (drop start events) ≡ take (place - start) (drop start events) ++ e ∷ []
tail_more events start place e le at =
    let j = place - start in
    let next : place + 1 - start ≡ suc j = omega (arith, le) in
    let there : start + j ≡ place = omega (arith, le) in
    let within = slice_get_within events place e at in
    ap (λ n. take n (drop start events)) next ∙ take-suc (drop start events) j e (omega (arith, length-drop start events, within, le))
    ∙ ap (λ x. take j (drop start events) ++ x ∷ []) (get_or-drop start events j e ∙ ap (λ n. get_or events n e) there ∙ get_or_from_slice_get events place e e at)

-- an index that was grown by all events that it didn't cover
pub indexed_grown : (events more : List EventView) (old new : Covered) → IsIndexed events old → more ≡ drop old.count events → ((covered : List EventView) → Covers covered old → Covers (covered ++ more) new) → IsIndexed events new
indexed_grown events more old new h is grown =
    let all : take old.count events ++ more ≡ events = ap (λ (xs : List EventView). take old.count events ++ xs) is ∙ take-append-drop old.count events in
    indexed_whole events new (subst (λ (xs : List EventView). Covers xs new) all (grown (take old.count events) h.covers))

pub at_place : (places : List ℕ) (i : ℕ) → Contains places i → list_any (λ p. p == i) places ≡ true
at_place places i h =
    let same : (i == i) ≡ true = grind (arith, nat_tests) in
    list_any_at (λ p. p == i) places h.0 i h.1 (ap (λ p. p == i) h.2 ∙ same)

pub marked_matching : (f : Filter) (events : List EventView) (index : Covered) (found places more : List ℕ) → IsIndexed events index → HoldMatching f (take index.count events) found
    → (All (λ p. p < length events) found → All (λ p. p < length events) places) → ((i : ℕ) → Contains found i → Contains places i)
    → ((i : ℕ) → index.count ≤ i → i < length events → Contains places i) → more ≡ in_order nat_cmp places → HaveMatching f events more
marked_matching f events index found places more h hold below kept put is = subst (λ (ps : List ℕ). HaveMatching f events ps) (sym is) (record {
  rise = rise_in_order (length events) places (recursion_from_All (λ p. p < length events) places (below (λ k d lt. omega (arith, hold.below k d lt, length-take index.count events))));
  whole = λ i e lt hit. any_in_order nat_cmp_total nat_cmp-IsAntisymmetric (λ p. p == i) places ∙ at_place places i (elim (cases_lt i index.count) [
    | inl early ↦
        let same : get_or (take index.count events) i e ≡ get_or events i e = get_or-take index.count events i e early in
        kept i (hold.whole i e (omega (arith, early, lt, length-take index.count events)) (subst (λ (x : EventView). matches_of f x ≡ true) (sym same) hit))
    | inr late ↦ put i late lt
  ]);
})
