-- A search among pairs whose ids are in order.
use Rattle.std.proofs.Common.{◌≡◌, ℕ, ◌+◌, ◌<◌, ◌≤◌, cond, false, List, [], ◌∷◌, length, map, get_or, Result, Ok, Err, Some, None, refl, sym, ap, ◌∙◌, arith, inl, inr, suc}
use Rattle.std.specs.Prelude.{MatchResult}
use Rattle.std.specs.declared.cmp.Ordering.{Ordering}
use Rattle.std.specs.declared.cmp.Ordering.TheVariants.{Less, Equal, Greater}
use Rattle.std.specs.Ordering.{is_eq, is_lt, ordering_reverse, ordering_index}
use Rattle.std.specs.List.Sorted.{IsSearchInRange, IsBinarySearchResult, IsNonDecreasingBy}
use Rattle.std.proofs.lemmas.List.Sorted.{searchable_from_sorted}
use Rattle.std.proofs.lemmas.Bool.{cases_lt, cases_eq}
use Rattle.std.proofs.lemmas.List.{get_or-map, length-map}
use Rattle.std.proofs.lemmas.Map.Keys.{Less-from_sorted}
use Rattle.item_key.specs.declared.Id.{Id}
use Rattle.sharing.specs.Offers.{id_cmp, is_id, Ascend, beside}
use Rattle.sharing.proofs.Orders.{id_total, same_id}
use Rattle.sharing.proofs.Looks.{found_itself}

module _ {X : Type 0} where
  -- what is below low comes before the id, and what is from high on comes behind it
  pub record IsBetween (none : X) (pairs : List (Id × X)) (id : Id) (low high : ℕ) : Type 0 where
    pub within : high ≤ length pairs
    pub apart : low ≤ high
    pub below : (k : ℕ) → k < low → id_cmp (get_or pairs k (record { 0 = [] }, none)).0 id ≡ Less
    pub above : (k : ℕ) → high ≤ k → k < length pairs → id_cmp id (get_or pairs k (record { 0 = [] }, none)).0 ≡ Less

  module _ (none : X) (pairs : List (Id × X)) (id : Id) where
    abbrev pub id_at : ℕ → Id
    id_at k = (get_or pairs k (record { 0 = [] }, none)).0

    pub between_all : (n : ℕ) → n ≡ length pairs → IsBetween none pairs id 0 n
    between_all n e = record { within = omega arith; apart = omega arith; below = λ k lt. absurd (omega arith); above = λ k le lt. absurd (omega arith) }

    -- an id at an earlier place comes before
    earlier : (i j : ℕ) → Ascend (map (λ g. g.0) pairs) → i < j → j < length pairs → id_cmp (id_at i) (id_at j) ≡ Less
    earlier i j h lt fits =
        let d : Id = record { 0 = [] } in
        let at : (k : ℕ) → k < length pairs → get_or (map (λ g. g.0) pairs) k d ≡ id_at k = λ k f. get_or-map (λ (g : Id × X). g.0) pairs k (d, none) d f in
        let less : id_cmp (get_or (map (λ g. g.0) pairs) i d) (get_or (map (λ g. g.0) pairs) j d) ≡ Less = Less-from_sorted id_cmp (map (λ g. g.0) pairs) i j d h lt (omega (arith, length-map pairs (λ (g : Id × X). g.0))) in
        ap (λ i. id_cmp i (id_at j)) (sym (at i (omega arith))) ∙ ap (id_cmp (get_or (map (λ g. g.0) pairs) i d)) (sym (at j fits)) ∙ less

    module _ (low high middle : ℕ) (h : IsBetween none pairs id low high) (ordered : Ascend (map (λ g. g.0) pairs)) (from : low ≤ middle) (to : middle < high) where
      pub go_down : id_cmp id (id_at middle) ≡ Less → IsBetween none pairs id low middle
      go_down less = record {
        within = omega (arith, h.within);
        apart = from;
        below = h.below;
        above = λ k le lt. elim (cases_eq k middle) [
          | inl e ↦ ap (λ k. id_cmp id (id_at k)) e ∙ less
          | inr ne ↦ id_total.trans id (id_at middle) (id_at k) less (earlier middle k ordered (omega arith) lt)
        ];
      }

      pub go_up : id_cmp id (id_at middle) ≡ Greater → IsBetween none pairs id (middle + 1) high
      go_up greater =
          let less : id_cmp (id_at middle) id ≡ Less = id_total.antisymm (id_at middle) id ∙ ap ordering_reverse greater in
          record {
            within = h.within;
            apart = omega arith;
            below = λ k lt. elim (cases_eq k middle) [
              | inl e ↦ ap (λ k. id_cmp (id_at k) id) e ∙ less
              | inr ne ↦ id_total.trans (id_at k) (id_at middle) id (earlier k middle ordered (omega arith) (omega (arith, h.within))) less
            ];
            above = h.above;
          }

    -- the id at the place is the one that is sought
    pub found_at : (k : ℕ) → Ascend (map (λ g. g.0) pairs) → k < length pairs → id_cmp id (id_at k) ≡ Equal → beside pairs id ≡ Some (get_or pairs k (record { 0 = [] }, none)).1
    found_at k ordered lt e =
        let same : id ≡ id_at k = same_id id (id_at k) (ap is_eq e) in
        ap (beside pairs) same ∙ found_itself pairs ordered k (record { 0 = [] }, none) lt

  -- an id that no place has stands beside nothing
  not_beside : (none : X) (pairs : List (Id × X)) (id : Id) → ((k : ℕ) → k < length pairs → is_id id (get_or pairs k (record { 0 = [] }, none)).0 ≡ false) → beside pairs id ≡ None
  not_beside none [] id h = refl
  not_beside none (g ∷ gs) id h = ap (λ b. cond b (Some g.1) (beside gs id)) (h 0 (omega arith)) ∙ not_beside none gs id (λ k lt. h (suc k) (omega arith))

  pub not_found : (none : X) (pairs : List (Id × X)) (id : Id) (low high : ℕ) → IsBetween none pairs id low high → high ≤ low → beside pairs id ≡ None
  not_found none pairs id low high h met =
      not_beside none pairs id (λ k lt. elim (cases_lt k low) [
        | inl below ↦ ap is_eq (id_total.antisymm id (get_or pairs k (record { 0 = [] }, none)).0 ∙ ap ordering_reverse (h.below k below))
        | inr above ↦ ap is_eq (h.above k (omega arith) lt)
      ])

  -- what a binary search of the ids finds
  module _ (none : X) (pairs : List (Id × X)) (ordered : Ascend (map (λ g. g.0) pairs)) (id : Id) where
    flipped : (a b : Id) (u v : Ordering) → id_cmp a b ≡ u → ordering_reverse u ≡ v → id_cmp b a ≡ v
    flipped a b u v h e = id_total.antisymm b a ∙ ap ordering_reverse h ∙ e

    rises : IsNonDecreasingBy (λ g. ordering_index (id_cmp g.0 id)) pairs
    rises =
        searchable_from_sorted id_total (λ (g : Id × X). g.0) pairs id (λ k d low high.
        let e : Id = record { 0 = [] } in
        let at : (i : ℕ) → i < length pairs → get_or (map (λ g. g.0) pairs) i e ≡ (get_or pairs i d).0 = λ i f. get_or-map (λ (g : Id × X). g.0) pairs i d e f in
        let less : id_cmp (get_or (map (λ g. g.0) pairs) k e) (get_or (map (λ g. g.0) pairs) (k + 1) e) ≡ Less = Less-from_sorted id_cmp (map (λ g. g.0) pairs) k (k + 1) e ordered (omega arith) (omega (arith, length-map pairs (λ (g : Id × X). g.0))) in
        ap is_lt (flipped (get_or pairs k d).0 (get_or pairs (k + 1) d).0 Less Greater (sym (ap (λ i. id_cmp i (get_or pairs (k + 1) d).0) (at k (omega arith))) ∙ sym (ap (id_cmp (get_or (map (λ g. g.0) pairs) k e)) (at (k + 1) high)) ∙ less) refl))

    pub looked : (r : Result ℕ ℕ) → IsSearchInRange r (length pairs) → IsBinarySearchResult (λ g. id_cmp g.0 id) pairs r → MatchResult r (λ i. (d : Id × X) → beside pairs id ≡ Some (get_or pairs i d).1) (λ i. beside pairs id ≡ None)
    looked (Ok i) within same = λ d. ap (beside pairs) (sym (same_id (get_or pairs i d).0 id (ap is_eq (same d)))) ∙ found_itself pairs ordered i d within
    looked (Err i) within parted =
        let parts = parted rises in
        let d : Id × X = (record { 0 = [] }, none) in
        not_found none pairs id i i (record {
          within = within;
          apart = omega arith;
          below = λ k lt. parts.0 k d (omega arith) lt;
          above = λ k le lt. flipped (get_or pairs k d).0 id Greater Less (parts.1 k d le lt) refl;
        }) (omega arith)
