-- What the cells of the last plan leave out of later ones.
use Rattle.std.proofs.Common.{◌≡◌, ℕ, ◌+◌, ◌-◌, ◌<◌, true, false, not, List, ◌++◌, length, drop, map, get_or, sym, ap, ◌∙◌, arith, inl, inr}
use Rattle.std.proofs.lemmas.List.{get_or_append_left, get_or-append-add, get_or-drop, length-append}
use Rattle.std.proofs.lemmas.Bool.{false≢true, cases_lt, and_parts, and_from, false_from_ne_true, not_from_false}
use Rattle.item_key.specs.declared.Id.{Id}
use Rattle.sharing.specs.Sharing.{is_among}
use Rattle.sharing.specs.Offers.{relays_of, Ascend, IsOffers, StandsFor}
use Rattle.fetch_plan.specs.declared.cell.Cell.{Cell}
use Rattle.fetch_plan.specs.declared.cell.Cell.TheVariants.{Free}
use Rattle.fetch_plan.proofs.Gone.{gone_from, gone_has}
use Rattle.round_core.specs.History.{History, no_give, cell_after, leaves_out, Stands}
use Rattle.round_core.specs.Left.{gone_at_last, AreWithout}

-- The offers that a last plan's cells leave, where the offers before were those that the cells before left.
pub again_offers : (h : History) (past : List (Id × ℕ)) (gives : List (Id × ℕ)) (cells : List Cell) (old new : List (Id × List ℕ)) → StandsFor old (Stands h past) → AreWithout old (gone_at_last old gives cells) new → IsOffers new →
    Ascend (map (λ g. g.0) gives) → length cells ≡ length past + length gives → ((k : ℕ) → get_or cells k Free ≡ cell_after h k) → StandsFor new (Stands h (past ++ gives))
again_offers h past gives cells old new t left ok ascend long is =
    let leaves : (j r : ℕ) (i : Id) → leaves_out (get_or (drop (length cells - length gives) cells) j Free) (get_or gives j no_give) r i ≡ leaves_out (cell_after h (length past + j)) (get_or (past ++ gives) (length past + j) no_give) r i =
    λ j r i. (let at : length cells - length gives + j ≡ length past + j = omega (arith, long) in
    ap (λ c. leaves_out c (get_or gives j no_give) r i) (get_or-drop (length cells - length gives) cells j Free)
    ∙ ap (λ n. leaves_out (get_or cells n Free) (get_or gives j no_give) r i) at
    ∙ ap (λ c. leaves_out c (get_or gives j no_give) r i) (is (length past + j))
    ∙ ap (λ g. leaves_out (cell_after h (length past + j)) g r i) (sym (get_or-append-add past gives j no_give))) in
    record {
      ordered = ok;
      sound = λ r i m. (
          let parts : (is_among (relays_of old i) r ≡ true) × (not (is_among (relays_of (gone_at_last old gives cells) i) r) ≡ true) = and_parts (is_among (relays_of old i) r) (not (is_among (relays_of (gone_at_last old gives cells) i) r)) (sym (left i r) ∙ m) in
          let s : Stands h past r i = t.sound r i parts.0 in
          record {
            wanted = s.wanted;
            kept = λ k lt. elim (cases_lt k (length past)) [
              | inl low ↦ ap (λ g. leaves_out (cell_after h k) g r i) (get_or_append_left past gives no_give k low) ∙ s.kept k low
              | inr high ↦
                  (let at : k ≡ length past + (k - length past) = omega (arith, high) in
                  false_from_ne_true _ (λ e. false≢true (sym (ap not (gone_has old gives (drop (length cells - length gives) cells) (k - length past) i r ascend (omega (arith, lt, high, length-append past gives))
                  (leaves (k - length past) r i ∙ sym (ap (λ n. leaves_out (cell_after h n) (get_or (past ++ gives) n no_give) r i) at) ∙ e) parts.0)) ∙ parts.1)))
            ];
          });
      whole = λ r i s. (
          let m : is_among (relays_of old i) r ≡ true = t.whole r i (record {
            wanted = s.wanted;
            kept = λ k lt. ap (λ g. leaves_out (cell_after h k) g r i) (sym (get_or_append_left past gives no_give k lt)) ∙ s.kept k (omega (arith, lt, length-append past gives));
          }) in
          let gone : is_among (relays_of (gone_at_last old gives cells) i) r ≡ false = false_from_ne_true _ (λ e.
          (let x = gone_from old gives (drop (length cells - length gives) cells) i r e in
          false≢true (sym (s.kept (length past + x.0) (omega (arith, x.1, length-append past gives))) ∙ sym (leaves x.0 r i) ∙ x.2))) in
          left i r ∙ and_from (is_among (relays_of old i) r) (not (is_among (relays_of (gone_at_last old gives cells) i) r)) m (not_from_false _ gone));
    }
