-- What a next round's plan shares out.
use Rattle.std.proofs.Common.{◌≡◌, ℕ, true, false, not, ◌&&◌, List, map, sym, ap, ◌∙◌}
use Rattle.std.specs.Prelude.{Result, Ok, Err, IfOk, OnErr}
use Rattle.std.specs.declared.alloc.AllocError.{AllocError}
use Rattle.std.proofs.lemmas.Bool.{false≢true, and_parts, and_from, false_from_ne_true, not_from_false}
use Rattle.item_key.specs.declared.Id.{Id}
use Rattle.sharing.specs.Bases.{base_of}
use Rattle.sharing.specs.Sharing.{is_among, NoneSmaller}
use Rattle.sharing.specs.Offers.{relays_of, Ascend, IsOffers, StandsFor}
use Rattle.fetch_plan.specs.Plan.{Planned, IsPlanOf}
use Rattle.fetch_plan.specs.LeftOut.{gone_of}
use Rattle.fetch_plan.specs.declared.cell.Cell.{Cell}
use Rattle.fetch_plan.proofs.Gone.{gone_from, gone_has}
use Rattle.mirror_core.specs.Next.{IsLeft, IsLess, IsNextPlan}

-- The offers but those that the cells leave out are just those that are left.
pub left_of : (old new : List (Id × List ℕ)) (gives : List (Id × ℕ)) (cells : List Cell) → IsOffers new → Ascend (map (λ g. g.0) gives)
    → ((i : Id) (r : ℕ) → is_among (relays_of new i) r ≡ (is_among (relays_of old i) r && not (is_among (relays_of (gone_of old gives cells) i) r)))
    → StandsFor new (IsLeft old gives cells)
left_of old new gives cells ok ascend left = record {
  ordered = ok;
  sound = λ r i m. (
      let parts : (is_among (relays_of old i) r ≡ true) × (not (is_among (relays_of (gone_of old gives cells) i) r) ≡ true) = and_parts (is_among (relays_of old i) r) (not (is_among (relays_of (gone_of old gives cells) i) r)) (sym (left i r) ∙ m) in
      record {
        offered = parts.0;
        kept = λ k lt. false_from_ne_true _ (λ e. false≢true (sym (ap not (gone_has old gives cells k i r ascend lt e parts.0)) ∙ parts.1));
      });
  whole = λ r i s. (
      let gone : is_among (relays_of (gone_of old gives cells) i) r ≡ false = false_from_ne_true _ (λ e.
      (let x = gone_from old gives cells i r e in
      false≢true (sym (s.kept x.0 x.1) ∙ x.2))) in
      left i r ∙ and_from (is_among (relays_of old i) r) (not (is_among (relays_of (gone_of old gives cells) i) r)) s.offered (not_from_false _ gone));
}

pub less_of : (old new : List (Id × List ℕ)) (gives : List (Id × ℕ)) (cells : List Cell) → StandsFor new (IsLeft old gives cells) → IsLess old gives cells new
less_of old new gives cells s = record { sound = λ r i m. (s.sound r i m).offered; whole = s.whole }

pub less_none : (offers : List (Id × List ℕ)) (gives : List (Id × ℕ)) (cells : List Cell) → IsLess offers gives cells offers
less_none offers gives cells = record { sound = λ r i m. m; whole = λ r i s. s.offered }

pub next_of : (bases : List ℕ) (old new : List (Id × List ℕ)) (gives : List (Id × ℕ)) (cells : List Cell) (result : Result Planned AllocError) → StandsFor new (IsLeft old gives cells) → IfOk result (IsPlanOf bases new) → IfOk result (λ plan. NoneSmaller (base_of bases) new plan.least_max) → IfOk result (IsNextPlan bases old gives cells new)
next_of bases old new gives cells (Ok plan) s planned least = record { left = s; planned = planned; least = least }
next_of bases old new gives cells (Err e) s planned least = tt

pub on_err : {X : Type 0} (result : Result Planned AllocError) → X → OnErr result X
on_err (Ok plan) x = tt
on_err (Err e) x = x
