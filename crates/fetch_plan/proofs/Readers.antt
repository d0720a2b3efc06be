-- What is read of lists, and what a write changes.
use Rattle.std.proofs.Common.{◌≡◌, ◌≢◌, ℕ, zero, suc, ◌+◌, ◌<◌, ◌==◌, ◌||◌, Bool, true, false, cond, not, List, [], ◌∷◌, length, get_or, set, refl, sym, ap, ◌∙◌, subst, arith, inl, inr}
use Rattle.sharing.specs.declared.TheConstants.{RELAYS}
use Rattle.std.specs.List.{count_by}
use Rattle.std.proofs.lemmas.Bool.{cases_eq, or_cases, eqb-true}
use Rattle.std.proofs.lemmas.List.{get_or-set_same, get_or-set_other, length-set}
use Rattle.std.proofs.lemmas.List.Sums.{sum_by-set}
use Rattle.sharing.specs.Sharing.{is_among}
use Rattle.sharing.specs.Offers.{AreRelays}
use Rattle.sharing.proofs.Looks.{among_each}
use Rattle.std.specs.List.Sorted.{IsStrictlySortedBy}
use Rattle.std.proofs.lemmas.List.Elements.{All-nil}
use Rattle.item_key.specs.declared.Id.{Id}
use Rattle.fetch_plan.specs.Takers.{at, offered, held, no_offer, AreOffered}
use Rattle.fetch_plan.specs.Chains.{set_at}

pub get_or_any : {X : Type 0} (xs : List X) (k : ℕ) (a b : X) → k < length xs → get_or xs k a ≡ get_or xs k b
get_or_any [] k a b lt = absurd (omega arith)
get_or_any (x ∷ xs) zero a b lt = refl
get_or_any (x ∷ xs) (suc k) a b lt = get_or_any xs k a b (omega arith)

pub offered_is : (offers : List (Id × List ℕ)) (k : ℕ) (o d : Id × List ℕ) → k < length offers → o ≡ get_or offers k d → offered offers k ≡ o.1
unfolding offered
offered_is offers k o d lt e = ap (λ (x : Id × List ℕ). x.1) (get_or_any offers k no_offer d lt ∙ sym e)

pub set_is : (sets : List (List ℕ)) (k : ℕ) (s d : List ℕ) → k < length sets → s ≡ get_or sets k d → set_at sets k ≡ s
unfolding set_at
set_is sets k s d lt e = get_or_any sets k [] d lt ∙ sym e

-- a set at another place
module _ (sets : List (List ℕ)) (place : ℕ) (s : List ℕ) where
  pub set_here : place < length sets → set_at (set sets place s) place ≡ s
  unfolding set_at
  set_here lt = get_or-set_same sets place s [] lt

  pub set_there : (k : ℕ) → k ≢ place → set_at (set sets place s) k ≡ set_at sets k
  unfolding set_at
  set_there k ne = get_or-set_other sets place k s [] ne

-- an id that is taken to another relay
pub offered_kept : (offers : List (Id × List ℕ)) (takers : List ℕ) (place taker : ℕ) → place < length takers → is_among (offered offers place) taker ≡ true → taker < RELAYS → AreOffered offers takers → AreOffered offers (set takers place taker)
offered_kept offers takers place taker lt among tiny h =
    let fits : (k : ℕ) → k < length (set takers place taker) → k < length takers = λ k less. omega (arith, length-set takers place taker) in
    record {
      long = length-set takers place taker ∙ h.long;
      small = λ k less. elim (cases_eq k place) [
        | inl e ↦ subst (λ r. r < RELAYS) (sym (get_or-set_same takers place taker 0 lt) ∙ ap (at (set takers place taker)) (sym e)) tiny
        | inr ne ↦ subst (λ r. r < RELAYS) (sym (get_or-set_other takers place k taker 0 ne)) (h.small k (fits k less))
      ];
      offer = λ k less. elim (cases_eq k place) [
        | inl e ↦ ap (λ k. is_among (offered offers k) (at (set takers place taker) k)) e ∙ ap (is_among (offered offers place)) (get_or-set_same takers place taker 0 lt) ∙ among
        | inr ne ↦ ap (is_among (offered offers k)) (get_or-set_other takers place k taker 0 ne) ∙ h.offer k (fits k less)
      ];
    }

pub held_after : (takers : List ℕ) (place taker r : ℕ) → place < length takers → held (set takers place taker) r + cond (at takers place == r) 1 0 ≡ held takers r + cond (taker == r) 1 0
held_after takers place taker r lt = sum_by-set (λ (x : ℕ). cond (x == r) 1 0) takers place taker 0 lt

-- a member of a set with one more is the new one or was there
pub one_more : (old new : List ℕ) (one : ℕ) → ((r : ℕ) → is_among new r ≡ ((r == one) || is_among old r)) → (P : ℕ → Type 0) → P one → ((r : ℕ) → is_among old r ≡ true → P r) → (r : ℕ) → is_among new r ≡ true → P r
one_more old new one member P here before r m =
    elim (or_cases (r == one) (is_among old r) (sym (member r) ∙ m)) [
      | inl e ↦ subst P (sym (eqb-true r one e)) here
      | inr e ↦ before r e
    ]

-- one fewer is not done
pub count_done : (done : List Bool) (relay : ℕ) → relay < length done → get_or done relay false ≡ false → count_by not (set done relay true) + 1 ≡ count_by not done
count_done done relay lt new = omega (arith, sum_by-set (λ x. cond (not x) 1 0) done relay true false lt, ap {B = ℕ} (λ b. cond (not b) 1 0) new)

-- a member is a relay
pub small_in : (relays : List ℕ) (r : ℕ) → AreRelays relays → is_among relays r ≡ true → r < RELAYS
small_in relays r h m = among_each (λ r. r < RELAYS) relays r h.small m

pub no_relays : AreRelays []
unfolding IsStrictlySortedBy
no_relays = record { ascend = tt; small = All-nil (λ r. r < RELAYS) }
