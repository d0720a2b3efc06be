-- Offers, each taken to one of the relays that offer it. The takers stand in a list, in the order of the offers.
use Rattle.std.specs.Prelude.{◌≡◌, ℕ, ◌+◌, ◌<◌, ◌==◌, true, List, length, slice_index_or, count_by, [], cond}
use Rattle.sharing.specs.declared.TheConstants.{RELAYS}
use Rattle.sharing.specs.Sharing.{is_among}
use Rattle.item_key.specs.declared.Id.{Id}

abbrev pub no_offer : Id × List ℕ
no_offer = (record { 0 = [] }, [])

-- the relays that offer the id at this place
unfoldable pub offered : List (Id × List ℕ) → ℕ → List ℕ
offered offers k = (slice_index_or offers k no_offer).1

-- the number at this place
abbrev pub at : List ℕ → ℕ → ℕ
at xs k = slice_index_or xs k 0

-- the number of ids that are taken to relay r
abbrev pub held : List ℕ → ℕ → ℕ
held takers r = count_by (λ x. x == r) takers

-- each id is taken to a relay that offers it
pub record AreOffered (offers : List (Id × List ℕ)) (takers : List ℕ) : Type 0 where
  pub long : length takers ≡ length offers
  pub offer : (k : ℕ) → k < length takers → is_among (offered offers k) (at takers k) ≡ true
  pub small : (k : ℕ) → k < length takers → at takers k < RELAYS

-- one id fewer for the relay from, and one more for the relay to
abbrev pub IsMoved : List ℕ → List ℕ → ℕ → ℕ → Type 0
IsMoved old new from to = (r : ℕ) → held new r + cond (from == r) 1 0 ≡ held old r + cond (to == r) 1 0

-- loads change as the numbers of ids do
abbrev pub KeepPace : List ℕ → List ℕ → List ℕ → List ℕ → Type 0
KeepPace takers loads takers_new loads_new = (r : ℕ) → r < RELAYS → at loads_new r + held takers r ≡ at loads r + held takers_new r
