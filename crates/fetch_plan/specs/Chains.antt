-- Chains of single moves.
use Rattle.std.specs.Prelude.{◌≡◌, ℕ, ◌+◌, ◌*◌, ◌<◌, ◌≤◌, Bool, true, ◌⊎◌, List, [], length, slice_index_or, sum_by}
use Rattle.sharing.specs.declared.TheConstants.{RELAYS}
use Rattle.sharing.specs.Sharing.{is_among}
use Rattle.sharing.specs.Offers.{AreRelays}
use Rattle.item_key.specs.declared.Id.{Id}
use Rattle.fetch_plan.specs.Takers.{at, offered}
use Rattle.fetch_plan.specs.declared.search.Search.{Search}

-- the relays at place r
unfoldable pub set_at : List (List ℕ) → ℕ → List ℕ
set_at sets r = slice_index_or sets r []

-- one of the first n ids is taken to one relay and offered by another
abbrev pub LeadsBelow : List (Id × List ℕ) → List ℕ → ℕ → ℕ → ℕ → Type 0
LeadsBelow offers takers n r s = (k : ℕ) × (k < n) × (at takers k ≡ r) × (is_among (offered offers k) s ≡ true)

-- beyond each relay are just the relays that offer one of the first n ids which is taken to it
pub record IsBeyond (offers : List (Id × List ℕ)) (takers : List ℕ) (n : ℕ) (beyond : List (List ℕ)) : Type 0 where
  pub sound : (r s : ℕ) → is_among (set_at beyond r) s ≡ true → LeadsBelow offers takers n r s
  pub whole : (k s : ℕ) → k < n → is_among (offered offers k) s ≡ true → is_among (set_at beyond (at takers k)) s ≡ true

-- what passes, passes on to each relay beyond it
abbrev pub PassesOn : List (List ℕ) → (ℕ → Bool) → Type 0
PassesOn beyond test = (r s : ℕ) → test r ≡ true → is_among (set_at beyond r) s ≡ true → test s ≡ true

-- the busiest relays pass
abbrev pub Begins : List ℕ → ℕ → (ℕ → Bool) → Type 0
Begins loads most test = (r : ℕ) → r < RELAYS → at loads r ≡ most → test r ≡ true

-- relay r was reached from another one, in a later turn than that one
pub record IsWay (beyond : List (List ℕ)) (search : Search) (r : ℕ) : Type 0 where
  pub known : is_among search.reached (at search.froms r) ≡ true
  pub earlier : at search.turns (at search.froms r) < at search.turns r
  pub leads : is_among (set_at beyond (at search.froms r)) r ≡ true

-- the busiest relays are reached from the start, and each other one that is reached has a way to it
pub record AreReached (beyond : List (List ℕ)) (loads : List ℕ) (most : ℕ) (search : Search) : Type 0 where
  pub relays : AreRelays search.reached
  pub busiest : Begins loads most (is_among search.reached)
  pub ways_ok : (r : ℕ) → is_among search.reached r ≡ true → ((at search.turns r ≡ 0) × (at loads r ≡ most)) ⊎ IsWay beyond search r
  pub late : (r : ℕ) → is_among search.reached r ≡ true → at search.turns r ≤ search.turn
  pub least : (test : ℕ → Bool) → Begins loads most test → PassesOn beyond test → (r : ℕ) → is_among search.reached r ≡ true → test r ≡ true

-- all that is beyond a reached relay is reached, and no reached relay has two fewer than the busiest
pub record IsClosed (beyond : List (List ℕ)) (loads : List ℕ) (most : ℕ) (reached : List ℕ) : Type 0 where
  pub closed : PassesOn beyond (is_among reached)
  pub high : (r : ℕ) → is_among reached r ≡ true → most ≤ at loads r + 1

-- a relay with at least two fewer than the busiest is reached
pub record IsLow (loads : List ℕ) (most : ℕ) (reached : List ℕ) (end : ℕ) : Type 0 where
  pub known : is_among reached end ≡ true
  pub low : at loads end + 2 ≤ most

abbrev pub squares : List ℕ → ℕ
squares loads = sum_by (λ x. x * x) loads

-- no single move along a chain from a busiest relay makes a lighter one than the busiest, and the group is what chains reach
pub record IsSettled (offers : List (Id × List ℕ)) (takers loads : List ℕ) (most : ℕ) (group : List ℕ) : Type 0 where
  pub bound : (r : ℕ) → r < RELAYS → at loads r ≤ most
  pub one : (r : ℕ) × (r < RELAYS) × (at loads r ≡ most)
  pub relays : AreRelays group
  pub busiest : Begins loads most (is_among group)
  pub closed : (k r : ℕ) → k < length takers → is_among group (at takers k) ≡ true → is_among (offered offers k) r ≡ true → is_among group r ≡ true
  pub high : (r : ℕ) → is_among group r ≡ true → most ≤ at loads r + 1
  pub least : (test : ℕ → Bool) → Begins loads most test → ((k r : ℕ) → k < length takers → test (at takers k) ≡ true → is_among (offered offers k) r ≡ true → test r ≡ true) → (r : ℕ) → is_among group r ≡ true → test r ≡ true
