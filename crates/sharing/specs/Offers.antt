-- Offers: ids in order, each with the relays that offer it, in order.
use Rattle.std.specs.Prelude.{◌≡◌, ℕ, ◌<◌, Bool, true, List, [], length, map, Option, unwrap_or}
use Rattle.std.specs.declared.cmp.Ordering.{Ordering}
use Rattle.std.specs.Ordering.{nat_cmp, is_eq}
use Rattle.std.specs.Cmp.Lexicographic.{slice_cmp}
use Rattle.std.specs.List.{All}
use Rattle.std.specs.List.Sorted.{IsStrictlySortedBy}
use Rattle.std.specs.Map.{lookup}
use Rattle.item_key.specs.declared.Id.{Id}
use Rattle.sharing.specs.declared.TheConstants.{RELAYS}
use Rattle.sharing.specs.Sharing.{is_among}

-- ids are ordered by their bytes
abbrev pub id_cmp : Id → Id → Ordering
id_cmp a b = slice_cmp nat_cmp a.0 b.0

abbrev pub is_id : Id → Id → Bool
is_id a b = is_eq (id_cmp a b)

-- each id comes before those after it
abbrev pub Ascend : List Id → Type 0
Ascend ids = IsStrictlySortedBy id_cmp ids

-- relays in order, none twice
pub record AreRelays (relays : List ℕ) : Type 0 where
  pub ascend : IsStrictlySortedBy nat_cmp relays
  pub small : All (λ r. r < RELAYS) relays

-- ids in order, each with some relays
pub record IsOffers (offers : List (Id × List ℕ)) : Type 0 where
  pub ascend : Ascend (map (λ p. p.0) offers)
  pub relays : All (λ p. AreRelays p.1) offers
  pub some : All (λ p. 0 < length p.1) offers

-- what stands beside an id in pairs
abbrev pub beside : {X : Type 0} → List (Id × X) → Id → Option X
beside pairs i = lookup (is_id i) pairs

-- the relays that offer an id
abbrev pub relays_of : List (Id × List ℕ) → Id → List ℕ
relays_of offers i = unwrap_or (beside offers i) []

-- the relay that an id is given to, where it is given
abbrev pub relay_in : List (Id × ℕ) → Id → ℕ
relay_in gives i = unwrap_or (beside gives i) 0

-- the offers of a family of sets: an id with just those relays that want it
pub record StandsFor (offers : List (Id × List ℕ)) (wants : ℕ → Id → Type 0) : Type 0 where
  pub ordered : IsOffers offers
  pub sound : (r : ℕ) (i : Id) → is_among (relays_of offers i) r ≡ true → wants r i
  pub whole : (r : ℕ) (i : Id) → wants r i → is_among (relays_of offers i) r ≡ true
