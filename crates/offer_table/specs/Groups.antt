-- Offered ids in groups: those that the same relays offer, beside those relays.
use Rattle.std.specs.Prelude.{◌≡◌, ℕ, ◌<◌, ◌==◌, Bool, true, List, [], ◌∷◌, length, map, sum_by, count_by, slice_index_or, is_some, if◌then◌else◌}
use Rattle.std.specs.declared.cmp.Ordering.{Ordering}
use Rattle.std.specs.Ordering.{nat_cmp, match_ordering}
use Rattle.std.specs.List.{All, filter, list_any}
use Rattle.std.specs.List.Sorted.{IsStrictlySortedBy}
use Rattle.item_key.specs.declared.Id.{Id}
use Rattle.sharing.specs.Offers.{AreRelays, Ascend, relays_of, beside, is_id}
use Rattle.offer_table.specs.Relays.{bits_of}

-- sets are ordered as numbers in which relay r counts 2^r
abbrev pub set_cmp : List ℕ → List ℕ → Ordering
set_cmp a b = nat_cmp (bits_of a) (bits_of b)

-- one set more among sets in order
abbrev pub with_set : List ℕ → List (List ℕ) → List (List ℕ)
with_set s [] = s ∷ []
with_set s (t ∷ ts) = match_ordering (set_cmp s t) (s ∷ t ∷ ts) (t ∷ ts) (t ∷ with_set s ts)

-- the sets of relays that offer some id, each once, in order
abbrev pub sets_of : List (Id × List ℕ) → List (List ℕ)
sets_of [] = []
sets_of (o ∷ os) = with_set o.1 (sets_of os)

-- the ids whose relays have this number
abbrev pub ids_numbered : ℕ → List (Id × List ℕ) → List Id
ids_numbered n offers = map (λ o. o.0) (filter (λ o. n == bits_of o.1) offers)

-- each set of relays that offers some id, with the ids that just these relays offer
unfoldable pub groups_of : List (Id × List ℕ) → List (List ℕ × List Id)
groups_of offers = map (λ s. (s, ids_numbered (bits_of s) offers)) (sets_of offers)

-- whether this id is among these
abbrev pub is_listed : List Id → Id → Bool
is_listed ids i = list_any (is_id i) ids

-- what is so of the groups of offers
pub record AreGroups (offers : List (Id × List ℕ)) (groups : List (List ℕ × List Id)) : Type 0 where
  pub ordered : IsStrictlySortedBy set_cmp (map (λ g. g.0) groups)
  pub relays : All (λ g. AreRelays g.0) groups
  pub offered : All (λ g. 0 < length g.0) groups
  pub some : All (λ g. 0 < length g.1) groups
  pub ascend : All (λ g. Ascend g.1) groups
  pub offer : All (λ g. (i : Id) → is_listed g.1 i ≡ true → relays_of offers i ≡ g.0) groups
  pub whole : All (λ g. (i : Id) → relays_of offers i ≡ g.0 → is_listed g.1 i ≡ true) groups
  pub once : (i : Id) → count_by (λ g. is_listed g.1 i) groups ≡ (if is_some (beside offers i) then 1 else 0)
  pub counts : (test : List ℕ → Bool) → count_by (λ o. test o.1) offers ≡ sum_by (λ g. if test g.0 then length g.1 else 0) groups
  pub total : sum_by (λ g. length g.1) groups ≡ length offers

-- each offer's group, by its number
pub record AreNumbers (offers : List (Id × List ℕ)) (groups : List (List ℕ × List Id)) (numbers : List ℕ) : Type 0 where
  pub within : All (λ k. k < length groups) numbers
  pub relays : map (λ k. (slice_index_or groups k ([], [])).0) numbers ≡ map (λ o. o.1) offers
  pub counts : (k : ℕ) → k < length groups → count_by (λ n. n == k) numbers ≡ length (slice_index_or groups k ([], [])).1

-- a table's groups, and the numbers of its offers' groups
pub record AreKept (offers : List (Id × List ℕ)) (groups : List (List ℕ × List Id)) (numbers : List ℕ) : Type 0 where
  pub groups_are : groups ≡ groups_of offers
  pub numbers_are : AreNumbers offers (groups_of offers) numbers
