-- Sharing ids out among relays. Offers are pairs of an id and the relays that offer it. A relay is a number, and
-- its load begins at its base.
use Rattle.std.specs.Prelude.{◌≡◌, ℕ, ◌+◌, ◌-◌, ◌*◌, ◌<◌, ◌≤◌, ◌==◌, Bool, true, ◌⊎◌, List, length, count_by, sum_by}
use Rattle.std.specs.List.{All, list_any, list_all}

-- whether this relay is among these
abbrev pub is_among : List ℕ → ℕ → Bool
is_among relays r = list_any (λ x. r == x) relays

-- each offered id is taken to a relay that offers it
abbrev pub IsSharing : {A : Type 0} → (A → ℕ) → List (A × List ℕ) → Type 0
IsSharing f offers = All (λ p. is_among p.1 (f p.0) ≡ true) offers

-- the number of ids that are taken to relay r
abbrev pub taken : {A : Type 0} → (A → ℕ) → List (A × List ℕ) → ℕ → ℕ
taken f offers r = count_by (λ p. f p.0 == r) offers

-- the load of relay r: what it begins with, and one more for each id that is taken to it
abbrev pub load : {A : Type 0} → (ℕ → ℕ) → (A → ℕ) → List (A × List ℕ) → ℕ → ℕ
load base f offers r = base r + taken f offers r

-- most is the greatest of these loads
abbrev pub IsGreatest : (ℕ → ℕ) → ℕ → Type 0
IsGreatest loads most = ((r : ℕ) → loads r ≤ most) × ((r : ℕ) × (loads r ≡ most))

-- no sharing has a smaller busiest load
abbrev pub NoneSmaller : {A : Type 0} → (ℕ → ℕ) → List (A × List ℕ) → ℕ → Type 0
NoneSmaller {A} base offers least = (g : A → ℕ) (most : ℕ) → IsSharing g offers → IsGreatest (load base g offers) most → least ≤ most

-- the number of offered ids that no relay outside the group offers
abbrev pub alone : {A : Type 0} → List ℕ → List (A × List ℕ) → ℕ
alone group offers = count_by (λ p. list_all (is_among group) p.1) offers

-- the group alone, with the loads that it begins with, has too much for a busiest load below this
abbrev pub Shows : {A : Type 0} → (ℕ → ℕ) → List ℕ → List (A × List ℕ) → ℕ → Type 0
Shows base group offers most =
    (most ≡ 0) ⊎ ((0 < length group) × ((most - 1) * length group < sum_by base group + alone group offers))
