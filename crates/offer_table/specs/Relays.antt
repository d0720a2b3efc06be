-- A set of relays, as the ascending list of its members.
use Rattle.std.specs.Prelude.{◌≡◌, ℕ, ◌+◌, ◌*◌, ◌^◌, ◌<◌, ◌==◌, Bool, true, false, if◌then◌else◌, List, [], ◌∷◌, ◌++◌, sum_by, zero, suc}
use Rattle.std.specs.Int.{bit_at}
use Rattle.sharing.specs.Sharing.{is_among}
use Rattle.sharing.specs.Offers.{AreRelays}
use Rattle.sharing.specs.declared.TheConstants.{RELAYS}

-- the numbers below n that pass, ascending
unfoldable pub those : (ℕ → Bool) → ℕ → List ℕ
those p zero = []
those p (suc n) = those p n ++ (if p n then n ∷ [] else [])

-- the relays whose bit is set
abbrev pub members : ℕ → List ℕ
members bits = those (λ r. bit_at bits r == 1) RELAYS

-- the number whose set bits these are
abbrev pub bits_of : List ℕ → ℕ
bits_of relays = sum_by (λ r. 2 ^ r) relays

-- the least relay of a set
pub record IsFirst (relays : List ℕ) (r : ℕ) : Type 0 where
  pub small : r < RELAYS
  pub member : is_among relays r ≡ true
  pub below : (i : ℕ) → i < r → is_among relays i ≡ false
  pub ordered : AreRelays relays

-- two words as one number
abbrev pub number : ℕ → ℕ → ℕ
number high low = high * 2 ^ 128 + low
