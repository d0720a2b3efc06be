-- A plan file: what relays begin with, who offers each id, which relay it is given to, and a group of relays.
use Rattle.std.specs.Prelude.{ℕ, ◌<◌, ◌≤◌, List, map}
use Rattle.std.specs.Ordering.{nat_cmp}
use Rattle.std.specs.List.{All}
use Rattle.std.specs.List.Sorted.{IsStrictlySortedBy}
use Rattle.std.specs.Global.{Vec}
use Rattle.item_key.specs.declared.Id.{Id}
use Rattle.sharing.specs.declared.TheConstants.{RELAYS, MOST_BASE}
use Rattle.sharing.specs.Offers.{Ascend, AreRelays, IsOffers}

pub record File : Type 0 where
  pub bases : List (ℕ × ℕ)
  pub offers : List (Id × List ℕ)
  pub gives : List (Id × ℕ)
  pub group : List ℕ

-- a relay, and what its load begins with
pub record IsBase (b : ℕ × ℕ) : Type 0 where
  pub relay : b.0 < RELAYS
  pub some : 0 < b.1
  pub small : b.1 ≤ MOST_BASE

-- relays in order, each with what its load begins with
pub record AreBasesInOrder (bases : List (ℕ × ℕ)) : Type 0 where
  pub ascend : IsStrictlySortedBy nat_cmp (map (λ b. b.0) bases)
  pub each : All IsBase bases

-- what is so of each plan file: all is in order, and each offer has a relay
pub record IsFile (file : File) : Type 0 where
  pub bases_ok : AreBasesInOrder file.bases
  pub offers_ok : IsOffers file.offers
  pub ascend : Ascend (map (λ g. g.0) file.gives)
  pub relays : All (λ g. g.1 < RELAYS) file.gives
  pub group_ok : AreRelays file.group

-- offers as the program has them
abbrev pub pairs_of : List (Id × Vec ℕ) → List (Id × List ℕ)
pairs_of offers = map (λ o. (o.0, o.1.items)) offers
