-- Two lists of offers, walked side by side.
use Rattle.std.specs.Prelude.{◌≡◌, ℕ, ◌+◌, ◌<◌, ◌++◌, ◌||◌, ◌&&◌, ◌⊎◌, not, Bool, List, [], ◌∷◌, length}
use Rattle.std.specs.declared.cmp.Ordering.TheVariants.{Less}
use Rattle.std.specs.List.{All}
use Rattle.item_key.specs.declared.Id.{Id}
use Rattle.sharing.specs.Offers.{id_cmp}
use Rattle.offer_table.specs.declared.combined.Keep.{Keep}
use Rattle.offer_table.specs.declared.combined.Keep.TheVariants.{Either, FirstAlone}
use Rattle.offer_table.specs.Table.{new_in}

-- whether an offer is kept, by whether the two lists have it
abbrev pub keeps : Keep → Bool → Bool → Bool
keeps Either a b = a || b
keeps FirstAlone a b = a && not b

-- the most ids that are kept
abbrev pub most_kept : Keep → List (Id × List ℕ) → List (Id × List ℕ) → ℕ
most_kept Either mine theirs = length mine + new_in mine theirs
most_kept FirstAlone mine theirs = length mine

-- the id was the first, with these relays, or else it isn't there
abbrev pub IsTaken : Id → List (Id × List ℕ) → List ℕ → List (Id × List ℕ) → Type 0
IsTaken k old relays new = (old ≡ (k, relays) ∷ new) ⊎ ((relays ≡ []) × (old ≡ new))

-- the least id of both lists, with the relays beside it in each, and what comes behind it
pub record IsNextId (mine theirs : List (Id × List ℕ)) (k : Id) (ours others : List ℕ) (more rest : List (Id × List ℕ)) : Type 0 where
  pub first : IsTaken k mine ours more
  pub second : IsTaken k theirs others rest
  pub behind_mine : All (λ o. id_cmp k o.0 ≡ Less) more
  pub behind_theirs : All (λ o. id_cmp k o.0 ≡ Less) rest
  pub some : (mine ≡ (k, ours) ∷ more) ⊎ (theirs ≡ (k, others) ∷ rest)

-- an id comes behind the others, where it has some relays
abbrev pub IsPushed : List (Id × List ℕ) → Id → List ℕ → List (Id × List ℕ) → Type 0
IsPushed old k relays new = ((relays ≡ []) × (new ≡ old)) ⊎ ((0 < length relays) × (new ≡ old ++ (k, relays) ∷ []))
