-- The text of a plan file: a header, a line for each base, one for each offer, one for each give, and one for the
-- group. A file without bases has a text of version 1, each other one of version 2.
use Rattle.std.specs.Prelude.{◌≡◌, ℕ, ◌<◌, List, [], ◌∷◌, ◌++◌, length, map, codes, decimal, All}
use Rattle.std.specs.List.{flat_map}
use Rattle.hex.specs.Hex.{encode_lower}
use Rattle.item_key.specs.declared.Id.{Id}
use Rattle.item_key.specs.Keys.{IsId}
use Rattle.sharing.specs.declared.TheConstants.{RELAYS}
use Rattle.plan_check.specs.File.{File, IsBase, IsFile}
use Rattle.plan_check.specs.TextLines.{ended}

-- a space, and a number in decimal
abbrev pub number_text : ℕ → List ℕ
number_text n = 32 ∷ decimal n

abbrev pub relays_text : List ℕ → List ℕ
relays_text relays = flat_map number_text relays

-- Lines without their line feeds. An id is written in lower-case hex digits.
abbrev pub header_line : List (ℕ × ℕ) → List ℕ
header_line [] = codes "nostr-plan 1"
header_line (b ∷ bs) = codes "nostr-plan 2"

abbrev pub base_line : ℕ × ℕ → List ℕ
base_line b = codes "base" ++ number_text b.0 ++ number_text b.1

abbrev pub offer_line : Id × List ℕ → List ℕ
offer_line o = codes "offer " ++ encode_lower o.0.0 ++ relays_text o.1

abbrev pub give_line : Id × ℕ → List ℕ
give_line g = codes "give " ++ encode_lower g.0.0 ++ number_text g.1

abbrev pub group_line : List ℕ → List ℕ
group_line relays = codes "group" ++ relays_text relays

-- the lines of a file, each with its line feed
unfoldable pub plan_lines : File → List (List ℕ)
plan_lines file =
    ended (header_line file.bases) ∷ (map (λ b. ended (base_line b)) file.bases
    ++ (map (λ o. ended (offer_line o)) file.offers
    ++ (map (λ g. ended (give_line g)) file.gives ++ ended (group_line file.group) ∷ [])))

unfoldable pub plan_text : File → List ℕ
plan_text file = flat_map (λ line. line) (plan_lines file)

-- The text of a file up to its gives: the header, a line for each base, and one for each offer.
unfoldable pub offers_text : List (ℕ × ℕ) → List (Id × List ℕ) → List ℕ
offers_text bases offers =
    ended (header_line bases) ++ (flat_map (λ b. ended (base_line b)) bases ++ flat_map (λ o. ended (offer_line o)) offers)

-- an id of 32 bytes, and one relay or more that offer it
pub record IsOffer (o : Id × List ℕ) : Type 0 where
  pub id : IsId o.0
  pub some : 0 < length o.1
  pub relays : All (λ r. r < RELAYS) o.1

-- an id of 32 bytes, and a relay
pub record IsGive (g : Id × ℕ) : Type 0 where
  pub id : IsId g.0
  pub relay : g.1 < RELAYS

-- What has lines of the form, whether or not they are in order.
pub record IsOfForm (file : File) : Type 0 where
  pub bases : All IsBase file.bases
  pub offers : All IsOffer file.offers
  pub gives : All IsGive file.gives
  pub group : All (λ r. r < RELAYS) file.group

-- The text of a plan file.
pub record IsTextOf (text : List ℕ) (file : File) : Type 0 where
  pub form : IsOfForm file
  pub ordered : IsFile file
  pub is : text ≡ plan_text file
