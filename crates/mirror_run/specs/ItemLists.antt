-- The input of `recon`: the line `mine`, item lines, the line `theirs`, item lines. Items stand in any order.
use Rattle.std.specs.Prelude.{◌≡◌, ◌≢◌, ℕ, ◌+◌, ◌-◌, ◌^◌, ◌<◌, ◌≤◌, List, ◌∷◌, ◌++◌, length, take, map, codes, decimal, All}
use Rattle.hex.specs.Hex.{encode_lower}
use Rattle.item_key.specs.declared.Item.{Item}
use Rattle.item_key.specs.Keys.{IsId}
use Rattle.mirror_run.specs.Lines.{lines_of}

-- a time of 64 bits, and an id of 32 bytes
pub record IsItem (item : Item) : Type 0 where
  pub time : item.time < 2 ^ 64
  pub id : IsId item.id

-- the time in decimal, a space, the id in lower-case hex digits
abbrev pub item_line : Item → List ℕ
item_line item = decimal item.time ++ 32 ∷ encode_lower item.id.0

abbrev pub mine_line : List ℕ
mine_line = codes "mine"

abbrev pub theirs_line : List ℕ
theirs_line = codes "theirs"

-- the lines that tell two lists
abbrev pub input_lines : List Item → List Item → List (List ℕ)
input_lines mine theirs = mine_line ∷ (map item_line mine ++ theirs_line ∷ map item_line theirs)

-- the text tells two lists
pub record IsInput (text : List ℕ) (mine theirs : List Item) : Type 0 where
  pub lines : lines_of text ≡ input_lines mine theirs
  pub mine_items : All IsItem mine
  pub theirs_items : All IsItem theirs

-- more lines may follow these, so that all of them tell two lists
abbrev pub Begins : List (List ℕ) → Type 0
Begins lines =
    (mine : List Item) × (theirs : List Item) × (after : List (List ℕ))
    × All IsItem mine × All IsItem theirs × (lines ++ after ≡ input_lines mine theirs)

-- Line n, counted from 1, is the first with which the lines begin no input; it is the one after the last
-- where they begin an input and are none.
pub record IsFirstWrong (lines : List (List ℕ)) (n : ℕ) : Type 0 where
  pub counted : 1 ≤ n
  pub near : n ≤ length lines + 1
  pub before : Begins (take (n - 1) lines)
  pub wrong : n ≤ length lines → ¬ Begins (take n lines)
  pub ended : n ≡ length lines + 1 → (mine theirs : List Item) → All IsItem mine → All IsItem theirs → lines ≢ input_lines mine theirs

-- the line tells an item
abbrev pub IsItemLine : List ℕ → Type 0
IsItemLine line = (item : Item) × IsItem item × (line ≡ item_line item)
