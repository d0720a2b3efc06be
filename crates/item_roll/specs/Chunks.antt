-- A roll kept in parts, which are chunks of items or runs of such parts: where each begins, and the sum of the ids before
-- it. The items of a part are given by `its`, and it has at most `most`.
use Rattle.std.specs.Prelude.{◌≡◌, ℕ, ◌+◌, ◌%◌, ◌^◌, ◌<◌, ◌≤◌, ◌⊎◌, List, [], ◌∷◌, ◌++◌, suc, length, take, drop, get_or}
use Rattle.std.specs.List.{flat_map, insert}
use Rattle.std.specs.Arc.{arc_value}
use Rattle.item_key.specs.declared.Item.{Item}
use Rattle.neg_print.specs.declared.sum.Sum.{Sum}
use Rattle.neg_print.specs.Print.{little_number}
use Rattle.neg_print.specs.Total.{total_of}
use Rattle.item_roll.specs.Halves.{IsPart}
use Rattle.item_roll.specs.Sums.{sum_at}
use Rattle.item_roll.specs.declared.entries.Entry.{Entry}

-- the items of a part and what stands beside it
abbrev pub items_at : {V : Type 0} → (V → List Item) → Entry V → List Item
items_at its e = its (arc_value e.part)

abbrev pub joined : {V : Type 0} → (V → List Item) → List (Entry V) → List Item
joined its entries = flat_map (items_at its) entries

-- how many items stand before the i-th part
abbrev pub starts : {V : Type 0} → (V → List Item) → List (Entry V) → ℕ → ℕ
starts its entries i = length (joined its (take i entries))

-- Each part tells how many items stand before it, and their sum. All and their sum so far are given.
abbrev pub Tells : {V : Type 0} → (V → List Item) → ℕ → ℕ → ℕ → List (Entry V) → Type 0
Tells its most count total [] = Unit {0}
Tells its most count total (e ∷ es) =
    (e.before ≡ count) × (total_of e.sum_before ≡ total) × IsPart most (items_at its e)
    × Tells its most (count + length (items_at its e)) ((total + sum_at (items_at its e)) % 2 ^ 256) es

-- what is kept beside some parts: how many items they have, and the sum of their ids
pub record IsKept {V : Type 0} (its : V → List Item) (most : ℕ) (entries : List (Entry V)) (count : ℕ) (total : Sum) : Type 0 where
  pub tells : Tells its most 0 0 entries
  pub len : count ≡ length (joined its entries)
  pub sum : total_of total ≡ sum_at (joined its entries)
  pub few : length (joined its entries) ≤ 1000000

-- the part in which the item at that place stands
pub record IsAt {V : Type 0} (its : V → List Item) (entries : List (Entry V)) (place i : ℕ) : Type 0 where
  pub within : i < length entries
  pub from : starts its entries i ≤ place
  pub below : place < starts its entries (i + 1)

-- a part in which that many items end
pub record Ends {V : Type 0} (its : V → List Item) (entries : List (Entry V)) (count i : ℕ) : Type 0 where
  pub within : i < length entries
  pub from : starts its entries i ≤ count
  pub upto : count ≤ starts its entries (i + 1)

-- one more item stands before the part, with this sum
pub record IsRaised {V : Type 0} (by : ℕ) (old new : Entry V) : Type 0 where
  pub before : new.before ≡ old.before + 1
  pub sum : total_of new.sum_before ≡ (total_of old.sum_before + by) % 2 ^ 256
  pub part : new.part ≡ old.part

-- The entries from one index on below another are raised, and the others stay.
pub record Raised {V : Type 0} (by start stop : ℕ) (old new : List (Entry V)) : Type 0 where
  pub len : length new ≡ length old
  pub raised : (j : ℕ) (d : Entry V) → start ≤ j → j < stop → j < length old → IsRaised by (get_or old j d) (get_or new j d)
  pub kept : (j : ℕ) (d : Entry V) → (j < start) ⊎ (stop ≤ j) → get_or new j d ≡ get_or old j d

-- An item was put into one part, and counted before the later ones.
pub record Grown {V : Type 0} (its : V → List Item) (entries : List (Entry V)) (i j : ℕ) (item : Item) (new : List (Entry V)) : Type 0 where
  pub len : length new ≡ length entries
  pub front : (k : ℕ) (d : Entry V) → k < i → get_or new k d ≡ get_or entries k d
  pub before : (d : Entry V) → (get_or new i d).before ≡ (get_or entries i d).before
  pub sum : (d : Entry V) → (get_or new i d).sum_before ≡ (get_or entries i d).sum_before
  pub items : (d : Entry V) → items_at its (get_or new i d) ≡ insert (items_at its (get_or entries i d)) j item
  pub back : (k : ℕ) (d : Entry V) → i < k → k < length entries → IsRaised (little_number item.id.0) (get_or entries k d) (get_or new k d)

-- not too many items before any part
abbrev pub AreFew : {V : Type 0} → List (Entry V) → Type 0
AreFew {V} entries = (i : ℕ) (d : Entry V) → i < length entries → (get_or entries i d).before ≤ 1000000

-- two parts with the items of one
pub record AreHalves {V : Type 0} (its : V → List Item) (whole left right : Entry V) : Type 0 where
  pub items : items_at its left ++ items_at its right ≡ items_at its whole
  pub some_first : 0 < length (items_at its left)
  pub some_second : 0 < length (items_at its right)
  pub before_first : left.before ≡ whole.before
  pub before_second : right.before ≡ whole.before + length (items_at its left)
  pub sum_first : left.sum_before ≡ whole.sum_before
  pub sum_second : total_of right.sum_before ≡ (total_of whole.sum_before + sum_at (items_at its left)) % 2 ^ 256

-- One part was cut in two, the first with those items.
pub record Cut {V : Type 0} (its : V → List Item) (entries : List (Entry V)) (i : ℕ) (first : List Item) (new : List (Entry V)) : Type 0 where
  pub left : Entry V
  pub right : Entry V
  pub first_is : items_at its left ≡ first
  pub halves : (d : Entry V) → AreHalves its (get_or entries i d) left right
  pub list : new ≡ take i entries ++ left ∷ right ∷ drop (suc i) entries

-- The part has room for an item at that place, before its j-th.
pub record HasRoom {V : Type 0} (its : V → List Item) (most : ℕ) (entries : List (Entry V)) (place i j : ℕ) : Type 0 where
  pub within : i < length entries
  pub there : starts its entries i + j ≡ place
  pub inside : (d : Entry V) → j ≤ length (items_at its (get_or entries i d))
  pub room : (d : Entry V) → length (items_at its (get_or entries i d)) < most
