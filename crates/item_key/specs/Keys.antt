-- Keys, in their order. An item is a key, and a bound is a key or infinity (Negentropy protocol V1).
use Rattle.std.specs.Prelude.{◌≡◌, ℕ, ◌+◌, ◌-◌, ◌*◌, ◌^◌, ◌<◌, ◌⊎◌, List, [], ◌∷◌, length, replicate, All}
use Rattle.item_key.specs.declared.Id.{Id}
use Rattle.item_key.specs.declared.Item.{Item}

-- the time that stands for infinity, which no record has
abbrev pub endless : ℕ
endless = 2 ^ 64 - 1

-- bytes as one number, the first byte highest
abbrev pub number_of_bytes : List ℕ → ℕ
number_of_bytes [] = 0
number_of_bytes (b ∷ bs) = b * 256 ^ length bs + number_of_bytes bs

-- A key's place in the order of keys: by time, then by the bytes of the id.
unfoldable pub place : Item → ℕ
place k = k.time * 256 ^ 32 + number_of_bytes k.id.0

-- the item of a time and the bytes of an id
abbrev pub item_of : ℕ → List ℕ → Item
item_of time bytes = record { time = time; id = record { 0 = bytes } }

abbrev pub id_of_bytes : List ℕ → Id
id_of_bytes bytes = record { 0 = bytes }

-- 32 bytes
pub record IsId (id : Id) : Type 0 where
  pub len : length id.0 ≡ 32
  pub bytes : All (λ b. b < 256) id.0

-- a time below infinity, and an id
pub record IsKey (k : Item) : Type 0 where
  pub time : k.time < endless
  pub id : IsId k.id

abbrev pub zero_id : Id
zero_id = record { 0 = replicate 32 0 }

-- the least key
abbrev pub least : Item
least = record { time = 0; id = zero_id }

-- above every key
abbrev pub infinity : Item
infinity = record { time = endless; id = zero_id }

-- Two keys by time, then by bytes: what place says in one number.
abbrev pub BytesBelow : List ℕ → List ℕ → Type 0
BytesBelow [] ys = ⊥
BytesBelow (x ∷ xs) [] = ⊥
BytesBelow (x ∷ xs) (y ∷ ys) = (x < y) ⊎ ((x ≡ y) × BytesBelow xs ys)

abbrev pub ComesBefore : Item → Item → Type 0
ComesBefore a b = (a.time < b.time) ⊎ ((a.time ≡ b.time) × BytesBelow a.id.0 b.id.0)
