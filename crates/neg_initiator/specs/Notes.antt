-- Ids of a list that others lack, put into those found before.
use Rattle.std.specs.Prelude.{◌≡◌, ◌⊎◌, List, Contains}
use Rattle.item_key.specs.declared.Id.{Id}

-- one id, where the others lack it
pub record NotesOne (others : List Id) (id : Id) (old new : List Id) : Type 0 where
  pub kept : (i : Id) → Contains old i → Contains new i
  pub news : (i : Id) → Contains new i → Contains old i ⊎ ((i ≡ id) × (Contains others i → ⊥))
  pub noted : (Contains others id → ⊥) → Contains new id

-- those of a list which the others lack
pub record Notes (others seen old new : List Id) : Type 0 where
  pub kept : (i : Id) → Contains old i → Contains new i
  pub news : (i : Id) → Contains new i → Contains old i ⊎ (Contains seen i × (Contains others i → ⊥))
  pub noted : (i : Id) → Contains seen i → (Contains others i → ⊥) → Contains new i
