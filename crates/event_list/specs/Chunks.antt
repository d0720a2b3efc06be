-- Lists in chunks.
use Rattle.std.specs.Prelude.{◌≡◌, ◌≤◌, ◌<◌, ◌^◌, List, ◌++◌, length, flat_map}
use Rattle.std.specs.List.{AllByRecursion}

-- the items of all chunks
abbrev pub joined : {A : Type 0} → List (List A) → List A
joined chunks = flat_map (λ c. c) chunks

abbrev pub AreFull : {A : Type 0} → List (List A) → Type 0
AreFull chunks = AllByRecursion (λ c. length c ≡ 128) chunks

-- each chunk but the last is full, and the items can be counted
pub record IsChunked {A : Type 0} (full : List (List A)) (last : List A) : Type 0 where
  pub whole : AreFull full
  pub short : length last ≤ 128
  pub few : length (joined full ++ last) < 2 ^ 64
