-- A finite bound's id is its first bytes, then zeros.
use Rattle.std.proofs.Common.{◌≡◌, ℕ, ◌<◌, ◌≤◌, List, ◌++◌, length, drop, replicate, ap}
use Rattle.std.proofs.lemmas.Bool.{lt-ltb}
use Rattle.std.proofs.lemmas.List.{drop-replicate}
use Rattle.item_key.specs.declared.Item.{Item}
use Rattle.item_key.specs.Keys.{endless}
use Rattle.neg_codec.specs.Reading.{bound_of}

abbrev pub padded : ℕ → List ℕ → List ℕ → Item
padded time front zeros = record { time = time; id = record { 0 = front ++ zeros } }

pub bound_finite : (time : ℕ) (front : List ℕ) → time < endless → length front ≤ 32 → padded time front (drop (length front) (replicate 32 0)) ≡ bound_of time front
bound_finite time front lt le = rw (lt-ltb time endless lt) (ap (padded time front) (drop-replicate (length front) 32 0))
