-- Ids and lists of 32 bytes.
use Rattle.std.proofs.Common.{◌<◌, ℕ, zero, suc, List, [], ◌∷◌, All, slice_index, arith}
use Rattle.std.proofs.lemmas.List.Elements.{All-head, All-tail}
use Rattle.item_key.specs.declared.Id.{Id}
use Rattle.item_key.specs.Keys.{IsId}
use Rattle.item_key.proofs.Order.{all_bytes}
use Rattle.nostr_event.specs.EventView.{IsBytesOf}

each_byte : (xs : List ℕ) → All (λ b. b < 256) xs → (i : ℕ) → slice_index xs i < 256
each_byte [] all i = omega arith
each_byte (x ∷ xs) all zero = All-head (λ b. b < 256) x xs all
each_byte (x ∷ xs) all (suc i) = each_byte xs (All-tail (λ b. b < 256) x xs all) i

pub bytes_of_id : (id : Id) → IsId id → IsBytesOf 32 id.0
bytes_of_id id is = (is.len, each_byte id.0 is.bytes)

pub id_of_bytes : (bytes : List ℕ) → IsBytesOf 32 bytes → IsId (record { 0 = bytes })
id_of_bytes bytes of = record { len = of.0; bytes = all_bytes bytes of.1 }
