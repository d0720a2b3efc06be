-- The parts of an item's line.
use Rattle.std.proofs.Common.{◌≡◌, ℕ, ◌+◌, ◌-◌, ◌<◌, List, ◌∷◌, length, take, drop, get_or, decimal, ap, ◌∙◌, arith, length-append, take_at}
use Rattle.std.proofs.lemmas.List.{drop_at}
use Rattle.hex.specs.Hex.{encode_lower, lower_digits}
use Rattle.hex.proofs.HexLemmas.{length-encode_with}
use Rattle.item_key.specs.declared.Item.{Item}
use Rattle.mirror_run.specs.ItemLists.{item_line, IsItem}

length-digits : (item : Item) → IsItem item → length (encode_lower item.id.0) ≡ 64
length-digits item is = let e = length-encode_with lower_digits item.id.0 in omega (arith, e, is.id.len)

pub length-line : (line : List ℕ) (item : Item) → IsItem item → line ≡ item_line item → length line ≡ length (decimal item.time) + 65
length-line line item is same =
    let whole = ap length same ∙ length-append (decimal item.time) (32 ∷ encode_lower item.id.0) in
    omega (arith, whole, length-digits item is)

pub short_line : (line : List ℕ) (item : Item) → IsItem item → length line < 65 → line ≡ item_line item → ⊥
short_line line item is short same = omega (arith, length-line line item is same)

pub line_time : (line : List ℕ) (item : Item) → IsItem item → line ≡ item_line item → take (length line - 65) line ≡ decimal item.time
line_time line item is same =
    let at : length (decimal item.time) ≡ length line - 65 = omega (arith, length-line line item is same) in
    ap (take (length line - 65)) same ∙ take_at (decimal item.time) (32 ∷ encode_lower item.id.0) (length line - 65) at

pub line_rest : (line : List ℕ) (item : Item) → IsItem item → line ≡ item_line item → drop (length line - 65) line ≡ 32 ∷ encode_lower item.id.0
line_rest line item is same =
    let at : length (decimal item.time) ≡ length line - 65 = omega (arith, length-line line item is same) in
    ap (drop (length line - 65)) same ∙ drop_at (decimal item.time) (32 ∷ encode_lower item.id.0) (length line - 65) at

pub line_space : (line : List ℕ) (item : Item) → IsItem item → line ≡ item_line item → get_or (drop (length line - 65) line) 0 0 ≡ 32
line_space line item is same = ap (λ t. get_or t 0 0) (line_rest line item is same)

pub line_id : (line : List ℕ) (item : Item) → IsItem item → line ≡ item_line item → drop 1 (drop (length line - 65) line) ≡ encode_lower item.id.0
line_id line item is same = ap (drop 1) (line_rest line item is same)
