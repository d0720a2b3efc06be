-- The one text that is written for a message: of the spellings of each bound, the shortest.
use Rattle.std.specs.Prelude.{ℕ, ◌+◌, ◌-◌, ◌^◌, ◌<◌, ◌==◌, List, [], ◌∷◌, ◌++◌, length, take, nat_lt, if◌then◌else◌}
use Rattle.std.specs.List.{flat_map}
use Rattle.neg_varint.specs.Spelling.{spelling}
use Rattle.item_key.specs.declared.Item.{Item}
use Rattle.item_key.specs.Keys.{endless}
use Rattle.neg_codec.specs.Ranges.{Claim, skip, print, ids, Span}

-- how many bytes are left where the zeros at the end are left out
abbrev pub length_kept : List ℕ → ℕ
length_kept [] = 0
length_kept (b ∷ bs) = if (b + length_kept bs) == 0 then 0 else length_kept bs + 1

abbrev pub bytes_kept : List ℕ → List ℕ
bytes_kept bytes = take (length_kept bytes) bytes

-- a time code after the time before, a length and the first bytes of the id; infinity is 00 00
abbrev pub bound_text : ℕ → Item → List ℕ
bound_text before upper =
    if nat_lt upper.time endless
    then spelling (1 + (upper.time - before)) ++ (spelling (length_kept upper.id.0) ++ bytes_kept upper.id.0)
    else 0 ∷ 0 ∷ []

-- mode and payload
abbrev pub claim_text : Claim → List ℕ
claim_text skip = spelling 0
claim_text (print bytes) = spelling 1 ++ bytes
claim_text (ids list) = spelling 2 ++ (spelling (length list) ++ flat_map (λ i. i.0) list)

abbrev pub range_text : ℕ → Span → List ℕ
range_text before r = bound_text before r.upper ++ claim_text r.claim

unfoldable pub ranges_text : ℕ → List Span → List ℕ
ranges_text before [] = []
ranges_text before (r ∷ rs) = range_text before r ++ ranges_text r.upper.time rs

unfoldable pub text_of : List Span → List ℕ
text_of rs = 0x61 ∷ ranges_text 0 rs

-- three bytes are enough for the count of the ids
abbrev pub IsShort : Claim → Type 0
IsShort (ids list) = length list < 2 ^ 21
IsShort _ = Unit {0}
