-- The text of a draft whose digest is an event's id: the array `[0,pubkey,created_at,kind,tags,content]` with no space (NIP-01).
-- Texts are lists of UTF-8 bytes.
use Rattle.std.specs.Prelude.{ℕ, ◌/◌, ◌%◌, ◌==◌, List, [], ◌∷◌, ◌++◌, Option, Some, None, option_map, unwrap_or, flat_map, if◌then◌else◌, nat_lt, decimal, codes}
use Rattle.std.specs.Char.{digit_char}
use Rattle.hex.specs.Hex.{encode_lower}
use Rattle.nostr_event.specs.declared.draft.Draft.{Draft}
use Rattle.nostr_event.specs.declared.draft.Spelling.{Spelling}
use Rattle.nostr_event.specs.declared.draft.Spelling.TheVariants.{Plain, Escaped}

-- line feed, quote, backslash, carriage return, tab, backspace and form feed, each with the letter of its short escape
abbrev pub short_escapes : List (ℕ × ℕ)
short_escapes = (10, 110) ∷ (34, 34) ∷ (92, 92) ∷ (13, 114) ∷ (9, 116) ∷ (8, 98) ∷ (12, 102) ∷ []

abbrev pub letter_in : List (ℕ × ℕ) → ℕ → Option ℕ
letter_in [] x = None
letter_in (e ∷ es) x = if e.0 == x then Some e.1 else letter_in es x

-- the letter that stands after the backslash, for a byte with a short escape
abbrev pub escape_letter : ℕ → Option ℕ
escape_letter x = letter_in short_escapes x

-- what stands for a control character that has no short escape
abbrev pub control_text : Spelling → ℕ → List ℕ
control_text Plain x = x ∷ []
control_text Escaped x = 92 ∷ 117 ∷ 48 ∷ 48 ∷ digit_char (x / 16) ∷ digit_char (x % 16) ∷ []

-- what stands in a string for the byte x
unfoldable pub byte_text : Spelling → ℕ → List ℕ
byte_text s x =
    unwrap_or (option_map (λ letter. 92 ∷ letter ∷ []) (escape_letter x))
    (if nat_lt x 32 then control_text s x else x ∷ [])

-- a string, with its quotes
abbrev pub string_text : Spelling → List ℕ → List ℕ
string_text s text = 34 ∷ (flat_map (byte_text s) text ++ 34 ∷ [])

-- the texts of some things, with a comma between each two
abbrev pub joined : {X : Type 0} → (X → List ℕ) → List X → List ℕ
joined text [] = []
joined text (x ∷ xs) = text x ++ flat_map (λ y. 44 ∷ text y) xs

-- an array of strings
abbrev pub tag_text : Spelling → List (List ℕ) → List ℕ
tag_text s texts = 91 ∷ (joined (string_text s) texts ++ 93 ∷ [])

-- an array of arrays of strings
abbrev pub tags_text : Spelling → List (List (List ℕ)) → List ℕ
tags_text s tags = 91 ∷ (joined (tag_text s) tags ++ 93 ∷ [])

-- the whole text
abbrev pub id_text_of : Spelling → Draft → List ℕ
id_text_of s d =
    codes "[0," ++ string_text s (encode_lower d.pubkey) ++ codes "," ++ decimal d.created_at ++ codes "," ++ decimal d.kind
    ++ codes "," ++ tags_text s d.tags ++ codes "," ++ string_text s d.content ++ codes "]"
