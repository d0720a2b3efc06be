-- The JSON text of an event, from the texts of its strings, and what it is read as.
use Rattle.std.proofs.Common.{◌≡◌, ℕ, true, List, [], ◌∷◌, ◌++◌, flat_map, Some, option_map, option_and_then, decimal, codes, refl, sym, ap, ap₂, ◌∙◌, append_assoc, arith}
use Rattle.std.proofs.lemmas.Bool.Decides.{nat_tests}
use Rattle.json.specs.Print.{escape_byte, escape, quoted}
use Rattle.hex.specs.Hex.{encode_lower}
use Rattle.serde_json.specs.Data.{array, string, item}
use Rattle.serde_json.specs.Read.{of_json, of_items}
use Rattle.serde_json.specs.Written.{outline, items_outline, compact_text, items_text}
use Rattle.serde_json.proofs.Numbers.{number_of-decimal}
use Rattle.serde_json.proofs.OnLiterals.{serde_json_on_literals}
use Rattle.nostr_event.specs.declared.draft.Spelling.TheVariants.{Escaped}
use Rattle.nostr_event.specs.IdText.{byte_text, string_text, tag_text, tags_text}
use Rattle.nostr_event.specs.EventView.{EventView, IsInRange}
use Rattle.nostr_event.specs.EventJson.{tag_items, tags_items, object_of}

byte_is : (x : ℕ) → escape_byte x ≡ byte_text Escaped x
unfolding escape_byte byte_text
byte_is x = grind (arith, nat_tests)

escape_is : (text : List ℕ) → escape text ≡ flat_map (byte_text Escaped) text
escape_is [] = refl
escape_is (x ∷ xs) = ap₂ (λ (a b : List ℕ). a ++ b) (byte_is x) (escape_is xs)

string_is : (text : List ℕ) → quoted text ≡ string_text Escaped text
string_is text = ap (λ l. 34 ∷ (l ++ 34 ∷ [])) (escape_is text)

others_are : (texts : List (List ℕ)) → items_text true (tag_items texts) ≡ flat_map (λ y. 44 ∷ string_text Escaped y) texts ++ 93 ∷ []
others_are [] = refl
others_are (t ∷ ts) =
    ap₂ (λ (a b : List ℕ). 44 ∷ (a ++ b)) (string_is t) (others_are ts)
    ∙ sym (append_assoc (44 ∷ string_text Escaped t) (flat_map (λ y. 44 ∷ string_text Escaped y) ts) (93 ∷ []))

tag_is : (texts : List (List ℕ)) → compact_text (array (tag_items texts)) ≡ tag_text Escaped texts
tag_is [] = refl
tag_is (t ∷ ts) =
    ap₂ (λ (a b : List ℕ). 91 ∷ (a ++ b)) (string_is t) (others_are ts)
    ∙ ap (λ l. 91 ∷ l) (sym (append_assoc (string_text Escaped t) (flat_map (λ y. 44 ∷ string_text Escaped y) ts) (93 ∷ [])))

other_tags_are : (tags : List (List (List ℕ))) → items_text true (tags_items tags) ≡ flat_map (λ y. 44 ∷ tag_text Escaped y) tags ++ 93 ∷ []
other_tags_are [] = refl
other_tags_are (t ∷ ts) =
    ap₂ (λ (a b : List ℕ). 44 ∷ (a ++ b)) (tag_is t) (other_tags_are ts)
    ∙ sym (append_assoc (44 ∷ tag_text Escaped t) (flat_map (λ y. 44 ∷ tag_text Escaped y) ts) (93 ∷ []))

tags_are : (tags : List (List (List ℕ))) → compact_text (array (tags_items tags)) ≡ tags_text Escaped tags
tags_are [] = refl
tags_are (t ∷ ts) =
    ap₂ (λ (a b : List ℕ). 91 ∷ (a ++ b)) (tag_is t) (other_tags_are ts)
    ∙ ap (λ l. 91 ∷ l) (sym (append_assoc (tag_text Escaped t) (flat_map (λ y. 44 ∷ tag_text Escaped y) ts) (93 ∷ [])))

-- the object, from the texts of its members
abbrev pub object_text : (content created_at id kind pubkey sig tags : List ℕ) → List ℕ
object_text content created_at id kind pubkey sig tags =
    codes "{\"content\":" ++ (content ++ (codes ",\"created_at\":" ++ (created_at ++ (codes ",\"id\":" ++ (id ++ (codes ",\"kind\":" ++ (kind
    ++ (codes ",\"pubkey\":" ++ (pubkey ++ (codes ",\"sig\":" ++ (sig ++ (codes ",\"tags\":" ++ (tags ++ codes "}")))))))))))))

members_are : (e : EventView) → compact_text (object_of e) ≡ object_text (quoted e.draft.content) (decimal e.draft.created_at) (quoted (encode_lower e.id.0)) (decimal e.draft.kind)
    (quoted (encode_lower e.draft.pubkey)) (quoted (encode_lower e.sig)) (compact_text (array (tags_items e.draft.tags)))
unfolding escape_byte
members_are e = refl

pub object_is : (e : EventView) → compact_text (object_of e) ≡ object_text (string_text Escaped e.draft.content) (decimal e.draft.created_at) (string_text Escaped (encode_lower e.id.0)) (decimal e.draft.kind)
    (string_text Escaped (encode_lower e.draft.pubkey)) (string_text Escaped (encode_lower e.sig)) (tags_text Escaped e.draft.tags)
object_is e =
    let created_at = decimal e.draft.created_at in
    let kind = decimal e.draft.kind in
    let id = encode_lower e.id.0 in
    let pubkey = encode_lower e.draft.pubkey in
    let sig = encode_lower e.sig in
    let tags = compact_text (array (tags_items e.draft.tags)) in
    members_are e
    ∙ ap (λ (x : List ℕ). object_text x created_at (quoted id) kind (quoted pubkey) (quoted sig) tags) (string_is e.draft.content)
    ∙ ap (λ (x : List ℕ). object_text (string_text Escaped e.draft.content) created_at x kind (quoted pubkey) (quoted sig) tags) (string_is id)
    ∙ ap (λ (x : List ℕ). object_text (string_text Escaped e.draft.content) created_at (string_text Escaped id) kind x (quoted sig) tags) (string_is pubkey)
    ∙ ap (λ (x : List ℕ). object_text (string_text Escaped e.draft.content) created_at (string_text Escaped id) kind (string_text Escaped pubkey) x tags) (string_is sig)
    ∙ ap (λ (x : List ℕ). object_text (string_text Escaped e.draft.content) created_at (string_text Escaped id) kind (string_text Escaped pubkey) (string_text Escaped sig) x) (tags_are e.draft.tags)

-- ---- what the object's outline is read as

tag_read : (texts : List (List ℕ)) → of_items (items_outline (tag_items texts)) ≡ Some (tag_items texts)
tag_read [] = refl
tag_read (t ∷ ts) = ap (option_map (item (string t))) (tag_read ts)

tags_read : (tags : List (List (List ℕ))) → of_items (items_outline (tags_items tags)) ≡ Some (tags_items tags)
tags_read [] = refl
tags_read (t ∷ ts) = ap₂ (λ first rest. option_and_then (λ d. option_map (item d) rest) first) (ap (option_map array) (tag_read t)) (tags_read ts)

pub object_read : (e : EventView) → IsInRange e → of_json (outline (object_of e)) ≡ Some (object_of e)
unfolding serde_json_on_literals
object_read e h = rw (number_of-decimal e.draft.created_at (omega (arith, h.finite)), number_of-decimal e.draft.kind (omega (arith, h.kind)), tags_read e.draft.tags) refl
