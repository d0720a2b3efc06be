-- What is written of two things is the same only where they are.
use Rattle.std.proofs.Common.{◌≡◌, ℕ, List, [], ◌∷◌, Ok, refl, ap, ap₂}
use Rattle.hex.specs.Hex.{encode_lower, IsBytes, decode_of}
use Rattle.hex.proofs.HexLemmas.{decode_of-encode_lower}
use Rattle.nostr_event.specs.EventJson.{tag_items, tags_items}

pub encode_lower-injective : (xs ys : List ℕ) → IsBytes xs → IsBytes ys → encode_lower xs ≡ encode_lower ys → xs ≡ ys
encode_lower-injective xs ys fits also same =
    let read : decode_of (encode_lower xs) ≡ Ok xs = decode_of-encode_lower xs fits in
    let again : decode_of (encode_lower ys) ≡ Ok ys = decode_of-encode_lower ys also in
    let both : decode_of (encode_lower xs) ≡ decode_of (encode_lower ys) = ap decode_of same in
    cc

pub tag_items-injective : (xs ys : List (List ℕ)) → tag_items xs ≡ tag_items ys → xs ≡ ys
tag_items-injective [] [] same = refl
tag_items-injective [] (y ∷ ys) same = cc
tag_items-injective (x ∷ xs) [] same = cc
tag_items-injective (x ∷ xs) (y ∷ ys) same =
    let heads : x ≡ y = cc in
    let tails : tag_items xs ≡ tag_items ys = cc in
    ap₂ (λ a b. a ∷ b) heads (tag_items-injective xs ys tails)

pub tags_items-injective : (xs ys : List (List (List ℕ))) → tags_items xs ≡ tags_items ys → xs ≡ ys
tags_items-injective [] [] same = refl
tags_items-injective [] (y ∷ ys) same = cc
tags_items-injective (x ∷ xs) [] same = cc
tags_items-injective (x ∷ xs) (y ∷ ys) same =
    let heads : tag_items x ≡ tag_items y = cc in
    let tails : tags_items xs ≡ tags_items ys = cc in
    ap₂ (λ a b. a ∷ b) (tag_items-injective x y heads) (tags_items-injective xs ys tails)
