-- How many bytes the parts of a message take.
use Rattle.std.proofs.Common.{◌≡◌, ℕ, zero, suc, ◌+◌, ◌*◌, ◌/◌, ◌%◌, ◌^◌, ◌<◌, ◌≤◌, ◌-◌, inl, inr, Bool, true, false, cond, eqb, List, [], ◌∷◌, ◌++◌, length, refl, ap, ◌∙◌, arith}
use Rattle.std.specs.Prelude.{All}
use Rattle.std.specs.List.{flat_map}
use Rattle.std.proofs.Math.Nat.{pow-suc}
use Rattle.std.proofs.lemmas.Bool.{lt-ltb}
use Rattle.std.proofs.lemmas.List.{length-append, length-take}
use Rattle.std.proofs.lemmas.List.Elements.{All-head, All-tail}
use Rattle.neg_varint.specs.Spelling.{marked_digits, spelling}
use Rattle.item_key.specs.declared.Id.{Id}
use Rattle.item_key.specs.declared.Item.{Item}
use Rattle.item_key.specs.Keys.{endless, infinity, IsId}
use Rattle.neg_codec.specs.Ranges.{skip, print, ids, Span, IsEdge}
use Rattle.neg_codec.specs.Encoding.{length_kept, bytes_kept, bound_text, claim_text, range_text, ranges_text, text_of, IsShort}
use Rattle.neg_codec.proofs.Writes.{kept}

-- ---- numbers

digits_few : (k j n : ℕ) → n < 128 ^ j → length (marked_digits k n) ≤ j
digits_few zero j n lt = omega arith
digits_few (suc k) zero n lt =
    let none : n ≡ 0 = omega arith in
    rw none (omega arith)
digits_few (suc k) (suc j) n lt = go (eqb n 0) (digits_few k j (n / 128) (let p : 128 ^ suc j ≡ 128 ^ j * 128 = pow-suc 128 j in omega arith))
  where
    go : (b : Bool) → length (marked_digits k (n / 128)) ≤ j → length (cond b [] (marked_digits k (n / 128) ++ (128 + n % 128) ∷ [])) ≤ suc j
    go true fewer = omega arith
    go false fewer = omega (arith, length-append (marked_digits k (n / 128)) ((128 + n % 128) ∷ []), fewer)

pub spelling_few : (j n : ℕ) → n < 128 ^ suc j → length (spelling n) ≤ suc j
unfolding spelling
spelling_few j n lt =
    let p : 128 ^ suc j ≡ 128 ^ j * 128 = pow-suc 128 j in
    let few = digits_few 9 j (n / 128) (omega arith) in
    omega (arith, length-append (marked_digits 9 (n / 128)) ((n % 128) ∷ []), few)

pub spelling_some : (n : ℕ) → 1 ≤ length (spelling n)
unfolding spelling
spelling_some n = omega (arith, length-append (marked_digits 9 (n / 128)) ((n % 128) ∷ []))

-- ---- bounds

pub bound_infinite : (before : ℕ) → length (bound_text before infinity) ≡ 2
bound_infinite before = refl

bound_parts : (before : ℕ) (upper : Item) → upper.time < endless
    → length (bound_text before upper) ≡ length (spelling (1 + (upper.time - before))) + (length (spelling (length_kept upper.id.0)) + length (bytes_kept upper.id.0))
bound_parts before upper fin =
    let test = lt-ltb upper.time endless fin in
    rw test (length-append (spelling (1 + (upper.time - before))) (spelling (length_kept upper.id.0) ++ bytes_kept upper.id.0)
    ∙ ap (λ (n : ℕ). length (spelling (1 + (upper.time - before))) + n) (length-append (spelling (length_kept upper.id.0)) (bytes_kept upper.id.0)))

pub kept_length : (bytes : List ℕ) → length (bytes_kept bytes) ≡ length_kept bytes
kept_length bytes = let k = kept bytes in omega (arith, k.within, length-take (length_kept bytes) bytes)

pub key_sum : (before time kept_len code count : ℕ) (bytes : List ℕ) (key : Item) → time ≡ key.time → bytes ≡ key.id.0 → key.time < endless
    → code ≡ length (spelling (1 + (time - before))) → kept_len ≡ length_kept bytes → count ≡ length (spelling kept_len) → code + count + kept_len ≡ length (bound_text before key)
key_sum before time kept_len code count bytes key at id fin is_code is_kept is_count =
    let same : length_kept bytes ≡ length_kept key.id.0 = ap length_kept id in
    let code_is : code ≡ length (spelling (1 + (key.time - before))) = is_code ∙ ap (λ (t : ℕ). length (spelling (1 + (t - before)))) at in
    let count_is : count ≡ length (spelling (length_kept key.id.0)) = is_count ∙ ap (λ (n : ℕ). length (spelling n)) (is_kept ∙ same) in
    omega (arith, bound_parts before key fin, kept_length key.id.0, code_is, count_is, is_kept, same)

-- a time code, a length and an id
pub bound_most : (before : ℕ) (upper : Item) → IsEdge upper → length (bound_text before upper) ≤ 43
bound_most before upper (inl e) = rw e (omega arith)
bound_most before upper (inr key) =
    let k = kept upper.id.0 in
    let code = spelling_few 9 (1 + (upper.time - before)) (omega (arith, key.time)) in
    let len = spelling_few 0 (length_kept upper.id.0) (omega (arith, k.within, key.id.len)) in
    omega (arith, bound_parts before upper key.time, code, len, kept_length upper.id.0, k.within, key.id.len)

-- ---- claims

pub skip_len : length (claim_text skip) ≡ 1
unfolding spelling
skip_len = refl

pub print_len : (bytes : List ℕ) → length (claim_text (print bytes)) ≡ 1 + length bytes
unfolding spelling
print_len bytes = omega arith

pub ids_flat : (list : List Id) → All IsId list → length (flat_map (λ i. i.0) list) ≡ 32 * length list
ids_flat [] fits = refl
ids_flat (i ∷ is) fits =
    omega (arith, length-append i.0 (flat_map (λ i. i.0) is), (All-head IsId i is fits).len, ids_flat is (All-tail IsId i is fits))

two_len : length (spelling 2) ≡ 1
unfolding spelling
two_len = refl

pub ids_parts : (list : List Id) → All IsId list → length (claim_text (ids list)) ≡ 1 + (length (spelling (length list)) + 32 * length list)
ids_parts list fits =
    let two : length (spelling 2) ≡ 1 = two_len in
    omega (arith, length-append (spelling 2) (spelling (length list) ++ flat_map (λ i. i.0) list), length-append (spelling (length list)) (flat_map (λ i. i.0) list), ids_flat list fits, two_len)

pub ids_most : (list : List Id) → All IsId list → IsShort (ids list) → length (claim_text (ids list)) ≤ 4 + 32 * length list
ids_most list fits short = omega (arith, ids_parts list fits, spelling_few 2 (length list) short)

pub ids_least : (list : List Id) → All IsId list → 32 * length list ≤ length (claim_text (ids list))
ids_least list fits = omega (arith, ids_parts list fits)

-- ---- ranges

pub range_len : (before : ℕ) (r : Span) → length (range_text before r) ≡ length (bound_text before r.upper) + length (claim_text r.claim)
range_len before r = length-append (bound_text before r.upper) (claim_text r.claim)

pub text_none : length (text_of []) ≡ 1
unfolding text_of ranges_text
text_none = refl
