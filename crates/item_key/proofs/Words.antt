-- Bytes that differ early on.
use Rattle.std.proofs.Common.{◌≡◌, ◌≢◌, ℕ, zero, suc, ◌<◌, ◌≤◌, List, [], ◌∷◌, length, take, drop, refl, sym, ap, ◌∙◌, arith}
use Rattle.std.specs.declared.cmp.Ordering.{Ordering}
use Rattle.std.specs.declared.cmp.Ordering.TheVariants.{Less, Equal, Greater}
use Rattle.std.specs.Ordering.{nat_cmp, ordering_then}
use Rattle.std.specs.Cmp.Lexicographic.{slice_cmp}
use Rattle.std.proofs.lemmas.List.{length-take-le}
use Rattle.std.proofs.lemmas.List.Elements.{All-take}
use Rattle.item_key.specs.declared.Id.{Id}
use Rattle.item_key.specs.Keys.{number_of_bytes, IsId}
use Rattle.item_key.proofs.Order.{bytes_cmp}

three_parts : (a b c : Ordering) → ordering_then a (ordering_then b c) ≡ ordering_then (ordering_then a b) c
three_parts Less b c = refl
three_parts Equal b c = refl
three_parts Greater b c = refl

-- the first n, then the others
in_parts : (n : ℕ) (xs ys : List ℕ) → n ≤ length xs → n ≤ length ys → slice_cmp nat_cmp xs ys ≡ ordering_then (slice_cmp nat_cmp (take n xs) (take n ys)) (slice_cmp nat_cmp (drop n xs) (drop n ys))
in_parts zero xs ys le me = refl
in_parts (suc n) [] ys le me = absurd (omega arith)
in_parts (suc n) (x ∷ xs) [] le me = absurd (omega arith)
in_parts (suc n) (x ∷ xs) (y ∷ ys) le me =
    ap (ordering_then (nat_cmp x y)) (in_parts n xs ys (omega arith) (omega arith)) ∙ three_parts (nat_cmp x y) (slice_cmp nat_cmp (take n xs) (take n ys)) (slice_cmp nat_cmp (drop n xs) (drop n ys))

settled : (a b : Ordering) → a ≢ Equal → ordering_then a b ≡ a
settled Less b n = refl
settled Equal b n = absurd (n refl)
settled Greater b n = refl

-- ids whose first words differ compare as these
pub by_words : (a b : Id) → IsId a → IsId b → (o : Ordering) → o ≡ nat_cmp (number_of_bytes (take 8 a.0)) (number_of_bytes (take 8 b.0)) → o ≢ Equal → o ≡ slice_cmp nat_cmp a.0 b.0
by_words a b ia ib o is apart =
    let la : length (take 8 a.0) ≡ 8 = length-take-le 8 a.0 (omega (arith, ia.len)) in
    let lb : length (take 8 b.0) ≡ 8 = length-take-le 8 b.0 (omega (arith, ib.len)) in
    let front : slice_cmp nat_cmp (take 8 a.0) (take 8 b.0) ≡ o =
    bytes_cmp (take 8 a.0) (take 8 b.0) (la ∙ sym lb) (All-take (λ b. b < 256) 8 a.0 ia.bytes) (All-take (λ b. b < 256) 8 b.0 ib.bytes) ∙ sym is in
    sym (in_parts 8 a.0 b.0 (omega (arith, ia.len)) (omega (arith, ib.len)) ∙ ap (λ front. ordering_then front (slice_cmp nat_cmp (drop 8 a.0) (drop 8 b.0))) front ∙ settled o (slice_cmp nat_cmp (drop 8 a.0) (drop 8 b.0)) apart)
