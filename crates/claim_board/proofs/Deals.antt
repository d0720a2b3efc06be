-- The lanes that a board deals out.
use Rattle.std.proofs.Common.{◌≡◌, ℕ, suc, zero, ◌+◌, ◌<◌, List, [], ◌∷◌, ◌++◌, map, length, get_or, take, drop, replicate, refl, ap, ◌∙◌, arith}
use Rattle.std.proofs.Math.Seq.{take-suc, drop-cons}
use Rattle.std.proofs.lemmas.List.{map-append, length-take}
use Rattle.atomic_table.specs.Seated.{TableId}
use Rattle.claim_board.specs.declared.records.LaneRecord.{LaneRecord}
use Rattle.claim_board.specs.Rules.{fresh, named}
use Rattle.claim_board.specs.Views.{placed_at}

named_snoc : (n : ℕ) (l : List ℕ) (x : ℕ) → named n (l ++ x ∷ []) ≡ named n l ++ fresh (n + length l) x ∷ []
named_snoc n [] x = let e : n ≡ n + 0 = omega arith in ap (λ (k : ℕ). fresh k x ∷ []) e
named_snoc n (y ∷ ys) x = let e : suc n + length ys ≡ n + suc (length ys) = omega arith in ap (λ (z : List LaneRecord). fresh n y ∷ z) (named_snoc (suc n) ys x ∙ ap (λ (k : ℕ). named (suc n) ys ++ fresh k x ∷ []) e)

pub next_dealt : (ls : List ℕ) (i : ℕ) → i < length ls → named i (drop i ls) ≡ fresh i (get_or ls i 0) ∷ named (i + 1) (drop (i + 1) ls)
next_dealt ls i h = let e : suc i ≡ i + 1 = omega arith in ap (named i) (drop-cons ls i 0 h) ∙ ap (λ (k : ℕ). fresh i (get_or ls i 0) ∷ named k (drop k ls)) e

pub dealt_more : (board : TableId) (ls : List ℕ) (i : ℕ) → i < length ls → map (placed_at board) (named 0 (take (i + 1) ls)) ≡ map (placed_at board) (named 0 (take i ls)) ++ placed_at board (fresh i (get_or ls i 0)) ∷ []
dealt_more board ls i h =
    let e : i + 1 ≡ suc i = omega arith in
    let n : 0 + length (take i ls) ≡ i = omega (arith, length-take i ls) in
    ap (λ (k : ℕ). map (placed_at board) (named 0 (take k ls))) e ∙ (ap (λ (z : List ℕ). map (placed_at board) (named 0 z)) (take-suc ls i 0 h)
    ∙ (ap (map (placed_at board)) (named_snoc 0 (take i ls) (get_or ls i 0) ∙ ap (λ (k : ℕ). named 0 (take i ls) ++ fresh k (get_or ls i 0) ∷ []) n) ∙ map-append (placed_at board) (named 0 (take i ls)) (fresh i (get_or ls i 0) ∷ [])))

pub all_zero : (n i : ℕ) → ◌≡◌ {A = ℕ} (get_or (replicate n 0) i 0) 0
all_zero zero i = refl
all_zero (suc n) zero = refl
all_zero (suc n) (suc i) = all_zero n i
