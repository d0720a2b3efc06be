-- Lists that are numbered as they grow.
use Rattle.std.proofs.Common.{◌≡◌, ◌+◌, ◌++◌, [], ◌∷◌, ◌∙◌, ℕ, zero, suc, List, sym, ap, map, arith}
use Rattle.std.specs.List.{range_with_len}
use Rattle.std.proofs.lemmas.List.{map-append}

range_push : (a n : ℕ) → range_with_len a (n + 1) ≡ range_with_len a n ++ (a + n) ∷ []
range_push a zero = let e : a ≡ a + 0 = omega arith in ap {B = List ℕ} (λ k. k ∷ []) e
range_push a (suc n) =
    let e : suc n + 1 ≡ suc (n + 1) = omega arith in
    let k : a + 1 + n ≡ a + suc n = omega arith in
    ap (λ m. range_with_len a m) e ∙ ap {B = List ℕ} (λ l. a ∷ l) (range_push (a + 1) n) ∙ ap (λ m. a ∷ (range_with_len (a + 1) n ++ m ∷ [])) k

pub numbers_push : {P : Type 0} (number : P → ℕ) (peers : List P) (p : P) (n : ℕ)
    → map number peers ≡ range_with_len 0 n → number p ≡ n → map number (peers ++ p ∷ []) ≡ range_with_len 0 (n + 1)
numbers_push number peers p n numbered is =
    let e : number p ≡ 0 + n = omega (arith, is) in
    map-append number peers (p ∷ []) ∙ ap (λ l. l ++ number p ∷ []) numbered ∙ ap (λ k. range_with_len 0 n ++ k ∷ []) e ∙ sym (range_push 0 n)
