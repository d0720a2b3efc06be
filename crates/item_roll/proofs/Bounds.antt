-- The shortest bound stands above the first item and not above the second.
use Rattle.std.proofs.Common.{◌≡◌, ℕ, zero, suc, ◌+◌, ◌-◌, ◌*◌, ◌^◌, ◌<◌, ◌≤◌, inl, inr, Bool, true, false, cond, eqb, List, [], ◌∷◌, ◌++◌, length, take, drop, replicate, add-one, refl, sym, ap, subst, ◌∙◌, arith}
use Rattle.std.specs.Prelude.{All}
use Rattle.std.proofs.Math.Nat.{mul-le-mul_right, suc-sub-suc, sub-zero}
use Rattle.std.proofs.lemmas.Bool.{cases_lt, eqb-true, eqb-false, eq-eqb, ne_eqb}
use Rattle.std.proofs.lemmas.List.{length-append, length-take, length-replicate, drop-replicate}
use Rattle.std.proofs.lemmas.List.Elements.{All-tail}
use Rattle.item_key.specs.declared.Item.{Item}
use Rattle.item_key.specs.Keys.{place, number_of_bytes, IsKey}
use Rattle.item_key.proofs.Order.{number_below}
use Rattle.item_roll.specs.Splits.{common_len, cut_item, minimal_bound_of}

number_zeros : (n : ℕ) → number_of_bytes (replicate n 0) ≡ 0
number_zeros zero = refl
number_zeros (suc n) = omega (arith, number_zeros n)

abbrev pub cut : ℕ → List ℕ → List ℕ
cut n ys = take n ys ++ replicate (length ys - n) 0

pub common_small : (xs ys : List ℕ) → length xs ≡ length ys → number_of_bytes xs < number_of_bytes ys → common_len xs ys < length ys
common_small [] [] e lt = absurd (omega arith)
common_small [] (y ∷ ys) e lt = omega arith
common_small (x ∷ xs) [] e lt = absurd (omega arith)
common_small (x ∷ xs) (y ∷ ys) e lt = go (eqb x y) refl (λ (l : number_of_bytes xs < number_of_bytes ys). common_small xs ys (let h : length xs ≡ length ys = omega arith in h) l)
  where
    go : (b : Bool) → eqb x y ≡ b → (number_of_bytes xs < number_of_bytes ys → common_len xs ys < length ys) → cond b (common_len xs ys + 1) 0 < suc (length ys)
    go true is again =
        let same : x ≡ y = eqb-true _ _ is in
        let len : length xs ≡ length ys = omega arith in
        let l : number_of_bytes xs < number_of_bytes ys = omega (arith, lt, ap (λ (n : ℕ). x * 256 ^ n) len, ap (λ (n : ℕ). n * 256 ^ length ys) same) in
        omega (arith, again l)
    go false is again = omega arith

length_cut : (n : ℕ) (ys : List ℕ) → n ≤ length ys → length (cut n ys) ≡ length ys
length_cut n ys le = omega (arith, length-append (take n ys) (replicate (length ys - n) 0), length-take n ys, length-replicate {A = ℕ} (length ys - n) 0)

-- a high part above leaves room
below_high : (p x y a : ℕ) → a < p → x < y → x * p + a < y * p
below_high p x y a la lt =
    let m : suc x * p ≤ y * p = mul-le-mul_right p (let h : suc x ≤ y = omega arith in h) in
    let f : suc x * p ≡ x * p + p = omega arith in
    omega (arith, m, f)

pub record Between (a b c : ℕ) : Type 0 where
  pub above : a < b
  pub upto : b ≤ c

pub cut_between : (xs ys : List ℕ) → length xs ≡ length ys → All (λ b. b < 256) xs → All (λ b. b < 256) ys → number_of_bytes xs < number_of_bytes ys
    → Between (number_of_bytes xs) (number_of_bytes (cut (common_len xs ys + 1) ys)) (number_of_bytes ys)
cut_between [] [] e fx fy lt = absurd (omega arith)
cut_between [] (y ∷ ys) e fx fy lt = absurd (omega arith)
cut_between (x ∷ xs) [] e fx fy lt = absurd (omega arith)
cut_between (x ∷ xs) (y ∷ ys) e fx fy lt = go (eqb x y) refl
    (λ (l : number_of_bytes xs < number_of_bytes ys). cut_between xs ys (let h : length xs ≡ length ys = omega arith in h) (All-tail (λ b. b < 256) x xs fx) (All-tail (λ b. b < 256) y ys fy) l)
  where
    go : (b : Bool) → eqb x y ≡ b
        → (number_of_bytes xs < number_of_bytes ys → Between (number_of_bytes xs) (number_of_bytes (cut (common_len xs ys + 1) ys)) (number_of_bytes ys))
        → Between (number_of_bytes (x ∷ xs)) (number_of_bytes (cut (cond b (common_len xs ys + 1) 0 + 1) (y ∷ ys))) (number_of_bytes (y ∷ ys))
    go true is again =
        let same : x ≡ y = eqb-true _ _ is in
        let len : length xs ≡ length ys = omega arith in
        let px = ap (λ (n : ℕ). x * 256 ^ n) len in
        let py = ap (λ (n : ℕ). n * 256 ^ length ys) same in
        let l : number_of_bytes xs < number_of_bytes ys = omega (arith, lt, px, py) in
        let small = common_small xs ys len l in
        let step : cut (common_len xs ys + 1 + 1) (y ∷ ys) ≡ y ∷ cut (common_len xs ys + 1) ys = rw (add-one (common_len xs ys + 1), suc-sub-suc) refl in
        let lc = ap (λ (n : ℕ). y * 256 ^ n) (length_cut (common_len xs ys + 1) ys (omega arith)) in
        let b = again l in
        rw step (record { above = omega (arith, b.above, px, py, lc); upto = omega (arith, b.upto, lc) })
    go false is again =
        let len : length xs ≡ length ys = omega arith in
        let px = ap (λ (n : ℕ). x * 256 ^ n) len in
        let la : number_of_bytes xs < 256 ^ length ys = subst (λ (n : ℕ). number_of_bytes xs < 256 ^ n) len (number_below xs (All-tail (λ b. b < 256) x xs fx)) in
        let lb = number_below ys (All-tail (λ b. b < 256) y ys fy) in
        let less : x < y = elim (cases_lt x y) [
          | inl h ↦ h
          | inr h ↦ elim (cases_lt y x) [
            | inl g ↦ absurd (omega (arith, below_high (256 ^ length ys) y x (number_of_bytes ys) lb g, lt, px))
            | inr g ↦ absurd (eqb-false _ _ is (omega arith))
          ]
        ] in
        let step : cut (0 + 1) (y ∷ ys) ≡ y ∷ replicate (length ys) 0 = rw (suc-sub-suc, sub-zero) refl in
        let zeros = number_zeros (length ys) in
        let lr = ap (λ (n : ℕ). y * 256 ^ n) (length-replicate {A = ℕ} (length ys) 0) in
        subst (λ (z : List ℕ). Between (number_of_bytes (x ∷ xs)) (number_of_bytes z) (number_of_bytes (y ∷ ys))) (sym step)
        (record { above = omega (arith, below_high (256 ^ length ys) x y (number_of_bytes xs) la less, px, lr, zeros); upto = omega (arith, lr, zeros) })

pub bound_between : (p c : Item) → IsKey p → IsKey c → place p < place c → Between (place p) (place (minimal_bound_of p c)) (place c)
unfolding place minimal_bound_of
bound_between p c kp kc lt = go (eqb p.time c.time) refl
  where
    np : number_of_bytes p.id.0 < 256 ^ 32
    np = subst (λ (n : ℕ). number_of_bytes p.id.0 < 256 ^ n) kp.id.len (number_below p.id.0 kp.id.bytes)

    nc : number_of_bytes c.id.0 < 256 ^ 32
    nc = subst (λ (n : ℕ). number_of_bytes c.id.0 < 256 ^ n) kc.id.len (number_below c.id.0 kc.id.bytes)

    go : (b : Bool) → eqb p.time c.time ≡ b → Between (p.time * 256 ^ 32 + number_of_bytes p.id.0) (place (cond b (cut_item c (common_len p.id.0 c.id.0 + 1)) (cut_item c 0))) (c.time * 256 ^ 32 + number_of_bytes c.id.0)
    go true is =
        let same : p.time ≡ c.time = eqb-true _ _ is in
        let l : number_of_bytes p.id.0 < number_of_bytes c.id.0 = omega (arith, lt, same) in
        let b = cut_between p.id.0 c.id.0 (kp.id.len ∙ sym kc.id.len) kp.id.bytes kc.id.bytes l in
        let d : Between (number_of_bytes p.id.0) (number_of_bytes (take (common_len p.id.0 c.id.0 + 1) c.id.0 ++ replicate (32 - (common_len p.id.0 c.id.0 + 1)) 0)) (number_of_bytes c.id.0) =
        subst (λ (n : ℕ). Between (number_of_bytes p.id.0) (number_of_bytes (take (common_len p.id.0 c.id.0 + 1) c.id.0 ++ replicate (n - (common_len p.id.0 c.id.0 + 1)) 0)) (number_of_bytes c.id.0)) kc.id.len b in
        record { above = omega (arith, d.above, same); upto = omega (arith, d.upto) }
    go false is =
        let other = eqb-false _ _ is in
        let zeros : number_of_bytes (take 0 c.id.0 ++ replicate (32 - 0) 0) ≡ 0 = number_zeros 32 in
        let earlier : p.time < c.time = omega (arith, lt, other, np, nc) in
        record { above = omega (arith, earlier, np, zeros); upto = omega (arith, zeros) }

pub front_is : (front second : List ℕ) (len n : ℕ) → front ≡ take len second → len ≡ n → front ++ drop len (replicate 32 0) ≡ take n second ++ replicate (32 - n) 0
front_is front second len n e f = rw (e, f) (ap (λ (zeros : List ℕ). take n second ++ zeros) (drop-replicate n 32 0))

-- at one time, the ids are in the items' order
pub ids_order : (p c : Item) → p.time ≡ c.time → place p < place c → number_of_bytes p.id.0 < number_of_bytes c.id.0
unfolding place
ids_order p c e lt = omega (arith, lt, e)

pub bound_same : (p c : Item) → p.time ≡ c.time → minimal_bound_of p c ≡ cut_item c (common_len p.id.0 c.id.0 + 1)
unfolding minimal_bound_of
bound_same p c e = rw (eq-eqb p.time c.time e) refl

pub bound_other : (p c : Item) → (p.time ≡ c.time → ⊥) → minimal_bound_of p c ≡ cut_item c 0
unfolding minimal_bound_of
bound_other p c ne = rw (ne_eqb p.time c.time ne) refl
