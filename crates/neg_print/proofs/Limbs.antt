-- Numbers by their digits in base 2^64, the lowest first.
use Rattle.std.proofs.Common.{◌≡◌, ℕ, zero, suc, ◌+◌, ◌-◌, ◌*◌, ◌/◌, ◌%◌, ◌^◌, ◌<◌, ◌≤◌, List, [], ◌∷◌, length, get_or, take, set, add-one, get_or-set_same, refl, ap, ◌∙◌, arith}
use Rattle.std.proofs.Math.Nat.{pow-suc, mul-le-mul_right, mul_comm}
use Rattle.std.proofs.Math.Seq.{take-length}
use Rattle.std.proofs.lemmas.List.{length-set, take-set}
use Rattle.neg_print.specs.Total.{limb_number}

push_digit : (b t p q g n : ℕ) → n ≡ t + p * g → q ≡ p * 18446744073709551616 → b + 18446744073709551616 * n ≡ b + 18446744073709551616 * t + q * g
push_digit b t p q g n e f = rw (e, f) (grind arith)

-- one more digit
pub limb_more : (bytes : List ℕ) (i : ℕ) → i < length bytes → limb_number (take (i + 1) bytes) ≡ limb_number (take i bytes) + 18446744073709551616 ^ i * get_or bytes i 0
limb_more [] i lt = absurd (omega arith)
limb_more (b ∷ bytes) zero lt = omega arith
limb_more (b ∷ bytes) (suc i) lt =
    let ih = limb_more bytes i (omega arith) in
    let p : 18446744073709551616 ^ suc i ≡ 18446744073709551616 ^ i * 18446744073709551616 = pow-suc 18446744073709551616 i in
    rw (add-one (suc i)) (push_digit b (limb_number (take i bytes)) (18446744073709551616 ^ i) (18446744073709551616 ^ suc i) (get_or bytes i 0) (limb_number (take (suc i) bytes)) (rw (add-one i) at ih) p)

pub limb_below : (bytes : List ℕ) → ((i : ℕ) → get_or bytes i 0 < 18446744073709551616) → limb_number bytes < 18446744073709551616 ^ length bytes
limb_below [] fits = omega arith
limb_below (b ∷ bytes) fits =
    let ih = limb_below bytes (λ i. fits (suc i)) in
    let p : 18446744073709551616 ^ suc (length bytes) ≡ 18446744073709551616 ^ length bytes * 18446744073709551616 = pow-suc 18446744073709551616 (length bytes) in
    omega (arith, ih, p, fits 0)

spread : (p r q x y c : ℕ) → r + 18446744073709551616 * q ≡ x + y + c → p * r + p * 18446744073709551616 * q ≡ p * x + p * y + p * c
spread p r q x y c e =
    let one : p * r + p * 18446744073709551616 * q ≡ p * (r + 18446744073709551616 * q) = grind arith in
    let two : p * (x + y + c) ≡ p * x + p * y + p * c = grind arith in
    one ∙ ap (λ (n : ℕ). p * n) e ∙ two

-- one more digit of a sum
pub sum_more : (a b out : List ℕ) (i carry : ℕ) → i < length a → i < length b → i < length out
    → limb_number (take i out) + 18446744073709551616 ^ i * carry ≡ limb_number (take i a) + limb_number (take i b)
    → limb_number (take (i + 1) (set out i ((get_or a i 0 + get_or b i 0 + carry) % 18446744073709551616))) + 18446744073709551616 ^ (i + 1) * ((get_or a i 0 + get_or b i 0 + carry) / 18446744073709551616) ≡ limb_number (take (i + 1) a) + limb_number (take (i + 1) b)
sum_more a b out i carry la lb lo so_far =
    let t = get_or a i 0 + get_or b i 0 + carry in
    let r = (get_or a i 0 + get_or b i 0 + carry) % 18446744073709551616 in
    let q = (get_or a i 0 + get_or b i 0 + carry) / 18446744073709551616 in
    let p : 18446744073709551616 ^ (i + 1) ≡ 18446744073709551616 ^ i * 18446744073709551616 = rw (add-one i) (pow-suc 18446744073709551616 i) in
    let whole : r + 18446744073709551616 * q ≡ get_or a i 0 + get_or b i 0 + carry = omega arith in
    let here = limb_more (set out i r) i (omega (arith, length-set out i r)) in
    let same : get_or (set out i r) i 0 ≡ r = get_or-set_same out i r 0 lo in
    let kept : take i (set out i r) ≡ take i out = take-set out i r in
    let more_a = limb_more a i la in
    let more_b = limb_more b i lb in
    let out_is : limb_number (take (i + 1) (set out i r)) ≡ limb_number (take i out) + 18446744073709551616 ^ i * r = here ∙ rw (same, kept) refl in
    let s = spread (18446744073709551616 ^ i) r q (get_or a i 0) (get_or b i 0) carry whole in
    rw (out_is, more_a, more_b, p) (omega (arith, s, so_far))

pub small_more : (out : List ℕ) (i r : ℕ) → i < length out → r < 18446744073709551616 → limb_number (take i out) < 18446744073709551616 ^ i → limb_number (take (i + 1) (set out i r)) < 18446744073709551616 ^ (i + 1)
small_more out i r lo lt small =
    let here = limb_more (set out i r) i (omega (arith, length-set out i r)) in
    let same : get_or (set out i r) i 0 ≡ r = get_or-set_same out i r 0 lo in
    let out_is : limb_number (take (i + 1) (set out i r)) ≡ limb_number (take i out) + 18446744073709551616 ^ i * r = here ∙ rw (same, take-set out i r) refl in
    let m : r * 18446744073709551616 ^ i ≤ 18446744073709551615 * 18446744073709551616 ^ i = mul-le-mul_right (18446744073709551616 ^ i) (let h : r ≤ 18446744073709551615 = omega arith in h) in
    let e : 18446744073709551616 ^ i * r ≡ r * 18446744073709551616 ^ i = mul_comm (18446744073709551616 ^ i) r in
    rw (out_is, add-one i, pow-suc 18446744073709551616 i) (omega (arith, m, e, small))

finish : (t c a b : ℕ) → t < 18446744073709551616 ^ 4 → t + 18446744073709551616 ^ 4 * c ≡ a + b → t ≡ (a + b) % 2 ^ 256
finish t c a b lt e = omega arith

pub sum_all : (a b out : List ℕ) (i carry : ℕ) → i ≡ 4 → length a ≡ 4 → length b ≡ 4 → length out ≡ 4 → limb_number (take i out) < 18446744073709551616 ^ i
    → limb_number (take i out) + 18446744073709551616 ^ i * carry ≡ limb_number (take i a) + limb_number (take i b) → limb_number out ≡ (limb_number a + limb_number b) % 2 ^ 256
sum_all a b out i carry e la lb lo small so_far =
    let ta : take i a ≡ a = rw (e, ← la) (take-length a) in
    let tb : take i b ≡ b = rw (e, ← lb) (take-length b) in
    let to : take i out ≡ out = rw (e, ← lo) (take-length out) in
    let lt : limb_number out < 18446744073709551616 ^ 4 = rw (to, e) at small in
    let all : limb_number out + 18446744073709551616 ^ 4 * carry ≡ limb_number a + limb_number b = rw (to, ta, tb, e) at so_far in
    finish (limb_number out) carry (limb_number a) (limb_number b) lt all

-- ---- a difference

spread_less : (p r x y w v : ℕ) → r + y + w ≡ x + 18446744073709551616 * v → p * r + p * y + p * w ≡ p * x + p * 18446744073709551616 * v
spread_less p r x y w v e =
    let one : p * r + p * y + p * w ≡ p * (r + y + w) = grind arith in
    let two : p * (x + 18446744073709551616 * v) ≡ p * x + p * 18446744073709551616 * v = grind arith in
    one ∙ ap (λ (n : ℕ). p * n) e ∙ two

-- one more digit of a difference
pub less_more : (a b out : List ℕ) (i borrow r more : ℕ) → i < length a → i < length b → i < length out
    → r + get_or b i 0 + borrow ≡ get_or a i 0 + 18446744073709551616 * more
    → limb_number (take i out) + limb_number (take i b) ≡ limb_number (take i a) + 18446744073709551616 ^ i * borrow
    → limb_number (take (i + 1) (set out i r)) + limb_number (take (i + 1) b) ≡ limb_number (take (i + 1) a) + 18446744073709551616 ^ (i + 1) * more
less_more a b out i borrow r more la lb lo whole so_far =
    let p : 18446744073709551616 ^ (i + 1) ≡ 18446744073709551616 ^ i * 18446744073709551616 = rw (add-one i) (pow-suc 18446744073709551616 i) in
    let here = limb_more (set out i r) i (omega (arith, length-set out i r)) in
    let same : get_or (set out i r) i 0 ≡ r = get_or-set_same out i r 0 lo in
    let kept : take i (set out i r) ≡ take i out = take-set out i r in
    let more_a = limb_more a i la in
    let more_b = limb_more b i lb in
    let out_is : limb_number (take (i + 1) (set out i r)) ≡ limb_number (take i out) + 18446744073709551616 ^ i * r = here ∙ rw (same, kept) refl in
    let s = spread_less (18446744073709551616 ^ i) r (get_or a i 0) (get_or b i 0) borrow more whole in
    rw (out_is, more_a, more_b, p) (omega (arith, s, so_far))

finish_less : (t w a b : ℕ) → t < 18446744073709551616 ^ 4 → a < 18446744073709551616 ^ 4 → b < 18446744073709551616 ^ 4 → w ≤ 1 → t + b ≡ a + 18446744073709551616 ^ 4 * w → t ≡ (a + (2 ^ 256 - b)) % 2 ^ 256
finish_less t w a b lt la lb lw e = omega arith

pub less_all : (a b out : List ℕ) (i borrow : ℕ) → i ≡ 4 → length a ≡ 4 → length b ≡ 4 → length out ≡ 4 → ((i : ℕ) → get_or a i 0 < 18446744073709551616) → ((i : ℕ) → get_or b i 0 < 18446744073709551616)
    → limb_number (take i out) < 18446744073709551616 ^ i → borrow ≤ 1
    → limb_number (take i out) + limb_number (take i b) ≡ limb_number (take i a) + 18446744073709551616 ^ i * borrow → limb_number out ≡ (limb_number a + (2 ^ 256 - limb_number b)) % 2 ^ 256
less_all a b out i borrow e la lb lo fa fb small few so_far =
    let ta : take i a ≡ a = rw (e, ← la) (take-length a) in
    let tb : take i b ≡ b = rw (e, ← lb) (take-length b) in
    let to : take i out ≡ out = rw (e, ← lo) (take-length out) in
    let lt : limb_number out < 18446744073709551616 ^ 4 = rw (to, e) at small in
    let all : limb_number out + limb_number b ≡ limb_number a + 18446744073709551616 ^ 4 * borrow = rw (to, ta, tb, e) at so_far in
    let ba : limb_number a < 18446744073709551616 ^ 4 = rw la at (limb_below a fa) in
    let bb : limb_number b < 18446744073709551616 ^ 4 = rw lb at (limb_below b fb) in
    finish_less (limb_number out) borrow (limb_number a) (limb_number b) lt ba bb few all
