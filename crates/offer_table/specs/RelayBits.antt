-- Ascending lists of the numbers that pass a test.
use Rattle.std.proofs.Common.{◌≡◌, ℕ, zero, suc, ◌+◌, ◌*◌, ◌/◌, ◌%◌, ◌^◌, ◌<◌, ◌==◌, Bool, true, false, cond, ◌||◌, ◌&&◌, List, [], ◌∷◌, ◌++◌, refl, sym, ap, ◌∙◌, arith, inl, inr}
use Rattle.std.specs.List.{sum_by}
use Rattle.std.specs.Int.{bit_at}
use Rattle.std.proofs.lemmas.List.Sums.{sum_by-append}
use Rattle.std.proofs.lemmas.List.Folds.{list_any-append}
use Rattle.std.proofs.lemmas.Bool.{false≢true, cases_eq, eq-eqb, ne_eqb, eqb-true, or_cases, or_left, or_right, and_parts, and_from}
use Rattle.std.proofs.lemmas.Nat.{mod-pow-add}
use Rattle.std.proofs.lemmas.Nat.Bits.{bit_at-lt}
use Rattle.std.proofs.Math.Nat.{mod-eq_of_lt}
use Rattle.sharing.specs.declared.TheConstants.{RELAYS}
use Rattle.sharing.specs.Sharing.{is_among}
use Rattle.offer_table.specs.Relays.{those, members, bits_of, number}

-- the last number that may pass
abbrev pub if_passes : Bool → ℕ → List ℕ
if_passes b n = cond b (n ∷ []) []

or_false : (b : Bool) → (b || false) ≡ b
or_false true = refl
or_false false = refl

among_last : (b : Bool) (n r : ℕ) → is_among (if_passes b n) r ≡ (b && (r == n))
among_last true n r = or_false (r == n)
among_last false n r = refl

among-append : (xs ys : List ℕ) (r : ℕ) → is_among (xs ++ ys) r ≡ (is_among xs r || is_among ys r)
among-append xs ys r = list_any-append (λ x. r == x) xs ys

-- a member is below n and passes
pub among_those : (p : ℕ → Bool) (n r : ℕ) → is_among (those p n) r ≡ true → (r < n) × (p r ≡ true)
unfolding those
among_those p zero r h = absurd (false≢true h)
among_those p (suc n) r h =
    let both : (is_among (those p n) r || is_among (if_passes (p n) n) r) ≡ true = sym (among-append (those p n) (if_passes (p n) n) r) ∙ h in
    elim (or_cases _ _ both) [
      | inl e ↦ (let k : (r < n) × (p r ≡ true) = among_those p n r e in (omega arith, k.1))
      | inr e ↦
          (let parts : (p n ≡ true) × ((r == n) ≡ true) = and_parts (p n) (r == n) (sym (among_last (p n) n r) ∙ e) in
          let same : r ≡ n = eqb-true r n parts.1 in
          (omega arith, ap p same ∙ parts.0))
    ]

-- and each number below n that passes is a member
pub those_among : (p : ℕ → Bool) (n r : ℕ) → r < n → p r ≡ true → is_among (those p n) r ≡ true
unfolding those
those_among p zero r lt h = absurd (omega arith)
those_among p (suc n) r lt h =
    among-append (those p n) (if_passes (p n) n) r ∙
    elim (cases_eq r n) [
      | inl e ↦ or_right _ _ (among_last (p n) n r ∙ and_from (p n) (r == n) (ap p (sym e) ∙ h) (eq-eqb r n e))
      | inr e ↦ or_left _ _ (those_among p n r (omega arith) h)
    ]

-- tests that agree below n
pub those-same : (p q : ℕ → Bool) (n : ℕ) → ((r : ℕ) → r < n → p r ≡ q r) → those p n ≡ those q n
unfolding those
those-same p q zero h = refl
those-same p q (suc n) h = ap (λ xs. xs ++ if_passes (p n) n) (those-same p q n (λ r lt. h r (omega arith))) ∙ ap (λ b. those q n ++ if_passes b n) (h n (omega arith))

bit_sum : (b n : ℕ) → b < 2 → sum_by (λ r. 2 ^ r) (if_passes (b == 1) n) ≡ b * 2 ^ n
bit_sum b n lt =
    elim (cases_eq b 1) [
      | inl e ↦ ap (λ t. sum_by (λ r. 2 ^ r) (if_passes t n)) (eq-eqb b 1 e) ∙ (let one : sum_by (λ r. 2 ^ r) (if_passes true n) ≡ 1 * 2 ^ n = omega arith in one ∙ ap (λ t. t * 2 ^ n) (sym e))
      | inr e ↦ ap (λ t. sum_by (λ r. 2 ^ r) (if_passes t n)) (ne_eqb b 1 e) ∙ (let z : b ≡ 0 = omega arith in (let none : sum_by (λ r. 2 ^ r) (if_passes false n) ≡ 0 * 2 ^ n = omega arith in none ∙ ap (λ t. t * 2 ^ n) (sym z)))
    ]

one_more : (n : ℕ) → 1 + n ≡ suc n
one_more n = omega arith

-- the members' powers add up to the low bits
pub bits_of-those : (bits n : ℕ) → bits_of (those (λ r. bit_at bits r == 1) n) ≡ bits % 2 ^ n
unfolding those
bits_of-those bits zero = omega arith
bits_of-those bits (suc n) =
    omega (arith, sum_by-append (λ r. 2 ^ r) (those (λ r. bit_at bits r == 1) n) (if_passes (bit_at bits n == 1) n), bit_sum (bit_at bits n) n (bit_at-lt bits n), bits_of-those bits n, mod-pow-add bits 1 n, ap (λ k. bits % 2 ^ k) (one_more n))

-- a number of 256 bits is the sum of its members' powers
pub bits_of-members : (bits : ℕ) → bits < 2 ^ 256 → bits_of (members bits) ≡ bits
bits_of-members bits lt = bits_of-those bits RELAYS ∙ mod-eq_of_lt lt

pub fits : (high low : ℕ) → high < 2 ^ 128 → low < 2 ^ 128 → number high low < 2 ^ 256
fits high low h l = omega arith

both : {A : Type 0} (f : ℕ → ℕ → A) {a b c d : ℕ} → a ≡ b → c ≡ d → f a c ≡ f b d
both f {a} {b} {c} {d} e g = ap (λ x. f x c) e ∙ ap (f b) g

high_of : (high low : ℕ) → low < 2 ^ 128 → number high low / 2 ^ 128 ≡ high
high_of high low l = omega arith

low_of : (high low : ℕ) → low < 2 ^ 128 → number high low % 2 ^ 128 ≡ low
low_of high low l = omega arith

-- the members give the two words back
pub words_of : {A : Type 0} (f : ℕ → ℕ → A) (high low : ℕ) → high < 2 ^ 128 → low < 2 ^ 128 → f (bits_of (members (number high low)) / 2 ^ 128) (bits_of (members (number high low)) % 2 ^ 128) ≡ f high low
words_of f high low h l =
    let is : bits_of (members (number high low)) ≡ number high low = bits_of-members (number high low) (fits high low h l) in
    both f (ap (λ n. n / 2 ^ 128) is ∙ high_of high low l) (ap (λ n. n % 2 ^ 128) is ∙ low_of high low l)
