-- The decimal digits of a relay at the front of a text: one, two or three.
use Rattle.std.proofs.Common.{◌≡◌, ◌≢◌, ◌⊎◌, inl, inr, ℕ, ◌+◌, ◌*◌, ◌/◌, ◌%◌, ◌<◌, List, [], ◌∷◌, ◌++◌, length, drop, get_or, decimal, ap, sym, subst, ◌∙◌, arith}
use Rattle.std.proofs.lemmas.Bool.{cases_lt}
use Rattle.std.proofs.lemmas.List.{drop_more}
use Rattle.std.proofs.lemmas.Fmt.{decimal_digit, decimal_step}
use Rattle.sharing.specs.declared.TheConstants.{RELAYS}
use Rattle.plan_check.specs.PlanParts.{IsNextWord}

two_digits : (a b : ℕ) → 0 < a → a < 10 → b < 10 → decimal (10 * a + b) ≡ (48 + a) ∷ (48 + b) ∷ []
two_digits a b some a_small b_small =
    let n : ℕ = 10 * a + b in
    let front : n / 10 ≡ a = omega arith in
    let last : n % 10 ≡ b = omega arith in
    decimal_step n (omega arith) (omega arith) ∙ ap (λ q. decimal q ++ ((48 + n % 10) ∷ [])) front
    ∙ ap (λ ds. ds ++ ((48 + n % 10) ∷ [])) (decimal_digit a a_small) ∙ ap (λ d. (48 + a) ∷ (48 + d) ∷ []) last

three_digits : (a b c : ℕ) → 0 < a → a < 10 → b < 10 → c < 10 → decimal (10 * (10 * a + b) + c) ≡ (48 + a) ∷ (48 + b) ∷ (48 + c) ∷ []
three_digits a b c some a_small b_small c_small =
    let n : ℕ = 10 * (10 * a + b) + c in
    let front : n / 10 ≡ 10 * a + b = omega arith in
    let last : n % 10 ≡ c = omega arith in
    decimal_step n (omega arith) (omega arith) ∙ ap (λ q. decimal q ++ ((48 + n % 10) ∷ [])) front
    ∙ ap (λ ds. ds ++ ((48 + n % 10) ∷ [])) (two_digits a b some a_small b_small) ∙ ap (λ d. (48 + a) ∷ (48 + b) ∷ (48 + d) ∷ []) last

-- ---- texts that tell a relay
front_one : (text : List ℕ) (a : ℕ) → 0 < length text → get_or text 0 0 ≡ a → text ≡ a ∷ drop 1 text
front_one [] a some first = absurd (omega arith)
front_one (x ∷ xs) a some first = ap (λ t. t ∷ xs) first

front_two : (text : List ℕ) (a b : ℕ) → 1 < length text → get_or text 0 0 ≡ a → get_or text 1 0 ≡ b → text ≡ a ∷ b ∷ drop 2 text
front_two [] a b some first second = absurd (omega arith)
front_two (x ∷ xs) a b some first second = let rest = front_one xs b (omega arith) second in cc

front_three : (text : List ℕ) (a b c : ℕ) → 2 < length text → get_or text 0 0 ≡ a → get_or text 1 0 ≡ b → get_or text 2 0 ≡ c → text ≡ a ∷ b ∷ c ∷ drop 3 text
front_three [] a b c some first second third = absurd (omega arith)
front_three (x ∷ xs) a b c some first second third = let rest = front_two xs b c (omega arith) second third in cc

pub one_told : (text : List ℕ) (a : ℕ) → a < 10 → 0 < length text → get_or text 0 0 ≡ 48 + a → text ≡ decimal a ++ drop 1 text
one_told text a small within first = front_one text (48 + a) within first ∙ ap (λ ds. ds ++ drop 1 text) (sym (decimal_digit a small))

pub two_told : (text : List ℕ) (a b : ℕ) → 0 < a → a < 10 → b < 10 → 1 < length text → get_or text 0 0 ≡ 48 + a → get_or text 1 0 ≡ 48 + b → text ≡ decimal (10 * a + b) ++ drop 2 text
two_told text a b some small b_small within first second =
    front_two text (48 + a) (48 + b) within first second ∙ ap (λ ds. ds ++ drop 2 text) (sym (two_digits a b some small b_small))

pub three_told : (text : List ℕ) (a b c : ℕ) → 0 < a → a < 10 → b < 10 → c < 10 → 2 < length text → get_or text 0 0 ≡ 48 + a → get_or text 1 0 ≡ 48 + b → get_or text 2 0 ≡ 48 + c
    → text ≡ decimal (10 * (10 * a + b) + c) ++ drop 3 text
three_told text a b c some small b_small c_small within first second third =
    front_three text (48 + a) (48 + b) (48 + c) within first second third ∙ ap (λ ds. ds ++ drop 3 text) (sym (three_digits a b c some small b_small c_small))

-- ---- what a text begins with that tells a relay
pub record OneDigit (text : List ℕ) : Type 0 where
  pub a : ℕ
  pub small : a < 10
  pub first : get_or text 0 0 ≡ 48 + a
  pub next : IsNextWord (drop 1 text)

pub record TwoDigits (text : List ℕ) : Type 0 where
  pub a : ℕ
  pub b : ℕ
  pub some : 0 < a
  pub small : a < 10
  pub b_small : b < 10
  pub first : get_or text 0 0 ≡ 48 + a
  pub second : get_or text 1 0 ≡ 48 + b
  pub next : IsNextWord (drop 2 text)

pub record ThreeDigits (text : List ℕ) : Type 0 where
  pub a : ℕ
  pub b : ℕ
  pub c : ℕ
  pub some : 0 < a
  pub small : a < 10
  pub b_small : b < 10
  pub c_small : c < 10
  pub relay : 10 * (10 * a + b) + c < RELAYS
  pub first : get_or text 0 0 ≡ 48 + a
  pub second : get_or text 1 0 ≡ 48 + b
  pub third : get_or text 2 0 ≡ 48 + c
  pub next : IsNextWord (drop 3 text)

abbrev pub TellsRelay : List ℕ → Type 0
TellsRelay text = OneDigit text ⊎ (TwoDigits text ⊎ ThreeDigits text)

module _ (text rest : List ℕ) (next : IsNextWord rest) where
  one : (r : ℕ) → r < 10 → text ≡ decimal r ++ rest → OneDigit text
  one r small e =
      let is : text ≡ (48 + r) ∷ rest = e ∙ ap (λ ds. ds ++ rest) (decimal_digit r small) in
      record { a = r; small = small; first = ap (λ t. get_or t 0 0) is; next = subst IsNextWord (sym (ap (drop 1) is)) next }

  two : (a b : ℕ) → 0 < a → a < 10 → b < 10 → text ≡ decimal (10 * a + b) ++ rest → TwoDigits text
  two a b some small b_small e =
      let is : text ≡ (48 + a) ∷ (48 + b) ∷ rest = e ∙ ap (λ ds. ds ++ rest) (two_digits a b some small b_small) in
      record {
        a = a;
        b = b;
        some = some;
        small = small;
        b_small = b_small;
        first = ap (λ t. get_or t 0 0) is;
        second = ap (λ t. get_or t 1 0) is;
        next = subst IsNextWord (sym (ap (drop 2) is)) next;
      }

  three : (a b c : ℕ) → 0 < a → a < 10 → b < 10 → c < 10 → 10 * (10 * a + b) + c < RELAYS → text ≡ decimal (10 * (10 * a + b) + c) ++ rest → ThreeDigits text
  three a b c some small b_small c_small relay e =
      let is : text ≡ (48 + a) ∷ (48 + b) ∷ (48 + c) ∷ rest = e ∙ ap (λ ds. ds ++ rest) (three_digits a b c some small b_small c_small) in
      record {
        a = a;
        b = b;
        c = c;
        some = some;
        small = small;
        b_small = b_small;
        c_small = c_small;
        relay = relay;
        first = ap (λ t. get_or t 0 0) is;
        second = ap (λ t. get_or t 1 0) is;
        third = ap (λ t. get_or t 2 0) is;
        next = subst IsNextWord (sym (ap (drop 3) is)) next;
      }

  pub tells_relay : (r : ℕ) → r < RELAYS → text ≡ decimal r ++ rest → TellsRelay text
  tells_relay r small e = elim (cases_lt r 10) [
    | inl lt ↦ inl (one r lt e)
    | inr ge ↦ elim (cases_lt r 100) [
      | inl lt ↦
          let is : r ≡ 10 * (r / 10) + r % 10 = omega arith in
          inr (inl (two (r / 10) (r % 10) (omega arith) (omega arith) (omega arith) (subst (λ n. text ≡ decimal n ++ rest) is e)))
      | inr ge ↦
          let is : r ≡ 10 * (10 * (r / 100) + r / 10 % 10) + r % 10 = omega arith in
          inr (inr (three (r / 100) (r / 10 % 10) (r % 10) (omega arith) (omega arith) (omega arith) (omega arith) (omega arith) (subst (λ n. text ≡ decimal n ++ rest) is e)))
    ]
  ]

-- ---- texts that tell none
abbrev pub NoDigit : List ℕ → ℕ → Type 0
NoDigit text place = (d : ℕ) → d < 10 → get_or text place 0 ≢ 48 + d

-- a word does not end at a digit
inside : (text : List ℕ) (place d : ℕ) → place < length text → get_or text place 0 ≡ 48 + d → IsNextWord (drop place text) → ⊥
inside text place d within digit next =
    let is : drop place text ≡ (48 + d) ∷ drop (place + 1) text = drop_more text place 0 within ∙ ap (λ b. b ∷ drop (place + 1) text) digit in
    subst IsNextWord is next (λ space. omega (arith, space))

pub no_first : (text : List ℕ) → NoDigit text 0 → TellsRelay text → ⊥
no_first text none (inl d) = none d.a d.small d.first
no_first text none (inr (inl d)) = none d.a d.small d.first
no_first text none (inr (inr d)) = none d.a d.small d.first

pub no_second : (text : List ℕ) (a : ℕ) → a < 10 → NoDigit text 1 → (a < RELAYS → IsNextWord (drop 1 text) → ⊥) → TellsRelay text → ⊥
no_second text a small none wrong (inl d) = wrong (omega arith) d.next
no_second text a small none wrong (inr (inl d)) = none d.b d.b_small d.second
no_second text a small none wrong (inr (inr d)) = none d.b d.b_small d.second

pub leading_zero : (text : List ℕ) (b : ℕ) → 1 < length text → get_or text 0 0 ≡ 48 → get_or text 1 0 ≡ 48 + b → TellsRelay text → ⊥
leading_zero text b within zero second (inl d) = inside text 1 b within second d.next
leading_zero text b within zero second (inr (inl d)) = omega (arith, d.first, d.some, zero)
leading_zero text b within zero second (inr (inr d)) = omega (arith, d.first, d.some, zero)

pub no_third : (text : List ℕ) (a b : ℕ) → a < 10 → b < 10 → 1 < length text → get_or text 1 0 ≡ 48 + b → NoDigit text 2 → (10 * a + b < RELAYS → IsNextWord (drop 2 text) → ⊥) → TellsRelay text → ⊥
no_third text a b small b_small within second none wrong (inl d) = inside text 1 b within second d.next
no_third text a b small b_small within second none wrong (inr (inl d)) = wrong (omega arith) d.next
no_third text a b small b_small within second none wrong (inr (inr d)) = none d.c d.c_small d.third

pub no_end : (text : List ℕ) (a b c : ℕ) → 2 < length text → get_or text 0 0 ≡ 48 + a → get_or text 1 0 ≡ 48 + b → get_or text 2 0 ≡ 48 + c
    → (10 * (10 * a + b) + c < RELAYS → IsNextWord (drop 3 text) → ⊥) → TellsRelay text → ⊥
no_end text a b c within first second third wrong (inl d) = inside text 1 b (omega arith) second d.next
no_end text a b c within first second third wrong (inr (inl d)) = inside text 2 c within third d.next
no_end text a b c within first second third wrong (inr (inr d)) = wrong (omega (arith, first, second, third, d.first, d.second, d.third, d.relay)) d.next
