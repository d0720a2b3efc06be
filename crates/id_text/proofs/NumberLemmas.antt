-- Which texts are the decimal digits of a number.
use Rattle.std.proofs.Common.{◌≡◌, ℕ, zero, suc, ◌^◌, ◌<◌, ◌≤◌, List, length, take, get_or, decimal, lit<, lit≤, ap, sym, subst, ◌∙◌, arith}
use Rattle.std.specs.Int.{IsInRange}
use Rattle.std.specs.Str.Parse.{AllDigits, digits_value}
use Rattle.std.proofs.lemmas.Str.Parse.{IsNumeralModel, numerals_by_value, tells_digits, digit_at, digits_value-take-le}
use Rattle.std.proofs.lemmas.Fmt.{decimal_digit, decimal_nonempty, first_decimal, digits_decimal, digits_value-decimal, decimal-digits_value}

own : IsNumeralModel (AllDigits 10) (digits_value 10)
own = numerals_by_value _ tells_digits

-- no digit
pub decimal-empty : (text : List ℕ) (n : ℕ) → length text ≡ 0 → n < 2 ^ 64 → text ≡ decimal n → ⊥
decimal-empty text n none small same = let some = decimal_nonempty n small in omega (arith, ap length same, some)

-- a leading zero
pub decimal-padded : (text : List ℕ) (n : ℕ) → get_or text 0 0 ≡ 48 → 1 < length text → n < 2 ^ 64 → text ≡ decimal n → ⊥
decimal-padded text zero zeros long small same =
    let one : length text ≡ 1 = ap length (same ∙ decimal_digit 0 (lit< tt)) in omega (arith, one)
decimal-padded text (suc k) zeros long small same =
    let high = first_decimal (suc k) (omega arith) small in
    let first : get_or text 0 0 ≡ get_or (decimal (suc k)) 0 0 = ap (λ t. get_or t 0 0) same in
    omega (arith, high, first)

-- a byte that is no digit
pub decimal-stray : (text : List ℕ) (n i : ℕ) → i < length text → ¬ IsInRange 48 57 (get_or text i 0) → n < 2 ^ 64 → text ≡ decimal n → ⊥
decimal-stray text n i within out small same =
    let P : List ℕ → Type 0 = λ t. AllDigits 10 t in
    out (digit_at text i (subst P (sym same) (digits_decimal own n small)) within)

-- a number that reaches 2 ^ 64
pub decimal-large : (text : List ℕ) (n i : ℕ) → 2 ^ 64 ≤ digits_value 10 (take i text) → n < 2 ^ 64 → text ≡ decimal n → ⊥
decimal-large text n i large small same =
    let value : digits_value 10 (decimal n) ≡ n = digits_value-decimal own n small in
    let whole : digits_value 10 text ≡ digits_value 10 (decimal n) = ap (digits_value 10) same in
    let part = digits_value-take-le 10 text i (lit≤ tt) in
    omega (arith, value, whole, part)

-- digits without a leading zero
pub decimal-read : (text : List ℕ) → AllDigits 10 text → 0 < length text → (get_or text 0 0 ≡ 48 → length text ≡ 1) → digits_value 10 text < 2 ^ 64
    → text ≡ decimal (digits_value 10 text)
decimal-read text digits some first small = sym (decimal-digits_value own text digits some first small)
