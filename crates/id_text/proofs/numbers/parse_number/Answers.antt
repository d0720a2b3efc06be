use Rattle.std.proofs.Common.{◌≡◌, ℕ, length, ◌+◌, ◌-◌, ◌<◌, ◌≤◌, ◌^◌, get_or, take, take_all, arith}
use Rattle.std.specs.Char.{digit_value}
use Rattle.std.specs.Str.Parse.{AllDigits, digits_value}
use Rattle.std.proofs.lemmas.Bool.Decides.{nat_tests}
use Rattle.std.proofs.lemmas.Int.Digits.{digits_value_more, digits_more}
use Rattle.id_text.proofs.NumberLemmas.{decimal-empty, decimal-padded, decimal-stray, decimal-large, decimal-read}
use Rattle.id_text.proofs.numbers.parse_number.Goals as goal

pub returns-then-is_empty-clause-none : goal.returns-then-is_empty-clause-none
returns-then-is_empty-clause-none c = λ n small same.
    let none : length c.args.text.now ≡ 0 = grind (arith, nat_tests) in
    decimal-empty c.args.text.now n none small same

pub returns-then-text-gt1-clause-none : goal.returns-then-text-gt1-clause-none
returns-then-text-gt1-clause-none c = λ n small same. decimal-padded c.args.text.now n (omega arith) (omega arith) small same

pub returns-then-digit-lt48-clause-none : goal.returns-then-digit-lt48-clause-none
returns-then-digit-lt48-clause-none c = λ n small same.
    decimal-stray c.args.text.now n c.loop-byte.byte-index (omega arith) (λ r. omega (arith, r.0, r.1, c.then-digit-lt48.either)) small same

digit-value : (b : ℕ) → 48 ≤ b → b ≤ 57 → digit_value b ≡ b - 48
digit-value b low high = grind (arith, nat_tests)

pub returns-in_err-checked_mul-clause-none : goal.returns-in_err-checked_mul-clause-none
returns-in_err-checked_mul-clause-none c =
    let text = c.args.text.now in
    let more = digits_value_more 10 text c.loop-byte.byte-index (omega arith) in
    let large : 2 ^ 64 ≤ digits_value 10 (take (c.loop-byte.byte-index + 1) text) = omega (arith, more, c.loop-byte.invariant.value, c.in_err-checked_mul.ensures) in
    rw c.from_residual.ensures (λ n small same. decimal-large text n (c.loop-byte.byte-index + 1) large small same)

pub returns-in_err-value-clause-none : goal.returns-in_err-value-clause-none
returns-in_err-value-clause-none c =
    let text = c.args.text.now in
    let more = digits_value_more 10 text c.loop-byte.byte-index (omega arith) in
    let digit = digit-value (get_or text c.loop-byte.byte-index 0) (omega arith) (omega arith) in
    let large : 2 ^ 64 ≤ digits_value 10 (take (c.loop-byte.byte-index + 1) text) =
    omega (arith, more, digit, c.loop-byte.invariant.value, c.in_ok-checked_mul.ensures, c.in_err-value.ensures, c.from.ensures) in
    rw c.from_residual-in_err-value.ensures (λ n small same. decimal-large text n (c.loop-byte.byte-index + 1) large small same)

pub loop-byte-preserved : goal.loop-byte-preserved
loop-byte-preserved c =
    let text = c.args.text.now in
    let more = digits_value_more 10 text c.loop-byte.byte-index (omega arith) in
    let digit = digit-value (get_or text c.loop-byte.byte-index 0) (omega arith) (omega arith) in
    record {
      digits = digits_more 10 text c.loop-byte.byte-index (omega arith) c.loop-byte.invariant.digits (omega (arith, digit));
      value = omega (arith, more, digit, c.loop-byte.invariant.value, c.in_ok-checked_mul.ensures.1, c.in_ok-value.ensures.1, c.from.ensures);
      small = omega (arith, c.in_ok-value.ensures.0, c.in_ok-value.ensures.1);
    }

pub returns-clause-found : goal.returns-clause-found
returns-clause-found c =
    let text = c.args.text.now in
    let all : take c.loop-byte.byte-index text ≡ text = take_all c.loop-byte.byte-index text (omega arith) in
    let digits : AllDigits 10 text = rw all at c.loop-byte.invariant.digits in
    let value : c.loop-byte.value ≡ digits_value 10 text = rw all at c.loop-byte.invariant.value in
    let some : 0 < length text = grind (arith, nat_tests) in
    rw value (decimal-read text digits some (λ zero. omega (arith, zero, c.else-text-eq48.either)) (omega (arith, value, c.loop-byte.invariant.small)))
