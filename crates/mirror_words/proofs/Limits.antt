-- The limit that is read of what was found.
use Rattle.std.proofs.Common.{◌≡◌, ◌≤◌, ℕ, List, Option, None, Some, Ok, Err, Result, refl, ap, subst, arith}
use Rattle.std.specs.Str.Parse.{ParsesUnsigned, digits_value, without_leading_plus}
use Rattle.clap.specs.Words.{ReadsOne, Text}
use Rattle.mirror_words.specs.CommandLine.{IsLimitOf}

some_is_none : (n : ℕ) → Some n ≡ None → ⊥
some_is_none n e = let bad : Unit {0} ≡ ⊥ = ap is_some_type e in subst (λ (t : Type 0). t) bad tt
  where
    is_some_type : Option ℕ → Type 0
    is_some_type (Some n) = Unit {0}
    is_some_type None = ⊥

module _ (E : Type 0) (Says : List ℕ → Result ℕ E → Type 0) (parses : (t : List ℕ) (r : Result ℕ E) → Says t r → ParsesUnsigned 64 10 t r) where
  -- a number in its range is the limit
  pub limit_in : (t : Option Text) (n : ℕ) → (t ≡ None → Some n ≡ None) → ((x : Text) → t ≡ Some x → ReadsOne Says x (Some n)) → IsLimitOf t n
  limit_in None n none value = let bad : Some n ≡ None = none refl in absurd (some_is_none n bad)
  limit_in (Some x) n none value = λ within. (parses x (Ok n) (value x refl)).1

  -- a number out of its range is none that the text may spell
  pub limit_out : (t : Option Text) (n : ℕ) → (4096 ≤ n → n ≤ 1048576 → ⊥) → (t ≡ None → Some n ≡ None) → ((x : Text) → t ≡ Some x → ReadsOne Says x (Some n)) → IsLimitOf t 60000
  limit_out None n out none value = refl
  limit_out (Some x) n out none value = λ within.
      let is : n ≡ digits_value 10 (without_leading_plus x) = (parses x (Ok n) (value x refl)).1 in
      absurd (out (omega (arith, is, within.2)) (omega (arith, is, within.3)))

  -- nor is a text that spells no number
  pub limit_none : (t : Option Text) → ((x : Text) → t ≡ Some x → ReadsOne Says x None) → IsLimitOf t 60000
  limit_none None value = refl
  limit_none (Some x) value = λ within. absurd (parses x (Err (value x refl).0) (value x refl).1 (within.0, within.1))
