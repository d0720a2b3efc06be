-- Texts that end with a colon and a number.
use Rattle.std.proofs.Common.{◌≡◌, ◌≢◌, ℕ, ◌<◌, ◌^◌, ◌==◌, List, [], ◌∷◌, ◌++◌, length, get_or, take, drop, decimal, Some, lit<, refl, ap, sym, ◌∙◌, arith}
use Rattle.std.proofs.Math.Seq.{get_or-append_seam}
use Rattle.std.proofs.lemmas.List.{length-append, take-append-drop}
use Rattle.std.proofs.lemmas.Fmt.{digits_decimal, digits_value-decimal}
use Rattle.std.proofs.lemmas.Str.Parse.{IsNumeralModel, numerals_by_value, tells_digits, digit_at}
use Rattle.std.proofs.lemmas.Str.{encode_ascii}
use Rattle.std.proofs.lemmas.Str.Pattern.{NoCharPasses-char}
use Rattle.std.specs.Str.Parse.{AllDigits, digits_value}
use Rattle.std.specs.Str.{NoCharPasses}
use Rattle.std.specs.Str.Pattern.{RFindsChar}

own : IsNumeralModel (AllDigits 10) (digits_value 10)
own = numerals_by_value _ tells_digits

abbrev pub NoColon : List ℕ → Type 0
NoColon s = (i : ℕ) → i < length s → get_or s i 0 ≢ 58

pub no_colon : (s : List ℕ) → NoCharPasses (λ d. d == 58) s → NoColon s
no_colon s none i below = NoCharPasses-char 58 s i none (lit< tt) below

pub within : (host digits rest : List ℕ) → digits ≡ host ++ 58 ∷ rest → NoColon digits → ⊥
within host digits rest e none =
    none (length host) (omega (arith, ap length e, length-append host (58 ∷ rest))) (ap (λ s. get_or s (length host) 0) e ∙ get_or-append_seam host 58 rest 0)

-- the last colon parts a text in one way
pub same_parts : (h d k e : List ℕ) → h ++ 58 ∷ d ≡ k ++ 58 ∷ e → NoColon d → NoColon e → (h ≡ k) × (d ≡ e)
same_parts [] d [] e same n m = (refl, cc)
same_parts [] d (x ∷ k) e same n m = let tail : d ≡ k ++ 58 ∷ e = cc in absurd (within k d e tail n)
same_parts (x ∷ h) d [] e same n m = let tail : e ≡ h ++ 58 ∷ d = cc in absurd (within h e d tail m)
same_parts (x ∷ h) d (y ∷ k) e same n m =
    let head : x ≡ y = cc in
    let tail : h ++ 58 ∷ d ≡ k ++ 58 ∷ e = cc in
    let rest = same_parts h d k e tail n m in
    (rw (head, rest.0) refl, rest.1)

pub port_has_none : (n : ℕ) → n < 2 ^ 64 → NoColon (decimal n)
port_has_none n small i below = λ e. let digit = digit_at (decimal n) i (digits_decimal own n small) below in omega (arith, digit, e)

pub same_port : (m n : ℕ) → m < 2 ^ 64 → n < 2 ^ 64 → decimal m ≡ decimal n → m ≡ n
same_port m n a b e = sym (digits_value-decimal own m a) ∙ ap (digits_value 10) e ∙ digits_value-decimal own n b

-- what parting a text at its last colon gives
pub parted : (text front back : List ℕ) (i j : ℕ) → RFindsChar 58 text (Some (i, j)) → front ≡ take i text → back ≡ drop j text → (text ≡ front ++ 58 ∷ back) × NoColon back
parted text front back i j found f b =
    let after : drop i text ≡ 58 ∷ drop j text = found.1.split ∙ ap (λ s. s ++ drop j text) (encode_ascii 58 (lit< tt)) in
    (rw (f, b) (sym (take-append-drop i text) ∙ ap (λ s. take i text ++ s) after), rw b (no_colon (drop j text) found.0))
