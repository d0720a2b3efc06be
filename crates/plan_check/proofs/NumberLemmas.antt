-- Which words are the decimal digits of a number.
use Rattle.std.proofs.Common.{◌≡◌, ◌≢◌, ℕ, ◌^◌, ◌<◌, List, [], ◌∷◌, ◌++◌, length, refl, append_assoc, decimal, ap, sym, ◌∙◌, arith}
use Rattle.std.specs.List.{All}
use Rattle.std.specs.Str.Parse.{AllDigits, digits_value}
use Rattle.std.proofs.lemmas.Str.Parse.{IsNumeralModel, numerals_by_value, tells_digits, digit_at}
use Rattle.std.proofs.lemmas.Fmt.{decimal_injective, digits_decimal}
use Rattle.std.proofs.lemmas.List.{get_or_default, append-nil}
use Rattle.std.proofs.lemmas.List.Elements.{All-head, All-tail}
use Rattle.std.proofs.lemmas.Grind.{flat_map-append}
use Rattle.sharing.specs.declared.TheConstants.{RELAYS}
use Rattle.plan_check.specs.File.{IsBase}
use Rattle.plan_check.specs.PlanText.{number_text, relays_text}
use Rattle.plan_check.specs.PlanParts.{IsNextWord, AreRelaysText}
use Rattle.plan_check.proofs.Spans.{peel}

abbrev pub NoSpace : ℕ → Type 0
NoSpace b = b ≢ 32

pub own : IsNumeralModel (AllDigits 10) (digits_value 10)
own = numerals_by_value _ tells_digits

pub relay_small : (n : ℕ) → n < RELAYS → n < 2 ^ 64
relay_small n small = omega arith

pub base_small : (b : ℕ × ℕ) → IsBase b → b.1 < 2 ^ 64
base_small b is = omega (arith, is.small)

-- no space stands in it
pub no_space : (n : ℕ) → n < 2 ^ 64 → All NoSpace (decimal n)
no_space n small = λ k d lt is.
    let range = digit_at (decimal n) k (digits_decimal own n small) lt in
    omega (arith, range.0, range.1, get_or_default (decimal n) k d 0 lt, is)

pub next_relays : (relays : List ℕ) → IsNextWord (relays_text relays)
next_relays [] = tt
next_relays (r ∷ rs) = λ not. not refl

-- a word up to a space is determined
pub one_word : (n : ℕ) (word x y : List ℕ) → n < 2 ^ 64 → All NoSpace word → IsNextWord x → IsNextWord y → word ++ x ≡ decimal n ++ y → (word ≡ decimal n) × (x ≡ y)
one_word n word x y small none hx hy e = peel NoSpace word (decimal n) x y none (no_space n small) hx hy e

pub same_number : (m n : ℕ) (x y : List ℕ) → m < 2 ^ 64 → n < 2 ^ 64 → IsNextWord x → IsNextWord y → number_text m ++ x ≡ number_text n ++ y → (m ≡ n) × (x ≡ y)
same_number m n x y m_small n_small hx hy e =
    let behind : decimal m ++ x ≡ decimal n ++ y = cc in
    let parts = one_word n (decimal m) x y n_small (no_space m m_small) hx hy behind in
    (decimal_injective m n m_small n_small parts.0, parts.1)

-- the relays after the first
pub later_relays : (text after relays : List ℕ) (r : ℕ) → r < RELAYS → IsNextWord after → text ≡ number_text r ++ after → All (λ r. r < RELAYS) relays → text ≡ relays_text relays → AreRelaysText after
later_relays text after [] r small next e all told = absurd (cc)
later_relays text after (q ∷ qs) r small next e all told =
    let parts = same_number r q after (relays_text qs) (relay_small r small) (relay_small q (All-head (λ r. r < RELAYS) q qs all)) next (next_relays qs) (sym e ∙ told) in
    (qs, All-tail (λ r. r < RELAYS) q qs all, parts.1)

-- a text that no relay begins
pub no_relays : (text relays : List ℕ) → 0 < length text → ((r : ℕ) (rest : List ℕ) → r < RELAYS → IsNextWord rest → text ≢ number_text r ++ rest) → All (λ r. r < RELAYS) relays → text ≡ relays_text relays → ⊥
no_relays text [] some none all told = omega (arith, ap length told)
no_relays text (q ∷ qs) some none all told = none q (relays_text qs) (All-head (λ r. r < RELAYS) q qs all) (next_relays qs) told

-- one relay more
pub more_relays : (text rest after relays : List ℕ) (r : ℕ) → text ≡ relays_text relays ++ rest → rest ≡ number_text r ++ after → text ≡ relays_text (relays ++ r ∷ []) ++ after
more_relays text rest after relays r e f =
    let line : relays_text (relays ++ r ∷ []) ≡ relays_text relays ++ number_text r = flat_map-append number_text relays (r ∷ []) ∙ ap (λ t. relays_text relays ++ t) (append-nil (number_text r)) in
    e ∙ ap (λ t. relays_text relays ++ t) f ∙ sym (append_assoc (relays_text relays) (number_text r) after) ∙ ap (λ t. t ++ after) (sym line)

pub some_text : (relays : List ℕ) → 0 < length relays → 0 < length (relays_text relays)
some_text [] some = absurd (omega arith)
some_text (r ∷ rs) some = omega arith

pub some_relays : (relays : List ℕ) → 0 < length (relays_text relays) → 0 < length relays
some_relays [] some = absurd (omega arith)
some_relays (r ∷ rs) some = omega arith
