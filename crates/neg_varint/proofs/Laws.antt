-- What is read is spelled so, and what is spelled so is read.
use Rattle.std.proofs.Common.{◌≡◌, ◌≢◌, ℕ, suc, ◌+◌, ◌*◌, ◌%◌, ◌^◌, ◌<◌, ◌≤◌, Bool, true, false, cond, ltb, leb, List, [], ◌∷◌, ◌++◌, length, get_or, take, drop, Result, Ok, Err, refl, sym, ap, subst, ◌∙◌, arith, inl, inr, ◌⊎◌}
use Rattle.std.specs.Prelude.{IfOk, nat_eq}
use Rattle.std.specs.List.{starts_with}
use Rattle.std.proofs.Math.Nat.{pow-suc, mul-le-mul_left, one-le-pow}
use Rattle.std.proofs.lemmas.Bool.{ltb-false, ltb-true, leb-false, lt-leb, lt-ltb, le-ltb, ne_eqb}
use Rattle.std.proofs.lemmas.List.{take_at, take-append-drop, length-append, length-drop}
use Rattle.neg_varint.specs.declared.VarintFault.{VarintFault}
use Rattle.neg_varint.specs.declared.VarintFault.TheVariants.{Padded, TooLarge}
use Rattle.neg_varint.specs.Spelling.{number_of, IsMarked, HasNoPadding, IsSpelling}
use Rattle.neg_varint.specs.Reading.{digits_at, number_at, GivesNumber}

abbrev pub IsBytes : List ℕ → Type 0
IsBytes bytes = (i : ℕ) → get_or bytes i 0 < 256

IsBytes-rest : (b : ℕ) (bytes : List ℕ) → IsBytes (b ∷ bytes) → IsBytes bytes
IsBytes-rest b bytes h i = h (suc i)

pub chosen : {A : Type 0} (b : Bool) (x y z : A) → cond b x y ≡ z → ((b ≡ true) × (x ≡ z)) ⊎ ((b ≡ false) × (y ≡ z))
chosen true x y z e = inl (refl, e)
chosen false x y z e = inr (refl, e)

-- the digits of a text, after some whose number is n
pub record Digits (n : ℕ) (bytes : List ℕ) (m : ℕ) (rest : List ℕ) : Type 0 where
  pub text : List ℕ
  pub parts : bytes ≡ text ++ rest
  pub marked : IsMarked text
  pub value : m ≡ n * 128 ^ length text + number_of text
  pub in_range : m < 2 ^ 64

pub marked_cons : (b : ℕ) (text : List ℕ) → 128 ≤ b → b < 256 → IsMarked text → IsMarked (b ∷ text)
marked_cons b [] le lt m = absurd m
marked_cons b (c ∷ text) le lt m = (le, lt, m)

abbrev done : {A : Type 0} → A → Result A VarintFault
done x = Ok x

pair_is : {A : Type 0} (x y : A) → done x ≡ done y → x ≡ y
pair_is x y e = cc

pub step_value : (n d p q t : ℕ) → q ≡ p * 128 → (128 * n + d) * p + t ≡ n * q + (d * p + t)
step_value n d p q t e = rw e (grind arith)

one_value : (n d : ℕ) → 128 * n + d ≡ n * 128 + (d * 1 + 0)
one_value n d = omega arith

pub digits_take : (n : ℕ) (bytes : List ℕ) (m : ℕ) (rest : List ℕ) → IsBytes bytes → digits_at n bytes ≡ Ok (m, rest) → Digits n bytes m rest
unfolding digits_at
digits_take n [] m rest fits e = absurd cc
digits_take n (b ∷ bs) m rest fits e =
    elim (chosen (leb (2 ^ 64) (128 * n + b % 128)) (Err TooLarge) (cond (ltb b 128) (Ok (128 * n + b % 128, bs)) (digits_at (128 * n + b % 128) bs)) (Ok (m, rest)) e) [
      | inl h ↦ absurd (cc h.1)
      | inr h ↦ elim (chosen (ltb b 128) (Ok (128 * n + b % 128, bs)) (digits_at (128 * n + b % 128) bs) (Ok (m, rest)) h.1) [
        | inl g ↦
            let p = pair_is (128 * n + b % 128, bs) (m, rest) g.1 in
            let m-is : 128 * n + b % 128 ≡ m = ap (λ (x : ℕ × List ℕ). x.0) p in
            let rest-is : bs ≡ rest = ap (λ (x : ℕ × List ℕ). x.1) p in
            record { text = b ∷ []; parts = ap (λ (x : List ℕ). b ∷ x) rest-is; marked = ltb-true _ _ g.0; value = sym m-is ∙ one_value n (b % 128); in_range = rw (← m-is) (leb-false _ _ h.0) }
        | inr g ↦
            let d = digits_take (128 * n + b % 128) bs m rest (IsBytes-rest b bs fits) g.1 in
            let big : 128 ≤ b = ltb-false _ _ g.0 in
            record {
              text = b ∷ d.text;
              parts = ap (λ (x : List ℕ). b ∷ x) d.parts;
              marked = marked_cons b d.text big (fits 0) d.marked;
              value = d.value ∙ step_value n (b % 128) (128 ^ length d.text) (128 ^ suc (length d.text)) (number_of d.text) (pow-suc 128 (length d.text));
              in_range = d.in_range;
            }
      ]
    ]

pub digits_again : (n : ℕ) (text rest : List ℕ) (m : ℕ) → IsMarked text → m ≡ n * 128 ^ length text + number_of text → m < 2 ^ 64 → digits_at n (text ++ rest) ≡ Ok (m, rest)
unfolding digits_at
digits_again n [] rest m marked e lt = absurd marked
digits_again n (b ∷ []) rest m marked e lt =
    let m-is : m ≡ 128 * n + b % 128 = e ∙ sym (one_value n (b % 128)) in
    let small : leb (2 ^ 64) (128 * n + b % 128) ≡ false = lt-leb _ _ (rw (← m-is) lt) in
    let last : ltb b 128 ≡ true = lt-ltb _ _ marked in
    rw (small, last, m-is) refl
digits_again n (b ∷ c ∷ text) rest m marked e lt =
    let p = 128 ^ length (c ∷ text) in
    let m-is : m ≡ (128 * n + b % 128) * 128 ^ length (c ∷ text) + number_of (c ∷ text) = e ∙ sym (step_value n (b % 128) (128 ^ length (c ∷ text)) (128 ^ suc (length (c ∷ text))) (number_of (c ∷ text)) (pow-suc 128 (length (c ∷ text)))) in
    let one : 1 ≤ 128 ^ length (c ∷ text) = one-le-pow (length (c ∷ text)) 128 (omega arith) in
    let more : 128 * n + b % 128 ≤ (128 * n + b % 128) * 128 ^ length (c ∷ text) = omega (arith, mul-le-mul_left (128 * n + b % 128) one) in
    let small : leb (2 ^ 64) (128 * n + b % 128) ≡ false = lt-leb _ _ (omega (arith, more, m-is, lt)) in
    let going : ltb b 128 ≡ false = le-ltb _ _ marked.0 in
    let again = digits_again (128 * n + b % 128) (c ∷ text) rest m marked.2 m-is lt in
    rw (small, going) again

pub record Number (bytes : List ℕ) (m : ℕ) (rest : List ℕ) : Type 0 where
  pub text : List ℕ
  pub parts : bytes ≡ text ++ rest
  pub spelling : IsSpelling m text

no_front : (p t : ℕ) → 0 * p + t ≡ t
no_front p t = omega arith

unpadded_front : (b : ℕ) (bs text rest : List ℕ) → b ∷ bs ≡ text ++ rest → b ≢ 128 → HasNoPadding text
unpadded_front b bs [] rest e h = tt
unpadded_front b bs (c ∷ text) rest e h = λ is. h (let same : b ≡ c = cc in same ∙ is)

padded_front : (b : ℕ) (bs : List ℕ) → starts_with nat_eq (b ∷ bs) (128 ∷ []) ≡ false → b ≢ 128
padded_front b bs e is = let h : true ≡ false = subst (λ (x : ℕ). starts_with nat_eq (x ∷ bs) (128 ∷ []) ≡ false) is e in absurd cc

other_front : (b : ℕ) (bs : List ℕ) → b ≢ 128 → starts_with nat_eq (b ∷ bs) (128 ∷ []) ≡ false
other_front b bs h = rw (ne_eqb 128 b (λ e. h (sym e))) refl

pub number_takes : (bytes : List ℕ) (m : ℕ) (rest : List ℕ) → IsBytes bytes → number_at bytes ≡ Ok (m, rest) → Number bytes m rest
unfolding number_at digits_at
number_takes [] m rest fits e = absurd cc
number_takes (b ∷ bs) m rest fits e =
    elim (chosen (starts_with nat_eq (b ∷ bs) (128 ∷ [])) (Err Padded) (digits_at 0 (b ∷ bs)) (Ok (m, rest)) e) [
      | inl h ↦ absurd (cc h.1)
      | inr h ↦
          let d = digits_take 0 (b ∷ bs) m rest fits h.1 in
          record { text = d.text; parts = d.parts; spelling = record { value = d.value ∙ no_front (128 ^ length d.text) (number_of d.text); marked = d.marked; unpadded = unpadded_front b bs d.text rest d.parts (padded_front b bs h.0); in_range = d.in_range } }
    ]

pub number_again : (m : ℕ) (text rest : List ℕ) → IsSpelling m text → number_at (text ++ rest) ≡ Ok (m, rest)
unfolding number_at
number_again m [] rest s = absurd s.marked
number_again m (b ∷ text) rest s = rw (other_front b (text ++ rest) s.unpadded) (digits_again 0 (b ∷ text) rest m s.marked (s.value ∙ sym (no_front (128 ^ length (b ∷ text)) (number_of (b ∷ text)))) s.in_range)

-- ---- what the function answers

pub is_found : (r : Result (ℕ × ℕ) VarintFault) (bytes : List ℕ) → IsBytes bytes → GivesNumber r bytes → IfOk r (λ x. (x.1 ≤ length bytes) × IsSpelling x.0 (take x.1 bytes))
is_found (Ok x) bytes fits given =
    let n = number_takes bytes x.0 (drop x.1 bytes) fits given.0 in
    let len : length n.text ≡ x.1 = omega (arith, ap length n.parts, length-append n.text (drop x.1 bytes), length-drop x.1 bytes, given.1) in
    let front : take x.1 bytes ≡ n.text = ap (take x.1) n.parts ∙ take_at n.text (drop x.1 bytes) x.1 len in
    (given.1, rw front n.spelling)
is_found (Err e) bytes fits given = tt

drop_same : (bytes : List ℕ) (j k : ℕ) → j ≤ length bytes → k ≤ length bytes → drop j bytes ≡ drop k bytes → j ≡ k
drop_same bytes j k le le' e = omega (arith, ap length e, length-drop j bytes, length-drop k bytes)

abbrev pair_of : ℕ → ℕ → ℕ × ℕ
pair_of a b = (a, b)

pairs : (a b c d : ℕ) → a ≡ c → b ≡ d → pair_of a b ≡ pair_of c d
pairs a b c d e f = rw (e, f) refl

pub is_only : (r : Result (ℕ × ℕ) VarintFault) (bytes : List ℕ) → GivesNumber r bytes → (n k : ℕ) → k ≤ length bytes → IsSpelling n (take k bytes) → r ≡ Ok (n, k)
is_only (Ok x) bytes given n k le s =
    let again : number_at bytes ≡ Ok (n, drop k bytes) = ap number_at (sym (take-append-drop k bytes)) ∙ number_again n (take k bytes) (drop k bytes) s in
    let p = pair_is (x.0, drop x.1 bytes) (n, drop k bytes) (sym given.0 ∙ again) in
    let same : x.0 ≡ n = ap (λ (y : ℕ × List ℕ). y.0) p in
    let used : x.1 ≡ k = drop_same bytes x.1 k given.1 le (ap (λ (y : ℕ × List ℕ). y.1) p) in
    ap (λ (y : ℕ × ℕ). Ok y) (pairs x.0 x.1 n k same used)
is_only (Err e) bytes given n k le s =
    let again : number_at bytes ≡ Ok (n, drop k bytes) = ap number_at (sym (take-append-drop k bytes)) ∙ number_again n (take k bytes) (drop k bytes) s in
    absurd cc
