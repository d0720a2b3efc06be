-- Each key lies in just one stretch of a message.
use Rattle.std.proofs.Common.{◌≡◌, ℕ, zero, suc, ◌^◌, ◌<◌, ◌≤◌, ◌⊎◌, inl, inr, Bool, true, false, cond, ltb, List, [], ◌∷◌, length, get_or, refl, sym, ap, subst, ◌∙◌, arith}
use Rattle.std.specs.Prelude.{Contains}
use Rattle.std.proofs.lemmas.Bool.{ltb-false, cases_lt}
use Rattle.item_key.specs.declared.Item.{Item}
use Rattle.item_key.proofs.Order.{number_below}
use Rattle.item_key.specs.Keys.{place, endless, least, infinity, number_of_bytes, IsKey}
use Rattle.neg_codec.specs.Ranges.{skip, Span, Stretch, stretches_from, stretches, Lies, Ascends}

-- ---- elements of a list

pub contains_head : {X : Type 0} → (x : X) (xs : List X) → Contains (x ∷ xs) x
contains_head x xs = (0, omega arith, refl)

pub contains_tail : {X : Type 0} → (x : X) (xs : List X) (y : X) → Contains xs y → Contains (x ∷ xs) y
contains_tail x xs y h = (suc h.0, omega (arith, h.1), h.2)

at_cases : {X : Type 0} → (x : X) (xs : List X) (y : X) (k : ℕ) → k < length (x ∷ xs) → get_or (x ∷ xs) k y ≡ y → (x ≡ y) ⊎ Contains xs y
at_cases x xs y zero lt e = inl e
at_cases x xs y (suc k) lt e = inr (k, omega (arith, lt), e)

pub contains_cases : {X : Type 0} → (x : X) (xs : List X) (y : X) → Contains (x ∷ xs) y → (x ≡ y) ⊎ Contains xs y
contains_cases x xs y h = at_cases x xs y h.0 h.1 h.2

pub contains_none : {X : Type 0} → (y : X) → Contains [] y → ⊥
contains_none y h = omega (arith, h.1)

-- ---- places

pub key_below : (k : Item) → IsKey k → place k < place infinity
unfolding place
key_below k key =
    let n : number_of_bytes k.id.0 < 256 ^ 32 = subst (λ (l : ℕ). number_of_bytes k.id.0 < 256 ^ l) key.id.len (number_below k.id.0 key.id.bytes) in
    omega (arith, n, key.time)

pub endless_above : (k : Item) → endless ≤ k.time → place infinity ≤ place k
unfolding place
endless_above k le = omega (arith, le)

-- ---- stretches

abbrev last_stretch : Item → Stretch
last_stretch lower = record { lower = lower; upper = infinity; claim = skip }

abbrev first_stretch : Item → Span → Stretch
first_stretch lower r = record { lower = lower; upper = r.upper; claim = r.claim }

ending : {X : Type 0} → (b : Bool) (x s : X) → Contains (cond b (x ∷ []) []) s → x ≡ s
ending true x s h = elim (contains_cases x [] s h) [ inl e ↦ e | inr n ↦ absurd (contains_none s n) ]
ending false x s h = absurd (contains_none s h)

same_lower : (s t : Stretch) → s ≡ t → place s.lower ≡ place t.lower
same_lower s t e = ap (λ (x : Stretch). place x.lower) e

same_upper : (s t : Stretch) → s ≡ t → place s.upper ≡ place t.upper
same_upper s t e = ap (λ (x : Stretch). place x.upper) e

above_lower : (lower : Item) (rs : List Span) → Ascends lower rs → (s : Stretch) → Contains (stretches_from lower rs) s → place lower ≤ place s.lower
above_lower lower [] up s h = omega (arith, same_lower (last_stretch lower) s (ending (ltb lower.time endless) (last_stretch lower) s h))
above_lower lower (r ∷ rs) up s h =
    elim (contains_cases (first_stretch lower r) (stretches_from r.upper rs) s h) [
      | inl e ↦ omega (arith, same_lower (first_stretch lower r) s e)
      | inr h' ↦ omega (arith, up.1, above_lower r.upper rs up.2 s h')
    ]

pub one_from : (lower : Item) (rs : List Span) → Ascends lower rs → (k : Item) (s t : Stretch) → Contains (stretches_from lower rs) s → Contains (stretches_from lower rs) t → Lies k s → Lies k t → s ≡ t
one_from lower [] up k s t hs ht ls lt =
    sym (ending (ltb lower.time endless) (last_stretch lower) s hs) ∙ ending (ltb lower.time endless) (last_stretch lower) t ht
one_from lower (r ∷ rs) up k s t hs ht ls lt =
    elim (contains_cases (first_stretch lower r) (stretches_from r.upper rs) s hs) [
      | inl e ↦ elim (contains_cases (first_stretch lower r) (stretches_from r.upper rs) t ht) [
        | inl f ↦ sym e ∙ f
        | inr h ↦ absurd (omega (arith, same_upper (first_stretch lower r) s e, ls.1, lt.0, above_lower r.upper rs up.2 t h))
      ]
      | inr g ↦ elim (contains_cases (first_stretch lower r) (stretches_from r.upper rs) t ht) [
        | inl f ↦ absurd (omega (arith, same_upper (first_stretch lower r) t f, lt.1, ls.0, above_lower r.upper rs up.2 s g))
        | inr h ↦ one_from r.upper rs up.2 k s t g h ls lt
      ]
    ]

some_end : (lower k : Item) (b : Bool) → ltb lower.time endless ≡ b → IsKey k → place lower ≤ place k → (s : Stretch) × Contains (cond b (last_stretch lower ∷ []) []) s × Lies k s
some_end lower k true e key le = (last_stretch lower, contains_head (last_stretch lower) [], (le, key_below k key))
some_end lower k false e key le = absurd (omega (arith, endless_above lower (ltb-false _ _ e), key_below k key, le))

pub some_from : (lower : Item) (rs : List Span) (k : Item) → IsKey k → place lower ≤ place k → (s : Stretch) × Contains (stretches_from lower rs) s × Lies k s
some_from lower [] k key le = some_end lower k (ltb lower.time endless) refl key le
some_from lower (r ∷ rs) k key le =
    elim (cases_lt (place k) (place r.upper)) [
      | inl lt ↦ (first_stretch lower r, contains_head (first_stretch lower r) (stretches_from r.upper rs), (le, lt))
      | inr ge ↦ let t = some_from r.upper rs k key ge in (t.0, contains_tail (first_stretch lower r) (stretches_from r.upper rs) t.0 t.1, t.2)
    ]

pub least_below : (k : Item) → place least ≤ place k
unfolding place
least_below k = omega arith

-- each key lies in some stretch of a message
pub some_stretch : (rs : List Span) (k : Item) → IsKey k → (s : Stretch) × Contains (stretches rs) s × Lies k s
some_stretch rs k key = some_from least rs k key (least_below k)

-- and in no other
pub one_stretch : (rs : List Span) → Ascends least rs → (k : Item) (s t : Stretch) → Contains (stretches rs) s → Contains (stretches rs) t → Lies k s → Lies k t → s ≡ t
one_stretch rs up k s t hs ht ls lt = one_from least rs up k s t hs ht ls lt
