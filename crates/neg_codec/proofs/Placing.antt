-- Ranges none of which is out of place make a message.
use Rattle.std.proofs.Common.{◌≡◌, ℕ, suc, ◌+◌, ◌<◌, ◌≤◌, Bool, true, false, cond, ltb, List, [], ◌∷◌, length, get_or, drop, map, Option, Some, None, inl, inr, refl, sym, ap, subst, ◌∙◌, arith, drop-cons}
use Rattle.std.specs.Prelude.{All}
use Rattle.std.proofs.lemmas.List.{get_or-map, length-map}
use Rattle.std.proofs.lemmas.Bool.{cases_lt, ltb-true, ltb-false, lt-ltb, le-ltb}
use Rattle.item_key.specs.declared.Item.{Item}
use Rattle.neg_codec.specs.declared.CodecFault.{CodecFault}
use Rattle.neg_codec.specs.declared.CodecFault.TheVariants as fault
use Rattle.item_key.specs.Keys.{place, endless, least}
use Rattle.neg_codec.specs.declared.Range.{Range}
use Rattle.neg_codec.specs.Ranges.{Span, span_of, Ascends, IsSpan}
use Rattle.neg_codec.specs.Misplaced.{misplaced_from, first_misplaced}

none_past : (b : Bool) (f : CodecFault) (o : Option CodecFault) → cond b (Some f) o ≡ None → (b ≡ false) × (o ≡ None)
none_past true f o e = absurd cc
none_past false f o e = (refl, e)

none_within : (b : Bool) (f : CodecFault) (o : Option CodecFault) → cond b o (Some f) ≡ None → (b ≡ true) × (o ≡ None)
none_within true f o e = (refl, e)
none_within false f o e = absurd cc

ascends_where : (i : ℕ) (before : Item) (rs : List Span) → misplaced_from i before rs ≡ None → Ascends before rs
ascends_where i before [] e = tt
ascends_where i before (r ∷ rs) e =
    let a = none_past (ltb (place r.upper) (place before)) (fault.Descending i) (cond (ltb before.time endless) (misplaced_from (i + 1) r.upper rs) (Some (fault.AfterInfinity i))) e in
    let b = none_within (ltb before.time endless) (fault.AfterInfinity i) (misplaced_from (i + 1) r.upper rs) a.1 in
    (ltb-true _ _ b.0, ltb-false _ _ a.0, ascends_where (i + 1) r.upper rs b.1)

pub ascends_if_placed : (rs : List Span) → first_misplaced rs ≡ None → Ascends least rs
unfolding first_misplaced
ascends_if_placed rs e = ascends_where 0 least rs e

-- ---- the range at an index, as a loop looks at it

pub begins : (rs : List Span) → misplaced_from 0 least rs ≡ first_misplaced rs
unfolding first_misplaced
begins rs = refl

pub below_before : (i : ℕ) (before : Item) (r : Span) (rs : List Span) → place r.upper < place before → misplaced_from i before (r ∷ rs) ≡ Some (fault.Descending i)
below_before i before r rs lt = rw (lt-ltb (place r.upper) (place before) lt) refl

pub after_infinity : (i : ℕ) (before : Item) (r : Span) (rs : List Span) → place before ≤ place r.upper → endless ≤ before.time → misplaced_from i before (r ∷ rs) ≡ Some (fault.AfterInfinity i)
after_infinity i before r rs le end = rw (le-ltb (place r.upper) (place before) le, le-ltb before.time endless end) refl

pub in_place : (i : ℕ) (before : Item) (r : Span) (rs : List Span) → place before ≤ place r.upper → before.time < endless → misplaced_from i before (r ∷ rs) ≡ misplaced_from (i + 1) r.upper rs
in_place i before r rs le lt = rw (le-ltb (place r.upper) (place before) le, lt-ltb before.time endless lt) refl

pub next_span : (ranges : List Range) (i : ℕ) (r : Range) → i < length ranges → r ≡ get_or ranges i r → drop i (map span_of ranges) ≡ span_of r ∷ drop (i + 1) (map span_of ranges)
next_span ranges i r lt is =
    let within : i < length (map span_of ranges) = omega (arith, length-map ranges span_of) in
    let here : get_or (map span_of ranges) i (span_of r) ≡ span_of r = get_or-map span_of ranges i r (span_of r) lt ∙ ap span_of (sym is) in
    let next : suc i ≡ i + 1 = omega arith in
    drop-cons (map span_of ranges) i (span_of r) within ∙ ap (λ (x : Span). x ∷ drop (suc i) (map span_of ranges)) here ∙ ap (λ (n : ℕ). span_of r ∷ drop n (map span_of ranges)) next

pub not_below : {b : Bool} {x y : ℕ} → ((b ≡ true → x < y) × (x < y → b ≡ true)) → b ≡ false → y ≤ x
not_below {b} {x} {y} told is = elim (cases_lt x y) [ inl lt ↦ absurd (let yes = told.1 lt in cc) | inr le ↦ le ]

pub span_at : (ranges : List Range) (i : ℕ) (r : Range) → i < length ranges → r ≡ get_or ranges i r → All IsSpan (map span_of ranges) → IsSpan (span_of r)
span_at ranges i r lt is fits =
    let here : get_or (map span_of ranges) i (span_of r) ≡ span_of r = get_or-map span_of ranges i r (span_of r) lt ∙ ap span_of (sym is) in
    subst IsSpan here (fits i (span_of r) (omega (arith, length-map ranges span_of, lt)))

placed_from : (i : ℕ) (before : Item) (rs : List Span) → Ascends before rs → misplaced_from i before rs ≡ None
placed_from i before [] up = refl
placed_from i before (r ∷ rs) up = in_place i before r rs up.1 up.0 ∙ placed_from (i + 1) r.upper rs up.2

pub placed_if_ascends : (rs : List Span) → Ascends least rs → first_misplaced rs ≡ None
unfolding first_misplaced
placed_if_ascends rs up = placed_from 0 least rs up

-- ranges are in place, or one is the first that isn't
pub never_both : (rs : List Span) (f : CodecFault) → Ascends least rs → first_misplaced rs ≡ Some f → ⊥
never_both rs f up e = let none = placed_if_ascends rs up in let k = sym none ∙ e in cc
