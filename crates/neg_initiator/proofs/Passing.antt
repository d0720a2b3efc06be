-- A walk over the ranges of a reply, to find a Skip that has a key in common with a stretch.
use Rattle.std.proofs.Common.{◌≡◌, ◌<◌, ◌≤◌, ◌⊎◌, ◌||◌, IsTrue, inl, inr, Bool, true, false, cond, ltb, List, [], ◌∷◌, ◌++◌, refl, sym, ap, subst, ◌∙◌, arith}
use Rattle.std.proofs.lemmas.Bool.{cases_lt, lt-ltb}
use Rattle.neg_codec.proofs.Stretches.{endless_above}
use Rattle.item_key.specs.declared.Item.{Item}
use Rattle.item_key.specs.Keys.{place, endless, infinity}
use Rattle.neg_codec.specs.Ranges.{Span, Stretch, stretches_from, Ascends}
use Rattle.item_roll.specs.Closed.{closed_from}
use Rattle.item_roll.specs.Truth.{Meet}
use Rattle.neg_draft.specs.Coverage.{begun_at, end_of}
use Rattle.neg_draft.proofs.Covering.{closed-append, end-append}
use Rattle.neg_initiator.specs.Trusting.{between, IsSkippedIn}
use Rattle.neg_initiator.proofs.Meeting.{skipped-append, skipped-one, skipped-none, stretches-append, none_beyond}

abbrev pub Iff : Type 0 → Type 0 → Type 0
Iff P Q = (P → Q) × (Q → P)

either_true : (a b : Bool) → Iff (IsTrue (a || b)) (IsTrue a ⊎ IsTrue b)
either_true true b = (λ h. inl h, λ h. refl)
either_true false b = (λ h. inr h, λ h. elim h [ inl x ↦ absurd (let f : false ≡ true = x in cc) | inr x ↦ x ])

-- a test joined with another tells of both lists
joined : (a b : Bool) (xs ys : List Stretch) (t : Stretch) → Iff (IsTrue a) (IsSkippedIn xs t) → Iff (IsTrue b) (IsSkippedIn ys t) → Iff (IsTrue (a || b)) (IsSkippedIn (xs ++ ys) t)
joined a b xs ys t p q = (
  λ h. (skipped-append xs ys t).1 (elim ((either_true a b).0 h) [ inl x ↦ inl (p.0 x) | inr y ↦ inr (q.0 y) ]),
  λ h. (either_true a b).1 (elim ((skipped-append xs ys t).0 h) [ inl x ↦ inl (p.1 x) | inr y ↦ inr (q.1 y) ]),
)

pub record Passing (from : Item) (front : List Span) (t : Stretch) (met : Bool) (last : Item) : Type 0 where
  pub found : Iff (IsTrue met) (IsSkippedIn (closed_from from front) t)
  pub at_end : last ≡ end_of from front
  pub behind : place last ≤ place t.upper

pub passing_none : (from : Item) (t : Stretch) → place from ≤ place t.upper → Passing from [] t false from
passing_none from t le = record { found = (λ h. absurd (let f : false ≡ true = h in cc), λ h. absurd (skipped-none t h)); at_end = refl; behind = le }

closed-push : (from : Item) (front : List Span) (r : Span) → closed_from from (front ++ (r ∷ [])) ≡ closed_from from front ++ (begun_at (end_of from front) r ∷ [])
closed-push from front r = closed-append from front (r ∷ [])

pub passing_more : (from : Item) (front : List Span) (r : Span) (t : Stretch) (met here : Bool) (last : Item) → Passing from front t met last
    → Iff (IsTrue here) (IsSkippedIn (begun_at last r ∷ []) t) → place r.upper ≤ place t.upper → Passing from (front ++ (r ∷ [])) t (met || here) r.upper
passing_more from front r t met here last was h le = record {
  found = subst (λ (ss : List Stretch). Iff (IsTrue (met || here)) (IsSkippedIn ss t)) (sym (closed-push from front r))
      (joined met here (closed_from from front) (begun_at (end_of from front) r ∷ []) t was.found
      (subst (λ (x : Item). Iff (IsTrue here) (IsSkippedIn (begun_at x r ∷ []) t)) was.at_end h));
  at_end = sym (end-append from front (r ∷ []));
  behind = le;
}

-- the walk stops at a range that ends above the stretch: those behind it begin above
pub passing_stop : (from : Item) (front : List Span) (r : Span) (back : List Span) (t : Stretch) (met here : Bool) (last : Item) → Passing from front t met last
    → Iff (IsTrue here) (IsSkippedIn (begun_at last r ∷ []) t) → place t.upper < place r.upper → Ascends r.upper back
    → Iff (IsTrue (met || here)) (IsSkippedIn (stretches_from from (front ++ (r ∷ back))) t)
passing_stop from front r back t met here last was h lt up =
    let h' = subst (λ (x : Item). Iff (IsTrue here) (IsSkippedIn (begun_at x r ∷ []) t)) was.at_end h in
    let all : Iff (IsTrue here) (IsSkippedIn (begun_at (end_of from front) r ∷ stretches_from r.upper back) t) = (
      λ x. (skipped-append (begun_at (end_of from front) r ∷ []) (stretches_from r.upper back) t).1 (inl (h'.0 x)),
      λ s. elim ((skipped-append (begun_at (end_of from front) r ∷ []) (stretches_from r.upper back) t).0 s) [
        | inl x ↦ h'.1 x
        | inr y ↦ absurd (none_beyond r.upper back t up (omega (arith, lt)) y)
      ],
    ) in
    subst (λ (ss : List Stretch). Iff (IsTrue (met || here)) (IsSkippedIn ss t)) (sym (stretches-append from front (r ∷ back)))
    (joined met here (closed_from from front) (begun_at (end_of from front) r ∷ stretches_from r.upper back) t was.found all)

not_finite : (lower : Item) → ltb lower.time endless ≡ false → endless ≤ lower.time
not_finite lower e = elim (cases_lt lower.time endless) [ inl lt ↦ absurd (let f = lt-ltb lower.time endless lt in cc) | inr ge ↦ ge ]

implied_is : (lower : Item) (t : Stretch) (b : Bool) → Iff (IsTrue b) (Meet (between lower infinity) t) → Iff (IsTrue b) (IsSkippedIn (stretches_from lower []) t)
implied_is lower t b h = go (ltb lower.time endless) refl
  where
    go : (f : Bool) → ltb lower.time endless ≡ f → Iff (IsTrue b) (IsSkippedIn (cond f (between lower infinity ∷ []) []) t)
    go true e = (λ x. (skipped-one (between lower infinity) t).1 (refl, h.0 x), λ s. h.1 ((skipped-one (between lower infinity) t).0 s).1)
    go false e = (
      λ x. let m = h.0 x in absurd (omega (arith, endless_above lower (not_finite lower e), m.2.0, m.2.1)),
      λ s. absurd (skipped-none t s),
    )

-- the walk went over all ranges: what is left is the Skip that the reply implies
pub passing_end : (from : Item) (rest : List Span) (t : Stretch) (met implied : Bool) (last : Item) → Passing from rest t met last
    → Iff (IsTrue implied) (Meet (between last infinity) t) → Iff (IsTrue (met || implied)) (IsSkippedIn (stretches_from from rest) t)
passing_end from rest t met implied last was h =
    let e : stretches_from from rest ≡ closed_from from rest ++ stretches_from (end_of from rest) [] = ap (λ (x : List Span). stretches_from from x) (sym (append_nil rest)) ∙ stretches-append from rest [] in
    subst (λ (ss : List Stretch). Iff (IsTrue (met || implied)) (IsSkippedIn ss t)) (sym e)
    (joined met implied (closed_from from rest) (stretches_from (end_of from rest) []) t was.found
    (implied_is (end_of from rest) t implied (subst (λ (x : Item). Iff (IsTrue implied) (Meet (between x infinity) t)) was.at_end h)))
  where
    append_nil : (xs : List Span) → xs ++ [] ≡ xs
    append_nil [] = refl
    append_nil (x ∷ xs) = ap (λ (t : List Span). x ∷ t) (append_nil xs)

-- ranges that stand behind others stand in order
pub ascends_behind : (from : Item) (front : List Span) (r : Span) (back : List Span) → Ascends from (front ++ (r ∷ back)) → Ascends r.upper back
ascends_behind from [] r back up = up.2
ascends_behind from (f ∷ front) r back up = ascends_behind f.upper front r back up.2
