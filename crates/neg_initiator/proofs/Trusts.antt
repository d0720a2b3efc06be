-- What is trusted, range by range of the last ask.
use Rattle.std.proofs.Common.{suc, length, map, take, drop, get_or, ◌≡◌, ℕ, ◌<◌, ◌≤◌, IsTrue, inl, inr, Bool, true, false, cond, ltb, List, [], ◌∷◌, ◌++◌, append_assoc, refl, sym, ap, subst, ◌∙◌, arith}
use Rattle.std.specs.Prelude.{Contains}
use Rattle.std.proofs.lemmas.Bool.{ltb-true, ltb-false}
use Rattle.std.proofs.lemmas.List.Elements.{Contains-append_cases}
use Rattle.neg_codec.proofs.Stretches.{contains_cases, contains_none}
use Rattle.item_key.specs.declared.Item.{Item}
use Rattle.item_key.specs.Keys.{place, least, endless, infinity}
use Rattle.neg_codec.specs.Ranges.{Claim, skip, print, Span, Stretch, stretches, stretches_from, IsSkip, Ascends, span_of}
use Rattle.item_roll.specs.Closed.{closed_from}
use Rattle.neg_codec.specs.declared.Range.{Range}
use Rattle.neg_draft.specs.Coverage.{begun_at, end_of}
use Rattle.neg_draft.proofs.Walking.{ranges_at}
use Rattle.neg_draft.proofs.Covering.{closed-append, end-append, stretch_of}
use Rattle.neg_initiator.specs.Trusting.{between, below, earlier, bounds_of, IsSkippedIn, TrustsOne, TrustsSkipped}
use Rattle.neg_initiator.proofs.Meeting.{meet_bounds, skipped-append, stretches-append, none_before}
use Rattle.neg_initiator.proofs.Passing.{Iff}

-- How far a walk over the last ask has come in the reply.
pub record At (answered : List Span) (rest : List Span) (from lower : Item) : Type 0 where
  pub front : List Span
  pub whole : answered ≡ front ++ rest
  pub begins : from ≡ end_of least front
  pub behind : place from ≤ place lower

pub at_start : (answered : List Span) → At answered answered least least
at_start answered = record { front = []; whole = refl; begins = refl; behind = omega arith }

ascends_at : (lower : Item) (front rest : List Span) → Ascends lower (front ++ rest) → Ascends lower front × Ascends (end_of lower front) rest
ascends_at lower [] rest up = (tt, up)
ascends_at lower (f ∷ front) rest up = let r = ascends_at f.upper front rest up.2 in ((up.0, up.1, r.0), r.1)

pub at_ascends : (answered rest : List Span) (from lower : Item) → Ascends least answered → At answered rest from lower → Ascends from rest
at_ascends answered rest from lower up a =
    subst (λ (x : Item). Ascends x rest) (sym a.begins) (ascends_at least a.front rest (subst (λ (x : List Span). Ascends least x) a.whole up)).1

-- the stretches behind the walk end below: only those ahead are met
pub met_is : (answered rest : List Span) (from lower upper : Item) (met : Bool) → Ascends least answered → At answered rest from lower
    → Iff (IsTrue met) (IsSkippedIn (stretches_from from rest) (between lower upper)) → Iff (IsTrue met) (IsSkippedIn (stretches answered) (between lower upper))
met_is answered rest from lower upper met up a h =
    let t = between lower upper in
    let ups = ascends_at least a.front rest (subst (λ (x : List Span). Ascends least x) a.whole up) in
    let e : stretches answered ≡ closed_from least a.front ++ stretches_from from rest =
    ap stretches a.whole ∙ stretches-append least a.front rest ∙ ap (λ (x : Item). closed_from least a.front ++ stretches_from x rest) (sym a.begins) in
    subst (λ (ss : List Stretch). Iff (IsTrue met) (IsSkippedIn ss (between lower upper))) (sym e) (
      λ x. (skipped-append (closed_from least a.front) (stretches_from from rest) (between lower upper)).1 (inr (h.0 x)),
      λ s. elim ((skipped-append (closed_from least a.front) (stretches_from from rest) (between lower upper)).0 s) [
        | inl x ↦ absurd (none_before least a.front (between lower upper) ups.0 (omega (arith, ap place a.begins, a.behind)) x)
        | inr y ↦ h.1 y
      ],
    )

-- the walk goes on past ranges of the reply
pub at_more : (answered front back : List Span) (rest : List Span) (from lower last upper : Item) → At answered rest from lower → rest ≡ front ++ back → last ≡ end_of from front → place last ≤ place upper → At answered back last upper
at_more answered front back rest from lower last upper a e begins le = record {
  front = a.front ++ front;
  whole = a.whole ∙ ap (λ (x : List Span). a.front ++ x) e ∙ sym (append_assoc a.front front back);
  begins = begins ∙ ap (λ (x : Item). end_of x front) a.begins ∙ sym (end-append least a.front front);
  behind = le;
}

pub earlier_below : (a b : Item) → place (earlier a b) ≤ place b
earlier_below a b = go (ltb (place a) (place b)) refl
  where
    go : (t : Bool) → ltb (place a) (place b) ≡ t → place (cond t a b) ≤ place b
    go true e = omega (arith, ltb-true _ _ e)
    go false e = omega arith

pub earlier_first : (a b : Item) → place (earlier a b) ≤ place a
earlier_first a b = go (ltb (place a) (place b)) refl
  where
    go : (t : Bool) → ltb (place a) (place b) ≡ t → place (cond t a b) ≤ place a
    go true e = omega arith
    go false e = omega (arith, ltb-false _ _ e)

pub earlier_above : (a b k : Item) → place k < place a → place k < place b → place k < place (earlier a b)
earlier_above a b k la lb = go (ltb (place a) (place b))
  where
    go : (t : Bool) → place k < place (cond t a b)
    go true = la
    go false = lb

pub earlier_least : (a b k : Item) → place k ≤ place a → place k ≤ place b → place k ≤ place (earlier a b)
earlier_least a b k la lb = go (ltb (place a) (place b))
  where
    go : (t : Bool) → place k ≤ place (cond t a b)
    go true = la
    go false = lb

-- one range of the last ask more
pub trusts_more : (front : List Span) (r : Span) (back : List Span) (answered : List Span) (until upper : Item) (old now new : List (Item × Item)) (met : Bool) → upper ≡ earlier until r.upper
    → TrustsSkipped (front ++ (r ∷ back)) answered until (closed_from least front) old now
    → Iff (IsTrue met) (IsSkippedIn (stretches answered) (between (end_of least front) upper))
    → TrustsOne met (end_of least front) r now new
    → TrustsSkipped (front ++ (r ∷ back)) answered until (closed_from least (front ++ (r ∷ []))) old new
trusts_more front r back answered until upper old now new met cut was h one = record {
  kept = λ x k. one.kept x (was.kept x k);
  whole = λ t p looked is skipped.
      elim (Contains-append_cases (closed_from least front) (begun_at (end_of least front) r ∷ []) t (subst (λ (ss : List Stretch). Contains ss t) (closed-append least front (r ∷ [])) looked)) [
        | inl before ↦ one.kept (bounds_of t) (was.whole t p before is skipped)
        | inr here ↦ elim (contains_cases (begun_at (end_of least front) r) [] t here) [
          | inl e ↦
              let found = h.1 (skipped.0, skipped.1, skipped.2, meet_bounds skipped.0 skipped.0 (below until t) (between (end_of least front) upper) refl refl (ap (λ (x : Stretch). place x.lower) (sym e)) (ap (λ (x : Stretch). place (earlier until x.upper)) (sym e) ∙ ap place (sym cut)) skipped.3) in
              subst (λ (b : Item × Item). Contains new b) (ap bounds_of e) (one.whole found p (ap (λ (x : Stretch). x.claim) e ∙ is))
          | inr n ↦ absurd (contains_none t n)
        ]
      ];
  right = λ x k. elim (one.right x k) [
    | inl k' ↦ was.right x k'
    | inr y ↦
        let s = h.0 y.0 in
        inr (
          begun_at (end_of least front) r,
          y.2,
          record {
            print_of = y.1.0;
            claims = y.1.1;
            asks = stretch_of least front r back;
            by = s.0;
            answers = s.1;
            skips = s.2;
            meets = (s.3.0, s.3.1, s.3.2, (s.3.3.0, omega (arith, s.3.3.1, ap place cut, earlier_below until r.upper)));
          },
        )
  ];
}

pub trusts_none : (asked answered : List Span) (until : Item) (old : List (Item × Item)) → TrustsSkipped asked answered until [] old old
trusts_none asked answered until old = record { kept = λ x k. k; whole = λ t p looked is skipped. absurd (contains_none t looked); right = λ x k. inl k }

in_implied : (lower : Item) (b : Bool) (t : Stretch) → Contains (cond b (between lower infinity ∷ []) []) t → IsSkip t
in_implied lower true t h = elim (contains_cases (between lower infinity) [] t h) [ inl e ↦ ap (λ (x : Stretch). x.claim) (sym e) | inr n ↦ absurd (contains_none t n) ]
in_implied lower false t h = absurd (contains_none t h)

no_print : (c : Claim) (p : List ℕ) → c ≡ skip → c ≡ print p → ⊥
no_print c p a b = cc

-- the Skip that the last ask implies is no fingerprint
pub trusts_all : (asked answered : List Span) (until : Item) (old new : List (Item × Item)) → TrustsSkipped asked answered until (closed_from least asked) old new → TrustsSkipped asked answered until (stretches asked) old new
trusts_all asked answered until old new was = record {
  kept = was.kept;
  whole = λ t p looked is skipped.
      elim (Contains-append_cases (closed_from least asked) (stretches_from (end_of least asked) []) t
      (subst (λ (ss : List Stretch). Contains ss t) (ap stretches (sym (append_nil asked)) ∙ stretches-append least asked []) looked)) [
        | inl before ↦ was.whole t p before is skipped
        | inr implied ↦ absurd (no_print t.claim p (in_implied (end_of least asked) (ltb (end_of least asked).time endless) t implied) is)
      ];
  right = was.right;
}
  where
    append_nil : (xs : List Span) → xs ++ [] ≡ xs
    append_nil [] = refl
    append_nil (x ∷ xs) = ap (λ (t : List Span). x ∷ t) (append_nil xs)

-- the range at a place of a message doesn't end below where it begins
pub reaches_upper : (ranges : List Range) (i : ℕ) (r : Range) → i < length ranges → r ≡ get_or ranges i r → Ascends least (map span_of ranges)
    → place (end_of least (map span_of (take i ranges))) ≤ place (span_of r).upper
reaches_upper ranges i r lt is up =
    (ascends_at least (map span_of (take i ranges)) (span_of r ∷ map span_of (drop (suc i) ranges)) (subst (λ (x : List Span). Ascends least x) (ranges_at ranges i r lt is) up)).1.1
