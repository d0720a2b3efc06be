-- When a reply follows a roll, and when a list of open stretches says all that a message does.
use Rattle.std.proofs.Common.{◌≡◌, ◌≤◌, inl, inr, Bool, true, false, cond, ltb, List, [], ◌∷◌, refl, ap, subst, ◌∙◌, arith}
use Rattle.std.specs.Prelude.{Contains, All}
use Rattle.std.proofs.lemmas.Bool.{ltb-false}
use Rattle.neg_codec.proofs.Stretches.{contains_head, contains_tail, contains_cases, contains_none, one_stretch}
use Rattle.item_key.specs.declared.Item.{Item}
use Rattle.item_key.specs.Keys.{place, least, IsKey}
use Rattle.neg_codec.specs.Ranges.{skip, Span, Stretch, stretches, stretches_from, Lies, IsSkip, Ascends}
use Rattle.item_roll.specs.Truth.{IsTrueOf, Follows}

-- each key that the reply skips lies in a stretch of the question that is true of the roll
pub record Answers (items : List Item) (asked answered : List Span) : Type 0 where
  pub told : All (IsTrueOf items) (stretches answered)
  pub skips : (k : Item) (s : Stretch) → IsKey k → Contains (stretches answered) s → IsSkip s → Lies k s → (t : Stretch) × Contains (stretches asked) t × Lies k t × IsTrueOf items t

pub follows_from : (items : List Item) (asked answered : List Span) → Ascends least asked → Answers items asked answered → Follows items asked answered
follows_from items asked answered up a = record {
  told = a.told;
  skipped = λ s t hs ht is_skip meet.
      let found = a.skips meet.0 s meet.1 hs is_skip meet.2 in
      subst (IsTrueOf items) (one_stretch asked up meet.0 found.0 t found.1 ht found.2 meet.3) found.3;
}

-- ---- a draft: the stretches that aren't Skips, in order; all between them is skipped

abbrev pub span_up : Stretch → Span
span_up s = record { upper = s.upper; claim = s.claim }

abbrev pub gap_to : Item → Span
gap_to k = record { upper = k; claim = skip }

-- the ranges of a draft: a Skip before each stretch that doesn't begin where the one before ends
abbrev pub spans_from : Item → List Stretch → List Span
spans_from lower [] = []
spans_from lower (s ∷ ss) = cond (ltb (place lower) (place s.lower)) (gap_to s.lower ∷ span_up s ∷ spans_from s.upper ss) (span_up s ∷ spans_from s.upper ss)

abbrev pub spans_of : List Stretch → List Span
spans_of ss = spans_from least ss

-- stretches in order, each above the bound
abbrev pub InOrder : Item → List Stretch → Type 0
InOrder lower [] = Unit {0}
InOrder lower (s ∷ ss) = (place lower ≤ place s.lower) × (place s.lower ≤ place s.upper) × InOrder s.upper ss

-- the same stretch, its lower bound at the same place
pub record SameStretch (s t : Stretch) : Type 0 where
  pub lower : place t.lower ≡ place s.lower
  pub upper : t.upper ≡ s.upper
  pub claim : t.claim ≡ s.claim

lifted : (lower : Item) (r : Span) (rs : List Span) (s : Stretch) → (t : Stretch) × Contains (stretches_from r.upper rs) t × SameStretch s t → (t : Stretch) × Contains (stretches_from lower (r ∷ rs)) t × SameStretch s t
lifted lower r rs s h = (h.0, contains_tail (record { lower = lower; upper = r.upper; claim = r.claim }) (stretches_from r.upper rs) h.0 h.1, h.2)

-- each stretch of the draft stands in the message
drafted : (lower : Item) (ss : List Stretch) → InOrder lower ss → (s : Stretch) → Contains ss s → (t : Stretch) × Contains (stretches_from lower (spans_from lower ss)) t × SameStretch s t
drafted lower [] up s h = absurd (contains_none s h)
drafted lower (x ∷ ss) up s h = go (ltb (place lower) (place x.lower)) refl (λ (h' : Contains ss s). drafted x.upper ss up.2 s h')
  where
    at_front : (from : Item) → place from ≡ place x.lower → (Contains ss s → (t : Stretch) × Contains (stretches_from x.upper (spans_from x.upper ss)) t × SameStretch s t)
        → (t : Stretch) × Contains (stretches_from from (span_up x ∷ spans_from x.upper ss)) t × SameStretch s t
    at_front from e again = elim (contains_cases x ss s h) [
      | inl same ↦ (
        record { lower = from; upper = x.upper; claim = x.claim },
        contains_head (record { lower = from; upper = x.upper; claim = x.claim }) (stretches_from x.upper (spans_from x.upper ss)),
        record { lower = e ∙ ap (λ (z : Stretch). place z.lower) same; upper = ap (λ (z : Stretch). z.upper) same; claim = ap (λ (z : Stretch). z.claim) same },
      )
      | inr rest ↦ lifted from (span_up x) (spans_from x.upper ss) s (again rest)
    ]

    go : (b : Bool) → ltb (place lower) (place x.lower) ≡ b → (Contains ss s → (t : Stretch) × Contains (stretches_from x.upper (spans_from x.upper ss)) t × SameStretch s t)
        → (t : Stretch) × Contains (stretches_from lower (cond b (gap_to x.lower ∷ span_up x ∷ spans_from x.upper ss) (span_up x ∷ spans_from x.upper ss))) t × SameStretch s t
    go true is again = lifted lower (gap_to x.lower) (span_up x ∷ spans_from x.upper ss) s (at_front x.lower refl again)
    go false is again = at_front lower (omega (arith, up.0, ltb-false _ _ is)) again
