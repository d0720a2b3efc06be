-- Which stretches have a key in common.
use Rattle.std.proofs.Common.{◌≡◌, ◌<◌, ◌≤◌, ◌⊎◌, ◌↔◌, inl, inr, Bool, true, false, cond, ltb, List, [], ◌∷◌, ◌++◌, refl, sym, ap, subst, arith}
use Rattle.std.specs.Prelude.{Contains}
use Rattle.std.proofs.lemmas.Bool.{cases_lt}
use Rattle.std.proofs.lemmas.List.Elements.{Contains-append_left, Contains-append_right, Contains-append_cases}
use Rattle.neg_codec.proofs.Stretches.{contains_head, contains_cases, contains_none}
use Rattle.item_key.specs.declared.Item.{Item}
use Rattle.item_key.specs.Keys.{place, endless, infinity}
use Rattle.neg_codec.specs.Ranges.{skip, Span, Stretch, stretches_from, IsSkip, Ascends, IsEdge}
use Rattle.item_roll.specs.Closed.{closed_from}
use Rattle.item_roll.specs.Truth.{Meet}
use Rattle.neg_draft.specs.Coverage.{end_of}
use Rattle.neg_draft.proofs.Covering.{end_above}
use Rattle.neg_draft.proofs.Owning.{edge_key}
use Rattle.neg_initiator.specs.Trusting.{between, IsSkippedIn}

pub record Overlap (l u m v : Item) : Type 0 where
  pub own : place l < place u
  pub first : place l < place v
  pub second : place m < place u
  pub other : place m < place v

-- two stretches between bounds have a key in common where each begins before both end
pub meet_of : (l u m v : Item) → IsEdge l → IsEdge u → IsEdge m → IsEdge v → Overlap l u m v → Meet (between l u) (between m v)
meet_of l u m v el eu em ev o = elim (cases_lt (place l) (place m)) [
  | inl lt ↦ (m, edge_key m v em ev o.other, (omega (arith, lt), o.second), (omega arith, o.other))
  | inr ge ↦ (l, edge_key l u el eu o.own, (omega arith, o.own), (ge, o.first))
]

pub overlap_of : (s t : Stretch) → Meet s t → Overlap s.lower s.upper t.lower t.upper
overlap_of s t m = record {
  own = omega (arith, m.2.0, m.2.1);
  first = omega (arith, m.2.0, m.3.1);
  second = omega (arith, m.3.0, m.2.1);
  other = omega (arith, m.3.0, m.3.1);
}

-- what a stretch says has no part in it
pub meet_bounds : (s s' t t' : Stretch) → place s.lower ≡ place s'.lower → place s.upper ≡ place s'.upper → place t.lower ≡ place t'.lower → place t.upper ≡ place t'.upper → Meet s t → Meet s' t'
meet_bounds s s' t t' a b c d m = (m.0, m.1, (omega (arith, m.2.0, a), omega (arith, m.2.1, b)), (omega (arith, m.3.0, c), omega (arith, m.3.1, d)))

-- ---- Skips among stretches

pub skipped-append : (xs ys : List Stretch) (t : Stretch) → IsSkippedIn (xs ++ ys) t ↔ (IsSkippedIn xs t ⊎ IsSkippedIn ys t)
skipped-append xs ys t = (
  λ h. elim (Contains-append_cases xs ys h.0 h.1) [ inl l ↦ inl (h.0, l, h.2, h.3) | inr r ↦ inr (h.0, r, h.2, h.3) ],
  λ h. elim h [ inl l ↦ (l.0, Contains-append_left xs ys l.0 l.1, l.2, l.3) | inr r ↦ (r.0, Contains-append_right xs ys r.0 r.1, r.2, r.3) ],
)

pub skipped-one : (s t : Stretch) → IsSkippedIn (s ∷ []) t ↔ (IsSkip s × Meet s t)
skipped-one s t = (
  λ h. elim (contains_cases s [] h.0 h.1) [
    | inl e ↦ subst (λ (x : Stretch). IsSkip x × Meet x t) (sym e) (h.2, h.3)
    | inr n ↦ absurd (contains_none h.0 n)
  ],
  λ h. (s, contains_head s [], h.0, h.1),
)

pub skipped-none : (t : Stretch) → IsSkippedIn [] t → ⊥
skipped-none t h = contains_none h.0 h.1

-- the stretches of ranges one after another
pub stretches-append : (lower : Item) (xs ys : List Span) → stretches_from lower (xs ++ ys) ≡ closed_from lower xs ++ stretches_from (end_of lower xs) ys
stretches-append lower [] ys = refl
stretches-append lower (x ∷ xs) ys = ap (λ (t : List Stretch). record { lower = lower; upper = x.upper; claim = x.claim } ∷ t) (stretches-append x.upper xs ys)

begins_above : (lower : Item) (rs : List Span) → Ascends lower rs → (s : Stretch) → Contains (stretches_from lower rs) s → place lower ≤ place s.lower
begins_above lower [] up s h = go (ltb lower.time endless) h
  where
    go : (b : Bool) → Contains (cond b (record { lower = lower; upper = infinity; claim = skip } ∷ []) []) s → place lower ≤ place s.lower
    go true h' = elim (contains_cases (record { lower = lower; upper = infinity; claim = skip }) [] s h') [
      | inl e ↦ omega (arith, ap (λ (x : Stretch). place x.lower) e)
      | inr n ↦ absurd (contains_none s n)
    ]
    go false h' = absurd (contains_none s h')
begins_above lower (r ∷ rs) up s h = elim (contains_cases (record { lower = lower; upper = r.upper; claim = r.claim }) (stretches_from r.upper rs) s h) [
  | inl e ↦ omega (arith, ap (λ (x : Stretch). place x.lower) e)
  | inr rest ↦ omega (arith, up.1, begins_above r.upper rs up.2 s rest)
]

-- stretches that begin where another ends, or above, have no key in common with it
pub none_beyond : (lower : Item) (rs : List Span) (t : Stretch) → Ascends lower rs → place t.upper ≤ place lower → IsSkippedIn (stretches_from lower rs) t → ⊥
none_beyond lower rs t up le h = omega (arith, begins_above lower rs up h.0 h.1, h.3.2.0, h.3.3.1, le)

ends_below : (lower : Item) (rs : List Span) → Ascends lower rs → (s : Stretch) → Contains (closed_from lower rs) s → place s.upper ≤ place (end_of lower rs)
ends_below lower [] up s h = absurd (contains_none s h)
ends_below lower (r ∷ rs) up s h = elim (contains_cases (record { lower = lower; upper = r.upper; claim = r.claim }) (closed_from r.upper rs) s h) [
  | inl e ↦ omega (arith, ap (λ (x : Stretch). place x.upper) e, end_above r.upper rs up.2)
  | inr rest ↦ ends_below r.upper rs up.2 s rest
]

-- stretches that end where another begins, or below, have none either
pub none_before : (lower : Item) (rs : List Span) (t : Stretch) → Ascends lower rs → place (end_of lower rs) ≤ place t.lower → IsSkippedIn (closed_from lower rs) t → ⊥
none_before lower rs t up le h = omega (arith, ends_below lower rs up h.0 h.1, h.3.2.1, h.3.3.0, le)
