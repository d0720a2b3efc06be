-- How a draft grows, and what the message says that is written of it.
use Rattle.std.proofs.Common.{◌≡◌, ℕ, ◌+◌, ◌<◌, ◌≤◌, ◌⊎◌, length, append_assoc, inl, inr, Bool, true, false, cond, ltb, List, [], ◌∷◌, ◌++◌, refl, sym, ap, subst, ◌∙◌, arith}
use Rattle.std.specs.Prelude.{Contains, All}
use Rattle.std.proofs.lemmas.Bool.{ltb-true, ltb-false, lt-ltb, cases_lt}
use Rattle.std.proofs.lemmas.List.Elements.{All-nil, All-contains, All-head, All-tail, All-weaker, All-contains_itself, Contains-append_left, Contains-append_right, Contains-append_cases}
use Rattle.neg_codec.proofs.Stretches.{contains_head, contains_tail, contains_cases, contains_none, key_below, endless_above, least_below}
use Rattle.item_key.specs.declared.Item.{Item}
use Rattle.item_key.specs.Keys.{place, least, endless, infinity, IsKey}
use Rattle.neg_codec.specs.Ranges.{skip, Span, Stretch, stretches, stretches_from, Lies, IsSkip, Ascends, IsEdge}
use Rattle.neg_codec.specs.Encoding.{text_of}
use Rattle.neg_codec.proofs.Lengths.{text_none}
use Rattle.item_roll.specs.Truth.{IsTrueOf}
use Rattle.item_roll.specs.Closed.{closed_from}
use Rattle.neg_draft.specs.Coverage.{Written, begun_at, end_of, gap, passed, told_more, all_left, HasKeys, BeginsTold, SkipsJoined, IsDraft, IsLeftOut, IsCutAt, Covers, Tells, Whole, Cut}

abbrev due : Item → Span
due upper = record { upper = upper; claim = skip }

-- ---- ranges one after another

pub closed-append : (lower : Item) (xs ys : List Span) → closed_from lower (xs ++ ys) ≡ closed_from lower xs ++ closed_from (end_of lower xs) ys
closed-append lower [] ys = refl
closed-append lower (x ∷ xs) ys = ap (λ (t : List Stretch). begun_at lower x ∷ t) (closed-append x.upper xs ys)

pub end-append : (lower : Item) (xs ys : List Span) → end_of lower (xs ++ ys) ≡ end_of (end_of lower xs) ys
end-append lower [] ys = refl
end-append lower (x ∷ xs) ys = end-append x.upper xs ys

pub ascends-append : (lower : Item) (xs ys : List Span) → Ascends lower xs → Ascends (end_of lower xs) ys → Ascends lower (xs ++ ys)
ascends-append lower [] ys h k = k
ascends-append lower (x ∷ xs) ys h k = (h.0, h.1, ascends-append x.upper xs ys h.2 k)

abbrev pub Meets : Item → Item → Type 0
Meets lower upper = (lower ≡ upper) ⊎ (place lower < place upper)

gap-end : (lower upper : Item) → Meets lower upper → end_of lower (gap lower upper) ≡ upper
gap-end lower upper (inl same) = go (ltb (place lower) (place upper))
  where
    go : (b : Bool) → end_of lower (cond b (due upper ∷ []) []) ≡ upper
    go true = refl
    go false = same
gap-end lower upper (inr lt) = rw (lt-ltb _ _ lt) refl

gap-members : (lower upper : Item) (s : Stretch) → Contains (closed_from lower (gap lower upper)) s → (place lower < place upper) × (begun_at lower (due upper) ≡ s)
gap-members lower upper s h = go (ltb (place lower) (place upper)) refl h
  where
    go : (b : Bool) → ltb (place lower) (place upper) ≡ b → Contains (closed_from lower (cond b (due upper ∷ []) [])) s → (place lower < place upper) × (begun_at lower (due upper) ≡ s)
    go true e h' = elim (contains_cases (begun_at lower (due upper)) [] s h') [
      | inl same ↦ (ltb-true _ _ e, same)
      | inr n ↦ absurd (contains_none s n)
    ]
    go false e h' = absurd (contains_none s h')

gap-covers : (lower upper k : Item) → place lower ≤ place k → place k < place upper → (s : Stretch) × Contains (closed_from lower (gap lower upper)) s × IsSkip s × Lies k s
gap-covers lower upper k le lt = go (ltb (place lower) (place upper)) refl
  where
    go : (b : Bool) → ltb (place lower) (place upper) ≡ b → (s : Stretch) × Contains (closed_from lower (cond b (due upper ∷ []) [])) s × IsSkip s × Lies k s
    go true e = (begun_at lower (due upper), contains_head (begun_at lower (due upper)) [], refl, (le, lt))
    go false e = absurd (omega (arith, ltb-false _ _ e, le, lt))

meets_le : (lower upper : Item) → Meets lower upper → place lower ≤ place upper
meets_le lower upper (inl same) = omega (arith, ap place same)
meets_le lower upper (inr lt) = omega (arith, lt)

pub end_above : (lower : Item) (rs : List Span) → Ascends lower rs → place lower ≤ place (end_of lower rs)
end_above lower [] up = omega arith
end_above lower (r ∷ rs) up = omega (arith, up.1, end_above r.upper rs up.2)

all_from : (H : Stretch → Type 0) (xs : List Stretch) → ((s : Stretch) → Contains xs s → H s) → All H xs
all_from H xs f = All-weaker (Contains xs) H f xs (All-contains_itself xs)

-- ---- a draft that says nothing yet

pub draft_none : (limit : ℕ) → 4096 ≤ limit → IsDraft (record { limit = limit; spans = []; end = least })
draft_none limit enough = record {
  ascends = tt;
  none_empty = All-nil HasKeys;
  skips_joined = tt;
  within = inl refl;
  low = omega (arith, least_below infinity);
  open_unless_blank = inl refl;
  fits = omega (arith, text_none, enough);
  room = λ less. omega (arith, text_none, enough);
}

pub covers_none : (H : Stretch → Type 0) (P Q : Item → Type 0) (limit : ℕ) → Covers H P Q (record { limit = limit; spans = []; end = least })
covers_none H P Q limit = record {
  told = λ k d lt. absurd (omega arith);
  may = λ k key lt out. absurd (omega (arith, least_below k, lt));
  must = λ k key lt q. absurd (omega (arith, least_below k, lt));
}

-- ---- a draft that goes past keys and says nothing of them

pub passed_place : (d : Written) (upper : Item) → place d.end ≤ place upper → place (passed d upper).end ≡ place upper
passed_place d upper le = go (ltb (place d.end) (place upper)) refl
  where
    go : (b : Bool) → ltb (place d.end) (place upper) ≡ b → place (cond b upper d.end) ≡ place upper
    go true e = refl
    go false e = omega (arith, ltb-false _ _ e, le)

pub draft_passes : (d : Written) (upper : Item) → IsDraft d → place upper ≤ place infinity → IsDraft (passed d upper)
draft_passes d upper h low = go (ltb (place d.end) (place upper)) refl
  where
    go : (b : Bool) → ltb (place d.end) (place upper) ≡ b → IsDraft (record { limit = d.limit; spans = d.spans; end = cond b upper d.end })
    go true e = record { ascends = h.ascends; none_empty = h.none_empty; skips_joined = h.skips_joined; within = inr (omega (arith, meets_le _ _ h.within, ltb-true _ _ e)); low = low; open_unless_blank = h.open_unless_blank; fits = h.fits; room = λ less. h.room (omega (arith, ltb-true _ _ e, less)) }
    go false e = record { ascends = h.ascends; none_empty = h.none_empty; skips_joined = h.skips_joined; within = h.within; low = h.low; open_unless_blank = h.open_unless_blank; fits = h.fits; room = h.room }

pub covers_passes : (H : Stretch → Type 0) (P Q : Item → Type 0) (d : Written) (upper : Item) → IsDraft d → place d.end ≤ place upper → Covers H P Q d
    → ((k : Item) → IsKey k → place d.end ≤ place k → place k < place upper → P k) → Covers H P Q (passed d upper)
covers_passes H P Q d upper draft up c new = record {
  told = c.told;
  may = λ k key lt out. elim (cases_lt (place k) (place d.end)) [ inl before ↦ c.may k key before out | inr after ↦ new k key after (omega (arith, lt, passed_place d upper up)) ];
  must = λ k key lt q. elim (cases_lt (place k) (place d.end)) [ inl before ↦ c.must k key before q | inr after ↦ inl (inr (omega (arith, meets_le _ _ draft.within, after))) ];
}

-- ---- a draft that says something of the next keys

-- a stretch of the draft is one of those before, the Skip between, or a new one
pub record OneOf (d : Written) (rs : List Span) (s : Stretch) : Type 0 where
  pub cases : (Contains (closed_from least d.spans) s ⊎ Contains (closed_from (end_of least d.spans) (gap (end_of least d.spans) d.end)) s) ⊎ Contains (closed_from d.end rs) s

all-closed : (d : Written) (rs : List Span) → IsDraft d
    → closed_from least (d.spans ++ (gap (end_of least d.spans) d.end ++ rs)) ≡ closed_from least d.spans ++ (closed_from (end_of least d.spans) (gap (end_of least d.spans) d.end) ++ closed_from d.end rs)
all-closed d rs draft =
    closed-append least d.spans (gap (end_of least d.spans) d.end ++ rs)
    ∙ ap (λ (t : List Stretch). closed_from least d.spans ++ t) (closed-append (end_of least d.spans) (gap (end_of least d.spans) d.end) rs)
    ∙ ap (λ (x : Item). closed_from least d.spans ++ (closed_from (end_of least d.spans) (gap (end_of least d.spans) d.end) ++ closed_from x rs)) (gap-end (end_of least d.spans) d.end draft.within)

one_of : (d : Written) (rs : List Span) (s : Stretch) → IsDraft d → Contains (closed_from least (d.spans ++ (gap (end_of least d.spans) d.end ++ rs))) s → OneOf d rs s
one_of d rs s draft h =
    let from = end_of least d.spans in
    let h1 = subst (λ (t : List Stretch). Contains t s) (all-closed d rs draft) h in
    elim (Contains-append_cases (closed_from least d.spans) (closed_from from (gap from d.end) ++ closed_from d.end rs) s h1) [
      | inl old ↦ record { cases = inl (inl old) }
      | inr rest ↦ elim (Contains-append_cases (closed_from from (gap from d.end)) (closed_from d.end rs) s rest) [
        | inl between ↦ record { cases = inl (inr between) }
        | inr new ↦ record { cases = inr new }
      ]
    ]

pub in_old : (d : Written) (rs : List Span) (s : Stretch) → IsDraft d → Contains (closed_from least d.spans) s → Contains (closed_from least (d.spans ++ (gap (end_of least d.spans) d.end ++ rs))) s
in_old d rs s draft h = subst (λ (t : List Stretch). Contains t s) (sym (all-closed d rs draft)) (Contains-append_left (closed_from least d.spans) (closed_from (end_of least d.spans) (gap (end_of least d.spans) d.end) ++ closed_from d.end rs) s h)

in_gap : (d : Written) (rs : List Span) (s : Stretch) → IsDraft d → Contains (closed_from (end_of least d.spans) (gap (end_of least d.spans) d.end)) s → Contains (closed_from least (d.spans ++ (gap (end_of least d.spans) d.end ++ rs))) s
in_gap d rs s draft h = subst (λ (t : List Stretch). Contains t s) (sym (all-closed d rs draft))
    (Contains-append_right (closed_from least d.spans) (closed_from (end_of least d.spans) (gap (end_of least d.spans) d.end) ++ closed_from d.end rs) s
    (Contains-append_left (closed_from (end_of least d.spans) (gap (end_of least d.spans) d.end)) (closed_from d.end rs) s h))

pub in_new : (d : Written) (rs : List Span) (s : Stretch) → IsDraft d → Contains (closed_from d.end rs) s → Contains (closed_from least (d.spans ++ (gap (end_of least d.spans) d.end ++ rs))) s
in_new d rs s draft h = subst (λ (t : List Stretch). Contains t s) (sym (all-closed d rs draft))
    (Contains-append_right (closed_from least d.spans) (closed_from (end_of least d.spans) (gap (end_of least d.spans) d.end) ++ closed_from d.end rs) s
    (Contains-append_right (closed_from (end_of least d.spans) (gap (end_of least d.spans) d.end)) (closed_from d.end rs) s h))

pub more-ends : (d : Written) (upper : Item) (rs : List Span) → IsDraft d → Tells d.end upper rs → end_of least (d.spans ++ (gap (end_of least d.spans) d.end ++ rs)) ≡ upper
more-ends d upper rs draft t =
    end-append least d.spans (gap (end_of least d.spans) d.end ++ rs) ∙ end-append (end_of least d.spans) (gap (end_of least d.spans) d.end) rs
    ∙ ap (λ (x : Item). end_of x rs) (gap-end (end_of least d.spans) d.end draft.within) ∙ t.ends

-- where the ranges end once the Skip that is due stands behind them
pub filled_end : (d : Written) → IsDraft d → end_of least (d.spans ++ gap (end_of least d.spans) d.end) ≡ d.end
filled_end d draft = end-append least d.spans (gap (end_of least d.spans) d.end) ∙ gap-end (end_of least d.spans) d.end draft.within

finite_below : (a b : Item) → place a < place b → place b ≤ place infinity → a.time < endless
finite_below a b lt le = elim (cases_lt a.time endless) [
  | inl fin ↦ fin
  | inr inf ↦ absurd (omega (arith, endless_above a inf, lt, le))
]

gap-ascends : (lower upper : Item) → Meets lower upper → place upper ≤ place infinity → Ascends lower (gap lower upper)
gap-ascends lower upper m fin = go (ltb (place lower) (place upper)) refl
  where
    go : (b : Bool) → ltb (place lower) (place upper) ≡ b → Ascends lower (cond b (due upper ∷ []) [])
    go true e = (finite_below lower upper (ltb-true _ _ e) fin, omega (arith, ltb-true _ _ e), tt)
    go false e = tt

all_append : (H : Stretch → Type 0) (xs ys : List Stretch) → All H xs → All H ys → All H (xs ++ ys)
all_append H xs ys hx hy = all_from H (xs ++ ys) (λ s h. elim (Contains-append_cases xs ys s h) [ inl l ↦ All-contains H xs s hx l | inr r ↦ All-contains H ys s hy r ])

first_open : (lower : Item) (rs : List Span) → ((rs ≡ []) → ⊥) → All (λ s. IsSkip s → ⊥) (closed_from lower rs) → (s : Stretch) × Contains (closed_from lower rs) s × (IsSkip s → ⊥)
first_open lower [] some none = absurd (some refl)
first_open lower (r ∷ rs) some none = (begun_at lower r, contains_head (begun_at lower r) (closed_from r.upper rs), All-head (λ s. IsSkip s → ⊥) (begun_at lower r) (closed_from r.upper rs) none)

-- Skips stay joined where ranges follow that begin with one that tells something, or with one Skip before such ranges
joined-append : (xs ys : List Span) → SkipsJoined xs → SkipsJoined ys → SkipsJoined (xs ++ ys)
joined-append [] ys h k = k
joined-append (x ∷ []) ys h k = ((λ e. absurd (h.0 e)), k)
joined-append (x ∷ y ∷ xs) ys h k = (h.0, joined-append (y ∷ xs) ys h.1 k)

joined-told : (lower : Item) (rs : List Span) → All (λ s. IsSkip s → ⊥) (closed_from lower rs) → SkipsJoined rs
joined-told lower [] none = tt
joined-told lower (r ∷ rs) none = (
  (λ e. absurd (All-head (λ s. IsSkip s → ⊥) (begun_at lower r) (closed_from r.upper rs) none e)),
  joined-told r.upper rs (All-tail (λ s. IsSkip s → ⊥) (begun_at lower r) (closed_from r.upper rs) none),
)

begins_told : (lower : Item) (rs : List Span) → ((rs ≡ []) → ⊥) → All (λ s. IsSkip s → ⊥) (closed_from lower rs) → BeginsTold rs
begins_told lower [] some none = absurd (some refl)
begins_told lower (r ∷ rs) some none = All-head (λ s. IsSkip s → ⊥) (begun_at lower r) (closed_from r.upper rs) none

joined-gap : (lower upper : Item) (rs : List Span) → BeginsTold rs → SkipsJoined rs → SkipsJoined (gap lower upper ++ rs)
joined-gap lower upper rs told h = go (ltb (place lower) (place upper))
  where
    go : (b : Bool) → SkipsJoined (cond b (due upper ∷ []) [] ++ rs)
    go true = ((λ e. told), h)
    go false = h

pub draft_tells : (d : Written) (upper : Item) (rs : List Span) → IsDraft d → place upper ≤ place infinity → Tells d.end upper rs → length (text_of (told_more d upper rs).spans) ≤ d.limit
    → (place upper < place infinity → length (text_of (told_more d upper rs).spans) + 64 ≤ d.limit) → IsDraft (told_more d upper rs)
draft_tells d upper rs draft low t fits room = record {
  fits = fits;
  room = room;
  ascends = ascends-append least d.spans (gap (end_of least d.spans) d.end ++ rs) draft.ascends
      (ascends-append (end_of least d.spans) (gap (end_of least d.spans) d.end) rs (gap-ascends (end_of least d.spans) d.end draft.within draft.low)
      (subst (λ (x : Item). Ascends x rs) (sym (gap-end (end_of least d.spans) d.end draft.within)) t.ascends));
  none_empty = subst (λ (z : List Stretch). All HasKeys z) (sym (all-closed d rs draft))
      (all_append HasKeys (closed_from least d.spans) (closed_from (end_of least d.spans) (gap (end_of least d.spans) d.end) ++ closed_from d.end rs) draft.none_empty
      (all_append HasKeys (closed_from (end_of least d.spans) (gap (end_of least d.spans) d.end)) (closed_from d.end rs)
      (all_from HasKeys (closed_from (end_of least d.spans) (gap (end_of least d.spans) d.end))
      (λ s h. let g = gap-members (end_of least d.spans) d.end s h in omega (arith, g.0, ap (λ (x : Stretch). place x.lower) g.1, ap (λ (x : Stretch). place x.upper) g.1)))
      t.none_empty));
  skips_joined = joined-append d.spans (gap (end_of least d.spans) d.end ++ rs) draft.skips_joined
      (joined-gap (end_of least d.spans) d.end rs (begins_told d.end rs t.some t.none_skipped) (joined-told d.end rs t.none_skipped));
  within = inl (more-ends d upper rs draft t);
  low = low;
  open_unless_blank = let o = first_open d.end rs t.some t.none_skipped in inr (o.0, in_new d rs o.0 draft o.1, o.2);
}

upto_end : (lower : Item) (rs : List Span) → Ascends lower rs → (s : Stretch) → Contains (closed_from lower rs) s → place s.upper ≤ place (end_of lower rs)
upto_end lower [] up s h = absurd (contains_none s h)
upto_end lower (r ∷ rs) up s h = elim (contains_cases (begun_at lower r) (closed_from r.upper rs) s h) [
  | inl e ↦ omega (arith, ap (λ (x : Stretch). place x.upper) e, end_above r.upper rs up.2)
  | inr rest ↦ upto_end r.upper rs up.2 s rest
]

-- which of the keys so far a draft leaves out, once it has told more
out_before : (d : Written) (upper : Item) (rs : List Span) (k : Item) → IsDraft d → place d.end ≤ place upper → Tells d.end upper rs → place k < place upper
    → IsLeftOut (d.spans ++ (gap (end_of least d.spans) d.end ++ rs)) k → (place k < place d.end) × IsLeftOut d.spans k
out_before d upper rs k draft up t lt (inr above) = absurd (omega (arith, above, lt, ap place (more-ends d upper rs draft t)))
out_before d upper rs k draft up t lt (inl s) =
    elim (one_of d rs s.0 draft s.1).cases [
      | inl first ↦ elim first [
        | inl old ↦ (omega (arith, s.3.1, upto_end least d.spans draft.ascends s.0 old, meets_le _ _ draft.within), inl (s.0, old, s.2, s.3))
        | inr between ↦
            let g = gap-members (end_of least d.spans) d.end s.0 between in
            let lo = ap (λ (x : Stretch). place x.lower) g.1 in
            let hi = ap (λ (x : Stretch). place x.upper) g.1 in
            (omega (arith, s.3.1, hi), inr (omega (arith, s.3.0, lo)))
      ]
      | inr new ↦ absurd (All-contains (λ x. IsSkip x → ⊥) (closed_from d.end rs) s.0 t.none_skipped new s.2)
    ]

-- a message that was cut has no key left
cut_ends : (limit size : ℕ) (spans : List Span) (k : Item) → IsCutAt limit size spans k → end_of least spans ≡ infinity
cut_ends limit size spans k c = ap (end_of least) c.ends ∙ end-append least c.front (all_left c.left)

pub covers_tells : (H : Stretch → Type 0) (P Q : Item → Type 0) (d : Written) (upper : Item) (rs : List Span) → IsDraft d → place d.end < place infinity → place d.end ≤ place upper → Tells d.end upper rs → Covers H P Q d
    → ((s : Stretch) → IsSkip s → H s) → All H (closed_from d.end rs)
    → ((k : Item) → IsKey k → place d.end ≤ place k → place k < place upper → Q k → IsCutAt d.limit (length (text_of (told_more d upper rs).spans)) (told_more d upper rs).spans k) → Covers H P Q (told_more d upper rs)
covers_tells H P Q d upper rs draft fin up t c skips now new = record {
  told = subst (λ (z : List Stretch). All H z) (sym (all-closed d rs draft))
      (all_append H (closed_from least d.spans) (closed_from (end_of least d.spans) (gap (end_of least d.spans) d.end) ++ closed_from d.end rs) c.told
      (all_append H (closed_from (end_of least d.spans) (gap (end_of least d.spans) d.end)) (closed_from d.end rs)
      (all_from H (closed_from (end_of least d.spans) (gap (end_of least d.spans) d.end))
      (λ s h. skips s (ap (λ (x : Stretch). x.claim) (sym (gap-members (end_of least d.spans) d.end s h).1))))
      now));
  may = λ k key lt out. let o = out_before d upper rs k draft up t lt out in c.may k key o.0 o.1;
  must = λ k key lt q. elim (cases_lt (place k) (place d.end)) [
    | inl before ↦ elim (c.must k key before q) [
      | inl out ↦ inl (elim out [
        | inl s ↦ inl (s.0, in_old d rs s.0 draft s.1, s.2, s.3)
        | inr above ↦ let s = gap-covers (end_of least d.spans) d.end k above before in inl (s.0, in_gap d rs s.0 draft s.1, s.2, s.3)
      ])
      | inr cut ↦ absurd (omega (arith, ap place (cut_ends d.limit (length (text_of d.spans)) d.spans k cut), meets_le _ _ draft.within, fin))
    ]
    | inr after ↦ inr (new k key after lt q)
  ];
}

-- what a draft says that told all of a stretch
pub covers_whole : (P Q : Item → Type 0) (roll : List Item) (d new : Written) (upper : Item) → IsDraft d → place d.end ≤ place upper → Whole roll d upper new → Covers (IsTrueOf roll) P Q d
    → ((s : Stretch) → IsSkip s → IsTrueOf roll s) → ((k : Item) → IsKey k → place d.end ≤ place k → place k < place upper → Q k → ⊥) → Covers (IsTrueOf roll) P Q new
covers_whole P Q roll d new upper draft up w c skips none =
    subst (Covers (IsTrueOf roll) P Q) (sym w.now)
    (covers_tells (IsTrueOf roll) P Q d upper w.spans draft w.finite up w.tells c skips w.holds (λ k key ge lt q. absurd (none k key ge lt q)))

-- and one that was cut
pub covers_cut : (P Q : Item → Type 0) (roll : List Item) (d new : Written) (upper : Item) → IsDraft d → Cut roll d upper new → Covers (IsTrueOf roll) P Q d
    → ((s : Stretch) → IsSkip s → IsTrueOf roll s) → ((k : Item) → IsKey k → place d.end ≤ place k → place k < place upper → Q k → ⊥) → Covers (IsTrueOf roll) P Q new
covers_cut P Q roll d new upper draft c was skips none =
    let joined : d.spans ++ (gap (end_of least d.spans) d.end ++ (c.front ++ all_left c.left)) ≡ (d.spans ++ (gap (end_of least d.spans) d.end ++ c.front)) ++ all_left c.left =
    ap (λ (z : List Span). d.spans ++ z) (sym (append_assoc (gap (end_of least d.spans) d.end) c.front (all_left c.left)))
    ∙ sym (append_assoc d.spans (gap (end_of least d.spans) d.end ++ c.front) (all_left c.left)) in
    let ends : end_of least (d.spans ++ (gap (end_of least d.spans) d.end ++ c.front)) ≡ end_of d.end c.front =
    end-append least d.spans (gap (end_of least d.spans) d.end ++ c.front) ∙ end-append (end_of least d.spans) (gap (end_of least d.spans) d.end) c.front
    ∙ ap (λ (x : Item). end_of x c.front) (gap-end (end_of least d.spans) d.end draft.within) in
    let full : d.limit ≤ length (text_of (told_more d infinity (c.front ++ all_left c.left)).spans) + 256 = subst (λ (w : Written). d.limit ≤ length (text_of w.spans) + 256) c.now c.full in
    subst (Covers (IsTrueOf roll) P Q) (sym c.now)
    (covers_tells (IsTrueOf roll) P Q d infinity (c.front ++ all_left c.left) draft c.finite (omega (arith, c.finite)) c.tells was skips c.holds
    (λ k key ge lt q. elim (cases_lt (place k) (place upper)) [
      | inl before ↦ absurd (none k key ge before q)
      | inr after ↦ record {
        front = d.spans ++ (gap (end_of least d.spans) d.end ++ c.front);
        left = c.left;
        ends = joined;
        has = omega (arith, ap place ends, c.less, after);
        full = full;
      }
    ]))

-- ---- the message that is written of a draft that has come to infinity

-- the stretches of a message are those of its ranges, and a Skip up to infinity where they end before
ending_is : (lower : Item) (rs : List Span) → stretches_from lower rs ≡ closed_from lower rs ++ cond (ltb (end_of lower rs).time endless) (record { lower = end_of lower rs; upper = infinity; claim = skip } ∷ []) []
ending_is lower [] = refl
ending_is lower (r ∷ rs) = ap (λ (t : List Stretch). begun_at lower r ∷ t) (ending_is r.upper rs)

abbrev last_skip : Item → Stretch
last_skip lower = record { lower = lower; upper = infinity; claim = skip }

in_ending : (lower : Item) (b : Bool) (s : Stretch) → Contains (cond b (last_skip lower ∷ []) []) s → last_skip lower ≡ s
in_ending lower true s h = elim (contains_cases (last_skip lower) [] s h) [ inl e ↦ e | inr n ↦ absurd (contains_none s n) ]
in_ending lower false s h = absurd (contains_none s h)

pub skipped_left_out : (spans : List Span) (k : Item) (s : Stretch) → Contains (stretches spans) s → IsSkip s → Lies k s → IsLeftOut spans k
skipped_left_out spans k s h is_skip lies =
    elim (Contains-append_cases (closed_from least spans) (cond (ltb (end_of least spans).time endless) (last_skip (end_of least spans) ∷ []) []) s (subst (λ (t : List Stretch). Contains t s) (ending_is least spans) h)) [
      | inl old ↦ inl (s, old, is_skip, lies)
      | inr end ↦ let e = in_ending (end_of least spans) (ltb (end_of least spans).time endless) s end in
          inr (omega (arith, lies.0, ap (λ (x : Stretch). place x.lower) e))
    ]

pub left_out_skipped : (spans : List Span) (k : Item) → IsKey k → IsLeftOut spans k → (s : Stretch) × Contains (stretches spans) s × IsSkip s × Lies k s
left_out_skipped spans k key (inl s) = (s.0, subst (λ (t : List Stretch). Contains t s.0) (sym (ending_is least spans)) (Contains-append_left (closed_from least spans) (cond (ltb (end_of least spans).time endless) (last_skip (end_of least spans) ∷ []) []) s.0 s.1), s.2, s.3)
left_out_skipped spans k key (inr above) =
    let fin : (end_of least spans).time < endless = elim (cases_lt (end_of least spans).time endless) [ inl f ↦ f | inr inf ↦ absurd (omega (arith, endless_above (end_of least spans) inf, key_below k key, above)) ] in
    let here : Contains (cond (ltb (end_of least spans).time endless) (last_skip (end_of least spans) ∷ []) []) (last_skip (end_of least spans)) =
    subst (λ (b : Bool). Contains (cond b (last_skip (end_of least spans) ∷ []) []) (last_skip (end_of least spans))) (sym (lt-ltb _ _ fin)) (contains_head (last_skip (end_of least spans)) []) in (
      last_skip (end_of least spans),
      subst (λ (t : List Stretch). Contains t (last_skip (end_of least spans))) (sym (ending_is least spans)) (Contains-append_right (closed_from least spans) (cond (ltb (end_of least spans).time endless) (last_skip (end_of least spans) ∷ []) []) (last_skip (end_of least spans)) here),
      refl,
      (above, key_below k key),
    )

pub told_whole : (H : Stretch → Type 0) (spans : List Span) → ((s : Stretch) → IsSkip s → H s) → All H (closed_from least spans) → All H (stretches spans)
told_whole H spans skips told = subst (λ (t : List Stretch). All H t) (sym (ending_is least spans))
    (all_append H (closed_from least spans) (cond (ltb (end_of least spans).time endless) (last_skip (end_of least spans) ∷ []) []) told
    (all_from H (cond (ltb (end_of least spans).time endless) (last_skip (end_of least spans) ∷ []) [])
    (λ s h. skips s (ap (λ (x : Stretch). x.claim) (sym (in_ending (end_of least spans) (ltb (end_of least spans).time endless) s h))))))

-- ---- walking the ranges of a message

-- the stretch of a range, begun where those before it end
pub stretch_of : (lower : Item) (front : List Span) (r : Span) (back : List Span) → Contains (stretches_from lower (front ++ (r ∷ back))) (begun_at (end_of lower front) r)
stretch_of lower [] r back = contains_head (begun_at lower r) (stretches_from r.upper back)
stretch_of lower (f ∷ front) r back = contains_tail (begun_at lower f) (stretches_from f.upper (front ++ (r ∷ back))) (begun_at (end_of f.upper front) r) (stretch_of f.upper front r back)

-- beyond its ranges a message skips
pub beyond : (lower : Item) (rs : List Span) (k : Item) → IsKey k → place (end_of lower rs) ≤ place k → (s : Stretch) × Contains (stretches_from lower rs) s × IsSkip s × Lies k s
beyond lower [] k key le =
    let fin : lower.time < endless = elim (cases_lt lower.time endless) [ inl f ↦ f | inr inf ↦ absurd (omega (arith, endless_above lower inf, key_below k key, le)) ] in
    (last_skip lower, subst (λ (b : Bool). Contains (cond b (last_skip lower ∷ []) []) (last_skip lower)) (sym (lt-ltb _ _ fin)) (contains_head (last_skip lower) []), refl, (le, key_below k key))
beyond lower (r ∷ rs) k key le = let s = beyond r.upper rs k key le in (s.0, contains_tail (begun_at lower r) (stretches_from r.upper rs) s.0 s.1, s.2, s.3)

-- ---- bounds

-- no bound stands above infinity
pub edge_low : (u : Item) → IsEdge u → place u ≤ place infinity
edge_low u (inl same) = omega (arith, ap place same)
edge_low u (inr key) = omega (arith, key_below u key)
