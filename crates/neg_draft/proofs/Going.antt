-- Ranges told one after another, each of which goes on from the one before, until the message is cut.
use Rattle.std.proofs.Common.{◌≡◌, ℕ, suc, drop, ◌+◌, ◌<◌, ◌≤◌, ◌⊎◌, inl, inr, List, [], ◌∷◌, ◌++◌, length, get_or, map, take, refl, sym, ap, subst, ◌∙◌, arith}
use Rattle.std.specs.Prelude.{All, Contains}
use Rattle.std.proofs.lemmas.List.Elements.{All-head, All-tail, All-weaker, All-contains, All-contains_itself, Contains-append_left}
use Rattle.item_key.specs.declared.Item.{Item}
use Rattle.item_key.specs.Keys.{place, endless, infinity}
use Rattle.neg_codec.specs.declared.Payload.{Payload}
use Rattle.neg_codec.specs.declared.Payload.TheVariants as payload
use Rattle.neg_codec.specs.Ranges.{Claim, print, Span, Stretch, IsSkip, Ascends, IsEdge, claim_of, edge_of, span_of}
use Rattle.neg_print.specs.Print.{print_of}
use Rattle.item_roll.specs.Parts.{part, ids_of}
use Rattle.neg_codec.proofs.Stretches.{key_below}
use Rattle.item_roll.specs.Truth.{IsTrueOf}
use Rattle.item_roll.specs.Closed.{closed_from}
use Rattle.neg_draft.specs.Coverage.{Written, end_of, told_more, HasKeys, IsDraft, IsPrint, Tells, Whole, Cut}
use Rattle.neg_draft.proofs.Covering.{closed-append, end-append, end_above}
use Rattle.neg_draft.proofs.Walking.{ranges_at, ranges_upto}
use Rattle.neg_codec.specs.declared.Range.{Range}
use Rattle.neg_draft.proofs.Telling.{more-more, whole_cut, cut_higher}

-- ---- ranges one after another

ascends-front : (lower : Item) (xs ys : List Span) → Ascends lower (xs ++ ys) → Ascends lower xs
ascends-front lower [] ys up = tt
ascends-front lower (x ∷ xs) ys up = (up.0, up.1, ascends-front x.upper xs ys up.2)

pub all_front : (P : Stretch → Type 0) (lower : Item) (xs ys : List Span) → All P (closed_from lower (xs ++ ys)) → All P (closed_from lower xs)
all_front P lower xs ys h =
    let h1 = subst (λ (z : List Stretch). All P z) (closed-append lower xs ys) h in
    All-weaker (Contains (closed_from lower xs)) P (λ s m. All-contains P (closed_from lower xs ++ closed_from (end_of lower xs) ys) s h1 (Contains-append_left (closed_from lower xs) (closed_from (end_of lower xs) ys) s m))
    (closed_from lower xs) (All-contains_itself (closed_from lower xs))

tells_front : (lower upper : Item) (xs ys : List Span) → ((xs ≡ []) → ⊥) → Tells lower upper (xs ++ ys) → Tells lower (end_of lower xs) xs
tells_front lower upper xs ys some t = record {
  ascends = ascends-front lower xs ys t.ascends;
  ends = refl;
  some = some;
  none_skipped = all_front (λ s. IsSkip s → ⊥) lower xs ys t.none_skipped;
  none_empty = all_front HasKeys lower xs ys t.none_empty;
}

-- the stretch of a range between others
pub here : (P : Stretch → Type 0) (lower : Item) (front : List Span) (r : Span) (back : List Span) → All P (closed_from lower (front ++ (r ∷ back))) → P (record { lower = end_of lower front; upper = r.upper; claim = r.claim })
here P lower [] r back h = All-head P (record { lower = lower; upper = r.upper; claim = r.claim }) (closed_from r.upper back) h
here P lower (f ∷ front) r back h = here P f.upper front r back (All-tail P (record { lower = lower; upper = f.upper; claim = f.claim }) (closed_from f.upper (front ++ (r ∷ back))) h)

ascends_back : (lower : Item) (front : List Span) (r : Span) (back : List Span) → Ascends lower (front ++ (r ∷ back)) → Ascends r.upper back
ascends_back lower [] r back up = up.2
ascends_back lower (f ∷ front) r back up = ascends_back f.upper front r back up.2

-- the draft once the ranges before a place were told
abbrev pub Onward : Written → List Span → Written → Type 0
Onward old front d = ((front ≡ []) × (d ≡ old)) ⊎ (((front ≡ []) → ⊥) × (d ≡ told_more old (end_of old.end front) front))

pub onward_end : (old : Written) (front : List Span) (d : Written) → Onward old front d → d.end ≡ end_of old.end front
onward_end old front d (inl h) = ap (λ (w : Written). w.end) h.1 ∙ ap (end_of old.end) (sym h.0)
onward_end old front d (inr h) = ap (λ (w : Written). w.end) h.1

push_some : (xs : List Span) (r : Span) → (xs ++ (r ∷ []) ≡ []) → ⊥
push_some [] r e = cc
push_some (x ∷ xs) r e = cc

pub onward_more : (old : Written) (upper : Item) (front : List Span) (r : Span) (back : List Span) (d new : Written) → IsDraft old → Tells old.end upper (front ++ (r ∷ back)) → Onward old front d
    → new ≡ told_more d r.upper (r ∷ []) → Onward old (front ++ (r ∷ [])) new
onward_more old upper front r back d new draft t (inl h) now =
    let e : new ≡ told_more old r.upper (r ∷ []) = now ∙ ap (λ (w : Written). told_more w r.upper (r ∷ [])) h.1 in
    inr (push_some front r, subst (λ (xs : List Span). new ≡ told_more old (end_of old.end (xs ++ (r ∷ []))) (xs ++ (r ∷ []))) (sym h.0) e)
onward_more old upper front r back d new draft t (inr h) now =
    let m = end_of old.end front in
    let e = more-more old (end_of old.end front) r.upper front (r ∷ []) draft (tells_front old.end upper front (r ∷ back) h.0 t) in
    inr (push_some front r, now ∙ ap (λ (w : Written). told_more w r.upper (r ∷ [])) h.1 ∙ e ∙ ap (λ (x : Item). told_more old x (front ++ (r ∷ []))) (sym (end-append old.end front (r ∷ []))))

pub onward_cut : (roll : List Item) (old : Written) (upper : Item) (front : List Span) (r : Span) (back : List Span) (d new : Written) → IsDraft old → place old.end < place infinity → Tells old.end upper (front ++ (r ∷ back))
    → All (IsTrueOf roll) (closed_from old.end (front ++ (r ∷ back))) → Onward old front d → Cut roll d r.upper new → Cut roll old upper new
onward_cut roll old upper front r back d new draft fin t holds (inl h) c = cut_higher roll old new r.upper upper (reach old.end upper front r back t) (subst (λ (w : Written). Cut roll w r.upper new) h.1 c)
  where
    reach : (lower upper : Item) (front : List Span) (r : Span) (back : List Span) → Tells lower upper (front ++ (r ∷ back)) → place r.upper ≤ place upper
    reach lower upper front r back t = omega (arith, end_above r.upper back (ascends_back lower front r back t.ascends), ap place (sym (end-append lower front (r ∷ back)) ∙ t.ends))
onward_cut roll old upper front r back d new draft fin t holds (inr h) c =
    let w : Whole roll old (end_of old.end front) d = record {
      finite = fin;
      spans = front;
      tells = tells_front old.end upper front (r ∷ back) h.0 t;
      holds = all_front (IsTrueOf roll) old.end front (r ∷ back) holds;
      now = h.1;
    } in
    cut_higher roll old new r.upper upper
    (omega (arith, end_above r.upper back (ascends_back old.end front r back t.ascends), ap place (sym (end-append old.end front (r ∷ back)) ∙ t.ends)))
    (whole_cut roll old d new (end_of old.end front) r.upper draft w c)

pub onward_all : (old : Written) (upper : Item) (all : List Span) (d : Written) → Tells old.end upper all → Onward old all d → d ≡ told_more old upper all
onward_all old upper all d t (inl h) = absurd (t.some h.0)
onward_all old upper all d t (inr h) = h.1 ∙ ap (λ (x : Item). told_more old x all) t.ends

-- ---- walking over fingerprints

ascends_at : (lower : Item) (front : List Span) (r : Span) (back : List Span) → Ascends lower (front ++ (r ∷ back)) → ((end_of lower front).time < endless) × (place (end_of lower front) ≤ place r.upper)
ascends_at lower [] r back up = (up.0, up.1)
ascends_at lower (f ∷ front) r back up = ascends_at f.upper front r back up.2

-- either the ranges before a place were told, or the message was cut
abbrev pub Going : List Item → Written → Item → List Span → Written → Type 0
Going roll old upper front d = Onward old front d ⊎ Cut roll old upper d

pub going_on : (roll : List Item) (old : Written) (upper : Item) (front : List Span) (d : Written) → Going roll old upper front d → (place infinity ≤ place d.end → ⊥) → Onward old front d
going_on roll old upper front d (inl h) fin = h
going_on roll old upper front d (inr c) fin = absurd (fin (omega (arith, ap (λ (w : Written). place w.end) c.now)))

-- where keys are left to tell of, a message that has come to infinity was cut
pub going_over : (roll : List Item) (old : Written) (upper : Item) (front : List Span) (r : Span) (back : List Span) (d : Written) → Tells old.end upper (front ++ (r ∷ back)) → Going roll old upper front d → IsEdge d.end
    → place infinity ≤ place d.end → Cut roll old upper d
going_over roll old upper front r back d t (inr c) edge over = c
going_over roll old upper front r back d t (inl h) edge over = absurd (elim edge [
  | inl e ↦ let fin = (ascends_at old.end front r back t.ascends).0 in omega (arith, fin, ap (λ (x : Item). x.time) (sym (onward_end old front d h) ∙ e))
  | inr key ↦ omega (arith, key_below d.end key, over)
])

pub going_ahead : (old : Written) (upper : Item) (front : List Span) (r : Span) (back : List Span) (d : Written) → Tells old.end upper (front ++ (r ∷ back)) → Onward old front d → place d.end < place r.upper
going_ahead old upper front r back d t h = let full : place (end_of old.end front) < place r.upper = here HasKeys old.end front r back t.none_empty in omega (arith, full, ap place (onward_end old front d h))

pub going_own : (roll : List Item) (old : Written) (front : List Span) (r : Span) (back : List Span) (d : Written) (p : List ℕ) → All (IsTrueOf roll) (closed_from old.end (front ++ (r ∷ back))) → Onward old front d → r.claim ≡ print p
    → p ≡ print_of (ids_of (part roll d.end r.upper))
going_own roll old front r back d p holds h e =
    let told : IsTrueOf roll (record { lower = end_of old.end front; upper = r.upper; claim = r.claim }) = here (IsTrueOf roll) old.end front r back holds in
    let same : IsTrueOf roll (record { lower = d.end; upper = r.upper; claim = r.claim }) = subst (λ (x : Item). IsTrueOf roll (record { lower = x; upper = r.upper; claim = r.claim })) (sym (onward_end old front d h)) told in
    subst (λ (c : Claim). IsTrueOf roll (record { lower = d.end; upper = r.upper; claim = c })) e same

pub going_more : (roll : List Item) (old : Written) (upper : Item) (front : List Span) (r : Span) (back : List Span) (d new : Written) → IsDraft old → place old.end < place infinity → Tells old.end upper (front ++ (r ∷ back))
    → All (IsTrueOf roll) (closed_from old.end (front ++ (r ∷ back))) → Onward old front d → (new ≡ told_more d r.upper (r ∷ [])) ⊎ Cut roll d r.upper new → Going roll old upper (front ++ (r ∷ [])) new
going_more roll old upper front r back d new draft fin t holds h (inl now) = inl (onward_more old upper front r back d new draft t h now)
going_more roll old upper front r back d new draft fin t holds h (inr c) = inr (onward_cut roll old upper front r back d new draft fin t holds h c)

pub going_all : (roll : List Item) (old : Written) (upper : Item) (all : List Span) (d : Written) → Tells old.end upper all → Going roll old upper all d → (d ≡ told_more old upper all) ⊎ Cut roll old upper d
going_all roll old upper all d t (inl h) = inl (onward_all old upper all d t h)
going_all roll old upper all d t (inr c) = inr c

-- a range that tells a fingerprint
pub printed_payload : (p : Payload) (b : List ℕ) → claim_of p ≡ print b → p ≡ payload.Print b
printed_payload payload.Skip b e = absurd cc
printed_payload (payload.Print x) b e = cc
printed_payload (payload.Ids x) b e = absurd cc

-- ---- the range at a place of a list

pub over_at : (roll : List Item) (old : Written) (upper : Item) (ranges : List Range) (i : ℕ) (r : Range) (d : Written) → i < length ranges → r ≡ get_or ranges i r → Tells old.end upper (map span_of ranges)
    → Going roll old upper (map span_of (take i ranges)) d → IsEdge d.end → place infinity ≤ place d.end → Cut roll old upper d
over_at roll old upper ranges i r d lt is t h edge over =
    going_over roll old upper (map span_of (take i ranges)) (span_of r) (map span_of (drop (suc i) ranges)) d (subst (λ (x : List Span). Tells old.end upper x) (ranges_at ranges i r lt is) t) h edge over

pub ahead_at : (roll : List Item) (old : Written) (upper : Item) (ranges : List Range) (i : ℕ) (r : Range) (d : Written) → i < length ranges → r ≡ get_or ranges i r → Tells old.end upper (map span_of ranges)
    → Going roll old upper (map span_of (take i ranges)) d → (place infinity ≤ place d.end → ⊥) → place d.end < place (edge_of r.upper)
ahead_at roll old upper ranges i r d lt is t h fin =
    going_ahead old upper (map span_of (take i ranges)) (span_of r) (map span_of (drop (suc i) ranges)) d (subst (λ (x : List Span). Tells old.end upper x) (ranges_at ranges i r lt is) t)
    (going_on roll old upper (map span_of (take i ranges)) d h fin)

pub own_at : (roll : List Item) (old : Written) (upper : Item) (ranges : List Range) (i : ℕ) (r : Range) (d : Written) (p : List ℕ) → i < length ranges → r ≡ get_or ranges i r → All (IsTrueOf roll) (closed_from old.end (map span_of ranges))
    → Going roll old upper (map span_of (take i ranges)) d → (place infinity ≤ place d.end → ⊥) → r.payload ≡ payload.Print p → p ≡ print_of (ids_of (part roll d.end (edge_of r.upper)))
own_at roll old upper ranges i r d p lt is holds h fin e =
    going_own roll old (map span_of (take i ranges)) (span_of r) (map span_of (drop (suc i) ranges)) d p (subst (λ (x : List Span). All (IsTrueOf roll) (closed_from old.end x)) (ranges_at ranges i r lt is) holds)
    (going_on roll old upper (map span_of (take i ranges)) d h fin) (ap claim_of e)

pub more_at : (roll : List Item) (old : Written) (upper : Item) (ranges : List Range) (i : ℕ) (r : Range) (d new : Written) (p : List ℕ) → i < length ranges → r ≡ get_or ranges i r → IsDraft old → place old.end < place infinity
    → Tells old.end upper (map span_of ranges) → All (IsTrueOf roll) (closed_from old.end (map span_of ranges)) → Going roll old upper (map span_of (take i ranges)) d → (place infinity ≤ place d.end → ⊥) → r.payload ≡ payload.Print p
    → (new ≡ told_more d (edge_of r.upper) (record { upper = edge_of r.upper; claim = print p } ∷ [])) ⊎ Cut roll d (edge_of r.upper) new → Going roll old upper (map span_of (take (i + 1) ranges)) new
more_at roll old upper ranges i r d new p lt is draft fin_old t holds h fin e told =
    let all = ranges_at ranges i r lt is in
    let claim : claim_of r.payload ≡ print p = ap claim_of e in
    let told' : (new ≡ told_more d (edge_of r.upper) (span_of r ∷ [])) ⊎ Cut roll d (edge_of r.upper) new =
    subst (λ (c : Claim). (new ≡ told_more d (edge_of r.upper) (record { upper = edge_of r.upper; claim = c } ∷ [])) ⊎ Cut roll d (edge_of r.upper) new) (sym claim) told in
    subst (λ (x : List Span). Going roll old upper x new) (sym (ranges_upto ranges i r lt is))
    (going_more roll old upper (map span_of (take i ranges)) (span_of r) (map span_of (drop (suc i) ranges)) d new draft fin_old (subst (λ (x : List Span). Tells old.end upper x) all t)
    (subst (λ (x : List Span). All (IsTrueOf roll) (closed_from old.end x)) all holds) (going_on roll old upper (map span_of (take i ranges)) d h fin) told')

-- each range tells a fingerprint
pub print_at : (ranges : List Range) (i : ℕ) (r : Range) → i < length ranges → r ≡ get_or ranges i r → All IsPrint (map span_of ranges) → (p : List ℕ) × (r.payload ≡ payload.Print p)
print_at ranges i r lt is all =
    let h = subst (λ (x : List Span). All IsPrint x) (ranges_at ranges i r lt is) all in
    let p = middle (map span_of (take i ranges)) (span_of r) (map span_of (drop (suc i) ranges)) h in
    (p.0, printed_payload r.payload p.0 p.1)
  where
    middle : (front : List Span) (s : Span) (back : List Span) → All IsPrint (front ++ (s ∷ back)) → IsPrint s
    middle [] s back h = All-head IsPrint s back h
    middle (f ∷ front) s back h = middle front s back (All-tail IsPrint f (front ++ (s ∷ back)) h)
