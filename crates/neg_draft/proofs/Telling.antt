-- How long a message becomes, and how tellings follow one another.
use Rattle.std.proofs.Common.{◌≡◌, ℕ, ◌+◌, ◌<◌, ◌≤◌, inl, inr, Bool, true, false, cond, ltb, List, [], ◌∷◌, ◌++◌, length, refl, sym, ap, subst, ◌∙◌, append_assoc, arith}
use Rattle.std.specs.Prelude.{All, IfOk, Result}
use Rattle.std.proofs.lemmas.Result.{IfOk-weaker}
use Rattle.std.specs.declared.alloc.AllocError.{AllocError}
use Rattle.std.proofs.lemmas.Bool.{ltb-false, le-ltb}
use Rattle.std.proofs.lemmas.List.{length-append}
use Rattle.std.proofs.lemmas.List.Elements.{All-cons, All-nil, All-append}
use Rattle.item_key.specs.declared.Item.{Item}
use Rattle.item_key.specs.Keys.{place, least, infinity, IsKey}
use Rattle.neg_codec.specs.Ranges.{skip, print, Span, Stretch, IsSkip, Ascends, IsEdge}
use Rattle.neg_codec.specs.Encoding.{bound_text, claim_text, range_text, ranges_text, text_of}
use Rattle.neg_codec.proofs.Lengths.{bound_most, bound_infinite, skip_len, print_len, range_len}
use Rattle.neg_print.specs.Print.{print_of}
use Rattle.item_roll.specs.Parts.{part, ids_of}
use Rattle.item_roll.specs.Truth.{IsTrueOf}
use Rattle.item_roll.specs.Closed.{closed_from}
use Rattle.neg_draft.specs.Coverage.{Written, end_of, gap, told_more, all_left, before_payload, HasKeys, IsDraft, Tells, Whole, Cut}
use Rattle.neg_draft.proofs.Covering.{closed-append, end-append, ascends-append, more-ends}
use Rattle.neg_draft.proofs.Owning.{edge_key}

abbrev due : Item → Span
due upper = record { upper = upper; claim = skip }

-- ---- how long a message becomes

text-append : (lower : Item) (xs ys : List Span) → ranges_text lower.time (xs ++ ys) ≡ ranges_text lower.time xs ++ ranges_text (end_of lower xs).time ys
unfolding ranges_text
text-append lower [] ys = refl
text-append lower (x ∷ xs) ys =
    ap (λ (t : List ℕ). range_text lower.time x ++ t) (text-append x.upper xs ys) ∙ sym (append_assoc (range_text lower.time x) (ranges_text x.upper.time xs) (ranges_text (end_of x.upper xs).time ys))

pub text-more : (xs ys : List Span) → length (text_of (xs ++ ys)) ≡ length (text_of xs) + length (ranges_text (end_of least xs).time ys)
unfolding text_of
text-more xs ys =
    omega (arith, ap length (text-append least xs ys), length-append (ranges_text 0 xs) (ranges_text (end_of least xs).time ys))

one_more : (before : ℕ) (r : Span) (rs : List Span) → length (ranges_text before (r ∷ rs)) ≡ length (bound_text before r.upper) + length (claim_text r.claim) + length (ranges_text r.upper.time rs)
unfolding ranges_text
one_more before r rs = omega (arith, length-append (range_text before r) (ranges_text r.upper.time rs), range_len before r)

no_more : (before : ℕ) → length (ranges_text before []) ≡ 0
unfolding ranges_text
no_more before = refl

pub text-push : (xs : List Span) (r : Span) → length (text_of (xs ++ r ∷ [])) ≡ length (text_of xs) + length (range_text (end_of least xs).time r)
text-push xs r = omega (arith, text-more xs (r ∷ []), one_more (end_of least xs).time r [], no_more r.upper.time, range_len (end_of least xs).time r)

-- what a Skip that waits counts for
abbrev pub waiting : Written → ℕ → ℕ
waiting d n = cond (ltb (place (end_of least d.spans)) (place d.end)) n 0

pub told_len : (d : Written) (upper : Item) (r : Span) → IsDraft d → IsEdge d.end
    → length (text_of (told_more d upper (r ∷ [])).spans) ≤ length (text_of d.spans) + waiting d 44 + (length (bound_text d.end.time r.upper) + length (claim_text r.claim))
told_len d upper r draft edge = go (ltb (place (end_of least d.spans)) (place d.end)) refl
  where
    go : (b : Bool) → ltb (place (end_of least d.spans)) (place d.end) ≡ b
        → length (text_of (d.spans ++ (cond b (due d.end ∷ []) [] ++ r ∷ []))) ≤ length (text_of d.spans) + cond b 44 0 + (length (bound_text d.end.time r.upper) + length (claim_text r.claim))
    go true e =
        omega (
          arith,
          text-more d.spans (due d.end ∷ r ∷ []),
          one_more (end_of least d.spans).time (due d.end) (r ∷ []),
          one_more d.end.time r [],
          no_more r.upper.time,
          bound_most (end_of least d.spans).time d.end edge,
          skip_len,
        )
    go false e = elim draft.within [
      | inl same ↦
          omega (arith, text-more d.spans (r ∷ []), one_more (end_of least d.spans).time r [], no_more r.upper.time, ap (λ (x : Item). length (bound_text x.time r.upper)) same)
      | inr lt ↦ absurd (omega (arith, ltb-false _ _ e, lt))
    ]

pub told_grows : (d : Written) (upper : Item) (r : Span) → length (text_of d.spans) + length (claim_text r.claim) ≤ length (text_of (told_more d upper (r ∷ [])).spans)
told_grows d upper r = go (ltb (place (end_of least d.spans)) (place d.end))
  where
    go : (b : Bool) → length (text_of d.spans) + length (claim_text r.claim) ≤ length (text_of (d.spans ++ (cond b (due d.end ∷ []) [] ++ r ∷ [])))
    go true = omega (arith, text-more d.spans (due d.end ∷ r ∷ []), one_more (end_of least d.spans).time (due d.end) (r ∷ []), one_more d.end.time r [])
    go false = omega (arith, text-more d.spans (r ∷ []), one_more (end_of least d.spans).time r [])

-- the Skip that is due is no longer than with the range behind it
pub fill_fits : (d e : Written) (upper : Item) (r : Span) (limit : ℕ) → d ≡ e → length (text_of (told_more e upper (r ∷ [])).spans) ≤ limit → length (text_of (d.spans ++ gap (end_of least d.spans) d.end)) ≤ limit
fill_fits d e upper r limit same le =
    let le' : length (text_of (d.spans ++ (gap (end_of least d.spans) d.end ++ r ∷ []))) ≤ limit = subst (λ (w : Written). length (text_of (told_more w upper (r ∷ [])).spans) ≤ limit) (sym same) le in
    let joined : (d.spans ++ gap (end_of least d.spans) d.end) ++ r ∷ [] ≡ d.spans ++ (gap (end_of least d.spans) d.end ++ r ∷ []) = append_assoc d.spans (gap (end_of least d.spans) d.end) (r ∷ []) in
    omega (arith, le', ap (λ (x : List Span). length (text_of x)) joined, text-push (d.spans ++ gap (end_of least d.spans) d.end) r)

before_is : (d : Written) → before_payload d ≡ length (text_of d.spans) + 48 + waiting d 48
before_is d = refl

waits : (d : Written) → (waiting d 44 ≤ waiting d 48) × (waiting d 48 ≤ 48)
waits d = go (ltb (place (end_of least d.spans)) (place d.end))
  where
    go : (b : Bool) → (cond b 44 0 ≤ cond b 48 0) × (cond b 48 0 ≤ 48)
    go true = (omega arith, omega arith)
    go false = (omega arith, omega arith)

-- a range whose payload fits
pub whole_fits : (d : Written) (upper : Item) (r : Span) (payload : ℕ) → IsDraft d → IsEdge d.end → IsEdge r.upper → length (claim_text r.claim) ≤ payload + 4 → before_payload d + payload + 64 ≤ d.limit
    → length (text_of (told_more d upper (r ∷ [])).spans) + 64 ≤ d.limit
whole_fits d upper r payload draft edge edge_r claim room =
    omega (arith, told_len d upper r draft edge, bound_most d.end.time r.upper edge_r, (waits d).0, before_is d)

-- one fingerprint up to infinity always fits
pub last_fits : (d : Written) (p : List ℕ) → IsDraft d → IsEdge d.end → place d.end < place infinity → length p ≡ 16 → length (text_of (told_more d infinity (all_left p)).spans) ≤ d.limit
last_fits d p draft edge less len =
    omega (arith, told_len d infinity (record { upper = infinity; claim = print p }) draft edge, bound_infinite d.end.time, print_len p, draft.room less, last d)
  where
    last : (d : Written) → waiting d 44 ≤ 44
    last d = go (ltb (place (end_of least d.spans)) (place d.end))
      where
        go : (b : Bool) → cond b 44 0 ≤ 44
        go true = omega arith
        go false = omega arith

-- ---- tellings that follow one another

gap_same : (x : Item) → gap x x ≡ []
gap_same x = rw (le-ltb (place x) (place x) (omega arith)) refl

pub more-more : (d : Written) (m u : Item) (xs ys : List Span) → IsDraft d → Tells d.end m xs → told_more (told_more d m xs) u ys ≡ told_more d u (xs ++ ys)
more-more d m u xs ys draft t =
    let e = more-ends d m xs draft t in
    let g = gap (end_of least d.spans) d.end in
    let joined : (d.spans ++ (gap (end_of least d.spans) d.end ++ xs)) ++ (gap (end_of least (d.spans ++ (gap (end_of least d.spans) d.end ++ xs))) m ++ ys) ≡ d.spans ++ (gap (end_of least d.spans) d.end ++ (xs ++ ys)) =
    ap (λ (x : Item). (d.spans ++ (gap (end_of least d.spans) d.end ++ xs)) ++ (gap x m ++ ys)) e
    ∙ ap (λ (z : List Span). (d.spans ++ (gap (end_of least d.spans) d.end ++ xs)) ++ (z ++ ys)) (gap_same m)
    ∙ append_assoc d.spans (gap (end_of least d.spans) d.end ++ xs) ys ∙ ap (λ (z : List Span). d.spans ++ z) (append_assoc (gap (end_of least d.spans) d.end) xs ys) in
    ap (λ (z : List Span). record { limit = d.limit; spans = z; end = u }) joined

none_left : (xs ys : List Span) → ((ys ≡ []) → ⊥) → (xs ++ ys ≡ []) → ⊥
none_left [] ys some e = some e
none_left (x ∷ xs) ys some e = cc

pub tells-append : (lower m u : Item) (xs ys : List Span) → Tells lower m xs → Tells m u ys → Tells lower u (xs ++ ys)
tells-append lower m u xs ys t s = record {
  ascends = ascends-append lower xs ys t.ascends (subst (λ (x : Item). Ascends x ys) (sym t.ends) s.ascends);
  ends = end-append lower xs ys ∙ ap (λ (x : Item). end_of x ys) t.ends ∙ s.ends;
  some = none_left xs ys s.some;
  none_skipped = subst (λ (z : List Stretch). All (λ x. IsSkip x → ⊥) z) (sym (closed-append lower xs ys))
      (All-append (λ x. IsSkip x → ⊥) (closed_from lower xs) (closed_from (end_of lower xs) ys) t.none_skipped
      (subst (λ (x : Item). All (λ s. IsSkip s → ⊥) (closed_from x ys)) (sym t.ends) s.none_skipped));
  none_empty = subst (λ (z : List Stretch). All HasKeys z) (sym (closed-append lower xs ys))
      (All-append HasKeys (closed_from lower xs) (closed_from (end_of lower xs) ys) t.none_empty
      (subst (λ (x : Item). All HasKeys (closed_from x ys)) (sym t.ends) s.none_empty));
}

pub holds-append : (roll : List Item) (lower m : Item) (xs ys : List Span) → end_of lower xs ≡ m → All (IsTrueOf roll) (closed_from lower xs) → All (IsTrueOf roll) (closed_from m ys) → All (IsTrueOf roll) (closed_from lower (xs ++ ys))
holds-append roll lower m xs ys e h k =
    subst (λ (z : List Stretch). All (IsTrueOf roll) z) (sym (closed-append lower xs ys))
    (All-append (IsTrueOf roll) (closed_from lower xs) (closed_from (end_of lower xs) ys) h (subst (λ (x : Item). All (IsTrueOf roll) (closed_from x ys)) (sym e) k))

-- all up to a bound, and then the rest, where less of it is told
pub whole_cut : (roll : List Item) (d e f : Written) (m u : Item) → IsDraft d → Whole roll d m e → Cut roll e u f → Cut roll d u f
whole_cut roll d e f m u draft w c =
    let c' = subst (λ (x : Written). Cut roll x u f) w.now c in
    record {
      finite = w.finite;
      front = w.spans ++ c'.front;
      left = c'.left;
      tells = subst (λ (z : List Span). Tells d.end infinity z) (sym (append_assoc w.spans c'.front (all_left c'.left))) (tells-append d.end m infinity w.spans (c'.front ++ all_left c'.left) w.tells c'.tells);
      holds = subst (λ (z : List Span). All (IsTrueOf roll) (closed_from d.end z)) (sym (append_assoc w.spans c'.front (all_left c'.left)))
          (holds-append roll d.end m w.spans (c'.front ++ all_left c'.left) w.tells.ends w.holds c'.holds);
      less = omega (arith, c'.less, ap place (end-append d.end w.spans c'.front), ap (λ (x : Item). place (end_of x c'.front)) w.tells.ends);
      now = c'.now ∙ more-more d m infinity w.spans (c'.front ++ all_left c'.left) draft w.tells ∙ ap (told_more d infinity) (sym (append_assoc w.spans c'.front (all_left c'.left)));
      full = c'.full;
    }

-- less than a bound is less than a higher one
pub cut_higher : (roll : List Item) (d e : Written) (m u : Item) → place m ≤ place u → Cut roll d m e → Cut roll d u e
cut_higher roll d e m u le c = record { finite = c.finite; front = c.front; left = c.left; tells = c.tells; holds = c.holds; less = omega (arith, c.less, le); now = c.now; full = c.full }

-- ---- one range

pub tells_one : (lower : Item) (r : Span) → IsKey lower → place lower < place r.upper → ((r.claim ≡ skip) → ⊥) → Tells lower r.upper (r ∷ [])
tells_one lower r key lt some = record {
  ascends = (key.time, omega (arith, lt), tt);
  ends = refl;
  some = λ e. cc;
  none_skipped = All-cons (λ s. IsSkip s → ⊥) (record { lower = lower; upper = r.upper; claim = r.claim }) [] some (All-nil (λ s. IsSkip s → ⊥));
  none_empty = All-cons HasKeys (record { lower = lower; upper = r.upper; claim = r.claim }) [] lt (All-nil HasKeys);
}

pub holds_one : (roll : List Item) (lower : Item) (r : Span) → IsTrueOf roll (record { lower = lower; upper = r.upper; claim = r.claim }) → All (IsTrueOf roll) (closed_from lower (r ∷ []))
holds_one roll lower r h = All-cons (IsTrueOf roll) (record { lower = lower; upper = r.upper; claim = r.claim }) [] h (All-nil (IsTrueOf roll))

pub whole_one : (roll : List Item) (d new : Written) (r : Span) → place d.end < place infinity → place d.end < place r.upper → IsKey d.end → ((r.claim ≡ skip) → ⊥) → IsTrueOf roll (record { lower = d.end; upper = r.upper; claim = r.claim })
    → new ≡ told_more d r.upper (r ∷ []) → Whole roll d r.upper new
whole_one roll d new r fin lt key some h now = record { finite = fin; spans = r ∷ []; tells = tells_one d.end r key lt some; holds = holds_one roll d.end r h; now = now }

-- all that is left by one fingerprint
pub cut_one : (roll : List Item) (d new : Written) (upper : Item) (p : List ℕ) → place d.end < place infinity → place d.end ≤ place upper → IsKey d.end → p ≡ print_of (ids_of (part roll d.end infinity))
    → new ≡ told_more d infinity (all_left p) → d.limit ≤ length (text_of new.spans) + 256 → Cut roll d upper new
cut_one roll d new upper p fin le key own now full = record {
  finite = fin;
  front = [];
  left = p;
  tells = tells_one d.end (record { upper = infinity; claim = print p }) key fin (λ e. cc);
  holds = holds_one roll d.end (record { upper = infinity; claim = print p }) own;
  less = le;
  now = now;
  full = full;
}

-- ---- a message that is cut

pub before_most : (d : Written) → before_payload d ≤ length (text_of d.spans) + 96
before_most d = omega (arith, before_is d, (waits d).1)

pub end_key : (d : Written) → IsEdge d.end → place d.end < place infinity → IsKey d.end
end_key d edge fin = edge_key d.end infinity edge (inl refl) fin

pub closed_cut : (roll : List Item) (d new : Written) (upper : Item) → IsEdge d.end → place d.end < place infinity → place d.end ≤ place upper → d.limit ≤ length (text_of d.spans) + 256
    → new ≡ told_more d infinity (all_left (print_of (ids_of (part roll d.end infinity)))) → Cut roll d upper new
closed_cut roll d new upper edge fin le full now =
    let p = print_of (ids_of (part roll d.end infinity)) in
    let grows = told_grows d infinity (record { upper = infinity; claim = print (print_of (ids_of (part roll d.end infinity))) }) in
    cut_one roll d new upper (print_of (ids_of (part roll d.end infinity))) fin le (end_key d edge fin) refl now
    (omega (arith, full, grows, ap (λ (w : Written). length (text_of w.spans)) now))

pub may_be_cut : (roll : List Item) (d : Written) (upper : Item) (result : Result Written AllocError) → IsEdge d.end → place d.end < place infinity → place d.end ≤ place upper → d.limit ≤ length (text_of d.spans) + 256
    → IfOk result (λ new. new ≡ told_more d infinity (all_left (print_of (ids_of (part roll d.end infinity))))) → IfOk result (Cut roll d upper)
may_be_cut roll d upper result edge fin le full h =
    IfOk-weaker result (λ new. new ≡ told_more d infinity (all_left (print_of (ids_of (part roll d.end infinity))))) (Cut roll d upper) (λ new now. closed_cut roll d new upper edge fin le full now) h
