-- A reply, range by range of the question.
use Rattle.std.proofs.Common.{◌≡◌, ℕ, zero, suc, ◌+◌, map, get_or, ◌<◌, ◌≤◌, ◌⊎◌, inl, inr, Bool, false, cond, ltb, leb, ◌&&◌, List, [], ◌∷◌, ◌++◌, length, take, drop, refl, sym, ap, subst, ◌∙◌, arith, append_assoc}
use Rattle.std.specs.Prelude.{Contains, All, filter}
use Rattle.std.proofs.lemmas.Bool.{le-ltb}
use Rattle.std.proofs.lemmas.List.{take_all, get_or_default}
use Rattle.std.proofs.lemmas.List.Elements.{All-weaker, All-contains_itself, Contains-append_cases}
use Rattle.neg_codec.specs.declared.Range.{Range}
use Rattle.neg_codec.proofs.Stretches.{one_stretch, key_below, contains_cases, contains_none}
use Rattle.item_key.specs.declared.Item.{Item}
use Rattle.item_key.specs.Keys.{place, least, infinity, IsKey}
use Rattle.neg_codec.specs.Ranges.{Claim, Span, Stretch, stretches, Lies, IsSkip, Ascends, IsSpan, edge_of, span_of}
use Rattle.neg_codec.specs.Encoding.{text_of}
use Rattle.neg_codec.proofs.Placing.{span_at}
use Rattle.item_roll.specs.Closed.{closed_from}
use Rattle.item_roll.specs.Truth.{Says, IsTrueOf, Follows}
use Rattle.item_roll.specs.Parts.{part}
use Rattle.item_roll.proofs.Follow.{follows_from}
use Rattle.neg_draft.specs.Coverage.{Written, begun_at, end_of, gap, passed, told_more, all_left, IsDraft, IsCutAt, Covers, Told, Cut}
use Rattle.neg_draft.proofs.Covering.{covers_none, covers_passes, covers_whole, covers_cut, edge_low, closed-append, end-append, filled_end, in_old, in_new, stretch_of, beyond, told_whole, skipped_left_out, left_out_skipped, passed_place}
use Rattle.neg_draft.proofs.Walking.{ranges_at, ranges_upto, ascends_after}
use Rattle.neg_responder.specs.Reply.{told_at, IsSame, IsToldIn, TellsOthers, SkipsSame, PassesOver, Responds}

-- a key of which the reply may say nothing: what the question says of it is true of the roll
abbrev pub MaySkip : List Item → List Span → Item → Type 0
MaySkip roll asked k = (t : Stretch) × Contains (stretches asked) t × Lies k t × IsTrueOf roll t

-- a key of which it must say nothing: the question skips it, or has the own fingerprint of its stretch
abbrev pub MustSkip : List Item → List Span → Item → Type 0
MustSkip roll asked k = (t : Stretch) × Contains (stretches asked) t × Lies k t × IsSame roll t

-- The reply to the ranges before a place of the question.
pub record Replied (limit : ℕ) (roll : List Item) (asked front : List Span) (d : Written) : Type 0 where
  pub bytes : d.limit ≡ limit
  pub covers : Covers (IsTrueOf roll) (MaySkip roll asked) (MustSkip roll asked) d
  pub reached : (place d.end ≡ place (end_of least front)) ⊎ ((place infinity ≤ place d.end) × IsCutAt d.limit (length (text_of d.spans)) d.spans (end_of least front))
  pub others : TellsOthers d.limit (length (text_of d.spans)) roll front d.spans

pub replied_none : (limit : ℕ) (roll : List Item) (asked : List Span) → Replied limit roll asked [] (record { limit = limit; spans = []; end = least })
replied_none limit roll asked = record { bytes = refl; covers = covers_none (IsTrueOf roll) (MaySkip roll asked) (MustSkip roll asked) limit; reached = inl refl; others = λ t h keys other. absurd (contains_none t h) }

skip_holds : (roll : List Item) (s : Stretch) → IsSkip s → IsTrueOf roll s
skip_holds roll s h = subst (λ (c : Claim). IsTrueOf roll (record { lower = s.lower; upper = s.upper; claim = c })) (sym h) tt

-- the part from another bound of the same place is the same
part_from : (roll : List Item) (l m u : Item) → place l ≡ place m → part roll l u ≡ part roll m u
unfolding part
part_from roll l m u e = ap (λ (n : ℕ). filter (λ k. leb n (place k) && ltb (place k) (place u)) roll) e

same_lower : (roll : List Item) (l m : Item) (r : Span) → place l ≡ place m → IsTrueOf roll (begun_at l r) → IsTrueOf roll (begun_at m r)
same_lower roll l m r e h = subst (λ (x : List Item). Says r.claim x) (part_from roll l m r.upper e) h

is_same_lower : (roll : List Item) (l m : Item) (r : Span) → place l ≡ place m → IsSame roll (begun_at l r) → IsSame roll (begun_at m r)
is_same_lower roll l m r e (inl h) = inl h
is_same_lower roll l m r e (inr h) = inr (h.0, h.1, same_lower roll l m r e h.2)

-- a draft that has come to infinity goes no further
stays : (d : Written) (upper : Item) → place upper ≤ place d.end → d ≡ passed d upper
stays d upper le = ap (λ (b : Bool). record { limit = d.limit; spans = d.spans; end = cond b upper d.end }) (sym (le-ltb (place d.end) (place upper) le))

-- ---- what tells of other stretches

one_more : (front : List Span) (r : Span) (t : Stretch) → Contains (closed_from least (front ++ (r ∷ []))) t → Contains (closed_from least front) t ⊎ (begun_at (end_of least front) r ≡ t)
one_more front r t h = elim (Contains-append_cases (closed_from least front) (begun_at (end_of least front) r ∷ []) t (subst (λ (ss : List Stretch). Contains ss t) (closed-append least front (r ∷ [])) h)) [
  | inl old ↦ inl old
  | inr new ↦ elim (contains_cases (begun_at (end_of least front) r) [] t new) [ inl e ↦ inr e | inr n ↦ absurd (contains_none t n) ]
]

cut_later : (limit size : ℕ) (spans : List Span) (j k : Item) → place j ≤ place k → IsCutAt limit size spans j → IsCutAt limit size spans k
cut_later limit size spans j k le c = record { front = c.front; left = c.left; ends = c.ends; has = omega (arith, c.has, le); full = c.full }

cut_over : (limit size : ℕ) (d : Written) (k : Item) → IsDraft d → IsCutAt limit size d.spans k → place infinity ≤ place d.end
cut_over limit size d k draft c =
    let e : end_of least d.spans ≡ infinity = ap (end_of least) c.ends ∙ end-append least c.front (all_left c.left) in
    elim draft.within [ inl same ↦ omega (arith, ap place same, ap place e) | inr lt ↦ omega (arith, lt, ap place e) ]

cut_at : (roll : List Item) (d new : Written) (upper : Item) → IsDraft d → Cut roll d upper new → IsCutAt new.limit (length (text_of new.spans)) new.spans upper
cut_at roll d new upper draft c = record {
  front = d.spans ++ (between ++ c.front);
  left = c.left;
  ends = ap (λ (w : Written). w.spans) c.now ∙ (ap (λ (z : List Span). d.spans ++ z) (sym (append_assoc between c.front (all_left c.left))) ∙ sym (append_assoc d.spans (between ++ c.front) (all_left c.left)));
  has = omega (arith, ap place ends, c.less);
  full = omega (arith, c.full, ap (λ (w : Written). w.limit) c.now);
}
  where
    between : List Span
    between = gap (end_of least d.spans) d.end

    ends : end_of least (d.spans ++ (between ++ c.front)) ≡ end_of d.end c.front
    ends = ap (end_of least) (sym (append_assoc d.spans between c.front)) ∙ end-append least (d.spans ++ between) c.front ∙ ap (λ (x : Item). end_of x c.front) (filled_end d draft)

still_there : (roll : List Item) (d new : Written) (upper : Item) → IsDraft d → Told roll d upper new → (s : Stretch) → Contains (closed_from least d.spans) s → Contains (closed_from least new.spans) s
still_there roll d new upper draft (inl w) s h = subst (λ (y : Written). Contains (closed_from least y.spans) s) (sym w.now) (in_old d w.spans s draft h)
still_there roll d new upper draft (inr c) s h = subst (λ (y : Written). Contains (closed_from least y.spans) s) (sym c.now) (in_old d (c.front ++ all_left c.left) s draft h)

others_passed : (roll : List Item) (front : List Span) (r : Span) (d new : Written) (size : ℕ) → place d.end ≡ place (end_of least front) → PassesOver roll d r new
    → TellsOthers d.limit size roll front d.spans → TellsOthers d.limit size roll (front ++ (r ∷ [])) d.spans
others_passed roll front r d new size here p was t h keys other = elim (one_more front r t h) [
  | inl old ↦ was t old keys other
  | inr e ↦
      let lt : place d.end < place r.upper = omega (arith, here, keys, ap (λ (s : Stretch). place s.lower) e, ap (λ (s : Stretch). place s.upper) e) in
      absurd (other (subst (IsSame roll) e (is_same_lower roll d.end (end_of least front) r here (p.same d.end (omega arith, lt)))))
]

others_over : (roll : List Item) (front : List Span) (r : Span) (limit size : ℕ) (spans : List Span) → IsCutAt limit size spans (end_of least front)
    → TellsOthers limit size roll front spans → TellsOthers limit size roll (front ++ (r ∷ [])) spans
others_over roll front r limit size spans cut was t h keys other = elim (one_more front r t h) [
  | inl old ↦ was t old keys other
  | inr e ↦ inr (cut_later limit size spans (end_of least front) t.upper (omega (arith, keys, ap (λ (s : Stretch). place s.lower) e)) cut)
]

others_told : (roll : List Item) (front : List Span) (r : Span) (d new : Written) → IsDraft d → place d.end < place infinity → place d.end ≡ place (end_of least front) → Told roll d r.upper new
    → (new ≡ told_more d r.upper (told_at roll d.end r.upper r.claim)) ⊎ Cut roll d r.upper new
    → TellsOthers d.limit (length (text_of d.spans)) roll front d.spans → TellsOthers new.limit (length (text_of new.spans)) roll (front ++ (r ∷ [])) new.spans
others_told roll front r d new draft fin here told exact was t h keys other = elim (one_more front r t h) [
  | inl old ↦ elim (was t old keys other) [
    | inl said ↦ inl (said.0, said.1, All-weaker (Contains (closed_from least d.spans)) (Contains (closed_from least new.spans)) (still_there roll d new r.upper draft told) _ said.2)
    | inr cut ↦ absurd (omega (arith, cut_over d.limit (length (text_of d.spans)) d t.upper draft cut, fin))
  ]
  | inr e ↦ subst (λ (s : Stretch). IsToldIn roll new.spans s ⊎ IsCutAt new.limit (length (text_of new.spans)) new.spans s.upper) e (elim exact [
    | inl now ↦ inl (
      d.end,
      here,
      subst (λ (y : Written). All (Contains (closed_from least y.spans)) (closed_from d.end said)) (sym now)
          (All-weaker (Contains (closed_from d.end said)) (Contains (closed_from least (told_more d r.upper said).spans)) (λ s m. in_new d said s draft m) _ (All-contains_itself (closed_from d.end said))),
    )
    | inr c ↦ inr (cut_at roll d new r.upper draft c)
  ])
]
  where
    said : List Span
    said = told_at roll d.end r.upper r.claim

-- one range more
pub replied_more : (limit : ℕ) (roll : List Item) (front : List Span) (r : Span) (back : List Span) (d new : Written) → Ascends least (front ++ (r ∷ back)) → place r.upper ≤ place infinity → IsDraft d
    → Replied limit roll (front ++ (r ∷ back)) front d → Responds roll d r new → Replied limit roll (front ++ (r ∷ back)) (front ++ (r ∷ [])) new
replied_more limit roll front r back d new up low draft was (inl p) = elim was.reached [
  | inl here ↦
      let le : place d.end ≤ place r.upper = omega (arith, here, ascends_after least front r back up) in
      let covers = covers_passes (IsTrueOf roll) (MaySkip roll (front ++ (r ∷ back))) (MustSkip roll (front ++ (r ∷ back))) d r.upper draft le was.covers
      (λ k key ge lt. (
        begun_at (end_of least front) r,
        stretch_of least front r back,
        (omega (arith, here, ge), lt),
        same_lower roll d.end (end_of least front) r here (p.holds k (ge, lt)),
      )) in
      subst (λ (n : Written). Replied limit roll (front ++ (r ∷ back)) (front ++ (r ∷ [])) n) (sym p.now)
      (record { bytes = was.bytes; covers = covers; reached = inl (passed_place d r.upper le ∙ ap place (sym (end-append least front (r ∷ [])))); others = others_passed roll front r d new (length (text_of d.spans)) here p was.others })
  | inr over ↦
      subst (λ (n : Written). Replied limit roll (front ++ (r ∷ back)) (front ++ (r ∷ [])) n) (stays d r.upper (omega (arith, low, over.0)) ∙ sym p.now)
      (record {
        bytes = was.bytes;
        covers = was.covers;
        reached = inr (over.0, cut_later d.limit (length (text_of d.spans)) d.spans (end_of least front) (end_of least (front ++ (r ∷ []))) (omega (arith, ascends_after least front r back up, ap place (end-append least front (r ∷ [])))) over.1);
        others = others_over roll front r d.limit (length (text_of d.spans)) d.spans over.1 was.others;
      })
]
replied_more limit roll front r back d new up low draft was (inr t) =
    let fin = finite t.0 in
    let here : place d.end ≡ place (end_of least front) = elim was.reached [ inl e ↦ e | inr over ↦ absurd (omega (arith, over.0, fin)) ] in
    let le : place d.end ≤ place r.upper = omega (arith, here, ascends_after least front r back up) in
    let none = λ (k : Item) (key : IsKey k) (ge : place d.end ≤ place k) (lt : place k < place r.upper) (q : MustSkip roll (front ++ (r ∷ back)) k). t.1 (is_same_lower roll (end_of least front) d.end r (sym here)
    (subst (IsSame roll) (one_stretch (front ++ (r ∷ back)) up k q.0 (begun_at (end_of least front) r) q.1 (stretch_of least front r back) q.2 (omega (arith, here, ge), lt)) q.3)) in
    told t.0 here le none (others_told roll front r d new draft fin here t.0 t.2 was.others)
  where
    finite : Told roll d r.upper new → place d.end < place infinity
    finite (inl w) = w.finite
    finite (inr c) = c.finite

    told : Told roll d r.upper new → place d.end ≡ place (end_of least front) → place d.end ≤ place r.upper
        → ((k : Item) → IsKey k → place d.end ≤ place k → place k < place r.upper → MustSkip roll (front ++ (r ∷ back)) k → ⊥) → TellsOthers new.limit (length (text_of new.spans)) roll (front ++ (r ∷ [])) new.spans
        → Replied limit roll (front ++ (r ∷ back)) (front ++ (r ∷ [])) new
    told (inl w) here le none others = record {
      bytes = ap (λ (x : Written). x.limit) w.now ∙ was.bytes;
      covers = covers_whole (MaySkip roll (front ++ (r ∷ back))) (MustSkip roll (front ++ (r ∷ back))) roll d new r.upper draft le w was.covers (skip_holds roll) none;
      reached = inl (ap (λ (x : Written). place x.end) w.now ∙ ap place (sym (end-append least front (r ∷ []))));
      others = others;
    }
    told (inr c) here le none others = record {
      bytes = ap (λ (x : Written). x.limit) c.now ∙ was.bytes;
      covers = covers_cut (MaySkip roll (front ++ (r ∷ back))) (MustSkip roll (front ++ (r ∷ back))) roll d new r.upper draft c was.covers (skip_holds roll) none;
      reached = inr (
        omega (arith, ap (λ (x : Written). place x.end) c.now),
        subst (IsCutAt new.limit (length (text_of new.spans)) new.spans) (sym (end-append least front (r ∷ []))) (cut_at roll d new r.upper draft c),
      );
      others = others;
    }

-- the Skip that a question implies behind its ranges
pub replied_all : (limit : ℕ) (roll : List Item) (asked : List Span) (d : Written) → IsDraft d → Replied limit roll asked asked d
    → Covers (IsTrueOf roll) (MaySkip roll asked) (MustSkip roll asked) (passed d infinity)
replied_all limit roll asked d draft was =
    covers_passes (IsTrueOf roll) (MaySkip roll asked) (MustSkip roll asked) d infinity draft draft.low was.covers
    (λ k key ge lt. elim was.reached [
      | inl here ↦ let s = beyond least asked k key (omega (arith, here, ge)) in (s.0, s.1, s.3, skip_holds roll s.0 s.2)
      | inr over ↦ absurd (omega (arith, over.0, ge, lt))
    ])

-- what the message says that is written of it
pub replied_follows : (roll : List Item) (asked : List Span) (d : Written) → Ascends least asked → place d.end ≡ place infinity
    → Covers (IsTrueOf roll) (MaySkip roll asked) (MustSkip roll asked) d → Follows roll asked d.spans × SkipsSame d.limit (length (text_of d.spans)) roll asked d.spans
replied_follows roll asked d up end c = (
  follows_from roll asked d.spans up (record {
    told = told_whole (IsTrueOf roll) d.spans (skip_holds roll) c.told;
    skips = λ k s key h is_skip lies. c.may k key (omega (arith, end, key_below k key)) (skipped_left_out d.spans k s h is_skip lies);
  }),
  λ t k h same key lies. elim (c.must k key (omega (arith, end, key_below k key)) (t, h, lies, same)) [
    | inl out ↦ inl (left_out_skipped d.spans k key out)
    | inr cut ↦ inr cut
  ],
)

-- ---- the range at a place of a list

pub replied_at : (limit : ℕ) (roll : List Item) (ranges : List Range) (i : ℕ) (r : Range) (d new : Written) → i < length ranges → r ≡ get_or ranges i r → Ascends least (map span_of ranges) → All IsSpan (map span_of ranges) → IsDraft d
    → Replied limit roll (map span_of ranges) (map span_of (take i ranges)) d → Responds roll d (span_of r) new → Replied limit roll (map span_of ranges) (map span_of (take (i + 1) ranges)) new
replied_at limit roll ranges i r d new lt is up fits draft was step =
    let front = map span_of (take i ranges) in
    let back = map span_of (drop (suc i) ranges) in
    let e = ranges_at ranges i r lt is in
    let more = replied_more limit roll (map span_of (take i ranges)) (span_of r) (map span_of (drop (suc i) ranges)) d new
    (subst (λ (x : List Span). Ascends least x) e up) (edge_low (edge_of r.upper) (span_at ranges i r lt is fits).upper) draft (subst (λ (x : List Span). Replied limit roll x (map span_of (take i ranges)) d) e was) step in
    subst (λ (x : List Span). Replied limit roll x (map span_of (take (i + 1) ranges)) new) (sym e)
    (subst (λ (x : List Span). Replied limit roll (map span_of (take i ranges) ++ (span_of r ∷ map span_of (drop (suc i) ranges))) x new) (sym (ranges_upto ranges i r lt is)) more)

-- the whole reply
pub replied_whole : (limit : ℕ) (roll : List Item) (ranges : List Range) (n : ℕ) (d out : Written) → length ranges ≤ n → Ascends least (map span_of ranges) → IsDraft d
    → Replied limit roll (map span_of ranges) (map span_of (take n ranges)) d → out ≡ passed d infinity → Follows roll (map span_of ranges) out.spans × SkipsSame limit (length (text_of out.spans)) roll (map span_of ranges) out.spans
replied_whole limit roll ranges n d out le up draft was e =
    let all = subst (λ (x : List Range). Replied limit roll (map span_of ranges) (map span_of x) d) (take_all n ranges le) was in
    subst (λ (w : Written). Follows roll (map span_of ranges) w.spans × SkipsSame limit (length (text_of w.spans)) roll (map span_of ranges) w.spans) (sym e)
    (subst (λ (n : ℕ). Follows roll (map span_of ranges) d.spans × SkipsSame n (length (text_of d.spans)) roll (map span_of ranges) d.spans) was.bytes
    (replied_follows roll (map span_of ranges) (passed d infinity) up (passed_place d infinity draft.low) (replied_all limit roll (map span_of ranges) d draft all)))

pub replied_others : (limit : ℕ) (roll : List Item) (ranges : List Range) (n : ℕ) (d : Written) → length ranges ≤ n → Replied limit roll (map span_of ranges) (map span_of (take n ranges)) d
    → TellsOthers limit (length (text_of d.spans)) roll (map span_of ranges) d.spans
replied_others limit roll ranges n d le was =
    let all = subst (λ (x : List Range). Replied limit roll (map span_of ranges) (map span_of x) d) (take_all n ranges le) was in
    subst (λ (n : ℕ). TellsOthers n (length (text_of d.spans)) roll (map span_of ranges) d.spans) all.bytes all.others

-- ---- the ranges behind a draft that has come to infinity

over_step : (roll : List Item) (d : Written) (r : Span) → place r.upper ≤ place infinity → place infinity ≤ place d.end → Responds roll d r d
over_step roll d r low over =
    let test : ltb (place d.end) (place r.upper) ≡ false = le-ltb (place d.end) (place r.upper) (omega (arith, low, over)) in
    inl (record {
      holds = λ k lies. absurd (omega (arith, lies.0, lies.1, low, over));
      same = λ k lies. absurd (omega (arith, lies.0, lies.1, low, over));
      now = rw test refl;
    })

pub replied_over : (limit : ℕ) (roll : List Item) (ranges : List Range) (i k : ℕ) (x : Range) (d : Written) → i + k ≡ length ranges → Ascends least (map span_of ranges) → All IsSpan (map span_of ranges) → IsDraft d → place infinity ≤ place d.end
    → Replied limit roll (map span_of ranges) (map span_of (take i ranges)) d → Replied limit roll (map span_of ranges) (map span_of (take (length ranges) ranges)) d
replied_over limit roll ranges i zero x d e up fits draft over was =
    let all : i ≡ length ranges = omega (arith, e) in
    subst (λ (n : ℕ). Replied limit roll (map span_of ranges) (map span_of (take n ranges)) d) all was
replied_over limit roll ranges i (suc k) x d e up fits draft over was =
    let lt : i < length ranges = omega (arith, e) in
    let r : Range = get_or ranges i x in
    let is : r ≡ get_or ranges i r = get_or_default ranges i x (get_or ranges i x) lt in
    let low = edge_low (edge_of r.upper) (span_at ranges i r lt is fits).upper in
    replied_over limit roll ranges (i + 1) k x d (omega (arith, e)) up fits draft over (replied_at limit roll ranges i r d d lt is up fits draft was (over_step roll d (span_of r) low over))
