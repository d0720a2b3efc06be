-- What a session is after a reply that was walked.
use Rattle.std.proofs.Common.{◌≡◌, ℕ, suc, ◌+◌, ◌<◌, ◌≤◌, ◌⊎◌, ◌++◌, inl, inr, List, [], ◌∷◌, length, map, take, drop, get_or, refl, sym, ap, subst, ◌∙◌, arith}
use Rattle.std.specs.Prelude.{◌↔◌, Contains, All, Result, Ok}
use Rattle.std.proofs.lemmas.List.Elements.{All-contains, All-weaker, All-contains_itself}
use Rattle.neg_codec.proofs.Stretches.{one_stretch, contains_head, contains_tail, contains_cases, contains_none}
use Rattle.neg_codec.specs.declared.CodecFault.{CodecFault}
use Rattle.item_key.specs.declared.Id.{Id}
use Rattle.neg_codec.specs.Reading.{message_at}
use Rattle.item_key.specs.declared.Item.{Item}
use Rattle.neg_codec.specs.declared.Range.{Range}
use Rattle.item_key.specs.Keys.{place, least, infinity, IsKey}
use Rattle.neg_codec.specs.Ranges.{Claim, print, ids, Span, Stretch, stretches, stretches_from, Lies, IsSkip, Ascends, IsSpan, edge_of, span_of}
use Rattle.neg_print.specs.Print.{print_of}
use Rattle.item_roll.specs.Closed.{closed_from}
use Rattle.item_roll.specs.Parts.{IsRoll, part, ids_of, count_below}
use Rattle.item_roll.specs.Truth.{Says, IsTrueOf, Follows}
use Rattle.std.proofs.lemmas.List.{take-append-drop, map-append}
use Rattle.neg_codec.specs.Encoding.{text_of}
use Rattle.item_roll.specs.Splits.{split_of}
use Rattle.neg_draft.specs.Coverage.{begun_at, HasKeys, NoneEmpty, SkipsJoined, Written, end_of, gap, told_more, all_left, IsDraft, Tells, Cut, Told}
use Rattle.neg_draft.proofs.Walking.{ranges_at, ranges_upto}
use Rattle.neg_initiator.specs.Listed.{Distinct, PassesMost}
use Rattle.neg_initiator.specs.declared.phase.Phase.{Phase}
use Rattle.std.proofs.lemmas.Bool.{le-ltb}
use Rattle.neg_initiator.specs.Made.{asking}
use Rattle.neg_initiator.specs.First.{IsFirstAsk}
use Rattle.neg_initiator.specs.Session.{Session, IsSound, Taken, HasOpen, LeavesOpen, IsAskDue}
use Rattle.neg_initiator.specs.Settled.{HasOnePrint, IsSkipped}
use Rattle.neg_initiator.specs.Settling.{Findings, Finds, Settles}
use Rattle.neg_initiator.specs.Trusting.{bounds_of, TrustsSkipped, IsSkippedPrint, IsOwnPrint}
use Rattle.neg_initiator.proofs.Meeting.{stretches-append}
use Rattle.neg_initiator.proofs.Step.{Accounts, settled_after}
use Rattle.neg_initiator.specs.Walked.{Found, IsRead}
use Rattle.neg_initiator.proofs.Stepping.{Progress, Stepped, Walked, progress_more, step_on, read_until}

says_print : (items : List Item) (s : Stretch) (p : List ℕ) → s.claim ≡ print p → IsTrueOf items s → p ≡ print_of (ids_of (part items s.lower s.upper))
says_print items s p e h = subst (λ (c : Claim). Says c (part items s.lower s.upper)) e h

one_print_at : (a b : List Item) (s : Stretch) (p : List ℕ) → s.claim ≡ print p → IsTrueOf a s → IsTrueOf b s → HasOnePrint a b (bounds_of s)
one_print_at a b s p e ha hb = sym (says_print a s p e ha) ∙ says_print b s p e hb

-- a trusted print has one print on both sides
skipped_one_print : (a b : List Item) (asked answered : List Span) (s : Stretch) → All (IsTrueOf a) (stretches asked) → Follows b asked answered → IsSkippedPrint asked answered s → HasOnePrint a b (bounds_of s)
skipped_one_print a b asked answered s truth follows h =
    one_print_at a b s h.print_of h.claims (All-contains (IsTrueOf a) (stretches asked) s truth h.asks) (follows.skipped h.by s h.answers h.asks h.skips h.meets)

own_one_print : (a b : List Item) (asked answered : List Span) (s : Stretch) → Follows b asked answered → IsOwnPrint a answered s → HasOnePrint a b (bounds_of s)
own_one_print a b asked answered s follows h = one_print_at a b s h.print_of h.claims h.holds (All-contains (IsTrueOf b) (stretches answered) s follows.told h.answers)

from_each : {X : Type 0} (P : X → Type 0) (xs : List X) → ((x : X) → Contains xs x → P x) → All P xs
from_each P xs h = All-weaker (Contains xs) P h xs (All-contains_itself xs)

pub taken_from : (limit : ℕ) (a : List Item) (asked answered next : List Span) (until : Item) (old mid new : Findings) (most : ℕ) → 4096 ≤ limit → IsRoll a → Ascends least asked → Ascends least answered → All (IsTrueOf a) (stretches asked)
    → Found a answered old mid → TrustsSkipped asked answered until (stretches asked) mid.trusted new.trusted → new.need ≡ mid.need → new.have ≡ mid.have → Ascends least next → NoneEmpty next → SkipsJoined next → Walked limit a asked answered next new
    → Taken answered (asking limit a asked old most) (asking limit a next new most)
taken_from limit a asked answered next until old mid new most enough roll up order truth found trusts need have ascends full joined w = record {
  roll = refl;
  limit_is = refl;
  most = refl;
  sound = record { roll = roll; ascends = ascends; none_empty = full; skips_joined = joined; truth = w.truth; enough = enough };
  not_again = w.not_again;
  need_kept = need_kept;
  need_from = λ i h. found.need_new i (subst (λ (xs : List Id). Contains xs i) need h);
  need_noted = λ i h. (listed h.0 h.1 h.2 h.3 h.4 h.7 h.8 h.9).0 i h.5 h.6;
  have_kept = have_kept;
  have_from = λ i h. found.have_new i (subst (λ (xs : List Id). Contains xs i) have h);
  have_noted = λ i h. (listed h.0 h.1 h.2 h.3 h.4 h.7 h.8 h.9).1 i h.5 h.6;
  trusted_kept = λ x h. trusts.kept x (found.trusted_kept x h);
  trusted_from = λ x h. elim (trusts.right x h) [
    | inl m ↦ elim (found.trusted_new x m) [ inl o ↦ inl o | inr s ↦ inr (s.0, s.1, inr s.2) ]
    | inr s ↦ inr (s.0, s.1, inl s.2)
  ];
  advances = λ b rb follows. record {
    one_print = from_each (λ t. Contains old.trusted t ⊎ HasOnePrint a b t) new.trusted (λ x h. elim (trusts.right x h) [
      | inl m ↦ elim (found.trusted_new x m) [
        | inl o ↦ inl o
        | inr s ↦ inr (subst (HasOnePrint a b) s.1 (own_one_print a b asked answered s.0 follows s.2))
      ]
      | inr s ↦ inr (subst (HasOnePrint a b) s.1 (skipped_one_print a b asked answered s.0 truth follows s.2))
    ]);
    settled = λ told one was.
        settled_after a b asked answered next new.trusted old.need old.have new.need new.have roll.keys rb.keys one up truth follows told
        (record {
          need_kept = need_kept;
          have_kept = have_kept;
          need_new = from_each _ new.need (λ i h. found.need_new i (subst (λ (xs : List Id). Contains xs i) need h));
          have_new = from_each _ new.have (λ i h. found.have_new i (subst (λ (xs : List Id). Contains xs i) have h));
        }) w.accounted was;
  };
}
  where
    need_kept : (i : Id) → Contains old.need i → Contains new.need i
    need_kept i h = subst (λ (xs : List Id). Contains xs i) (sym need) (found.need_kept i h)

    have_kept : (i : Id) → Contains old.have i → Contains new.have i
    have_kept i h = subst (λ (xs : List Id). Contains xs i) (sym have) (found.have_kept i h)

    -- what is owed to a list of the reply of which the next ask skips a key
    listed : (s : Stretch) (is : List Id) (k : Item) → Contains (stretches answered) s → s.claim ≡ ids is → IsKey k → Lies k s → IsSkipped next k
        → Accounts a asked new.trusted new.need new.have s.lower s.upper (ids is)
    listed s is k here claims key lies skipped =
        let m = w.accounted.each k key skipped in
        let same : m.0 ≡ s = one_stretch answered order k m.0 s m.1 here m.2 lies in
        let owed = subst (λ (s : Stretch). Accounts a asked new.trusted new.need new.have s.lower s.upper s.claim) same m.3 in
        subst (λ (c : Claim). Accounts a asked new.trusted new.need new.have s.lower s.upper c) claims owed

-- ---- the range at a place of the reply

pub stepped_at : (limit : ℕ) (a : List Item) (ranges : List Range) (i : ℕ) (r : Range) (old f g : Findings) (d new : Written) → i < length ranges → r ≡ get_or ranges i r → Ascends least (map span_of ranges) → IsDraft d
    → Progress limit a (map span_of ranges) (map span_of (take i ranges)) old f d → Finds a (end_of least (map span_of (take i ranges))) (span_of r) f g
    → Settles a (end_of least (map span_of (take i ranges))) (span_of r) g d new → Stepped limit a (map span_of ranges) (map span_of (take (i + 1) ranges)) (edge_of r.upper) old g new
stepped_at limit a ranges i r old f g d new lt is up draft was finds settles =
    let e = ranges_at ranges i r lt is in
    subst (λ (y : List Span). Stepped limit a (map span_of ranges) y (edge_of r.upper) old g new) (sym (ranges_upto ranges i r lt is))
    (subst (λ (x : List Span). Stepped limit a x (map span_of (take i ranges) ++ (span_of r ∷ [])) (edge_of r.upper) old g new) (sym e)
    (progress_more limit a (map span_of (take i ranges)) (span_of r) (map span_of (drop (suc i) ranges)) old f g d new (subst (λ (x : List Span). Ascends least x) e up) draft
    (subst (λ (x : List Span). Progress limit a x (map span_of (take i ranges)) old f d) e was) finds settles))

pub progress_at : (limit : ℕ) (a : List Item) (ranges : List Range) (i : ℕ) (r : Range) (old f : Findings) (d : Written) → i < length ranges → r ≡ get_or ranges i r
    → Stepped limit a (map span_of ranges) (map span_of (take (i + 1) ranges)) (edge_of r.upper) old f d → (place infinity ≤ place d.end → ⊥) → Progress limit a (map span_of ranges) (map span_of (take (i + 1) ranges)) old f d
progress_at limit a ranges i r old f d lt is s fin =
    subst (λ (x : List Span). Progress limit a (map span_of ranges) x old f d) (sym (ranges_upto ranges i r lt is))
    (step_on limit a (map span_of ranges) (map span_of (take i ranges)) (span_of r) old f d (subst (λ (x : List Span). Stepped limit a (map span_of ranges) x (edge_of r.upper) old f d) (ranges_upto ranges i r lt is) s) fin)

-- the reply was read up to a range with which the next ask came to its end
pub read_at : (limit : ℕ) (a : List Item) (ranges : List Range) (i : ℕ) (r : Range) (old f : Findings) (d : Written) → Ascends least (map span_of ranges) → All IsSpan (map span_of ranges)
    → Stepped limit a (map span_of ranges) (map span_of (take (i + 1) ranges)) (edge_of r.upper) old f d → place infinity ≤ place d.end → IsRead limit a (map span_of ranges) old f (edge_of r.upper) d
read_at limit a ranges i r old f d up fits s over =
    let e : map span_of ranges ≡ map span_of (take (i + 1) ranges) ++ map span_of (drop (i + 1) ranges) =
    ap (map span_of) (sym (take-append-drop (i + 1) ranges)) ∙ map-append span_of (take (i + 1) ranges) (drop (i + 1) ranges) in
    subst (λ (x : List Span). IsRead limit a x old f (edge_of r.upper) d) (sym e)
    (read_until limit a (map span_of (take (i + 1) ranges)) (map span_of (drop (i + 1) ranges)) (edge_of r.upper) old f d (subst (λ (x : List Span). Ascends least x) e up) (subst (λ (x : List Span). All IsSpan x) e fits)
    (subst (λ (x : List Span). Stepped limit a x (map span_of (take (i + 1) ranges)) (edge_of r.upper) old f d) e s) over)

-- ---- more needed than may be

-- where each id that is needed now was needed before, or is listed
pub too_many : (a : List Item) (answered : List Span) (old f : Findings) (now : List Id) (most : ℕ) → Found a answered old f → ((i : Id) → Contains now i ↔ Contains f.need i) → most < length now → (most < length now → Distinct now)
    → PassesMost a answered old.need most
too_many a answered old f now most found same more once = record { ids = now; distinct = once more; more = more; each = λ i h. found.need_new i ((same i).0 h) }

-- ---- something is open

in_closed : (spans : List Span) (s : Stretch) → Contains (closed_from least spans) s → Contains (stretches spans) s
in_closed spans s h = go least spans h
  where
    go : (lower : Item) (rs : List Span) → Contains (closed_from lower rs) s → Contains (stretches_from lower rs) s
    go lower [] k = absurd (contains_none s k)
    go lower (r ∷ rs) k = elim (contains_cases (begun_at lower r) (closed_from r.upper rs) s k) [
      | inl e ↦ subst (λ (x : Stretch). Contains (begun_at lower r ∷ stretches_from r.upper rs) x) e (contains_head (begun_at lower r) (stretches_from r.upper rs))
      | inr rest ↦ contains_tail (begun_at lower r) (stretches_from r.upper rs) s (go r.upper rs rest)
    ]

pub open_of : (d : Written) → IsDraft d → (d.spans ≡ []) ⊎ HasOpen d.spans
open_of d draft = elim draft.open_unless_blank [ inl e ↦ inl e | inr o ↦ inr (o.0, in_closed d.spans o.0 o.1, o.2, All-contains HasKeys (closed_from least d.spans) o.0 draft.none_empty o.1) ]

-- just where the reply left something open
pub left_of : (limit : ℕ) (a : List Item) (answered : List Span) (old new : Findings) (until : Item) (d : Written) → IsRead limit a answered old new until d
    → (d.spans ≡ [] → LeavesOpen a answered → ⊥) × ((d.spans ≡ [] → ⊥) → LeavesOpen a answered)
left_of limit a answered old new until d was = elim was.leaves [
  | inl none ↦ ((λ e. none.1), (λ some. absurd (some none.0)))
  | inr some ↦ ((λ e. absurd (some.0 e)), (λ s. some.1))
]

-- a next ask is due just where the reply left something open
same_message : (a b : List Span) → ◌≡◌ {A = Result (List Span) CodecFault} (Ok a) (Ok b) → a ≡ b
same_message a b e = cc

pub not_due : (a : List Item) (reply : List ℕ) (answered : List Span) → message_at reply ≡ Ok answered → (LeavesOpen a answered → ⊥) → IsAskDue a reply → ⊥
not_due a reply answered read none due = none (subst (LeavesOpen a) (same_message due.0 answered (sym due.1 ∙ read)) due.2)

-- whether a session asks has no part in what a reply does
pub taken_any : (answered : List Span) (o n : Session) (p q : Phase) → Taken answered o n → Taken answered (record o { phase = p }) (record n { phase = q })
taken_any answered o n p q t = record {
  roll = t.roll;
  limit_is = t.limit_is;
  most = t.most;
  sound = record { roll = t.sound.roll; ascends = t.sound.ascends; none_empty = t.sound.none_empty; skips_joined = t.sound.skips_joined; truth = t.sound.truth; enough = t.sound.enough };
  not_again = t.not_again;
  need_kept = t.need_kept;
  need_from = t.need_from;
  need_noted = t.need_noted;
  have_kept = t.have_kept;
  have_from = t.have_from;
  have_noted = t.have_noted;
  trusted_kept = t.trusted_kept;
  trusted_from = t.trusted_from;
  advances = λ b rb follows. let a = t.advances b rb follows in record { one_print = a.one_print; settled = a.settled };
}

-- ---- the first ask

pub least_low : place least < place infinity
unfolding place
least_low = omega arith

gap_same : (x : Item) → gap x x ≡ []
gap_same x = rw (le-ltb (place x) (place x) (omega arith)) refl

all_told : (P : Stretch → Type 0) (rs : List Span) → end_of least rs ≡ infinity → All P (closed_from least rs) → All P (stretches rs)
all_told P rs ends h =
    let e : stretches rs ≡ closed_from least rs ++ stretches_from infinity [] =
    ap stretches (sym (append_nil rs)) ∙ stretches-append least rs [] ∙ ap (λ (x : Item). closed_from least rs ++ stretches_from x []) ends in
    subst (λ (ss : List Stretch). All P ss) (sym (e ∙ append_nil_stretches (closed_from least rs))) h
  where
    append_nil : (xs : List Span) → xs ++ [] ≡ xs
    append_nil [] = refl
    append_nil (x ∷ xs) = ap (λ (t : List Span). x ∷ t) (append_nil xs)

    append_nil_stretches : (xs : List Stretch) → xs ++ [] ≡ xs
    append_nil_stretches [] = refl
    append_nil_stretches (x ∷ xs) = ap (λ (t : List Stretch). x ∷ t) (append_nil_stretches xs)

told_limit : (a : List Item) (e : Written) (upper : Item) (d : Written) → Told a e upper d → d.limit ≡ e.limit
told_limit a e upper d (inl w) = ap (λ (x : Written). x.limit) w.now
told_limit a e upper d (inr c) = ap (λ (x : Written). x.limit) c.now

record Begun (a : List Item) (asked : List Span) : Type 0 where
  truth : All (IsTrueOf a) (stretches asked)
  skips_nothing : All (λ s. IsSkip s → ⊥) (stretches asked)

begun : (a : List Item) (limit : ℕ) (d e : Written) → e ≡ record { limit = limit; spans = []; end = least } → Told a e infinity d → Begun a d.spans
begun a limit d e is told =
    elim (subst (λ (w : Written). Told a w infinity d) is told) [
      | inl w ↦ begun_by w.spans w.tells w.holds (ap (λ (x : Written). x.spans) w.now ∙ ap (λ (g : List Span). g ++ w.spans) (gap_same least))
      | inr c ↦ begun_by (c.front ++ all_left c.left) c.tells c.holds (ap (λ (x : Written). x.spans) c.now ∙ ap (λ (g : List Span). g ++ (c.front ++ all_left c.left)) (gap_same least))
    ]
  where
    begun_by : (rs : List Span) → Tells least infinity rs → All (IsTrueOf a) (closed_from least rs) → d.spans ≡ rs → Begun a d.spans
    begun_by rs tells holds spans = subst (Begun a) (sym spans) (record {
      truth = all_told (IsTrueOf a) rs tells.ends holds;
      skips_nothing = all_told (λ s. IsSkip s → ⊥) rs tells.ends tells.none_skipped;
    })

first_split : (a : List Item) (limit : ℕ) (d e : Written) → e ≡ record { limit = limit; spans = []; end = least }
    → (d ≡ told_more e infinity (split_of a (count_below a e.end) (count_below a infinity) infinity)) ⊎ Cut a e infinity d
    → (d.spans ≡ split_of a (count_below a least) (count_below a infinity) infinity) ⊎ (limit ≤ length (text_of d.spans) + 256)
first_split a limit d e is exact =
    let all = split_of a (count_below a least) (count_below a infinity) infinity in
    elim (subst (λ (w : Written). (d ≡ told_more w infinity (split_of a (count_below a w.end) (count_below a infinity) infinity)) ⊎ Cut a w infinity d) is exact) [
      | inl now ↦ inl (ap (λ (x : Written). x.spans) now ∙ ap (λ (g : List Span). g ++ all) (gap_same least))
      | inr c ↦ inr c.full
    ]

pub first_ask_of : (a : List Item) (limit : ℕ) (d e : Written) (asked : List Span) → asked ≡ d.spans → IsRoll a → IsDraft d → e ≡ record { limit = limit; spans = []; end = least } → Told a e infinity d
    → (d ≡ told_more e infinity (split_of a (count_below a e.end) (count_below a infinity) infinity)) ⊎ Cut a e infinity d → IsFirstAsk a limit asked
first_ask_of a limit d e asked same roll draft is told exact = subst (IsFirstAsk a limit) (sym same) (
    let b = begun a limit d e is told in
    record {
      roll = roll;
      ascends = draft.ascends;
      none_empty = draft.none_empty;
      skips_joined = draft.skips_joined;
      truth = b.truth;
      short = omega (arith, draft.fits, told_limit a e infinity d told, ap (λ (w : Written). w.limit) is);
      skips_nothing = b.skips_nothing;
      split = first_split a limit d e is exact;
    }
    )

-- a session that begins with it is sound
pub first_sound : (a : List Item) (limit : ℕ) (s : Session) → IsFirstAsk a limit s.asked → s.roll ≡ a → s.limit ≡ limit → 4096 ≤ limit → IsSound s
first_sound a limit s first roll_is limit_is enough = record {
  roll = subst IsRoll (sym roll_is) first.roll;
  ascends = first.ascends;
  none_empty = first.none_empty;
  skips_joined = first.skips_joined;
  truth = subst (λ (b : List Item). All (IsTrueOf b) (stretches s.asked)) (sym roll_is) first.truth;
  enough = subst (λ (n : ℕ). 4096 ≤ n) (sym limit_is) enough;
}

-- ---- whether there are ranges

pub spans_none : (rs : List Range) (next : List Span) → map span_of rs ≡ next → length rs ≡ 0 → next ≡ []
spans_none [] next is none = sym is
spans_none (r ∷ rs) next is none = absurd (omega (arith, none))

pub spans_gone : (rs : List Range) (next : List Span) → map span_of rs ≡ next → next ≡ [] → rs ≡ []
spans_gone [] next is none = refl
spans_gone (r ∷ rs) next is none = absurd (let e : map span_of (r ∷ rs) ≡ [] = is ∙ none in cc)
