-- A reply, range by range: what was found, and what the next ask leaves out.
use Rattle.std.proofs.Common.{◌≡◌, ℕ, ◌<◌, ◌≤◌, ◌⊎◌, ◌++◌, inl, inr, Bool, cond, List, [], ◌∷◌, length, refl, sym, ap, subst, ◌∙◌, arith}
use Rattle.std.specs.Prelude.{Contains, All, ◌↔◌}
use Rattle.std.proofs.lemmas.Bool.{le-ltb}
use Rattle.std.proofs.lemmas.List.Elements.{All-nil, All-head, All-tail, All-push, All-contains, Contains-append_cases}
use Rattle.neg_codec.proofs.Stretches.{one_stretch, some_stretch, key_below, contains_head, contains_tail, contains_cases, contains_none}
use Rattle.item_key.specs.declared.Id.{Id}
use Rattle.item_key.specs.declared.Item.{Item}
use Rattle.item_key.specs.Keys.{place, least, infinity, IsKey}
use Rattle.neg_codec.specs.Ranges.{Claim, skip, print, ids, Span, Stretch, stretches, Lies, IsSkip, Ascends, IsSpan}
use Rattle.neg_codec.specs.Encoding.{text_of}
use Rattle.item_roll.specs.Closed.{closed_from}
use Rattle.item_roll.specs.Truth.{IsTrueOf}
use Rattle.neg_draft.specs.Coverage.{begun_at, Written, end_of, passed, IsDraft, Covers, Told, HasKeys, gap, all_left}
use Rattle.neg_draft.proofs.Covering.{closed-append, edge_low, covers_none, covers_passes, covers_whole, covers_cut, end-append, stretch_of, beyond, told_whole, skipped_left_out, left_out_skipped, passed_place}
use Rattle.neg_draft.proofs.Walking.{ascends_after}
use Rattle.neg_initiator.specs.Session.{IsAnswered, NotAskedAgain}
use Rattle.neg_initiator.specs.Settling.{Findings, AccountsFor, Finds, Settles}
use Rattle.neg_initiator.specs.Settling as settling
use Rattle.neg_initiator.specs.Trusting.{TrustsSkipped}
use Rattle.neg_initiator.specs.Walked.{IsBelow, MayDrop, MustDrop, Found, IsOver, Remains, IsRead}
use Rattle.neg_initiator.proofs.Trusts.{earlier_above}
use Rattle.neg_initiator.proofs.Step.{Accounts, Accounted}

-- The next ask after the ranges of the reply before a place.
pub record Progress (limit : ℕ) (a : List Item) (answered front : List Span) (old f : Findings) (d : Written) : Type 0 where
  pub bytes : d.limit ≡ limit
  pub found : Found a answered old f
  pub covers : Covers (IsTrueOf a) (MayDrop a answered (end_of least front) f) (MustDrop a answered) d
  pub reached : place d.end ≡ place (end_of least front)
  pub left : Remains a answered front d

-- and once one more was read, with which it may have come to its end
pub record Stepped (limit : ℕ) (a : List Item) (answered read : List Span) (until : Item) (old f : Findings) (d : Written) : Type 0 where
  pub bytes : d.limit ≡ limit
  pub found : Found a answered old f
  pub covers : Covers (IsTrueOf a) (MayDrop a answered until f) (MustDrop a answered) d
  pub reached : (place d.end ≡ place until) ⊎ (place infinity ≤ place d.end)
  pub left : Remains a answered read d

pub progress_none : (limit : ℕ) (a : List Item) (answered : List Span) (f : Findings) → Progress limit a answered [] f f (record { limit = limit; spans = []; end = least })
progress_none limit a answered f = record {
  bytes = refl;
  found = record { need_kept = λ i h. h; have_kept = λ i h. h; trusted_kept = λ x h. h; need_new = λ i h. inl h; have_new = λ i h. inl h; trusted_new = λ x h. inl h };
  covers = covers_none (IsTrueOf a) (MayDrop a answered least f) (MustDrop a answered) limit;
  reached = refl;
  left = inl (refl, refl, All-nil (IsOver a));
}

-- what accounts for a stretch still does when more is found
accounts_grow : (a : List Item) (f g : Findings) (l u : Item) (c : Claim) → ((i : Id) → Contains f.need i → Contains g.need i) → ((i : Id) → Contains f.have i → Contains g.have i)
    → ((x : Item × Item) → Contains f.trusted x → Contains g.trusted x) → AccountsFor a f l u c → AccountsFor a g l u c
accounts_grow a f g l u skip n h t acc = tt
accounts_grow a f g l u (print p) n h t acc = (acc.0, t (l, u) acc.1)
accounts_grow a f g l u (ids is) n h t acc = (λ i hi lacks. n i (acc.0 i hi lacks), λ i hi lacks. h i (acc.1 i hi lacks))

true_skip : (a : List Item) (s : Stretch) → IsSkip s → IsTrueOf a s
true_skip a s h = subst (λ (c : Claim). IsTrueOf a (record { lower = s.lower; upper = s.upper; claim = c })) (sym h) tt

found_more : (a : List Item) (answered : List Span) (lower : Item) (r : Span) (old now new : Findings) → Contains (stretches answered) (begun_at lower r) → Found a answered old now → Finds a lower r now new → Found a answered old new
found_more a answered lower r old now new h was one = record {
  need_kept = λ i k. one.need_kept i (was.need_kept i k);
  have_kept = λ i k. one.have_kept i (was.have_kept i k);
  trusted_kept = λ x k. one.trusted_kept x (was.trusted_kept x k);
  need_new = λ i k. elim (one.need_new i k) [ inl o ↦ was.need_new i o | inr s ↦ inr (begun_at lower r, s.0, h, s.1, s.2, s.3, s.4) ];
  have_new = λ i k. elim (one.have_new i k) [ inl o ↦ was.have_new i o | inr s ↦ inr (begun_at lower r, s.0, h, s.1, s.2, s.3, s.4) ];
  trusted_new = λ x k. elim (one.trusted_new x k) [
    | inl o ↦ was.trusted_new x o
    | inr s ↦ inr (begun_at lower r, s.2, record { print_of = s.0.0; claims = s.0.1; answers = h; has_keys = s.3; holds = s.1 })
  ];
}

-- what may be dropped may be once more was read
further : (a : List Item) (answered : List Span) (l u : Item) (f : Findings) (k : Item) → place l ≤ place u → MayDrop a answered l f k → MayDrop a answered u f k
further a answered l u f k le m = (m.0, m.1, m.2, (λ j key lies. omega (arith, m.3 j key lies, le)), m.4)

-- and once more was found
grown : (a : List Item) (answered : List Span) (l u : Item) (f g : Findings) (lower : Item) (r : Span) (d : Written) → place l ≤ place u → Finds a lower r f g
    → Covers (IsTrueOf a) (MayDrop a answered l f) (MustDrop a answered) d → Covers (IsTrueOf a) (MayDrop a answered u g) (MustDrop a answered) d
grown a answered l u f g lower r d le one c = record {
  told = c.told;
  may = λ k key lt out.
      let m = further a answered l u f k le (c.may k key lt out) in (m.0, m.1, m.2, m.3, accounts_grow a f g m.0.lower m.0.upper m.0.claim one.need_kept one.have_kept one.trusted_kept m.4);
  must = c.must;
}

-- findings of the same ids
pub same_read : (limit : ℕ) (a : List Item) (answered : List Span) (old f : Findings) (need have : List Id) (until : Item) (d : Written) → ((i : Id) → Contains need i ↔ Contains f.need i) → ((i : Id) → Contains have i ↔ Contains f.have i)
    → IsRead limit a answered old f until d → IsRead limit a answered old (record { need = need; have = have; trusted = f.trusted }) until d
same_read limit a answered old f need have until d n h r = record {
  ascends = r.ascends;
  bytes = r.bytes;
  found = record {
    need_kept = λ i k. (n i).1 (r.found.need_kept i k);
    have_kept = λ i k. (h i).1 (r.found.have_kept i k);
    trusted_kept = r.found.trusted_kept;
    need_new = λ i k. r.found.need_new i ((n i).0 k);
    have_new = λ i k. r.found.have_new i ((h i).0 k);
    trusted_new = r.found.trusted_new;
  };
  covers = record {
    told = r.covers.told;
    may = λ k key lt out.
        let m = r.covers.may k key lt out in
        (m.0, m.1, m.2, m.3, accounts_grow a f (record { need = need; have = have; trusted = f.trusted }) m.0.lower m.0.upper m.0.claim (λ i. (n i).1) (λ i. (h i).1) (λ x t. t) m.4);
    must = r.covers.must;
  };
  leaves = r.leaves;
}

-- what accounts for a stretch shows that it was answered
answered_of : (a : List Item) (f : Findings) (l u : Item) (c : Claim) → AccountsFor a f l u c → IsAnswered a (record { lower = l; upper = u; claim = c })
answered_of a f l u skip acc = inl (inl refl)
answered_of a f l u (print p) acc = inr (p, refl, acc.0)
answered_of a f l u (ids is) acc = inl (inr (is, refl))

-- a range among those of a message
closed_at : (lower : Item) (front : List Span) (r : Span) (back : List Span) → Contains (closed_from lower (front ++ (r ∷ back))) (begun_at (end_of lower front) r)
closed_at lower [] r back = contains_head (begun_at lower r) (closed_from r.upper back)
closed_at lower (f ∷ front) r back = contains_tail (begun_at lower f) (closed_from f.upper (front ++ (r ∷ back))) (begun_at (end_of f.upper front) r) (closed_at f.upper front r back)

none_left : {X : Type 0} → (xs ys : List X) → ((ys ≡ []) → ⊥) → (xs ++ ys ≡ []) → ⊥
none_left [] ys some e = some e
none_left (x ∷ xs) ys some e = cc

told_some : (a : List Item) (d : Written) (upper : Item) (new : Written) → Told a d upper new → (new.spans ≡ []) → ⊥
told_some a d upper new (inl w) e = none_left d.spans _ (none_left (gap (end_of least d.spans) d.end) w.spans w.tells.some) (sym (ap (λ (x : Written). x.spans) w.now) ∙ e)
told_some a d upper new (inr c) e = none_left d.spans _ (none_left (gap (end_of least d.spans) d.end) (c.front ++ all_left c.left) c.tells.some) (sym (ap (λ (x : Written). x.spans) c.now) ∙ e)

-- what is left once a range was passed over
passes_left : (a : List Item) (front : List Span) (r : Span) (back : List Span) (f : Findings) (d new : Written) → place d.end ≤ place r.upper
    → Remains a (front ++ (r ∷ back)) front d → settling.Accounts a (end_of least front) r f d new → Remains a (front ++ (r ∷ back)) (front ++ (r ∷ [])) new
passes_left a front r back f d new le (inl h) p = inl (
  ap (λ (w : Written). w.spans) p.now ∙ h.0,
  ap (λ (w : Written). place w.end) p.now ∙ passed_place d r.upper le ∙ ap place (sym (end-append least front (r ∷ []))),
  subst (λ (ss : List Stretch). All (IsOver a) ss) (sym (closed-append least front (r ∷ [])))
      (All-push (IsOver a) (closed_from least front) (begun_at (end_of least front) r) h.2 (λ keys. answered_of a f (end_of least front) r.upper r.claim (p.accounts (end_of least front) (omega arith, keys)))),
)
passes_left a front r back f d new le (inr h) p = inr ((λ e. h.0 (sym (ap (λ (w : Written). w.spans) p.now) ∙ e)), h.1)

-- nothing has keys beyond infinity
none_beyond : (lower : Item) (rs : List Span) → Ascends lower rs → All IsSpan rs → place infinity ≤ place lower → (s : Stretch) → Contains (closed_from lower rs) s → HasKeys s → ⊥
none_beyond lower [] up fits over s h keys = absurd (contains_none s h)
none_beyond lower (r ∷ rs) up fits over s h keys = elim (contains_cases (begun_at lower r) (closed_from r.upper rs) s h) [
  | inl e ↦ omega (arith, keys, over, edge_low r.upper (All-head IsSpan r rs fits).upper, ap (λ (x : Stretch). place x.lower) e, ap (λ (x : Stretch). place x.upper) e)
  | inr rest ↦ none_beyond r.upper rs up.2 (All-tail IsSpan r rs fits) (omega (arith, over, up.1)) s rest keys
]

-- one range of the reply more
pub progress_more : (limit : ℕ) (a : List Item) (front : List Span) (r : Span) (back : List Span) (old f g : Findings) (d new : Written)
    → Ascends least (front ++ (r ∷ back)) → IsDraft d
    → Progress limit a (front ++ (r ∷ back)) front old f d → Finds a (end_of least front) r f g → Settles a (end_of least front) r g d new
    → Stepped limit a (front ++ (r ∷ back)) (front ++ (r ∷ [])) r.upper old g new
progress_more limit a front r back old f g d new up draft was one (inl p) =
    let ahead : place (end_of least front) ≤ place r.upper = ascends_after least front r back up in
    let le : place d.end ≤ place r.upper = omega (arith, was.reached, ahead) in
    let here = stretch_of least front r back in
    let covers = covers_passes (IsTrueOf a) (MayDrop a (front ++ (r ∷ back)) r.upper g) (MustDrop a (front ++ (r ∷ back))) d r.upper draft le
    (grown a (front ++ (r ∷ back)) (end_of least front) r.upper f g (end_of least front) r d ahead one was.covers)
    (λ k key ge lt.
    let lies : Lies k (begun_at (end_of least front) r) = (omega (arith, was.reached, ge), lt) in
    (begun_at (end_of least front) r, here, lies, (λ j jkey jlies. jlies.1), p.accounts k lies)) in
    record {
      bytes = ap (λ (w : Written). w.limit) p.now ∙ was.bytes;
      found = found_more a (front ++ (r ∷ back)) (end_of least front) r old f g here was.found one;
      covers = subst (λ (n : Written). Covers (IsTrueOf a) (MayDrop a (front ++ (r ∷ back)) r.upper g) (MustDrop a (front ++ (r ∷ back))) n) (sym p.now) covers;
      reached = inl (ap (λ (w : Written). place w.end) p.now ∙ passed_place d r.upper le);
      left = passes_left a front r back g d new le was.left p;
    }
progress_more limit a front r back old f g d new up draft was one (inr t) =
    let ahead : place (end_of least front) ≤ place r.upper = ascends_after least front r back up in
    let le : place d.end ≤ place r.upper = omega (arith, was.reached, ahead) in
    let here = stretch_of least front r back in
    let now = grown a (front ++ (r ∷ back)) (end_of least front) r.upper f g (end_of least front) r d ahead one was.covers in
    let found = found_more a (front ++ (r ∷ back)) (end_of least front) r old f g here was.found one in
    told t.0 le found now
    (inr (told_some a d r.upper new t.0, (begun_at (end_of least front) r, closed_at least front r back, t.2, t.1)))
    (λ k key ge lt q. t.1 (subst (IsAnswered a) (one_stretch (front ++ (r ∷ back)) up k q.0 (begun_at (end_of least front) r) q.1 here q.2 (omega (arith, was.reached, ge), lt)) q.3))
  where
    told : Told a d r.upper new → place d.end ≤ place r.upper → Found a (front ++ (r ∷ back)) old g → Covers (IsTrueOf a) (MayDrop a (front ++ (r ∷ back)) r.upper g) (MustDrop a (front ++ (r ∷ back))) d
        → Remains a (front ++ (r ∷ back)) (front ++ (r ∷ [])) new
        → ((k : Item) → IsKey k → place d.end ≤ place k → place k < place r.upper → MustDrop a (front ++ (r ∷ back)) k → ⊥) → Stepped limit a (front ++ (r ∷ back)) (front ++ (r ∷ [])) r.upper old g new
    told (inl w) le found now left none = record {
      bytes = ap (λ (x : Written). x.limit) w.now ∙ was.bytes;
      found = found;
      covers = covers_whole (MayDrop a (front ++ (r ∷ back)) r.upper g) (MustDrop a (front ++ (r ∷ back))) a d new r.upper draft le w now (true_skip a) none;
      reached = inl (ap (λ (x : Written). place x.end) w.now);
      left = left;
    }
    told (inr c) le found now left none = record {
      bytes = ap (λ (x : Written). x.limit) c.now ∙ was.bytes;
      found = found;
      covers = covers_cut (MayDrop a (front ++ (r ∷ back)) r.upper g) (MustDrop a (front ++ (r ∷ back))) a d new r.upper draft c now (true_skip a) none;
      reached = inr (omega (arith, ap (λ (x : Written). place x.end) c.now));
      left = left;
    }

-- where keys are left, the next range follows
pub step_on : (limit : ℕ) (a : List Item) (answered front : List Span) (r : Span) (old f : Findings) (d : Written) → Stepped limit a answered (front ++ (r ∷ [])) r.upper old f d → (place infinity ≤ place d.end → ⊥) → Progress limit a answered (front ++ (r ∷ [])) old f d
step_on limit a answered front r old f d s fin =
    let e : end_of least (front ++ (r ∷ [])) ≡ r.upper = end-append least front (r ∷ []) in
    record {
      bytes = s.bytes;
      found = s.found;
      covers = subst (λ (x : Item). Covers (IsTrueOf a) (MayDrop a answered x f) (MustDrop a answered) d) (sym e) s.covers;
      reached = elim s.reached [ inl here ↦ here ∙ ap place (sym e) | inr over ↦ absurd (fin over) ];
      left = s.left;
    }

-- a draft that has come to infinity goes no further
stays : (d : Written) → place infinity ≤ place d.end → d ≡ passed d infinity
stays d le = ap (λ (b : Bool). record { limit = d.limit; spans = d.spans; end = cond b infinity d.end }) (sym (le-ltb (place d.end) (place infinity) le))

-- the reply was read up to where the next ask came to its end
pub read_until : (limit : ℕ) (a : List Item) (front back : List Span) (until : Item) (old f : Findings) (d : Written) → Ascends least (front ++ back) → All IsSpan (front ++ back) → Stepped limit a (front ++ back) front until old f d
    → place infinity ≤ place d.end → IsRead limit a (front ++ back) old f until d
read_until limit a front back until old f d up fits s over = record {
  ascends = up;
  bytes = s.bytes;
  found = s.found;
  covers = subst (λ (w : Written). Covers (IsTrueOf a) (MayDrop a (front ++ back) until f) (MustDrop a (front ++ back)) w) (stays d over) s.covers;
  leaves = elim s.left [
    | inl h ↦ inl (
      h.0,
      λ o. elim (Contains-append_cases (closed_from least front) (closed_from (end_of least front) back) o.0 (subst (λ (ss : List Stretch). Contains ss o.0) (closed-append least front back) o.1)) [
        | inl was ↦ o.3 (All-contains (IsOver a) (closed_from least front) o.0 h.2 was o.2)
        | inr behind ↦ none_beyond (end_of least front) back (ascends_back least front back up) (all_back IsSpan front back fits) (omega (arith, over, h.1)) o.0 behind o.2
      ],
    )
    | inr h ↦ inr h
  ];
}
  where
    ascends_back : (lower : Item) (xs ys : List Span) → Ascends lower (xs ++ ys) → Ascends (end_of lower xs) ys
    ascends_back lower [] ys h = h
    ascends_back lower (x ∷ xs) ys h = ascends_back x.upper xs ys h.2

    all_back : (P : Span → Type 0) (xs ys : List Span) → All P (xs ++ ys) → All P ys
    all_back P [] ys h = h
    all_back P (x ∷ xs) ys h = all_back P xs ys (All-tail P x (xs ++ ys) h)

-- or to its end
pub read_whole : (limit : ℕ) (a : List Item) (answered : List Span) (old f : Findings) (d : Written) → Ascends least answered → IsDraft d → Progress limit a answered answered old f d → IsRead limit a answered old f infinity d
read_whole limit a answered old f d up draft was =
    let now : Covers (IsTrueOf a) (MayDrop a answered infinity f) (MustDrop a answered) d = record {
      told = was.covers.told;
      may = λ k key lt out. further a answered (end_of least answered) infinity f k (omega (arith, was.reached, draft.low)) (was.covers.may k key lt out);
      must = was.covers.must;
    } in
    record {
      ascends = up;
      bytes = was.bytes;
      found = was.found;
      covers = covers_passes (IsTrueOf a) (MayDrop a answered infinity f) (MustDrop a answered) d infinity draft draft.low now
          (λ k key ge lt.
          let s = beyond least answered k key (omega (arith, was.reached, ge)) in (
            s.0,
            s.1,
            s.3,
            (λ j jkey jlies. key_below j jkey),
            subst (λ (c : Claim). AccountsFor a f s.0.lower s.0.upper c) (sym s.2) tt,
          ));
      leaves = elim was.left [
        | inl h ↦ inl (h.0, λ o. o.3 (All-contains (IsOver a) (closed_from least answered) o.0 h.2 o.1 o.2))
        | inr h ↦ inr h
      ];
    }

-- what is owed to a stretch that was read, with what the Skips owe to the last ask
accounts_at : (a : List Item) (asked answered : List Span) (until : Item) (mid new : Findings) (s : Stretch) (c : Claim) → s.claim ≡ c → TrustsSkipped asked answered until (stretches asked) mid.trusted new.trusted
    → new.need ≡ mid.need → new.have ≡ mid.have → Contains (stretches answered) s → IsBelow until s → AccountsFor a mid s.lower s.upper c → Accounts a asked new.trusted new.need new.have s.lower s.upper c
accounts_at a asked answered until mid new s skip e t n h has low acc = λ u p hu m is.
    t.whole u p hu is (s, has, e, (m.0, m.1, m.2, (m.3.0, earlier_above until u.upper m.0 (low m.0 m.1 m.2) m.3.1)))
accounts_at a asked answered until mid new s (print p) e t n h has low acc = (acc.0, t.kept (s.lower, s.upper) acc.1)
accounts_at a asked answered until mid new s (ids is) e t n h has low acc = (
  λ i hi lacks. subst (λ (xs : List Id). Contains xs i) (sym n) (acc.0 i hi lacks),
  λ i hi lacks. subst (λ (xs : List Id). Contains xs i) (sym h) (acc.1 i hi lacks),
)

-- What the next ask is, once the reply was read.
pub record Walked (limit : ℕ) (a : List Item) (asked answered next : List Span) (f : Findings) : Type 0 where
  pub truth : All (IsTrueOf a) (stretches next)
  pub accounted : Accounted a asked answered next f.trusted f.need f.have
  pub not_again : NotAskedAgain limit (length (text_of next)) a answered next

pub walked : (limit : ℕ) (a : List Item) (asked answered : List Span) (until : Item) (old mid new : Findings) (d : Written) → IsDraft d → IsRead limit a answered old mid until d
    → TrustsSkipped asked answered until (stretches asked) mid.trusted new.trusted → new.need ≡ mid.need → new.have ≡ mid.have → Walked limit a asked answered d.spans new
walked limit a asked answered until old mid new d draft was trusts n h =
    let end = passed_place d infinity draft.low in
    record {
      truth = told_whole (IsTrueOf a) d.spans (true_skip a) was.covers.told;
      accounted = record {
        each = λ k key skipped.
            let s = some_stretch d.spans k key in
            let m = was.covers.may k key (omega (arith, end, key_below k key)) (skipped_left_out d.spans k s.0 s.1 (skipped s.0 s.1 s.2) s.2) in
            (m.0, m.1, m.2, accounts_at a asked answered until mid new m.0 m.0.claim refl trusts n h m.1 m.3 m.4);
      };
      not_again = λ s k has answers key lies. elim (was.covers.must k key (omega (arith, end, key_below k key)) (s, has, lies, answers)) [
        | inl out ↦ inl (left_out_skipped d.spans k key out)
        | inr cut ↦ inr (record { front = cut.front; left = cut.left; ends = cut.ends; has = cut.has; full = omega (arith, cut.full, was.bytes) })
      ];
    }
