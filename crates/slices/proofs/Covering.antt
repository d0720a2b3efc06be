-- One more slice behind those that are gone over.
use Rattle.std.proofs.Common.{◌≡◌, ◌+◌, ◌-◌, ◌*◌, ◌/◌, ◌^◌, ◌<◌, ◌≤◌, min, max, ◌++◌, [], ◌∷◌, ◌∙◌, ℕ, List, Option, Some, None, IfSome, All, Bool, true, false, cond, ◌&&◌, ◌⊎◌, inl, inr, ⊎_elim, refl, sym, ap, subst, arith, count_by, nat_le}
use Rattle.std.specs.List.{sum_by}
use Rattle.std.proofs.lemmas.Bool.{cases_lt}
use Rattle.std.proofs.lemmas.Bool.Decides.{nat_tests, leb_tells}
use Rattle.std.proofs.lemmas.List.Sums.{sum_by-cons, sum_by_push}
use Rattle.std.proofs.lemmas.List.Elements.{All-nil, All-cons, All-head, All-tail, All-push, All-weaker, All-same}
use Rattle.slices.specs.declared.times.Slice.{Slice}
use Rattle.slices.specs.declared.times.Ending.{Ending}
use Rattle.slices.specs.Course.{Gone, holds, held_in, Descend, AreGoneOver, Course, UnderWay, Stands, capped, was_taken, was_given_up, is_taken, is_given_up, begun, cut_of, slice_behind, ended, work_left}

-- ---- which times a slice holds

held : (t : ℕ) (s : Slice) → s.since ≤ t → t ≤ s.until → holds t s ≡ true
held t s from to = grind (arith, nat_tests)

not_before : (t : ℕ) (s : Slice) → t < s.since → holds t s ≡ false
not_before t s lt = grind (arith, nat_tests)

not_behind : (t : ℕ) (s : Slice) → s.until < t → holds t s ≡ false
not_behind t s lt = grind (arith, nat_tests)

-- an earlier time lies in none
none_held : (gone : Gone) (t : ℕ) → All (λ g. t < g.0.since) gone → held_in gone t ≡ 0
none_held [] t later = refl
none_held (g ∷ gone) t later =
    let first : holds t g.0 ≡ false = not_before t g.0 (All-head (λ (h : Slice × Ending). t < h.0.since) g gone later) in
    let rest : held_in gone t ≡ 0 = none_held gone t (All-tail (λ (h : Slice × Ending). t < h.0.since) g gone later) in
    sum_by-cons (λ (h : Slice × Ending). cond (holds t h.0) 1 0) g gone ∙ ap (λ b. cond b 1 0 + held_in gone t) first ∙ ap (λ n. 0 + n) rest

held_push : (gone : Gone) (s : Slice) (how : Ending) (t : ℕ) → held_in (gone ++ (s, how) ∷ []) t ≡ held_in gone t + cond (holds t s) 1 0
held_push gone s how t = sum_by_push (λ (h : Slice × Ending). cond (holds t h.0) 1 0) gone (s, how)

-- ---- in order

descend_push : (gone : Gone) (g : Slice × Ending) → Descend gone → All (λ h. g.0.until < h.0.since) gone → Descend (gone ++ g ∷ [])
descend_push [] g down later = (All-nil (λ (h : Slice × Ending). h.0.until < g.0.since), tt)
descend_push (f ∷ gone) g down later = (
  All-push (λ (h : Slice × Ending). h.0.until < f.0.since) gone g down.0 (All-head (λ (h : Slice × Ending). g.0.until < h.0.since) f gone later),
  descend_push gone g down.1 (All-tail (λ (h : Slice × Ending). g.0.until < h.0.since) f gone later),
)

-- ---- one more slice

pub gone_more : (until : ℕ) (gone : Gone) (s : Slice) (how : Ending) → s.since ≤ s.until → s.until ≤ until
    → AreGoneOver (s.until + 1) until gone → AreGoneOver s.since until (gone ++ (s, how) ∷ [])
gone_more until gone s how some within over =
    let later : All (λ (h : Slice × Ending). s.until < h.0.since) gone =
    All-weaker (λ (h : Slice × Ending). (s.until + 1 ≤ h.0.since) × (h.0.since ≤ h.0.until) × (h.0.until ≤ until)) (λ (h : Slice × Ending). s.until < h.0.since) (λ h w. let e : s.until + 1 ≤ h.0.since = w.0 in omega arith) gone over.within in
    record {
      once = λ t from to. held_push gone s how t ∙ ⊎_elim
          (λ (behind : s.until < t). let e : held_in gone t ≡ 1 = over.once t (omega arith) to in let n : holds t s ≡ false = not_behind t s behind in ap (λ b. held_in gone t + cond b 1 0) n ∙ ap (λ k. k + 0) e)
          (λ (here : t ≤ s.until).
          let earlier : All (λ (h : Slice × Ending). t < h.0.since) gone = All-weaker (λ (h : Slice × Ending). s.until < h.0.since) (λ (h : Slice × Ending). t < h.0.since) (λ h lt. omega arith) gone later in
          let e : held_in gone t ≡ 0 = none_held gone t earlier in
          let y : holds t s ≡ true = held t s from here in
          ap (λ b. held_in gone t + cond b 1 0) y ∙ ap (λ k. k + 1) e)
          (cases_lt s.until t);
      within = All-push (λ (g : Slice × Ending). (s.since ≤ g.0.since) × (g.0.since ≤ g.0.until) × (g.0.until ≤ until)) gone (s, how)
          (All-weaker (λ (h : Slice × Ending). (s.until + 1 ≤ h.0.since) × (h.0.since ≤ h.0.until) × (h.0.until ≤ until)) (λ (h : Slice × Ending). (s.since ≤ h.0.since) × (h.0.since ≤ h.0.until) × (h.0.until ≤ until))
          (λ h w. let e : s.until + 1 ≤ h.0.since = w.0 in (omega arith, w.1, w.2)) gone over.within)
          (omega arith, some, within);
      ordered = descend_push gone (s, how) over.ordered later;
    }

-- nothing is gone over
pub none_gone : (since until : ℕ) → until < since → AreGoneOver since until []
none_gone since until none = record {
  once = λ t from to. absurd (omega arith);
  within = All-nil (λ (g : Slice × Ending). (since ≤ g.0.since) × (g.0.since ≤ g.0.until) × (g.0.until ≤ until));
  ordered = tt;
}

-- ---- where it stands

pub begun_stands : (since until : ℕ) → until < 2 ^ 64 → Stands (begun since until) 0 0
begun_stands since until fits = ⊎_elim
    (λ (some : (nat_le since until ≡ true) × (since ≤ until)). let le : since ≤ until = some.1 in rw some.0 (record {
      under_way = record { gone = none_gone (until + 1) until (omega arith); next = (omega arith, le, omega arith); bound = omega arith; fits = fits };
      taken = refl;
      given_up = refl;
    }))
    (λ (none : (nat_le since until ≡ false) × (until < since)). rw none.0 (record {
      under_way = record { gone = none_gone since until none.1; next = tt; bound = omega arith; fits = fits };
      taken = refl;
      given_up = refl;
    }))
    (leb_tells since until)

-- the slice behind one is a slice of the times, and nothing lies between the two
behind_is : (c : Course) (s : Slice) (gone : Gone) → c.since ≤ s.since → s.since ≤ s.until → s.until ≤ c.until → c.since ≤ c.bound → c.until < 2 ^ 64
    → AreGoneOver s.since c.until gone → UnderWay (record c { next = slice_behind c.since c.bound s; gone = gone })
behind_is c s gone from some to bound fits over = ⊎_elim
    (λ (last : (nat_le s.since c.since ≡ true) × (s.since ≤ c.since)).
    let e : s.since ≡ c.since = let le : s.since ≤ c.since = last.1 in omega arith in
    rw last.0 (record { gone = subst (λ k. AreGoneOver k c.until gone) e over; next = tt; bound = bound; fits = fits }))
    (λ (more : (nat_le s.since c.since ≡ false) × (c.since < s.since)).
    let lt : c.since < s.since = more.1 in
    let e : s.since ≡ s.since - 1 + 1 = omega arith in
    rw more.0 (record {
      gone = subst (λ k. AreGoneOver k c.until gone) e over;
      next = ⊎_elim
          (λ (near : (nat_le c.bound (s.since - 1) ≡ true) × (c.bound ≤ s.since - 1)). let le : c.bound ≤ s.since - 1 = near.1 in rw near.0 (omega arith, omega arith, omega arith))
          (λ (far : (nat_le c.bound (s.since - 1) ≡ false) × (s.since - 1 < c.bound)). rw far.0 (omega arith, omega arith, omega arith))
          (leb_tells c.bound (s.since - 1));
      bound = bound;
      fits = fits;
    }))
    (leb_tells s.since c.since)

count_more : (gone : Gone) (g : Slice × Ending) (p : Slice × Ending → Bool) (n k : ℕ) → n ≡ capped (count_by p gone) → k ≡ min (n + cond (p g) 1 0) (2 ^ 64 - 1)
    → k ≡ capped (count_by p (gone ++ g ∷ []))
count_more gone g p n k before one =
    let e : count_by p (gone ++ g ∷ []) ≡ count_by p gone + cond (p g) 1 0 = sum_by_push (λ (h : Slice × Ending). cond (p h) 1 0) gone g in
    omega (arith, e)

pub ended_stands : (how : Ending) (c : Course) (s : Slice) (taken given_up taken' given_up' : ℕ) → c.next ≡ Some s → Stands c taken given_up
    → taken' ≡ min (taken + cond (was_taken how) 1 0) (2 ^ 64 - 1) → given_up' ≡ min (given_up + cond (was_given_up how) 1 0) (2 ^ 64 - 1)
    → Stands (record c { next = slice_behind c.since c.bound s; gone = c.gone ++ (s, how) ∷ [] }) taken' given_up'
ended_stands how c s taken given_up taken' given_up' is stands more_taken more_given_up =
    let way : UnderWay (record c { next = Some s }) = subst (λ (o : Option Slice). UnderWay (record c { next = o })) is stands.under_way in
    let at : (c.since ≤ s.since) × (s.since ≤ s.until) × (s.until ≤ c.until) = way.next in
    record {
      under_way = behind_is c s (c.gone ++ (s, how) ∷ []) at.0 at.1 at.2 way.bound way.fits (gone_more c.until c.gone s how at.1 at.2 way.gone);
      taken = count_more c.gone (s, how) is_taken taken taken' stands.taken more_taken;
      given_up = count_more c.gone (s, how) is_given_up given_up given_up' stands.given_up more_given_up;
    }

-- the newer part of a slice is to take
pub halved_stands : (c : Course) (s : Slice) (at taken given_up : ℕ) → c.next ≡ Some s → s.since ≤ at → at < s.until → Stands c taken given_up
    → Stands (record c { next = Some (record { since = at + 1; until = s.until }); bound = s.since }) taken given_up
halved_stands c s at taken given_up is older newer stands =
    let way : UnderWay (record c { next = Some s }) = subst (λ (o : Option Slice). UnderWay (record c { next = o })) is stands.under_way in
    let within : (c.since ≤ s.since) × (s.since ≤ s.until) × (s.until ≤ c.until) = way.next in
    record {
      under_way = record { gone = way.gone; next = (omega (arith, within.0), omega arith, within.2); bound = within.0; fits = way.fits };
      taken = stands.taken;
      given_up = stands.given_up;
    }

-- ---- what is left falls

pub less_behind : (c : Course) (s : Slice) (how : Ending) → c.next ≡ Some s → UnderWay c → work_left (record c { next = slice_behind c.since c.bound s; gone = c.gone ++ (s, how) ∷ [] }) < work_left c
less_behind c s how is under_way =
    let way : UnderWay (record c { next = Some s }) = subst (λ (o : Option Slice). UnderWay (record c { next = o })) is under_way in
    let at : (c.since ≤ s.since) × (s.since ≤ s.until) × (s.until ≤ c.until) = way.next in
    let fits : c.until < 2 ^ 64 = way.fits in
    rw is (⊎_elim
    (λ (last : (nat_le s.since c.since ≡ true) × (s.since ≤ c.since)). rw last.0 (omega arith))
    (λ (more : (nat_le s.since c.since ≡ false) × (c.since < s.since)). let lt : c.since < s.since = more.1 in rw more.0 (omega arith))
    (leb_tells s.since c.since))

-- of one that is halved at a time
pub less_halved : (c : Course) (s : Slice) (at : ℕ) → c.next ≡ Some s → s.since ≤ at → at < s.until
    → work_left (record c { next = Some (record { since = at + 1; until = s.until }); bound = s.since }) < work_left c
less_halved c s at is older newer = rw is (omega arith)
