-- One more event in a history.
use Rattle.std.proofs.Common.{◌≡◌, ℕ, zero, suc, ◌+◌, ◌-◌, Bool, true, false, cond, ◌&&◌, ◌||◌, List, [], ◌∷◌, ◌++◌, length, map, take, refl, sym, ap, ◌∙◌, subst, arith, inl, inr, Option, Some, None, append_assoc, append-nil}
use Rattle.std.specs.Prelude.{unwrap_or, slice_get}
use Rattle.std.specs.List.{filter, list_any, last_or}
use Rattle.std.proofs.lemmas.List.{map-append, length-append}
use Rattle.std.proofs.lemmas.List.Elements.{filter-append}
use Rattle.std.proofs.lemmas.List.Sums.{sum_by-append}
use Rattle.std.proofs.lemmas.List.Folds.{list_any-append}
use Rattle.std.proofs.lemmas.Grind.{flat_map-append}
use Rattle.std.proofs.Math.Seq.{take-append_seam}
use Rattle.std.proofs.lemmas.Bool.{cases_Bool}
use Rattle.item_key.specs.declared.Id.{Id}
use Rattle.fetch_plan.specs.Plan.{Planned}
use Rattle.fetch_plan.specs.declared.cell.Cell.{Cell}
use Rattle.fetch_plan.specs.declared.cell.Cell.TheVariants.{Free}
use Rattle.round_core.specs.declared.events.RoundEvent.{RoundEvent}
use Rattle.round_core.specs.declared.events.Answer.{Answer}
use Rattle.round_core.specs.History.{History, seals, is_sealed, sealings, gives_of, gives_so_far, gives_before, changes, left_cell, cell_after, is_of, is_won, holds, finishes, has_finished, misses, has_missed, places, is_placed, reports, has_reported, wants_in, wants}
use Rattle.round_core.specs.Legal.{Right, legal_after}

pub or_false : (b : Bool) → (b || false) ≡ b
or_false true = refl
or_false false = refl

pub and_false : (b : Bool) → (b && false) ≡ false
and_false true = refl
and_false false = refl

-- ---- a test of some event
pub any_push : (p : RoundEvent × Answer → Bool) (h : History) (x : RoundEvent × Answer) → list_any p (h ++ x ∷ []) ≡ (list_any p h || p x)
any_push p h x = list_any-append p h (x ∷ []) ∙ ap (λ b. list_any p h || b) (or_false (p x))

pub sealed_push : (h : History) (e : RoundEvent) (a : Answer) → is_sealed (h ++ (e, a) ∷ []) ≡ (is_sealed h || seals a)
sealed_push h e a = any_push (λ x. seals x.1) h (e, a)

pub placed_push : (h : History) (e : RoundEvent) (a : Answer) (id : Id) → is_placed (h ++ (e, a) ∷ []) id ≡ (is_placed h id || places id e)
placed_push h e a id = any_push (λ x. places id x.0) h (e, a)

pub wants_push : (h : History) (e : RoundEvent) (a : Answer) (r : ℕ) (i : Id) → wants (h ++ (e, a) ∷ []) r i ≡ (wants h r i || wants_in r i e a)
wants_push h e a r i = any_push (λ x. wants_in r i x.0 x.1) h (e, a)

pub reported_push : (h : History) (e : RoundEvent) (a : Answer) (r : ℕ) → has_reported (h ++ (e, a) ∷ []) r ≡ (has_reported h r || reports r e a)
reported_push h e a r = any_push (λ x. reports r x.0 x.1) h (e, a)

pub finished_push : (h : History) (e : RoundEvent) (a : Answer) (i : ℕ) → has_finished (h ++ (e, a) ∷ []) i ≡ (has_finished h i || finishes i e a)
finished_push h e a i = any_push (λ x. finishes i x.0 x.1) h (e, a)

pub missed_push : (h : History) (e : RoundEvent) (a : Answer) (i : ℕ) → has_missed (h ++ (e, a) ∷ []) i ≡ (has_missed h i || misses i e a)
missed_push h e a i = any_push (λ x. misses i x.0 x.1) h (e, a)

pub sealings_push : (h : History) (e : RoundEvent) (a : Answer) → sealings (h ++ (e, a) ∷ []) ≡ sealings h + cond (seals a) 1 0
sealings_push h e a = omega (arith, sum_by-append (λ (x : RoundEvent × Answer). cond (seals x.1) 1 0) h ((e, a) ∷ []))

-- ---- the last event that passes
last_push : {A : Type 0} (o : Option A) (xs : List A) (x : A) → last_or o (xs ++ x ∷ []) ≡ Some x
last_push o [] x = refl
last_push o (y ∷ ys) x = last_push (Some y) ys x

last_passing : {A B : Type 0} (p : A → Bool) (f : A → B) (d : B) (xs : List A) (x : A) → unwrap_or (last_or None (map f (filter p (xs ++ x ∷ [])))) d ≡ cond (p x) (f x) (unwrap_or (last_or None (map f (filter p xs))) d)
last_passing {A} {B} p f d xs x =
    let parts : map f (filter p (xs ++ x ∷ [])) ≡ map f (filter p xs) ++ map f (cond (p x) (x ∷ []) []) = ap (map f) (filter-append p xs (x ∷ [])) ∙ map-append f (filter p xs) (cond (p x) (x ∷ []) []) in
    let last : List B → B = λ ys. unwrap_or (last_or None ys) d in
    ap last parts ∙ elim (cases_Bool (p x)) [
      | inl t ↦ ap (λ b. last (map f (filter p xs) ++ map f (cond b (x ∷ []) []))) t ∙ ap (λ o. unwrap_or o d) (last_push None (map f (filter p xs)) (f x)) ∙ sym (ap (λ b. cond b (f x) (last (map f (filter p xs)))) t)
      | inr t ↦ ap (λ b. last (map f (filter p xs) ++ map f (cond b (x ∷ []) []))) t ∙ ap last (append-nil (map f (filter p xs))) ∙ sym (ap (λ b. cond b (f x) (last (map f (filter p xs)))) t)
    ]

-- cell i after one more answer
abbrev pub cell_then : ℕ → Cell → RoundEvent → Answer → Cell
cell_then i c e a = cond (changes i e a) (left_cell e a) c

pub cell_push : (h : History) (e : RoundEvent) (a : Answer) (i : ℕ) → cell_after (h ++ (e, a) ∷ []) i ≡ cell_then i (cell_after h i) e a
cell_push h e a i = last_passing (λ (x : RoundEvent × Answer). changes i x.0 x.1) (λ x. left_cell x.0 x.1) Free h (e, a)

-- whether w holds cell i after one more answer
abbrev pub holds_after : ℕ → ℕ → Bool → RoundEvent → Answer → Bool
holds_after w i b e a = cond (is_of w e && changes i e a) (is_won a) b

pub holds_push : (h : History) (e : RoundEvent) (a : Answer) (w i : ℕ) → holds (h ++ (e, a) ∷ []) w i ≡ holds_after w i (holds h w i) e a
holds_push h e a w i = last_passing (λ (x : RoundEvent × Answer). is_of w x.0 && changes i x.0 x.1) (λ x. is_won x.1) false h (e, a)

-- ---- plans
pub so_far : (plans later : List Planned) (h : History) → sealings h ≡ length plans → gives_so_far (plans ++ later) h ≡ gives_of plans
so_far plans later h e = ap (λ n. gives_of (take n (plans ++ later))) e ∙ ap gives_of (take-append_seam plans later)

pub before_last : (plans later : List Planned) (h : History) → sealings h ≡ length plans + 1 → gives_before (plans ++ later) h ≡ gives_of plans
before_last plans later h e =
    let n : sealings h - 1 ≡ length plans = omega (arith, e) in
    ap (λ n. gives_of (take n (plans ++ later))) n ∙ ap gives_of (take-append_seam plans later)

take_none : {X : Type 0} (i : ℕ) → take {A = X} i [] ≡ []
take_none zero = refl
take_none (suc i) = refl

pub before_none : (h : History) → gives_before [] h ≡ []
before_none h = ap gives_of (take_none (sealings h - 1))

pub gives_push : (plans : List Planned) (p : Planned) → gives_of (plans ++ p ∷ []) ≡ gives_of plans ++ p.gives
gives_push plans p = flat_map-append (λ (q : Planned). q.gives) plans (p ∷ []) ∙ ap (λ gs. gives_of plans ++ gs) (append-nil p.gives)

pub plans_push : (plans : List Planned) (p : Planned) → length (plans ++ p ∷ []) ≡ length plans + 1
plans_push plans p = length-append plans (p ∷ [])

pub get_seam : (plans later : List Planned) (p : Planned) → slice_get (plans ++ p ∷ later) (length plans) ≡ Some p
get_seam [] later p = refl
get_seam (q ∷ qs) later p = get_seam qs later p

-- ---- legal histories
pub legal_push : (lanes : List ℕ) (plans : List Planned) (before h : History) (e : RoundEvent) (a : Answer) → legal_after lanes plans before h → Right lanes plans (before ++ h) e a → legal_after lanes plans before (h ++ (e, a) ∷ [])
legal_push lanes plans before [] e a l right = (subst (λ b. Right lanes plans b e a) (append-nil before) right, tt)
legal_push lanes plans before (x ∷ h) e a l right = (l.0, legal_push lanes plans (before ++ x ∷ []) h e a l.1 (subst (λ b. Right lanes plans b e a) (sym (append_assoc before (x ∷ []) h)) right))

by_push_on : (P : History → Type 0) → ((h : History) (e : RoundEvent) (a : Answer) → P h → P (h ++ (e, a) ∷ [])) → (before h : History) → P before → P (before ++ h)
by_push_on P more before [] p = subst P (sym (append-nil before)) p
by_push_on P more before (x ∷ h) p = subst P (append_assoc before (x ∷ []) h) (by_push_on P more (before ++ x ∷ []) h (more before x.0 x.1 p))

-- what each event keeps is so of each history
pub by_push : (P : History → Type 0) → P [] → ((h : History) (e : RoundEvent) (a : Answer) → P h → P (h ++ (e, a) ∷ [])) → (h : History) → P h
by_push P none more h = by_push_on P more [] h none

by_right_on : (lanes : List ℕ) (plans : List Planned) (P : History → Type 0) → ((h : History) (e : RoundEvent) (a : Answer) → Right lanes plans h e a → P h → P (h ++ (e, a) ∷ [])) → (before h : History) → legal_after lanes plans before h → P before → P (before ++ h)
by_right_on lanes plans P more before [] l p = subst P (sym (append-nil before)) p
by_right_on lanes plans P more before (x ∷ h) l p = subst P (append_assoc before (x ∷ []) h) (by_right_on lanes plans P more (before ++ x ∷ []) h l.1 (more before x.0 x.1 l.0 p))

-- what each right answer keeps is so of each legal history
pub by_right : (lanes : List ℕ) (plans : List Planned) (P : History → Type 0) → P [] → ((h : History) (e : RoundEvent) (a : Answer) → Right lanes plans h e a → P h → P (h ++ (e, a) ∷ [])) → (h : History) → legal_after lanes plans [] h → P h
by_right lanes plans P none more h l = by_right_on lanes plans P more [] h l none
