-- What a cell is after a legal history.
use Rattle.std.proofs.Common.{◌≡◌, ◌≢◌, ℕ, Bool, true, false, cond, ◌&&◌, ◌||◌, ◌⊎◌, List, [], ◌∷◌, ◌++◌, refl, sym, ap, ◌∙◌, inl, inr, Option, Some, None}
use Rattle.std.specs.List.{list_any}
use Rattle.std.proofs.lemmas.Bool.{false≢true, cases_Bool, eqb-true, eq-eqb, or_left, or_right}
use Rattle.fetch_plan.specs.Plan.{Planned}
use Rattle.fetch_plan.specs.declared.cell.Cell.{Cell}
use Rattle.fetch_plan.specs.declared.cell.Cell.TheVariants.{Free, Held, Done, Missed}
use Rattle.round_core.specs.declared.events.Refusal.{Refusal}
use Rattle.round_core.specs.declared.events.Refusal.TheVariants as why
use Rattle.round_core.specs.declared.events.RoundEvent.{RoundEvent}
use Rattle.round_core.specs.declared.events.RoundEvent.TheVariants.{Claim, Finish, Miss, Release}
use Rattle.round_core.specs.declared.events.Answer.{Answer}
use Rattle.round_core.specs.declared.events.Answer.TheVariants.{Won, Finished, MissedIt, Released, Refused}
use Rattle.round_core.specs.History.{History, changes, left_cell, cell_after, is_of, is_won, holds, finishes, has_finished, misses, has_missed}
use Rattle.round_core.specs.Legal.{barred_after, or_refused, claim_answer, is_held_by, Right, legal_after}
use Rattle.round_core.proofs.Histories.{or_false, and_false, any_push, cell_then, cell_push, holds_after, holds_push, by_push, by_right}

pub held_if : (o : Option Refusal) (b : Bool) (x a : Answer) → a ≡ or_refused o (cond b x (Refused why.NotHeld)) → ((r : Refusal) → a ≢ Refused r) → b ≡ true
held_if None true x a e never = refl
held_if None false x a e never = absurd (never why.NotHeld e)
held_if (Some r) b x a e never = absurd (never r e)

free_if : (o : Option Refusal) (c : Cell) → Won ≡ or_refused o (claim_answer c) → c ≡ Free
free_if None Free e = refl
free_if None (Held w) e = absurd (cc)
free_if None Done e = absurd (cc)
free_if None Missed e = absurd (cc)
free_if (Some r) c e = absurd (cc)

pub holder_is : (c : Cell) (v : ℕ) → is_held_by c v ≡ true → c ≡ Held v
holder_is Free v h = absurd (false≢true h)
holder_is (Held u) v h = ap Held (eqb-true u v h)
holder_is Done v h = absurd (false≢true h)
holder_is Missed v h = absurd (false≢true h)

-- where a right answer changes a cell, the cell was free and is won, or was held by the lane that ends its holding
abbrev Before : RoundEvent → Answer → Cell → Type 0
Before e a c = ((c ≡ Free) × (is_won a ≡ true)) ⊎ ((w : ℕ) × (c ≡ Held w) × (is_of w e ≡ true) × (is_won a ≡ false))

-- a beginning of what is legal is legal
pub legal_front : (lanes : List ℕ) (plans : List Planned) (before h more : History) → legal_after lanes plans before (h ++ more) → legal_after lanes plans before h
legal_front lanes plans before [] more l = tt
legal_front lanes plans before (x ∷ h) more l = (l.0, legal_front lanes plans (before ++ x ∷ []) h more l.1)

module _ (lanes : List ℕ) (plans : List Planned) where
  ends : (h : History) (v j i : ℕ) (e : RoundEvent) (a x : Answer) → j ≡ i → is_of v e ≡ true → is_won a ≡ false → a ≡ or_refused (barred_after lanes plans h v j) (cond (is_held_by (cell_after h j) v) x (Refused why.NotHeld)) → ((r : Refusal) → a ≢ Refused r) → Before e a (cell_after h i)
  ends h v j i e a x same of won right never = inr (v, ap (cell_after h) (sym same) ∙ holder_is (cell_after h j) v (held_if (barred_after lanes plans h v j) (is_held_by (cell_after h j) v) x a right never), of, won)

  changed : (h : History) (i : ℕ) (e : RoundEvent) (a : Answer) → Right lanes plans h e a → changes i e a ≡ true → Before e a (cell_after h i)
  changed h i (Claim v j) Won right t = inl (ap (cell_after h) (sym (eqb-true j i t)) ∙ free_if (barred_after lanes plans h v j) (cell_after h j) right, refl)
  changed h i (Finish v j) Finished right t = ends h v j i (Finish v j) Finished _ (eqb-true j i t) (eq-eqb v v refl) refl right (λ r e. cc)
  changed h i (Miss v j) MissedIt right t = ends h v j i (Miss v j) MissedIt MissedIt (eqb-true j i t) (eq-eqb v v refl) refl right (λ r e. cc)
  changed h i (Release v j) Released right t = ends h v j i (Release v j) Released Released (eqb-true j i t) (eq-eqb v v refl) refl right (λ r e. cc)
  changed h i e a right t = absurd (false≢true t)

-- the two cases of one more answer
cell_changed : (i : ℕ) (c : Cell) (e : RoundEvent) (a : Answer) → changes i e a ≡ true → cell_then i c e a ≡ left_cell e a
cell_changed i c e a t = ap (λ b. cond b (left_cell e a) c) t

cell_kept : (i : ℕ) (c : Cell) (e : RoundEvent) (a : Answer) → changes i e a ≡ false → cell_then i c e a ≡ c
cell_kept i c e a f = ap (λ b. cond b (left_cell e a) c) f

holds_of : (w i : ℕ) (b : Bool) (e : RoundEvent) (a : Answer) → is_of w e ≡ true → changes i e a ≡ true → holds_after w i b e a ≡ is_won a
holds_of w i b e a o t = ap (λ x. cond (x && changes i e a) (is_won a) b) o ∙ ap (λ x. cond x (is_won a) b) t

holds_other : (w i : ℕ) (b : Bool) (e : RoundEvent) (a : Answer) → is_of w e ≡ false → holds_after w i b e a ≡ b
holds_other w i b e a o = ap (λ x. cond (x && changes i e a) (is_won a) b) o

holds_kept : (w i : ℕ) (b : Bool) (e : RoundEvent) (a : Answer) → changes i e a ≡ false → holds_after w i b e a ≡ b
holds_kept w i b e a f = ap (λ x. cond (is_of w e && x) (is_won a) b) f ∙ ap (λ x. cond x (is_won a) b) (and_false (is_of w e))

-- ---- held
held_by : (w i : ℕ) (e : RoundEvent) (a : Answer) → changes i e a ≡ true → is_of w e ≡ true → is_won a ≡ true → left_cell e a ≡ Held w
held_by w i (Claim v j) Won t o won = ap Held (eqb-true v w o)
held_by w i (Finish v j) Finished t o won = absurd (false≢true won)
held_by w i (Miss v j) MissedIt t o won = absurd (false≢true won)
held_by w i (Release v j) Released t o won = absurd (false≢true won)
held_by w i e a t o won = absurd (false≢true t)

by_holder : (w i : ℕ) (e : RoundEvent) (a : Answer) → changes i e a ≡ true → left_cell e a ≡ Held w → (is_of w e ≡ true) × (is_won a ≡ true)
by_holder w i (Claim v j) Won t c = (eq-eqb v w (let x : Held v ≡ Held w = c in cc), refl)
by_holder w i (Finish v j) Finished t c = absurd (cc)
by_holder w i (Miss v j) MissedIt t c = absurd (cc)
by_holder w i (Release v j) Released t c = absurd (cc)
by_holder w i e a t c = absurd (false≢true t)

tie : (w i : ℕ) (b : Bool) (c : Cell) (e : RoundEvent) (a : Answer) → (b ≡ true → c ≡ Held w) → (changes i e a ≡ true → Before e a c) → holds_after w i b e a ≡ true → cell_then i c e a ≡ Held w
tie w i b c e a was before on =
    elim (cases_Bool (changes i e a)) [
      | inr f ↦ cell_kept i c e a f ∙ was (sym (holds_kept w i b e a f) ∙ on)
      | inl t ↦ cell_changed i c e a t ∙ elim (cases_Bool (is_of w e)) [
        | inl o ↦ held_by w i e a t o (sym (holds_of w i b e a o t) ∙ on)
        | inr o ↦
            (let held : c ≡ Held w = was (sym (holds_other w i b e a o) ∙ on) in
            elim (before t) [
              | inl free ↦ absurd (let x : Free ≡ Held w = sym free.0 ∙ held in cc)
              | inr v ↦ absurd (let x : Held v.0 ≡ Held w = sym v.1 ∙ held in let same : v.0 ≡ w = (cc) in false≢true (sym o ∙ ap (λ u. is_of u e) (sym same) ∙ v.2))
            ])
      ]
    ]

pub held_cell : (lanes : List ℕ) (plans : List Planned) (h : History) → legal_after lanes plans [] h → (w i : ℕ) → holds h w i ≡ true → cell_after h i ≡ Held w
held_cell lanes plans h l =
    by_right lanes plans (λ h. (w i : ℕ) → holds h w i ≡ true → cell_after h i ≡ Held w) (λ w i on. absurd (false≢true on))
    (λ h e a right was w i on. cell_push h e a i ∙ tie w i (holds h w i) (cell_after h i) e a (was w i) (changed lanes plans h i e a right) (sym (holds_push h e a w i) ∙ on)) h l

pub cell_held : (w i : ℕ) (h : History) → cell_after h i ≡ Held w → holds h w i ≡ true
cell_held w i h =
    by_push (λ h. cell_after h i ≡ Held w → holds h w i ≡ true) (λ c. absurd (let x : Free ≡ Held w = c in cc))
    (λ h e a was c. (
    let then : cell_then i (cell_after h i) e a ≡ Held w = sym (cell_push h e a i) ∙ c in
    holds_push h e a w i ∙ elim (cases_Bool (changes i e a)) [
      | inl t ↦ (let x = by_holder w i e a t (sym (cell_changed i (cell_after h i) e a t) ∙ then) in holds_of w i (holds h w i) e a x.0 t ∙ x.1)
      | inr f ↦ holds_kept w i (holds h w i) e a f ∙ was (sym (cell_kept i (cell_after h i) e a f) ∙ then)
    ])) h

-- ---- done and missed: an answer of a kind that leaves its cell so for good
record IsLast (q : ℕ → RoundEvent → Answer → Bool) (last : Cell) : Type 0 where
  change : (i : ℕ) (e : RoundEvent) (a : Answer) → q i e a ≡ true → changes i e a ≡ true
  left : (i : ℕ) (e : RoundEvent) (a : Answer) → q i e a ≡ true → left_cell e a ≡ last
  kind : (i : ℕ) (e : RoundEvent) (a : Answer) → changes i e a ≡ true → left_cell e a ≡ last → q i e a ≡ true
  not_free : last ≢ Free
  not_held : (w : ℕ) → last ≢ Held w

module _ (q : ℕ → RoundEvent → Answer → Bool) (last : Cell) (k : IsLast q last) where
  last_step : (i : ℕ) (b : Bool) (c : Cell) (e : RoundEvent) (a : Answer) → (b ≡ true → c ≡ last) → (changes i e a ≡ true → Before e a c) → (b || q i e a) ≡ true → cell_then i c e a ≡ last
  last_step i b c e a was before on =
      elim (cases_Bool (q i e a)) [
        | inl t ↦ cell_changed i c e a (k.change i e a t) ∙ k.left i e a t
        | inr f ↦
            (let held : c ≡ last = was (sym (ap (λ x. b || x) f ∙ or_false b) ∙ on) in
            elim (cases_Bool (changes i e a)) [
              | inr g ↦ cell_kept i c e a g ∙ held
              | inl t ↦ elim (before t) [
                | inl free ↦ absurd (k.not_free (sym held ∙ free.0))
                | inr v ↦ absurd (k.not_held v.0 (sym held ∙ v.1))
              ]
            ])
      ]

  last_cell : (lanes : List ℕ) (plans : List Planned) (h : History) → legal_after lanes plans [] h → (i : ℕ) → list_any (λ x. q i x.0 x.1) h ≡ true → cell_after h i ≡ last
  last_cell lanes plans h l =
      by_right lanes plans (λ h. (i : ℕ) → list_any (λ x. q i x.0 x.1) h ≡ true → cell_after h i ≡ last) (λ i on. absurd (false≢true on))
      (λ h e a right was i on. cell_push h e a i ∙ last_step i (list_any (λ x. q i x.0 x.1) h) (cell_after h i) e a (was i) (changed lanes plans h i e a right) (sym (any_push (λ x. q i x.0 x.1) h (e, a)) ∙ on)) h l

  from_last : (i : ℕ) (h : History) → cell_after h i ≡ last → list_any (λ x. q i x.0 x.1) h ≡ true
  from_last i h =
      by_push (λ h. cell_after h i ≡ last → list_any (λ x. q i x.0 x.1) h ≡ true) (λ c. absurd (k.not_free (sym c)))
      (λ h e a was c. (
      let then : cell_then i (cell_after h i) e a ≡ last = sym (cell_push h e a i) ∙ c in
      any_push (λ x. q i x.0 x.1) h (e, a) ∙ elim (cases_Bool (changes i e a)) [
        | inl t ↦ or_right (list_any (λ x. q i x.0 x.1) h) (q i e a) (k.kind i e a t (sym (cell_changed i (cell_after h i) e a t) ∙ then))
        | inr f ↦ or_left (list_any (λ x. q i x.0 x.1) h) (q i e a) (was (sym (cell_kept i (cell_after h i) e a f) ∙ then))
      ])) h

finish_change : (i : ℕ) (e : RoundEvent) (a : Answer) → finishes i e a ≡ true → (changes i e a ≡ true) × (left_cell e a ≡ Done)
finish_change i (Finish v j) Finished t = (t, refl)
finish_change i e a t = absurd (false≢true t)

finish_kind : (i : ℕ) (e : RoundEvent) (a : Answer) → changes i e a ≡ true → left_cell e a ≡ Done → finishes i e a ≡ true
finish_kind i (Claim v j) Won t c = absurd (cc)
finish_kind i (Finish v j) Finished t c = t
finish_kind i (Miss v j) MissedIt t c = absurd (cc)
finish_kind i (Release v j) Released t c = absurd (cc)
finish_kind i e a t c = absurd (false≢true t)

finish_last : IsLast finishes Done
finish_last = record { change = λ i e a t. (finish_change i e a t).0; left = λ i e a t. (finish_change i e a t).1; kind = finish_kind; not_free = λ e. cc; not_held = λ w e. cc }

miss_change : (i : ℕ) (e : RoundEvent) (a : Answer) → misses i e a ≡ true → (changes i e a ≡ true) × (left_cell e a ≡ Missed)
miss_change i (Miss v j) MissedIt t = (t, refl)
miss_change i e a t = absurd (false≢true t)

miss_kind : (i : ℕ) (e : RoundEvent) (a : Answer) → changes i e a ≡ true → left_cell e a ≡ Missed → misses i e a ≡ true
miss_kind i (Claim v j) Won t c = absurd (cc)
miss_kind i (Finish v j) Finished t c = absurd (cc)
miss_kind i (Miss v j) MissedIt t c = t
miss_kind i (Release v j) Released t c = absurd (cc)
miss_kind i e a t c = absurd (false≢true t)

miss_last : IsLast misses Missed
miss_last = record { change = λ i e a t. (miss_change i e a t).0; left = λ i e a t. (miss_change i e a t).1; kind = miss_kind; not_free = λ e. cc; not_held = λ w e. cc }

pub done_cell : (lanes : List ℕ) (plans : List Planned) (h : History) → legal_after lanes plans [] h → (i : ℕ) → has_finished h i ≡ true → cell_after h i ≡ Done
done_cell lanes plans h l i = last_cell finishes Done finish_last lanes plans h l i

pub cell_done : (i : ℕ) (h : History) → cell_after h i ≡ Done → has_finished h i ≡ true
cell_done i h = from_last finishes Done finish_last i h

pub missed_cell : (lanes : List ℕ) (plans : List Planned) (h : History) → legal_after lanes plans [] h → (i : ℕ) → has_missed h i ≡ true → cell_after h i ≡ Missed
missed_cell lanes plans h l i = last_cell misses Missed miss_last lanes plans h l i

pub cell_missed : (i : ℕ) (h : History) → cell_after h i ≡ Missed → has_missed h i ≡ true
cell_missed i h = from_last misses Missed miss_last i h
