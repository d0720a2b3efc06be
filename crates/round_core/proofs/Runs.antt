-- Events zip with their answers.
use Rattle.std.proofs.Common.{◌≡◌, ℕ, zero, suc, ◌+◌, ◌<◌, ◌≤◌, List, [], ◌∷◌, ◌++◌, length, take, get_or, refl, sym, ap, subst, arith, add-one}
use Rattle.round_core.specs.declared.events.RoundEvent.{RoundEvent}
use Rattle.round_core.specs.declared.events.Answer.{Answer}
use Rattle.std.specs.List.{zip}
use Rattle.round_core.specs.History.{History}
use Rattle.round_core.specs.Left.{State, Leaves}

pub zip_more : (es : List RoundEvent) (answers : List Answer) (i : ℕ) (e : RoundEvent) (a : Answer) → i < length es → length answers ≡ i → e ≡ get_or es i e → zip (take (i + 1) es) (answers ++ a ∷ []) ≡ zip (take i es) answers ++ (e, a) ∷ []
zip_more [] answers i e a lt long is = absurd (omega arith)
zip_more (x ∷ xs) [] zero e a lt long is = ap (λ y. (y, a) ∷ []) (sym is)
zip_more (x ∷ xs) [] (suc i) e a lt long is = absurd (omega arith)
zip_more (x ∷ xs) (b ∷ bs) zero e a lt long is = absurd (omega arith)
zip_more (x ∷ xs) (b ∷ bs) (suc i) e a lt long is =
    let more : zip (take (i + 1) xs) (bs ++ a ∷ []) ≡ zip (take i xs) bs ++ (e, a) ∷ [] = zip_more xs bs i e a (omega arith) (omega arith) is in
    rw add-one (ap (λ h. (x, b) ∷ h) (rw add-one at more))

pub left_more : (lanes : List ℕ) (h : History) (old new : State) (x : RoundEvent × Answer) → Leaves lanes h old → ((g : History) → Leaves old.lanes g old → Leaves old.lanes (g ++ x ∷ []) new) → Leaves lanes (h ++ x ∷ []) new
left_more lanes h old new x l step =
    subst (λ ws. Leaves ws (h ++ x ∷ []) new) l.same_lanes (step h (subst (λ ws. Leaves ws h old) (sym l.same_lanes) l))

take_none : {X : Type 0} (i : ℕ) → take {A = X} i [] ≡ []
take_none zero = refl
take_none (suc i) = refl

pub take_whole : {X : Type 0} (i : ℕ) (xs : List X) → length xs ≤ i → take i xs ≡ xs
take_whole i [] le = take_none i
take_whole zero (x ∷ xs) le = absurd (omega arith)
take_whole (suc i) (x ∷ xs) le = ap (λ ys. x ∷ ys) (take_whole i xs (omega arith))
