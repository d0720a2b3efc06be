-- The words of the board, and lists that grow and shrink by one.
use Rattle.std.proofs.Common.{◌≡◌, ◌≢◌, ◌⊎◌, ℕ, suc, zero, ◌+◌, ◌*◌, ◌/◌, ◌%◌, ◌<◌, cond, List, [], ◌∷◌, length, set, sym, refl, ◌∙◌, subst, ⊎_elim, inl, inr, arith, get_or-set_other, get_or-set_same, eq-eqb, ne_eqb, Bool, not}
use Rattle.std.specs.Prelude.{Contains}
use mathlib.Core.Logic.{dite, ◌↔◌}
use native.Mathlib.Decide.{ℕ_discrete}
use Rattle.fetch_plan.specs.declared.cell.Cell.TheVariants.{Held, Done, Missed}
use Rattle.claim_board.specs.Rules.{held_by, done_by, missed_by, cell_of, word}
use Rattle.claim_board.specs.Steps.{without}

pub cell_of_held : (w : ℕ) → cell_of (held_by w) ≡ Held w
cell_of_held w =
    let a : (4 * w + 1) % 4 ≡ 1 = omega arith in
    let b : (4 * w + 1) / 4 ≡ w = omega arith in
    let z : 4 * w + 1 ≢ 0 = λ e. omega arith in
    rw (ne_eqb (4 * w + 1) 0 z, a, b) refl

pub cell_of_done : (w : ℕ) → cell_of (done_by w) ≡ Done
cell_of_done w =
    let a : (4 * w + 2) % 4 ≡ 2 = omega arith in
    let z : 4 * w + 2 ≢ 0 = λ e. omega arith in
    rw (ne_eqb (4 * w + 2) 0 z, a) refl

pub cell_of_missed : (w : ℕ) → cell_of (missed_by w) ≡ Missed
cell_of_missed w =
    let a : (4 * w + 3) % 4 ≡ 3 = omega arith in
    let z : 4 * w + 3 ≢ 0 = λ e. omega arith in
    rw (ne_eqb (4 * w + 3) 0 z, a) refl

-- the cells' words after one of them was set
pub by_word : (P : ℕ → ℕ → Type 0) (ws : List ℕ) (i n : ℕ) → i + 1 < length ws → P i n → ((j : ℕ) → j ≢ i → P j (word ws j)) → (j : ℕ) → P j (word (set ws (i + 1) n) j)
by_word P ws i n short here else j = dite (ℕ_discrete j i)
    (λ e. subst (λ (z : ℕ). P z (word (set ws (i + 1) n) z)) (sym e) (subst (P i) (sym (get_or-set_same ws (i + 1) n 0 short)) here))
    (λ other. subst (P j) (sym (get_or-set_other ws (i + 1) (j + 1) n 0 (λ e. other (omega arith)))) (else j other))

module _ {X : Type 0} where
  pub in_first : (x : X) (xs : List X) → Contains (x ∷ xs) x
  in_first x xs = (0, omega arith, refl)

  pub in_later : (x : X) (xs : List X) (y : X) → Contains xs y → Contains (x ∷ xs) y
  in_later x xs y c = (suc c.0, (let h = c.1 in omega arith), c.2)

  pub in_cases : (x : X) (xs : List X) (y : X) → Contains (x ∷ xs) y → (x ≡ y) ⊎ Contains xs y
  in_cases x xs y (zero, h, e) = inl e
  in_cases x xs y (suc k, h, e) = inr (k, omega arith, e)

-- a list without one number has the others
pub without_keeps : (xs : List ℕ) (i j : ℕ) → Contains (without i xs) j ↔ (Contains xs j × (j ≢ i))
without_keeps [] i j = ((λ (c : Contains {X = ℕ} [] j). let h = c.1 in absurd (omega arith)), (λ c. let h = c.0.1 in absurd (omega arith)))
without_keeps (x ∷ xs) i j = let more = without_keeps xs i j in dite (ℕ_discrete x i)
    (λ e. subst (λ (b : Bool). Contains (cond (not b) (x ∷ without i xs) (without i xs)) j ↔ (Contains (x ∷ xs) j × (j ≢ i))) (sym (eq-eqb x i e))
    ((λ c. let t = more.0 c in (in_later x xs j t.0, t.1)), (λ t. more.1 (⊎_elim (λ (z : x ≡ j). absurd (t.1 (sym z ∙ e))) (λ (z : Contains xs j). (z, t.1)) (in_cases x xs j t.0)))))
    (λ other. subst (λ (b : Bool). Contains (cond (not b) (x ∷ without i xs) (without i xs)) j ↔ (Contains (x ∷ xs) j × (j ≢ i))) (sym (ne_eqb x i other)) (
      (λ c. ⊎_elim (λ (z : x ≡ j). (subst (Contains (x ∷ xs)) z (in_first x xs), λ h. other (z ∙ h))) (λ (z : Contains (without i xs) j). let t = more.0 z in (in_later x xs j t.0, t.1)) (in_cases x (without i xs) j c)),
      (λ t. ⊎_elim (λ (z : x ≡ j). subst (Contains (x ∷ without i xs)) z (in_first x (without i xs))) (λ (z : Contains xs j). in_later x (without i xs) j (more.1 (z, t.1))) (in_cases x xs j t.0)),
    ))
