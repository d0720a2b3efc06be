-- Two lanes in one view.
use Rattle.std.proofs.Common.{◌≡◌, ℕ, List, [], ◌∷◌, ◌++◌, sym, refl, ap, ◌∙◌, subst, arith}
use Rattle.std.specs.Prelude.{Contains}
use mathlib.Core.Option.{none, some}
use lib.ListN.{get_elem?}
use lib.Seq.{set-get_or}
use Rattle.atomic_table.specs.Table.{State, Me, step, keeps, Allows}
use Rattle.atomic_table.proofs.Lists.{set_again}
use Rattle.claim_board.specs.declared.records.LaneRecord.{LaneRecord}
use Rattle.claim_board.specs.Rules.{Kept}
use Rattle.claim_board.specs.Steps.{HeldOnce, compared, others_of, own_of, Seated}

abbrev M : Type 0
M = Me ℕ (List LaneRecord)

module _ (rs ls : List ℕ) where
  held_once : (s : State ℕ (List LaneRecord)) → Kept rs ls s → (id : ℕ) (v : List LaneRecord) → get_elem? s.views id ≡ some v → HeldOnce v
  held_once s r id v at p q e f i here there mine yours =
      let a = (r.tells id p e (v, at, here) i).held.0 mine in
      let b = (r.tells id q f (v, at, there) i).held.0 yours in
      (r.apart id p e id q f (v, at, here) (v, at, there) (omega arith)).1

  pub compares : (slots id : ℕ) (me : M) → Allows (Kept rs ls) slots id me 0 (λ n. n) (compared (step slots 0 0 0 none) me)
  compares slots id me s r deep at _ = (
    me.0,
    keeps,
    tt,
    subst (λ (z : List ℕ × List (List LaneRecord)). Kept rs ls record { words = z.0; homes = s.homes; views = z.1 }) (λ k. (sym (set-get_or s.words 0 0) k, sym (set_again s.views id me.0 at) k)) r,
    (refl, held_once s r id me.0 at),
  )

-- a lane that stands for itself alone
alone_is : (n : M) (number relay : ℕ) → Seated n number relay → others_of n.0 ≡ [] → n.0 ≡ own_of n.0 ∷ []
alone_is n number relay at alone = ap (λ (z : M). z.0) at.0 ∙ ap (λ (t : List LaneRecord). own_of n.0 ∷ t) alone

-- no cell is in the lists of both
pub no_cell_twice : (m n : M) (number relay number' relay' : ℕ) → Seated m number relay → Seated n number' relay' → others_of n.0 ≡ [] → HeldOnce (n.0 ++ m.0)
    → (i : ℕ) → Contains (own_of m.0).held i → Contains (own_of n.0).held i → ⊥
no_cell_twice m n number relay number' relay' at at' alone once i mine yours =
    let own : n.0 ≡ own_of n.0 ∷ [] = alone_is n number' relay' at' alone in
    let v : m.0 ≡ own_of m.0 ∷ others_of m.0 = ap (λ (z : M). z.0) at.0 in
    let h : HeldOnce (own_of n.0 ∷ own_of m.0 ∷ others_of m.0) = subst HeldOnce (λ k. own k ++ v k) once in
    let z : 0 ≡ 1 = h 0 1 (own_of n.0) (own_of m.0) i refl refl yours mine in
    absurd (omega (arith, z))
