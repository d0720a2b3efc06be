-- Each step keeps the rule of the board.
use Rattle.std.proofs.Common.{◌≡◌, ◌≢◌, ◌⊎◌, ℕ, suc, zero, ◌+◌, ◌<◌, List, ◌∷◌, length, set, sym, refl, ap, ◌∙◌, subst, ⊎_elim, inl, inr, arith, length-set}
use Rattle.std.specs.Prelude.{Contains}
use mathlib.Core.Option.{some, some-injective}
use lib.ListN.{get_elem?}
use Rattle.atomic_table.specs.Table.{State}
use Rattle.atomic_table.proofs.Lists.{at_set}
use Rattle.fetch_plan.specs.declared.cell.Cell.TheVariants.{Held, Done, Missed}
use Rattle.claim_board.specs.declared.records.LaneRecord.{LaneRecord}
use Rattle.claim_board.specs.Rules.{done_by, missed_by, word, Stands, Names, Tells, Stays, Fits, Kept}
use Rattle.claim_board.proofs.Words.{by_word}

abbrev St : Type 0
St = State ℕ (List LaneRecord)

-- what stands in the first place, or further back
first_or_later : (e e' : LaneRecord) (rest : List LaneRecord) (place : ℕ) (f : LaneRecord) → get_elem? (e' ∷ rest) place ≡ some f → ((place ≡ 0) × (e' ≡ f)) ⊎ ((place ≢ 0) × (get_elem? (e ∷ rest) place ≡ some f))
first_or_later e e' rest zero f at = inl (refl, some-injective e' f at)
first_or_later e e' rest (suc p) f at = inr ((λ h. omega arith), at)

-- a stand after the first one of a view became e'
pub stands_after : (views : List (List LaneRecord)) (id : ℕ) (e e' : LaneRecord) (rest : List LaneRecord) → get_elem? views id ≡ some (e ∷ rest) → (seat place : ℕ) (f : LaneRecord) → Stands (set views id (e' ∷ rest)) seat place f
    → ((seat ≡ id) × (place ≡ 0) × (e' ≡ f)) ⊎ (Stands views seat place f × ((seat ≡ id) → (place ≡ 0) → ⊥))
stands_after views id e e' rest was seat place f now = ⊎_elim
    (λ (t : (seat ≡ id) × (e' ∷ rest ≡ now.0)). ⊎_elim
    (λ (u : (place ≡ 0) × (e' ≡ f)). inl (t.0, u.0, u.1))
    (λ (u : (place ≢ 0) × (get_elem? (e ∷ rest) place ≡ some f)). inr ((e ∷ rest, subst (λ (z : ℕ). get_elem? views z ≡ some (e ∷ rest)) (sym t.0) was, u.1), λ _. u.0))
    (first_or_later e e' rest place f (subst (λ (z : List LaneRecord). get_elem? z place ≡ some f) (sym t.1) now.2)))
    (λ (t : (seat ≢ id) × (get_elem? views seat ≡ some now.0)). inr ((now.0, t.1, now.2), λ same _. t.0 same))
    (at_set views id seat (e' ∷ rest) now.0 now.1)

module _ (rs ls : List ℕ) where
  -- the first stand of one view goes from e to e', and the word of cell i to n
  pub step_kept : (s : St) (r : Kept rs ls s) (id i n : ℕ) (e e' : LaneRecord) (rest : List LaneRecord) → get_elem? s.views id ≡ some (e ∷ rest) → i + 1 < length s.words → e'.lane ≡ e.lane → Fits rs ls e' → Names rs ls i n
      → ((f : LaneRecord) → f.lane ≢ e.lane → Tells i (word s.words i) f → Tells i n f)
      → ((w : ℕ) → word s.words i ≡ done_by w → (v : ℕ) × (n ≡ done_by v))
      → ((w : ℕ) → word s.words i ≡ missed_by w → (v : ℕ) × (n ≡ missed_by v))
      → ((j : ℕ) → Tells j (word (set s.words (i + 1) n) j) e')
      → ((j : ℕ) → Contains e.won j → Contains e'.won j)
      → ((j : ℕ) → Contains e'.met (j, Done) → Contains e.met (j, Done) ⊎ ((w : ℕ) × (word s.words j ≡ done_by w)))
      → ((j : ℕ) → Contains e'.met (j, Missed) → Contains e.met (j, Missed) ⊎ ((w : ℕ) × (word s.words j ≡ missed_by w)))
      → ((j w : ℕ) → Contains e'.met (j, Held w) → Contains e.met (j, Held w) ⊎ ((seat place : ℕ) (f : LaneRecord) → Stands s.views seat place f → f.lane ≡ w → Contains f.won j))
      → Kept rs ls record { words = set s.words (i + 1) n; homes = s.homes; views = set s.views id (e' ∷ rest) }
  step_kept s r id i n e e' rest was short lane fits names others done missed tells won met_done met_missed met_held =
      let here : Stands s.views id 0 e = (e ∷ rest, was, refl) in
      let after = stands_after s.views id e e' rest was in
      let strange : (seat place : ℕ) (f : LaneRecord) → Stands s.views seat place f → ((seat ≡ id) → (place ≡ 0) → ⊥) → f.lane ≢ e.lane =
      λ seat place f at apart same. let t = r.apart seat place f id 0 e at here same in apart t.0 t.1 in
      let stay_done : (j w : ℕ) → word s.words j ≡ done_by w → (v : ℕ) × (word (set s.words (i + 1) n) j ≡ done_by v) =
      by_word (λ j m. (w : ℕ) → word s.words j ≡ done_by w → (v : ℕ) × (m ≡ done_by v)) s.words i n short done (λ j _ w z. (w, z)) in
      let stay_missed : (j w : ℕ) → word s.words j ≡ missed_by w → (v : ℕ) × (word (set s.words (i + 1) n) j ≡ missed_by v) =
      by_word (λ j m. (w : ℕ) → word s.words j ≡ missed_by w → (v : ℕ) × (m ≡ missed_by v)) s.words i n short missed (λ j _ w z. (w, z)) in
      let wins : (j w : ℕ) → ((seat place : ℕ) (f : LaneRecord) → Stands s.views seat place f → f.lane ≡ w → Contains f.won j)
      → (seat place : ℕ) (f : LaneRecord) → Stands (set s.views id (e' ∷ rest)) seat place f → f.lane ≡ w → Contains f.won j =
      λ j w old seat place f at is. ⊎_elim
      (λ (t : (seat ≡ id) × (place ≡ 0) × (e' ≡ f)). subst (λ (z : LaneRecord). Contains z.won j) t.2 (won j (old id 0 e here (sym lane ∙ (ap (λ (z : LaneRecord). z.lane) t.2 ∙ is)))))
      (λ (t : Stands s.views seat place f × ((seat ≡ id) → (place ≡ 0) → ⊥)). old seat place f t.0 is)
      (after seat place f at) in
      record {
        wide = length-set s.words (i + 1) n ∙ r.wide;
        few = r.few;
        names = by_word (λ j m. Names rs ls j m) s.words i n short names (λ j _. r.names j);
        fits = λ seat place f at. ⊎_elim (λ (t : (seat ≡ id) × (place ≡ 0) × (e' ≡ f)). subst (Fits rs ls) t.2 fits) (λ (t : Stands s.views seat place f × ((seat ≡ id) → (place ≡ 0) → ⊥)). r.fits seat place f t.0) (after seat place f at);
        tells = λ seat place f at. ⊎_elim
            (λ (t : (seat ≡ id) × (place ≡ 0) × (e' ≡ f)). subst (λ (z : LaneRecord). (j : ℕ) → Tells j (word (set s.words (i + 1) n) j) z) t.2 tells)
            (λ (t : Stands s.views seat place f × ((seat ≡ id) → (place ≡ 0) → ⊥)). by_word (λ j m. Tells j m f) s.words i n short (others f (strange seat place f t.0 t.1) (r.tells seat place f t.0 i)) (λ j _. r.tells seat place f t.0 j))
            (after seat place f at);
        apart = λ seat place f seat' place' g at at' same. ⊎_elim
            (λ (t : (seat ≡ id) × (place ≡ 0) × (e' ≡ f)). ⊎_elim
            (λ (u : (seat' ≡ id) × (place' ≡ 0) × (e' ≡ g)). (t.0 ∙ sym u.0, t.1 ∙ sym u.1))
            (λ (u : Stands s.views seat' place' g × ((seat' ≡ id) → (place' ≡ 0) → ⊥)). absurd (strange seat' place' g u.0 u.1 (sym same ∙ (sym (ap (λ (z : LaneRecord). z.lane) t.2) ∙ lane))))
            (after seat' place' g at'))
            (λ (t : Stands s.views seat place f × ((seat ≡ id) → (place ≡ 0) → ⊥)). ⊎_elim
            (λ (u : (seat' ≡ id) × (place' ≡ 0) × (e' ≡ g)). absurd (strange seat place f t.0 t.1 (same ∙ (sym (ap (λ (z : LaneRecord). z.lane) u.2) ∙ lane))))
            (λ (u : Stands s.views seat' place' g × ((seat' ≡ id) → (place' ≡ 0) → ⊥)). r.apart seat place f seat' place' g t.0 u.0 same)
            (after seat' place' g at'))
            (after seat place f at);
        stays = λ seat place f at. ⊎_elim
            (λ (t : (seat ≡ id) × (place ≡ 0) × (e' ≡ f)). subst (λ (z : LaneRecord). Stays (set s.words (i + 1) n) (set s.views id (e' ∷ rest)) z) t.2 (let old = r.stays id 0 e here in record {
              done = λ j c. ⊎_elim (λ (z : Contains e.met (j, Done)). let o = old.done j z in stay_done j o.0 o.1) (λ (z : (w : ℕ) × (word s.words j ≡ done_by w)). stay_done j z.0 z.1) (met_done j c);
              missed = λ j c. ⊎_elim (λ (z : Contains e.met (j, Missed)). let o = old.missed j z in stay_missed j o.0 o.1) (λ (z : (w : ℕ) × (word s.words j ≡ missed_by w)). stay_missed j z.0 z.1) (met_missed j c);
              held = λ j w c. wins j w (⊎_elim (λ (z : Contains e.met (j, Held w)). old.held j w z) (λ z. z) (met_held j w c));
            }))
            (λ (t : Stands s.views seat place f × ((seat ≡ id) → (place ≡ 0) → ⊥)). let old = r.stays seat place f t.0 in record {
              done = λ j c. let o = old.done j c in stay_done j o.0 o.1;
              missed = λ j c. let o = old.missed j c in stay_missed j o.0 o.1;
              held = λ j w c. wins j w (old.held j w c);
            })
            (after seat place f at);
      }
