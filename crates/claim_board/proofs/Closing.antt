-- What a closed board tells.
use Rattle.std.proofs.Common.{◌≡◌, ◌⊎◌, ℕ, suc, zero, ◌+◌, ◌*◌, ◌<◌, List, [], ◌∷◌, ◌++◌, length, get_or, sym, refl, ap, ◌∙◌, subst, ⊎_elim, arith}
use Rattle.std.specs.Prelude.{Contains, slice_index}
use mathlib.Core.Option.{some, some-injective, some-ne-none}
use lib.ListN.{get_elem?}
use Rattle.atomic_table.specs.Table.{Final, Seen}
use Rattle.item_key.specs.declared.Id.{Id}
use Rattle.fetch_plan.specs.declared.cell.Cell.{Cell}
use Rattle.fetch_plan.specs.declared.cell.Cell.TheVariants.{Free}
use Rattle.claim_board.specs.Rules.{relays, held_by, done_by, missed_by, word, cell_of, Names, Kept}
use Rattle.claim_board.specs.Steps.{Idle}
use Rattle.claim_board.specs.Views.{LaneView, all_of, ClosedAs, Honest}
use Rattle.claim_board.proofs.Moves.{is_done, is_missed, is_held, known, small}
use Rattle.claim_board.proofs.Cuts.{none_in}

-- the lane that a word names
lane_in : (rs ls : List ℕ) (i n w b : ℕ) → 0 < b → b < 4 → n ≡ 4 * w + b → Names rs ls i n → w < length ls
lane_in rs ls i n w b low high is names = ⊎_elim (λ (z : n ≡ 0). absurd (omega arith))
    (λ (t : (v : ℕ) × (v < length ls) × (slice_index ls v ≡ slice_index rs i) × ((n ≡ held_by v) ⊎ ((n ≡ done_by v) ⊎ (n ≡ missed_by v)))). let h = t.1 in ⊎_elim
    (λ (z : n ≡ held_by t.0). omega arith) (⊎_elim (λ (z : n ≡ done_by t.0). omega arith) (λ (z : n ≡ missed_by t.0). omega arith)) t.3)
    names

pub settles : (rs ls : List ℕ) (id : ℕ) (p : LaneView) (ws : List ℕ) (xs : List ℕ) → Final (Seen (Kept rs ls) id (all_of p)) ws xs → Idle (all_of p) → (i n : ℕ) → n ≡ word ws i → (n < 4096) × ClosedAs (length ls) p i (cell_of n)
settles rs ls id p ws xs last idle i n is =
    let s = last.0 in
    let r : Kept rs ls s = last.1.0 in
    let at : get_elem? s.views id ≡ some (all_of p) = last.1.1 in
    let same : n ≡ word s.words i = is ∙ ap (λ (z : List ℕ). word z i) (sym last.2) in
    let names : Names rs ls i n = subst (Names rs ls i) (sym same) (r.names i) in (
      small rs ls i n r.few names,
      record {
        held = λ w c. let h = is_held rs ls i n w names c in (
          lane_in rs ls i n w 1 (omega arith) (omega arith) h names,
          λ place f here lane. none_in i (subst (λ (z : List ℕ). Contains z i) (idle place f here) ((r.tells id place f (all_of p, at, here) i).held.1 (sym same ∙ (h ∙ ap held_by (sym lane))))),
        );
        done = λ c. let h = is_done rs ls i n names c in (
          h.0,
          lane_in rs ls i n h.0 2 (omega arith) (omega arith) h.1 names,
          λ place f here lane. (r.tells id place f (all_of p, at, here) i).done.1 (sym same ∙ (h.1 ∙ ap done_by (sym lane))),
        );
        missed = λ c. let h = is_missed rs ls i n names c in (
          h.0,
          lane_in rs ls i n h.0 3 (omega arith) (omega arith) h.1 names,
          λ place f here lane. (r.tells id place f (all_of p, at, here) i).missed.1 (sym same ∙ (h.1 ∙ ap missed_by (sym lane))),
        );
        told = λ k place f here knows. ap cell_of same ∙ known rs ls s r id place f i k (all_of p, at, here) knows;
      },
    )

pub or_at : (l : List ℕ) (k a : ℕ) → get_elem? l k ≡ some a → a ≡ get_or l k 0
or_at [] k a e = absurd (some-ne-none a (sym e))
or_at (x ∷ xs) zero a e = sym (some-injective x a e)
or_at (x ∷ xs) (suc k) a e = or_at xs k a e

-- one more cell is told
pub told_more : (P : ℕ → Cell → Type 0) (xs : List Cell) (y : Cell) (i : ℕ) → length xs ≡ i → ((k : ℕ) → k < i → P k (get_or xs k Free)) → P i y → (k : ℕ) → k < i + 1 → P k (get_or (xs ++ y ∷ []) k Free)
told_more P [] y i len below here zero h = let z : i ≡ 0 = sym len in subst (λ (n : ℕ). P n y) z here
told_more P [] y i len below here (suc k) h = let z : i ≡ 0 = sym len in absurd (omega arith)
told_more P (x ∷ xs) y zero len below here k h = absurd (omega arith)
told_more P (x ∷ xs) y (suc i) len below here zero h = below 0 (omega arith)
told_more P (x ∷ xs) y (suc i) len below here (suc k) h = told_more (λ n. P (suc n)) xs y i (omega arith) (λ j l. below (suc j) (omega arith)) here k (omega arith)

pub honest : (cells : List (Id × ℕ)) (ls : List ℕ) (id : ℕ) (p : LaneView) (ws : List ℕ) (xs : List ℕ) → Final (Seen (Kept (relays cells) ls) id (all_of p)) ws xs → Honest cells ls p
honest cells ls id p ws xs last = let r = last.1.0 in let here = last.1.1 in record {
  lane = λ place e at i w c. (r.fits id place e (all_of p, here, at)).met i w c;
  won = λ place e place' f at at' i met. (r.stays id place e (all_of p, here, at)).held i f.lane met id place' f (all_of p, here, at') refl;
}
