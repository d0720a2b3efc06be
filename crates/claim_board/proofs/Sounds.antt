-- The rule in the words of the cells.
use Rattle.std.proofs.Common.{◌≡◌, ◌⊎◌, ℕ, ◌+◌, ◌*◌, ◌<◌, List, length, sym, refl, ap, ◌∙◌, subst, ⊎_elim, inl, inr, arith}
use Rattle.std.specs.Prelude.{Contains, slice_index}
use mathlib.Core.Logic.{◌↔◌}
use Rattle.atomic_table.specs.Table.{State}
use Rattle.fetch_plan.specs.declared.cell.Cell.{Cell}
use Rattle.fetch_plan.specs.declared.cell.Cell.TheVariants.{Done, Missed}
use Rattle.claim_board.specs.declared.records.LaneRecord.{LaneRecord}
use Rattle.claim_board.specs.Rules.{held_by, done_by, missed_by, word, cell_of, Stands, Names, Kept}
use Rattle.claim_board.specs.Laws.{cell_at, Sound, RuleIsSound}
use Rattle.claim_board.proofs.Words.{cell_of_held}
use Rattle.claim_board.proofs.Moves.{is_done, is_missed, is_held, known}

-- the lane that a word names is one of the cell's relay
names_relay : (rs ls : List ℕ) (i n w b : ℕ) → 0 < b → b < 4 → n ≡ 4 * w + b → Names rs ls i n → (w < length ls) × (slice_index ls w ≡ slice_index rs i)
names_relay rs ls i n w b low high is names = ⊎_elim (λ (z : n ≡ 0). absurd (omega arith))
    (λ (t : (v : ℕ) × (v < length ls) × (slice_index ls v ≡ slice_index rs i) × ((n ≡ held_by v) ⊎ ((n ≡ done_by v) ⊎ (n ≡ missed_by v)))).
    let v : t.0 ≡ w = ⊎_elim (λ (z : n ≡ held_by t.0). omega arith) (⊎_elim (λ (z : n ≡ done_by t.0). omega arith) (λ (z : n ≡ missed_by t.0). omega arith)) t.3 in
    (subst (λ (k : ℕ). k < length ls) v t.1, ap (slice_index ls) (sym v) ∙ t.2))
    names

module _ (rs ls : List ℕ) (s : State ℕ (List LaneRecord)) (r : Kept rs ls s) where
  -- an ended cell names the lane that ended it
  ender_of : (i : ℕ) (c : Cell) → (c ≡ Done) ⊎ (c ≡ Missed) → cell_at s i ≡ c → (w : ℕ) × (w < length ls) × (slice_index ls w ≡ slice_index rs i)
      × ((seat place : ℕ) (e : LaneRecord) → Stands s.views seat place e → e.lane ≡ w ↔ Contains e.ended (i, c))
  ender_of i c how is = ⊎_elim
      (λ (d : c ≡ Done). let t = is_done rs ls i (word s.words i) (r.names i) (is ∙ d) in let u = names_relay rs ls i (word s.words i) t.0 2 (omega arith) (omega arith) t.1 (r.names i) in (
        t.0,
        u.0,
        u.1,
        λ seat place e at. let tells = (r.tells seat place e at i).done in
            ((λ z. subst (λ (x : Cell). Contains e.ended (i, x)) (sym d) (tells.1 (t.1 ∙ ap done_by (sym z)))), λ z. let q = tells.0 (subst (λ (x : Cell). Contains e.ended (i, x)) d z) in let p = t.1 in omega arith),
      ))
      (λ (d : c ≡ Missed). let t = is_missed rs ls i (word s.words i) (r.names i) (is ∙ d) in let u = names_relay rs ls i (word s.words i) t.0 3 (omega arith) (omega arith) t.1 (r.names i) in (
        t.0,
        u.0,
        u.1,
        λ seat place e at. let tells = (r.tells seat place e at i).missed in
            ((λ z. subst (λ (x : Cell). Contains e.ended (i, x)) (sym d) (tells.1 (t.1 ∙ ap missed_by (sym z)))), λ z. let q = tells.0 (subst (λ (x : Cell). Contains e.ended (i, x)) d z) in let p = t.1 in omega arith),
      ))
      how

  ended_is : (seat place : ℕ) (e : LaneRecord) → Stands s.views seat place e → (i : ℕ) (c : Cell) → (c ≡ Done) ⊎ (c ≡ Missed) → Contains e.ended (i, c) → cell_at s i ≡ c
  ended_is seat place e at i c how mine = known rs ls s r seat place e i c at (inr (how, inl mine))

  sound : Sound rs ls s
  sound = record {
    held = λ seat place e at i. let tells = (r.tells seat place e at i).held in ((λ mine. ap cell_of (tells.0 mine) ∙ cell_of_held e.lane), λ is. tells.1 (is_held rs ls i (word s.words i) e.lane (r.names i) is));
    relay = λ i w is. names_relay rs ls i (word s.words i) w 1 (omega arith) (omega arith) (is_held rs ls i (word s.words i) w (r.names i) is) (r.names i);
    alone = λ seat place e seat' place' f at at' i mine yours. let a = (r.tells seat place e at i).held.0 mine in let b = (r.tells seat' place' f at' i).held.0 yours in r.apart seat place e seat' place' f at at' (omega arith);
    ended = ended_is;
    ender = ender_of;
    ended_once = λ seat place e seat' place' f at at' i c d how how' mine yours.
        let a = ended_is seat place e at i c how mine in
        let b = ended_is seat' place' f at' i d how' yours in
        let t = ender_of i c how a in
        r.apart seat place e seat' place' f at at' ((t.3 seat place e at).1 mine ∙ sym ((t.3 seat' place' f at').1 (subst (λ (x : Cell). Contains f.ended (i, x)) (sym b ∙ a) yours)));
    met = λ seat place e at i c how mine. known rs ls s r seat place e i c at (inr (how, inr mine));
    won = λ seat place e seat' place' f at at' i c. (r.stays seat place e at).held i f.lane c seat' place' f at' refl;
  }

pub sounds : RuleIsSound
sounds rs ls s r = sound rs ls s r
