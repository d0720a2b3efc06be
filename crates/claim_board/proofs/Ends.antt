-- A lane ends or releases a cell that it holds.
use Rattle.std.proofs.Common.{◌≡◌, ◌⊎◌, ℕ, ◌+◌, ◌<◌, List, [], ◌∷◌, length, set, sym, refl, ap, ◌∙◌, subst, ⊎_elim, inl, inr, arith}
use Rattle.std.specs.Prelude.{Contains, slice_index}
use Rattle.std.proofs.lemmas.List.Elements.{Contains-push, Contains-push_cases, Contains-append_left}
use mathlib.Core.Option.{none, some}
use lib.ListN.{get_elem?}
use Rattle.atomic_table.specs.Table.{State, Me, step, keeps, Allows}
use Rattle.fetch_plan.specs.declared.cell.Cell.{Cell}
use Rattle.fetch_plan.specs.declared.cell.Cell.TheVariants.{Done, Missed}
use Rattle.claim_board.specs.declared.records.LaneRecord.{LaneRecord}
use Rattle.claim_board.specs.Rules.{held_by, done_by, missed_by, word, Names, Tells, Kept}
use Rattle.claim_board.specs.Steps.{with_ended, with_released, ended, released}
use Rattle.claim_board.proofs.Words.{by_word, without_keeps}
use Rattle.claim_board.proofs.Kept.{step_kept}
use Rattle.claim_board.proofs.Moves.{same_one}

abbrev St : Type 0
St = State ℕ (List LaneRecord)

abbrev M : Type 0
M = Me ℕ (List LaneRecord)

module _ (rs ls : List ℕ) where
  -- a cell that is held has the relay of the lane that holds it
  its_relay : (i lane : ℕ) → Names rs ls i (held_by lane) → slice_index ls lane ≡ slice_index rs i
  its_relay i lane names = ⊎_elim (λ (z : held_by lane ≡ 0). absurd (omega arith))
      (λ (t : (w : ℕ) × (w < length ls) × (slice_index ls w ≡ slice_index rs i) × ((held_by lane ≡ held_by w) ⊎ ((held_by lane ≡ done_by w) ⊎ (held_by lane ≡ missed_by w)))). ⊎_elim
      (λ (z : held_by lane ≡ held_by t.0). let w : lane ≡ t.0 = omega arith in ap (slice_index ls) w ∙ t.2) (⊎_elim (λ (z : held_by lane ≡ done_by t.0). absurd (omega arith)) (λ (z : held_by lane ≡ missed_by t.0). absurd (omega arith))) t.3)
      names

  done_kept : (s : St) (r : Kept rs ls s) (id i : ℕ) (e : LaneRecord) (rest : List LaneRecord) → get_elem? s.views id ≡ some (e ∷ rest) → i < length rs → Contains e.held i
      → Kept rs ls record { words = set s.words (i + 1) (done_by e.lane); homes = s.homes; views = set s.views id (with_ended i Done e ∷ rest) }
  done_kept s r id i e rest was within mine =
      let n : ℕ = done_by e.lane in
      let wide = r.wide in
      let short : i + 1 < length s.words = omega arith in
      let fits = r.fits id 0 e (e ∷ rest, was, refl) in
      let tells = r.tells id 0 e (e ∷ rest, was, refl) in
      let is : word s.words i ≡ held_by e.lane = (tells i).held.0 mine in
      let e' : LaneRecord = with_ended i Done e in
      step_kept rs ls s r id i n e e' rest was short refl
      record {
        lane = fits.lane;
        relay = fits.relay;
        held = λ j c. fits.held j ((without_keeps e.held i j).0 c).0;
        ended = λ j c z. ⊎_elim (fits.ended j c) (λ (q : (i, Done) ≡ (j, c)). subst (Contains e.won) (ap (λ (x : ℕ × Cell). x.0) q) (fits.held i mine)) (Contains-push_cases e.ended (i, Done) (j, c) z);
        met = fits.met;
      }
      (inr (e.lane, fits.lane, its_relay i e.lane (subst (Names rs ls i) is (r.names i)), inr (inl refl)))
      (λ f other t. record {
        held = ((λ c. let z = t.held.0 c in absurd (other (omega arith))), λ z. absurd (omega arith));
        done = ((λ c. let z = t.done.0 c in absurd (omega arith)), λ z. absurd (other (omega arith)));
        missed = ((λ c. let z = t.missed.0 c in absurd (omega arith)), λ z. absurd (omega arith));
      })
      (λ w z. absurd (omega arith)) (λ w z. absurd (omega arith))
      (by_word (λ j m. Tells j m e') s.words i n short record {
        held = ((λ c. absurd (((without_keeps e.held i i).0 c).1 refl)), λ z. absurd (omega arith));
        done = ((λ _. refl), λ _. Contains-push e.ended (i, Done));
        missed = ((λ c. ⊎_elim (λ (q : Contains e.ended (i, Missed)). let z = (tells i).missed.0 q in absurd (omega arith)) (λ (q : (i, Done) ≡ (i, Missed)). let d : Done ≡ Missed = ap (λ (x : ℕ × Cell). x.1) q in absurd (cc)) (Contains-push_cases e.ended (i, Done) (i, Missed) c)), λ z. absurd (omega arith));
      } (λ j other. record {
        held = ((λ c. (tells j).held.0 ((without_keeps e.held i j).0 c).0), λ z. (without_keeps e.held i j).1 ((tells j).held.1 z, other));
        done = ((λ c. ⊎_elim (tells j).done.0 (λ (q : (i, Done) ≡ (j, Done)). absurd (other (sym (ap (λ (x : ℕ × Cell). x.0) q)))) (Contains-push_cases e.ended (i, Done) (j, Done) c)), λ z. Contains-append_left e.ended ((i, Done) ∷ []) (j, Done) ((tells j).done.1 z));
        missed = ((λ c. ⊎_elim (tells j).missed.0 (λ (q : (i, Done) ≡ (j, Missed)). absurd (other (sym (ap (λ (x : ℕ × Cell). x.0) q)))) (Contains-push_cases e.ended (i, Done) (j, Missed) c)), λ z. Contains-append_left e.ended ((i, Done) ∷ []) (j, Missed) ((tells j).missed.1 z));
      }))
      (λ j c. c)
      (λ j c. inl c) (λ j c. inl c) (λ j w c. inl c)

  missed_kept : (s : St) (r : Kept rs ls s) (id i : ℕ) (e : LaneRecord) (rest : List LaneRecord) → get_elem? s.views id ≡ some (e ∷ rest) → i < length rs → Contains e.held i
      → Kept rs ls record { words = set s.words (i + 1) (missed_by e.lane); homes = s.homes; views = set s.views id (with_ended i Missed e ∷ rest) }
  missed_kept s r id i e rest was within mine =
      let n : ℕ = missed_by e.lane in
      let wide = r.wide in
      let short : i + 1 < length s.words = omega arith in
      let fits = r.fits id 0 e (e ∷ rest, was, refl) in
      let tells = r.tells id 0 e (e ∷ rest, was, refl) in
      let is : word s.words i ≡ held_by e.lane = (tells i).held.0 mine in
      let e' : LaneRecord = with_ended i Missed e in
      step_kept rs ls s r id i n e e' rest was short refl
      record {
        lane = fits.lane;
        relay = fits.relay;
        held = λ j c. fits.held j ((without_keeps e.held i j).0 c).0;
        ended = λ j c z. ⊎_elim (fits.ended j c) (λ (q : (i, Missed) ≡ (j, c)). subst (Contains e.won) (ap (λ (x : ℕ × Cell). x.0) q) (fits.held i mine)) (Contains-push_cases e.ended (i, Missed) (j, c) z);
        met = fits.met;
      }
      (inr (e.lane, fits.lane, its_relay i e.lane (subst (Names rs ls i) is (r.names i)), inr (inr refl)))
      (λ f other t. record {
        held = ((λ c. let z = t.held.0 c in absurd (other (omega arith))), λ z. absurd (omega arith));
        done = ((λ c. let z = t.done.0 c in absurd (omega arith)), λ z. absurd (omega arith));
        missed = ((λ c. let z = t.missed.0 c in absurd (omega arith)), λ z. absurd (other (omega arith)));
      })
      (λ w z. absurd (omega arith)) (λ w z. absurd (omega arith))
      (by_word (λ j m. Tells j m e') s.words i n short record {
        held = ((λ c. absurd (((without_keeps e.held i i).0 c).1 refl)), λ z. absurd (omega arith));
        done = ((λ c. ⊎_elim (λ (q : Contains e.ended (i, Done)). let z = (tells i).done.0 q in absurd (omega arith)) (λ (q : (i, Missed) ≡ (i, Done)). let d : Missed ≡ Done = ap (λ (x : ℕ × Cell). x.1) q in absurd (cc)) (Contains-push_cases e.ended (i, Missed) (i, Done) c)), λ z. absurd (omega arith));
        missed = ((λ _. refl), λ _. Contains-push e.ended (i, Missed));
      } (λ j other. record {
        held = ((λ c. (tells j).held.0 ((without_keeps e.held i j).0 c).0), λ z. (without_keeps e.held i j).1 ((tells j).held.1 z, other));
        done = ((λ c. ⊎_elim (tells j).done.0 (λ (q : (i, Missed) ≡ (j, Done)). absurd (other (sym (ap (λ (x : ℕ × Cell). x.0) q)))) (Contains-push_cases e.ended (i, Missed) (j, Done) c)), λ z. Contains-append_left e.ended ((i, Missed) ∷ []) (j, Done) ((tells j).done.1 z));
        missed = ((λ c. ⊎_elim (tells j).missed.0 (λ (q : (i, Missed) ≡ (j, Missed)). absurd (other (sym (ap (λ (x : ℕ × Cell). x.0) q)))) (Contains-push_cases e.ended (i, Missed) (j, Missed) c)), λ z. Contains-append_left e.ended ((i, Missed) ∷ []) (j, Missed) ((tells j).missed.1 z));
      }))
      (λ j c. c)
      (λ j c. inl c) (λ j c. inl c) (λ j w c. inl c)

  released_kept : (s : St) (r : Kept rs ls s) (id i : ℕ) (e : LaneRecord) (rest : List LaneRecord) → get_elem? s.views id ≡ some (e ∷ rest) → i < length rs → Contains e.held i
      → Kept rs ls record { words = set s.words (i + 1) (0); homes = s.homes; views = set s.views id (with_released i e ∷ rest) }
  released_kept s r id i e rest was within mine =
      let n : ℕ = 0 in
      let wide = r.wide in
      let short : i + 1 < length s.words = omega arith in
      let fits = r.fits id 0 e (e ∷ rest, was, refl) in
      let tells = r.tells id 0 e (e ∷ rest, was, refl) in
      let is : word s.words i ≡ held_by e.lane = (tells i).held.0 mine in
      let e' : LaneRecord = with_released i e in
      step_kept rs ls s r id i n e e' rest was short refl
      record {
        lane = fits.lane;
        relay = fits.relay;
        held = λ j c. fits.held j ((without_keeps e.held i j).0 c).0;
        ended = fits.ended;
        met = fits.met;
      }
      (inl refl)
      (λ f other t. record {
        held = ((λ c. let z = t.held.0 c in absurd (other (omega arith))), λ z. absurd (omega arith));
        done = ((λ c. let z = t.done.0 c in absurd (omega arith)), λ z. absurd (omega arith));
        missed = ((λ c. let z = t.missed.0 c in absurd (omega arith)), λ z. absurd (omega arith));
      })
      (λ w z. absurd (omega arith)) (λ w z. absurd (omega arith))
      (by_word (λ j m. Tells j m e') s.words i n short record {
        held = ((λ c. absurd (((without_keeps e.held i i).0 c).1 refl)), λ z. absurd (omega arith));
        done = ((λ c. let z = (tells i).done.0 c in absurd (omega arith)), λ z. absurd (omega arith));
        missed = ((λ c. let z = (tells i).missed.0 c in absurd (omega arith)), λ z. absurd (omega arith));
      } (λ j other. record {
        held = ((λ c. (tells j).held.0 ((without_keeps e.held i j).0 c).0), λ z. (without_keeps e.held i j).1 ((tells j).held.1 z, other));
        done = (tells j).done;
        missed = (tells j).missed;
      }))
      (λ j c. c)
      (λ j c. inl c) (λ j c. inl c) (λ j w c. inl c)

  pub finishes : (slots id : ℕ) (me : M) (i : ℕ) (e : LaneRecord) (rest : List LaneRecord) → me.0 ≡ e ∷ rest → i < length rs → Contains e.held i
      → Allows (Kept rs ls) slots id me (i + 1) (λ _. done_by e.lane) (ended Done (step slots (i + 1) (done_by e.lane) 0 none) me)
  finishes slots id me i e rest is within mine s r deep at _ =
      let was : get_elem? s.views id ≡ some (e ∷ rest) = at ∙ ap (λ (z : List LaneRecord). some z) is in (
        with_ended i Done e ∷ rest,
        keeps,
        tt,
        done_kept s r id i e rest was within mine,
        λ j f more word_is me_is. let q = same_one rs ls me.0 i j e f rest more word_is is me_is in (refl, λ k. with_ended (q.0 k) Done (q.1 k) ∷ q.2 k),
      )

  pub misses : (slots id : ℕ) (me : M) (i : ℕ) (e : LaneRecord) (rest : List LaneRecord) → me.0 ≡ e ∷ rest → i < length rs → Contains e.held i
      → Allows (Kept rs ls) slots id me (i + 1) (λ _. missed_by e.lane) (ended Missed (step slots (i + 1) (missed_by e.lane) 0 none) me)
  misses slots id me i e rest is within mine s r deep at _ =
      let was : get_elem? s.views id ≡ some (e ∷ rest) = at ∙ ap (λ (z : List LaneRecord). some z) is in (
        with_ended i Missed e ∷ rest,
        keeps,
        tt,
        missed_kept s r id i e rest was within mine,
        λ j f more word_is me_is. let q = same_one rs ls me.0 i j e f rest more word_is is me_is in (refl, λ k. with_ended (q.0 k) Missed (q.1 k) ∷ q.2 k),
      )

  pub releases : (slots id : ℕ) (me : M) (i : ℕ) (e : LaneRecord) (rest : List LaneRecord) → me.0 ≡ e ∷ rest → i < length rs → Contains e.held i
      → Allows (Kept rs ls) slots id me (i + 1) (λ _. 0) (released (step slots (i + 1) (0) 0 none) me)
  releases slots id me i e rest is within mine s r deep at _ =
      let was : get_elem? s.views id ≡ some (e ∷ rest) = at ∙ ap (λ (z : List LaneRecord). some z) is in (
        with_released i e ∷ rest,
        keeps,
        tt,
        released_kept s r id i e rest was within mine,
        λ j f more word_is me_is. let q = same_one rs ls me.0 i j e f rest more word_is is me_is in (refl, λ k. with_released (q.0 k) (q.1 k) ∷ q.2 k),
      )
