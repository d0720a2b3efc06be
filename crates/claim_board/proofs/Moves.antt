-- What each step of a lane asks of the rule.
use Rattle.std.proofs.Common.{◌≡◌, ◌≢◌, ◌⊎◌, ℕ, ◌+◌, ◌<◌, ◌≤◌, eqb, List, [], ◌∷◌, ◌++◌, length, set, sym, refl, ap, ◌∙◌, subst, ⊎_elim, inl, inr, arith}
use Rattle.std.specs.Prelude.{Contains, slice_index}
use Rattle.std.proofs.lemmas.List.Elements.{Contains-push, Contains-push_cases, Contains-append_left}
use mathlib.Core.Option.{none, some}
use mathlib.Core.Logic.{dite}
use native.Mathlib.Decide.{ℕ_discrete}
use lib.ListN.{get_elem?}
use prog.Atomic.{either}
use Rattle.atomic_table.specs.Table.{State, Me, step, Act, keeps, stepped, Allows, Valid, carried_after}
use lib.Seq.{set-get_or}
use Rattle.atomic_table.proofs.Lists.{exchanged, set_again}
use Rattle.fetch_plan.specs.declared.cell.Cell.{Cell}
use Rattle.fetch_plan.specs.declared.cell.Cell.TheVariants.{Free, Held, Done, Missed}
use Rattle.claim_board.specs.declared.records.LaneRecord.{LaneRecord}
use Rattle.claim_board.specs.Rules.{held_by, done_by, missed_by, word, cell_of, Stands, Names, Tells, Kept}
use Rattle.claim_board.specs.Steps.{with_won, with_met, Knows, claimed, looked}
use Rattle.claim_board.proofs.Words.{by_word, cell_of_held, cell_of_done, cell_of_missed}
use Rattle.claim_board.proofs.Kept.{step_kept}

abbrev St : Type 0
St = State ℕ (List LaneRecord)

abbrev M : Type 0
M = Me ℕ (List LaneRecord)

module _ (rs ls : List ℕ) where
  pub is_done : (i n : ℕ) → Names rs ls i n → cell_of n ≡ Done → (w : ℕ) × (n ≡ done_by w)
  is_done i n names is = ⊎_elim (λ (z : n ≡ 0). let f : Free ≡ Done = sym (ap cell_of z) ∙ is in absurd (cc))
      (λ (t : (w : ℕ) × (w < length ls) × (slice_index ls w ≡ slice_index rs i) × ((n ≡ held_by w) ⊎ ((n ≡ done_by w) ⊎ (n ≡ missed_by w)))). ⊎_elim
      (λ (z : n ≡ held_by t.0). let f : Held t.0 ≡ Done = sym (cell_of_held t.0) ∙ (sym (ap cell_of z) ∙ is) in absurd (cc))
      (⊎_elim (λ (z : n ≡ done_by t.0). (t.0, z)) (λ (z : n ≡ missed_by t.0). let f : Missed ≡ Done = sym (cell_of_missed t.0) ∙ (sym (ap cell_of z) ∙ is) in absurd (cc))) t.3)
      names

  pub is_missed : (i n : ℕ) → Names rs ls i n → cell_of n ≡ Missed → (w : ℕ) × (n ≡ missed_by w)
  is_missed i n names is = ⊎_elim (λ (z : n ≡ 0). let f : Free ≡ Missed = sym (ap cell_of z) ∙ is in absurd (cc))
      (λ (t : (w : ℕ) × (w < length ls) × (slice_index ls w ≡ slice_index rs i) × ((n ≡ held_by w) ⊎ ((n ≡ done_by w) ⊎ (n ≡ missed_by w)))). ⊎_elim
      (λ (z : n ≡ held_by t.0). let f : Held t.0 ≡ Missed = sym (cell_of_held t.0) ∙ (sym (ap cell_of z) ∙ is) in absurd (cc))
      (⊎_elim (λ (z : n ≡ done_by t.0). let f : Done ≡ Missed = sym (cell_of_done t.0) ∙ (sym (ap cell_of z) ∙ is) in absurd (cc)) (λ (z : n ≡ missed_by t.0). (t.0, z))) t.3)
      names

  pub is_held : (i n w : ℕ) → Names rs ls i n → cell_of n ≡ Held w → n ≡ held_by w
  is_held i n w names is = ⊎_elim (λ (z : n ≡ 0). let f : Free ≡ Held w = sym (ap cell_of z) ∙ is in absurd (cc))
      (λ (t : (w : ℕ) × (w < length ls) × (slice_index ls w ≡ slice_index rs i) × ((n ≡ held_by w) ⊎ ((n ≡ done_by w) ⊎ (n ≡ missed_by w)))). ⊎_elim
      (λ (z : n ≡ held_by t.0). let f : Held t.0 ≡ Held w = sym (cell_of_held t.0) ∙ (sym (ap cell_of z) ∙ is) in let g : t.0 ≡ w = cc in z ∙ ap held_by g)
      (⊎_elim (λ (z : n ≡ done_by t.0). let f : Done ≡ Held w = sym (cell_of_done t.0) ∙ (sym (ap cell_of z) ∙ is) in absurd (cc))
      (λ (z : n ≡ missed_by t.0). let f : Missed ≡ Held w = sym (cell_of_missed t.0) ∙ (sym (ap cell_of z) ∙ is) in absurd (cc))) t.3)
      names

  not_free : (i n : ℕ) → Names rs ls i n → n ≢ 0 → cell_of n ≢ Free
  not_free i n names other is = ⊎_elim (λ (z : n ≡ 0). other z)
      (λ (t : (w : ℕ) × (w < length ls) × (slice_index ls w ≡ slice_index rs i) × ((n ≡ held_by w) ⊎ ((n ≡ done_by w) ⊎ (n ≡ missed_by w)))). ⊎_elim
      (λ (z : n ≡ held_by t.0). let f : Held t.0 ≡ Free = sym (cell_of_held t.0) ∙ (sym (ap cell_of z) ∙ is) in absurd (cc))
      (⊎_elim (λ (z : n ≡ done_by t.0). let f : Done ≡ Free = sym (cell_of_done t.0) ∙ (sym (ap cell_of z) ∙ is) in absurd (cc))
      (λ (z : n ≡ missed_by t.0). let f : Missed ≡ Free = sym (cell_of_missed t.0) ∙ (sym (ap cell_of z) ∙ is) in absurd (cc))) t.3)
      names

  -- the lane that holds a cell was named, for its relay
  pub its_lane : (i n w : ℕ) → n ≡ held_by w → Names rs ls i n → (w < length ls) × (slice_index ls w ≡ slice_index rs i)
  its_lane i n w is names = ⊎_elim (λ (z : n ≡ 0). absurd (omega arith))
      (λ (t : (v : ℕ) × (v < length ls) × (slice_index ls v ≡ slice_index rs i) × ((n ≡ held_by v) ⊎ ((n ≡ done_by v) ⊎ (n ≡ missed_by v)))).
      let v : t.0 ≡ w = ⊎_elim (λ (z : n ≡ held_by t.0). omega arith) (⊎_elim (λ (z : n ≡ done_by t.0). omega arith) (λ (z : n ≡ missed_by t.0). omega arith)) t.3 in
      (subst (λ (k : ℕ). k < length ls) v t.1, ap (slice_index ls) (sym v) ∙ t.2))
      names

  -- a word fits a limit, since lanes are few
  pub small : (i n : ℕ) → length ls ≤ 1024 → Names rs ls i n → n < 4096
  small i n few names = ⊎_elim (λ (z : n ≡ 0). omega arith)
      (λ (t : (w : ℕ) × (w < length ls) × (slice_index ls w ≡ slice_index rs i) × ((n ≡ held_by w) ⊎ ((n ≡ done_by w) ⊎ (n ≡ missed_by w)))). let a = t.1 in ⊎_elim
      (λ (z : n ≡ held_by t.0). omega arith) (⊎_elim (λ (z : n ≡ done_by t.0). omega arith) (λ (z : n ≡ missed_by t.0). omega arith)) t.3)
      names

  -- two names of the cell and of the first lane of a view
  pub same_one : (v : List LaneRecord) (i j : ℕ) (e f : LaneRecord) (rest more : List LaneRecord) → i + 1 ≡ j + 1 → v ≡ e ∷ rest → v ≡ f ∷ more → (i ≡ j) × (e ≡ f) × (rest ≡ more)
  same_one v i j e f rest more a b c = let t : e ∷ rest ≡ f ∷ more = sym b ∙ c in (omega arith, cc, cc)

  -- what a lane knows of a cell is what its word says
  pub known : (s : St) (r : Kept rs ls s) (seat place : ℕ) (e : LaneRecord) (i : ℕ) (c : Cell) → Stands s.views seat place e → Knows e i c → cell_of (word s.words i) ≡ c
  known s r seat place e i c at knows = let tells = r.tells seat place e at i in let stays = r.stays seat place e at in ⊎_elim
      (λ (t : Contains e.held i × (c ≡ Held e.lane)). ap cell_of (tells.held.0 t.0) ∙ (cell_of_held e.lane ∙ sym t.1))
      (λ (t : ((c ≡ Done) ⊎ (c ≡ Missed)) × (Contains e.ended (i, c) ⊎ Contains e.met (i, c))). ⊎_elim
      (λ (d : c ≡ Done). ⊎_elim
      (λ (z : Contains e.ended (i, c)). ap cell_of (tells.done.0 (subst (λ (x : Cell). Contains e.ended (i, x)) d z)) ∙ (cell_of_done e.lane ∙ sym d))
      (λ (z : Contains e.met (i, c)). let w = stays.done i (subst (λ (x : Cell). Contains e.met (i, x)) d z) in ap cell_of w.1 ∙ (cell_of_done w.0 ∙ sym d)) t.1)
      (λ (d : c ≡ Missed). ⊎_elim
      (λ (z : Contains e.ended (i, c)). ap cell_of (tells.missed.0 (subst (λ (x : Cell). Contains e.ended (i, x)) d z)) ∙ (cell_of_missed e.lane ∙ sym d))
      (λ (z : Contains e.met (i, c)). let w = stays.missed i (subst (λ (x : Cell). Contains e.met (i, x)) d z) in ap cell_of w.1 ∙ (cell_of_missed w.0 ∙ sym d)) t.1)
      t.0)
      knows

  -- a lane meets cell i as it finds it
  meets : (s : St) (r : Kept rs ls s) (id i : ℕ) (e : LaneRecord) (rest : List LaneRecord) → get_elem? s.views id ≡ some (e ∷ rest) → i < length rs
      → Kept rs ls record { words = set s.words (i + 1) (word s.words i); homes = s.homes; views = set s.views id (with_met i (cell_of (word s.words i)) e ∷ rest) }
  meets s r id i e rest was within =
      let n : ℕ = word s.words i in
      let wide = r.wide in
      let short : i + 1 < length s.words = omega arith in
      let names = r.names i in
      let fits = r.fits id 0 e (e ∷ rest, was, refl) in
      let tells = r.tells id 0 e (e ∷ rest, was, refl) in
      let e' : LaneRecord = with_met i (cell_of n) e in
      step_kept rs ls s r id i n e e' rest was short refl record {
        lane = fits.lane;
        relay = fits.relay;
        held = fits.held;
        ended = fits.ended;
        met = λ j w c. ⊎_elim (fits.met j w)
            (λ (z : (i, cell_of n) ≡ (j, Held w)). subst (λ (k : ℕ). (w < length ls) × (slice_index ls w ≡ slice_index rs k)) (ap (λ (x : ℕ × Cell). x.0) z) (its_lane i n w (is_held i n w names (ap (λ (x : ℕ × Cell). x.1) z)) names))
            (Contains-push_cases e.met (i, cell_of n) (j, Held w) c);
      } names
      (λ f _ t. t) (λ w z. (w, z)) (λ w z. (w, z))
      (by_word (λ j m. Tells j m e') s.words i n short record { held = (tells i).held; done = (tells i).done; missed = (tells i).missed }
      (λ j _. record { held = (tells j).held; done = (tells j).done; missed = (tells j).missed }))
      (λ j c. c)
      (λ j c. ⊎_elim (λ (z : Contains e.met (j, Done)). inl z)
      (λ (z : (i, cell_of n) ≡ (j, Done)). inr (let d = is_done i n names (ap (λ (x : ℕ × Cell). x.1) z) in (d.0, subst (λ (x : ℕ). word s.words x ≡ done_by d.0) (ap (λ (x : ℕ × Cell). x.0) z) d.1)))
      (Contains-push_cases e.met (i, cell_of n) (j, Done) c))
      (λ j c. ⊎_elim (λ (z : Contains e.met (j, Missed)). inl z)
      (λ (z : (i, cell_of n) ≡ (j, Missed)). inr (let d = is_missed i n names (ap (λ (x : ℕ × Cell). x.1) z) in (d.0, subst (λ (x : ℕ). word s.words x ≡ missed_by d.0) (ap (λ (x : ℕ × Cell). x.0) z) d.1)))
      (Contains-push_cases e.met (i, cell_of n) (j, Missed) c))
      (λ j w c. ⊎_elim (λ (z : Contains e.met (j, Held w)). inl z)
      (λ (z : (i, cell_of n) ≡ (j, Held w)). inr (λ seat place f at is. let h = is_held i n w names (ap (λ (x : ℕ × Cell). x.1) z) in
      subst (Contains f.won) (ap (λ (x : ℕ × Cell). x.0) z) ((r.fits seat place f at).held i ((r.tells seat place f at i).held.1 (h ∙ ap held_by (sym is))))))
      (Contains-push_cases e.met (i, cell_of n) (j, Held w) c))

  -- a lane wins cell i, which is free
  wins : (s : St) (r : Kept rs ls s) (id i : ℕ) (e : LaneRecord) (rest : List LaneRecord) → get_elem? s.views id ≡ some (e ∷ rest) → i < length rs → e.relay ≡ slice_index rs i → word s.words i ≡ 0
      → Kept rs ls record { words = set s.words (i + 1) (held_by e.lane); homes = s.homes; views = set s.views id (with_won i e ∷ rest) }
  wins s r id i e rest was within same free =
      let n : ℕ = held_by e.lane in
      let wide = r.wide in
      let short : i + 1 < length s.words = omega arith in
      let fits = r.fits id 0 e (e ∷ rest, was, refl) in
      let tells = r.tells id 0 e (e ∷ rest, was, refl) in
      let e' : LaneRecord = with_won i e in
      step_kept rs ls s r id i n e e' rest was short refl
      record {
        lane = fits.lane;
        relay = fits.relay;
        held = λ j c. ⊎_elim (λ (z : Contains e.held j). Contains-append_left e.won (i ∷ []) j (fits.held j z)) (λ (z : i ≡ j). subst (Contains (e.won ++ i ∷ [])) z (Contains-push e.won i)) (Contains-push_cases e.held i j c);
        ended = λ j c z. Contains-append_left e.won (i ∷ []) j (fits.ended j c z);
        met = fits.met;
      }
      (inr (e.lane, fits.lane, sym fits.relay ∙ same, inl refl))
      (λ f other t. record {
        held = ((λ c. let z = t.held.0 c in absurd (omega arith)), λ z. absurd (other (omega arith)));
        done = ((λ c. let z = t.done.0 c in absurd (omega arith)), λ z. absurd (omega arith));
        missed = ((λ c. let z = t.missed.0 c in absurd (omega arith)), λ z. absurd (omega arith));
      })
      (λ w z. absurd (omega arith)) (λ w z. absurd (omega arith))
      (by_word (λ j m. Tells j m e') s.words i n short record {
        held = ((λ _. refl), λ _. Contains-push e.held i);
        done = ((λ c. let z = (tells i).done.0 c in absurd (omega arith)), λ z. absurd (omega arith));
        missed = ((λ c. let z = (tells i).missed.0 c in absurd (omega arith)), λ z. absurd (omega arith));
      } (λ j other. record {
        held = ((λ c. ⊎_elim (λ (z : Contains e.held j). (tells j).held.0 z) (λ (z : i ≡ j). absurd (other (sym z))) (Contains-push_cases e.held i j c)), λ z. Contains-append_left e.held (i ∷ []) j ((tells j).held.1 z));
        done = (tells j).done;
        missed = (tells j).missed;
      }))
      (λ j c. Contains-append_left e.won (i ∷ []) j c)
      (λ j c. inl c) (λ j c. inl c) (λ j w c. inl c)

  pub claims : (slots id : ℕ) (me : M) (i : ℕ) (e : LaneRecord) (rest : List LaneRecord) → me.0 ≡ e ∷ rest → i < length rs → e.relay ≡ slice_index rs i
      → Allows (Kept rs ls) slots id me (i + 1) (λ n. either (eqb n 0) (held_by e.lane) n) (claimed (step slots (i + 1) 0 (held_by e.lane) none) me)
  claims slots id me i e rest is within same s r deep at _ =
      let was : get_elem? s.views id ≡ some (e ∷ rest) = at ∙ ap (λ (z : List LaneRecord). some z) is in
      let n : ℕ = word s.words i in
      exchanged n 0 (held_by e.lane)
      (λ x. (w : List LaneRecord) × (a : Act ℕ) × Valid s.homes me.1 a × Kept rs ls (stepped s (i + 1) x id me.1 w a) × claimed (step slots (i + 1) 0 (held_by e.lane) none) me n (w, carried_after me.1 a))
      (λ hit. (
        with_won i e ∷ rest,
        keeps,
        tt,
        wins s r id i e rest was within same hit,
        λ j f more word_is me_is. let q = same_one me.0 i j e f rest more word_is is me_is in (
          refl,
          (λ _. ((λ k. with_won (q.0 k) (q.1 k) ∷ q.2 k), λ c knows. sym (ap cell_of hit) ∙ known s r id 0 e i c (e ∷ rest, was, refl) (subst (λ (z : ℕ × LaneRecord). Knows z.1 z.0 c) (λ k. (sym q.0 k, sym q.1 k)) knows))),
          λ z. absurd (z hit),
        ),
      ))
      (λ miss. (
        with_met i (cell_of n) e ∷ rest,
        keeps,
        tt,
        meets s r id i e rest was within,
        λ j f more word_is me_is. let q = same_one me.0 i j e f rest more word_is is me_is in (
          refl,
          (λ z. absurd (miss z)),
          λ _. (small i n r.few (r.names i), not_free i n (r.names i) miss, (λ k. with_met (q.0 k) (cell_of n) (q.1 k) ∷ q.2 k), λ c knows. known s r id 0 e i c (e ∷ rest, was, refl) (subst (λ (z : ℕ × LaneRecord). Knows z.1 z.0 c) (λ k. (sym q.0 k, sym q.1 k)) knows)),
        ),
      ))

  -- a look at a free cell changes nothing
  idles : (s : St) (r : Kept rs ls s) (id i : ℕ) (v : List LaneRecord) → get_elem? s.views id ≡ some v → Kept rs ls record { words = set s.words (i + 1) (word s.words i); homes = s.homes; views = set s.views id v }
  idles s r id i v was = subst (λ (z : List ℕ × List (List LaneRecord)). Kept rs ls record { words = z.0; homes = s.homes; views = z.1 }) (λ k. (sym (set-get_or s.words (i + 1) 0) k, sym (set_again s.views id v was) k)) r

  pub looks : (slots id : ℕ) (me : M) (i : ℕ) (e : LaneRecord) (rest : List LaneRecord) → me.0 ≡ e ∷ rest → i < length rs
      → Allows (Kept rs ls) slots id me (i + 1) (λ n. n) (looked (step slots (i + 1) 0 0 none) me)
  looks slots id me i e rest is within s r deep at _ =
      let was : get_elem? s.views id ≡ some (e ∷ rest) = at ∙ ap (λ (z : List LaneRecord). some z) is in
      let n : ℕ = word s.words i in
      dite (ℕ_discrete n 0)
      (λ hit. (
        me.0,
        keeps,
        tt,
        idles s r id i me.0 at,
        λ j f more word_is me_is. let q = same_one me.0 i j e f rest more word_is is me_is in (
          refl,
          (λ _. (refl, λ c knows. sym (ap cell_of hit) ∙ known s r id 0 e i c (e ∷ rest, was, refl) (subst (λ (z : ℕ × LaneRecord). Knows z.1 z.0 c) (λ k. (sym q.0 k, sym q.1 k)) knows))),
          λ z. absurd (z hit),
        ),
      ))
      (λ miss. (
        with_met i (cell_of n) e ∷ rest,
        keeps,
        tt,
        meets s r id i e rest was within,
        λ j f more word_is me_is. let q = same_one me.0 i j e f rest more word_is is me_is in (
          refl,
          (λ z. absurd (miss z)),
          λ _. (small i n r.few (r.names i), not_free i n (r.names i) miss, (λ k. with_met (q.0 k) (cell_of n) (q.1 k) ∷ q.2 k), λ c knows. known s r id 0 e i c (e ∷ rest, was, refl) (subst (λ (z : ℕ × LaneRecord). Knows z.1 z.0 c) (λ k. (sym q.0 k, sym q.1 k)) knows)),
        ),
      ))
