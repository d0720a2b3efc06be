-- A seal and another plan, from what they leave to the history behind it.
use Rattle.std.proofs.Common.{◌≡◌, ℕ, ◌+◌, ◌-◌, true, false, cond, ◌||◌, List, [], ◌∷◌, ◌++◌, length, map, take, get_or, replicate, refl, sym, ap, ◌∙◌, subst, arith, inl, inr, ◌⊎◌, Option, Some, None, Ok, Err, append_assoc}
use Rattle.std.specs.Prelude.{is_some, slice_get, MatchOption, MatchResult, Result, IfOk}
use Rattle.std.specs.declared.alloc.AllocError.{AllocError}
use Rattle.std.proofs.lemmas.List.{get_or-replicate, get_or_past, length-replicate, length-append, get_or_append_left, get_or-append_right}
use Rattle.std.proofs.Math.Seq.{take-append_seam}
use Rattle.std.proofs.lemmas.Bool.{cases_lt, or_right}
use Rattle.item_key.specs.declared.Id.{Id}
use Rattle.sharing.specs.Bases.{base_of}
use Rattle.sharing.specs.Sharing.{is_among, NoneSmaller}
use Rattle.sharing.specs.Offers.{Ascend, AreRelays, IsOffers, StandsFor}
use Rattle.offer_table.specs.Table.{Table, IsTable}
use Rattle.fetch_plan.specs.Plan.{Planned, IsPlanOf}
use Rattle.fetch_plan.specs.declared.cell.Cell.{Cell}
use Rattle.fetch_plan.specs.declared.cell.Cell.TheVariants.{Free}
use Rattle.round_core.specs.declared.events.Refusal.TheVariants as why
use Rattle.round_core.specs.declared.events.RoundEvent.{RoundEvent}
use Rattle.round_core.specs.declared.events.RoundEvent.TheVariants.{Seal, Again}
use Rattle.round_core.specs.declared.events.Answer.{Answer}
use Rattle.round_core.specs.declared.events.Answer.TheVariants.{Sealed, Refused}
use Rattle.round_core.specs.History.{History, Stands, TableOf, seals, is_sealed, sealings, gives_of, gives_before, changes, left_cell, cell_after, places, is_placed, wants_in, reports}
use Rattle.round_core.specs.Legal.{is_held, IsLowestHeld, MakesPlan, Right, legal_after}
use Rattle.round_core.specs.Left.{State, plans_of, Leaves, Plans, SealsTo, gone_at_last, AreWithout, Replans, AgainTo}
use Rattle.round_core.proofs.Histories.{or_false, sealed_push, placed_push, sealings_push, cell_push, so_far, before_last, before_none, gives_push, plans_push, get_seam, legal_push}
use Rattle.round_core.proofs.Touches.{table_kept}
use Rattle.round_core.proofs.Left.{leaves_same, right_true, right_false}
use Rattle.round_core.proofs.Gone.{again_offers}

-- free cells after others
more_free : (cells : List Cell) (n i : ℕ) → get_or (cells ++ replicate n Free) i Free ≡ get_or cells i Free
more_free cells n i =
    elim (cases_lt i (length cells)) [
      | inl lt ↦ get_or_append_left cells (replicate n Free) Free i lt
      | inr le ↦ get_or-append_right cells (replicate n Free) (length cells) i Free refl le ∙ free (i - length cells) ∙ sym (get_or_past cells i Free le)
    ]
  where
    free : (j : ℕ) → get_or (replicate n Free) j Free ≡ Free
    free j =
        elim (cases_lt j n) [
          | inl lt ↦ get_or-replicate n j Free Free lt
          | inr ge ↦ get_or_past (replicate n Free) j Free (omega (arith, ge, length-replicate n Free))
        ]

-- the next plan of those that a history fixes
makes : (plans later : List Planned) (h : History) (bases : List ℕ) (p : Planned) (offered : List (Id × List ℕ)) (a : Answer) → sealings h ≡ length plans → StandsFor offered (Stands h (gives_of plans)) → IsPlanOf bases offered p → NoneSmaller (base_of bases) offered p.least_max → a ≡ Sealed p.least_max →
    MakesPlan ((plans ++ p ∷ []) ++ later) h bases a
makes plans later h bases p offered a count offers planned least said =
    subst (λ ps. MakesPlan ps h bases a) (sym (append_assoc plans (p ∷ []) later)) (record {
      plan = p;
      next = ap (slice_get (plans ++ p ∷ later)) count ∙ get_seam plans later p;
      offered = offered;
      offers = subst (λ gs. StandsFor offered (Stands h gs)) (sym (so_far plans (p ∷ later) h count)) offers;
      planned = planned;
      least = least;
      answer = said;
    })

-- an event that makes a plan
made : (lanes : List ℕ) (h : History) (s : State) (e : RoundEvent) (a : Answer) (p : Planned) (table : Table) (l : Leaves lanes h s) → ((r : ℕ) (i : Id) → wants_in r i e a ≡ false) → ((r : ℕ) → reports r e a ≡ false) → ((k : ℕ) → changes k e a ≡ false) → ((id : Id) → places id e ≡ false) →
    seals a ≡ true → TableOf h (gives_of (plans_of l.earlier s.plan)) table → ((later : List Planned) → Right lanes ((plans_of l.earlier s.plan ++ p ∷ []) ++ later) h e a) →
    Leaves lanes (h ++ (e, a) ∷ []) (record s { table = table; plan = Some p; cells = s.cells ++ replicate (length p.gives) Free })
made lanes h s e a p table l w q kept none sealing offers right =
    let plans : List Planned = plans_of l.earlier s.plan in
    let count : sealings (h ++ (e, a) ∷ []) ≡ length plans + 1 = omega (arith, sealings_push h e a, ap {B = ℕ} (λ b. cond b 1 0) sealing, l.count) in
    let last : take (sealings (h ++ (e, a) ∷ []) - 1) (plans ++ p ∷ []) ≡ plans = ap (λ n. take n (plans ++ p ∷ [])) (let n : sealings (h ++ (e, a) ∷ []) - 1 ≡ length plans = omega (arith, count) in n) ∙ take-append_seam plans (p ∷ []) in
    record {
      same_lanes = l.same_lanes;
      earlier = plans;
      count = count ∙ sym (plans_push plans p);
      sealed = sealed_push h e a ∙ or_right (is_sealed h) (seals a) sealing;
      legal = λ later. legal_push lanes ((plans ++ p ∷ []) ++ later) [] h e a (subst (λ ps. legal_after lanes ps [] h) (sym (append_assoc plans (p ∷ []) later)) (l.legal (p ∷ later))) (right later);
      table = subst (λ ps. TableOf (h ++ (e, a) ∷ []) (gives_of ps) table) (sym last) (table_kept h e a (gives_of plans) table offers w q (λ k lt. kept k));
      long = omega (arith, length-append s.cells (replicate (length p.gives) Free), length-replicate (length p.gives) Free, l.long, ap length (gives_push plans p), length-append (gives_of plans) p.gives);
      cell = λ i. more_free s.cells (length p.gives) i ∙ l.cell i ∙ sym (cell_push h e a i ∙ ap (λ b. cond b (left_cell e a) (cell_after h i)) (kept i));
      place = λ id. l.place id ∙ sym (placed_push h e a id ∙ ap (λ b. is_placed h id || b) (none id) ∙ or_false (is_placed h id));
    }

-- ---- the seal
module _ (lanes : List ℕ) (h : History) (s : State) (l : Leaves lanes h s) (bases : List ℕ) where
  refused_seal : (a : Answer) → is_sealed h ≡ true → a ≡ Refused why.Sealed → Leaves lanes (h ++ (Seal bases, a) ∷ []) s
  refused_seal a sealed is = leaves_same lanes h s (Seal bases) a l (ap seals is) (λ k. refl) (λ r i. refl) (λ r. refl) (λ id. refl) (λ later. right_true (is_sealed h) _ _ sealed is)

  none_yet : s.plan ≡ None → gives_before (plans_of l.earlier s.plan) h ≡ gives_of (plans_of l.earlier s.plan)
  none_yet e = ap (λ o. gives_before (plans_of l.earlier o) h) e ∙ before_none h ∙ sym (ap (λ o. gives_of (plans_of l.earlier o)) e)

  seal_by : (o : Option Planned) (result : Result Answer AllocError) (new : State) → s.plan ≡ o →
      MatchOption o (MatchResult result (λ a. Plans bases s.table.offers s s.table a new) (λ _. new ≡ s)) (λ _. (result ≡ Ok (Refused why.Sealed)) × (new ≡ s)) →
      IfOk result (λ a. Leaves lanes (h ++ (Seal bases, a) ∷ []) new)
  seal_by None (Ok a) new e m =
      let table : TableOf h (gives_of (plans_of l.earlier s.plan)) s.table = subst (λ gs. TableOf h gs s.table) (none_yet e) l.table in
      subst (Leaves lanes (h ++ (Seal bases, a) ∷ [])) (sym m.after)
      (made lanes h s (Seal bases) a m.plan s.table l (λ r i. refl) (λ r. refl) (λ k. refl) (λ id. refl) (ap seals m.answer) table
      (λ later. right_false (is_sealed h) _ _ (l.sealed ∙ ap is_some e) (makes (plans_of l.earlier s.plan) later h bases m.plan s.table.offers a l.count table.offers m.planned m.least m.answer)))
  seal_by None (Err f) new e m = tt
  seal_by (Some p) (Ok a) new e m = subst (Leaves lanes (h ++ (Seal bases, a) ∷ [])) (sym m.1) (refused_seal a (l.sealed ∙ ap is_some e) (let x = m.0 in cc))
  seal_by (Some p) (Err f) new e m = tt

pub leaves_seal : (lanes : List ℕ) (h : History) (s : State) (bases : List ℕ) (result : Result Answer AllocError) (new : State) → Leaves lanes h s → SealsTo s bases result new → IfOk result (λ a. Leaves lanes (h ++ (Seal bases, a) ∷ []) new)
leaves_seal lanes h s bases result new l m = seal_by lanes h s l bases s.plan result new refl m

-- ---- another plan
gives_with : (earlier : List Planned) (o : Option Planned) (p : Planned) → o ≡ Some p → gives_of (plans_of earlier o) ≡ gives_of earlier ++ p.gives
gives_with earlier o p e = ap (λ o. gives_of (plans_of earlier o)) e ∙ gives_push earlier p

module _ (lanes : List ℕ) (h : History) (s : State) (l : Leaves lanes h s) (bases : List ℕ) where
  refused_again : (a : Answer) → seals a ≡ false → ((later : List Planned) → Right lanes (plans_of l.earlier s.plan ++ later) h (Again bases) a) → Leaves lanes (h ++ (Again bases, a) ∷ []) s
  refused_again a unsealed right = leaves_same lanes h s (Again bases) a l unsealed (λ k. refl) (λ r i. refl) (λ r. refl) (λ id. refl) right

  left_offers : (p : Planned) (offered : List (Id × List ℕ)) → s.plan ≡ Some p → Ascend (map (λ g. g.0) p.gives) → IsOffers offered → AreWithout s.table.offers (gone_at_last s.table.offers p.gives s.cells) offered → StandsFor offered (Stands h (gives_of (plans_of l.earlier s.plan)))
  left_offers p offered e ascend ok left =
      let past : gives_before (plans_of l.earlier s.plan) h ≡ gives_of l.earlier =
      ap (λ o. gives_before (plans_of l.earlier o) h) e ∙ before_last l.earlier (p ∷ []) h (l.count ∙ ap (λ o. length (plans_of l.earlier o)) e ∙ plans_push l.earlier p) in
      subst (λ gs. StandsFor offered (Stands h gs)) (sym (gives_with l.earlier s.plan p e))
      (again_offers h (gives_of l.earlier) p.gives s.cells s.table.offers offered (subst (λ gs. StandsFor s.table.offers (Stands h gs)) past l.table.offers) left ok ascend
      (omega (arith, l.long, ap length (gives_with l.earlier s.plan p e), length-append (gives_of l.earlier) p.gives)) l.cell)

  left_table : (p : Planned) (table : Table) → s.plan ≡ Some p → Ascend (map (λ g. g.0) p.gives) → IsTable table → AreWithout s.table.offers (gone_at_last s.table.offers p.gives s.cells) table.offers → table.reported ≡ s.table.reported → TableOf h (gives_of (plans_of l.earlier s.plan)) table
  left_table p table e ascend ok left same = record {
    offers = left_offers p table.offers e ascend ok.offers_ok left;
    relays = subst AreRelays (sym same) l.table.relays;
    reported = λ r. ap (λ rs. is_among rs r) same ∙ l.table.reported r;
  }

  held_by : (i : ℕ) → IsLowestHeld (λ k. get_or s.cells k Free) i → IsLowestHeld (cell_after h) i
  held_by i b = record {
    held = ap is_held (sym (l.cell i)) ∙ b.held;
    lowest = λ k lt. ap is_held (sym (l.cell k)) ∙ b.lowest k lt;
  }

  again_by : (o : Option Planned) (result : Result Answer AllocError) (new : State) → s.plan ≡ o →
      MatchOption o ((result ≡ Ok (Refused why.NotSealed)) × (new ≡ s))
      (λ last. MatchResult result
      (λ a. ((i : ℕ) × IsLowestHeld (λ k. get_or s.cells k Free) i × (a ≡ Refused (why.Busy i)) × (new ≡ s)) ⊎ (((k : ℕ) → is_held (get_or s.cells k Free) ≡ false) × Replans bases s last a new))
      (λ _. new ≡ s)) →
      IfOk result (λ a. Leaves lanes (h ++ (Again bases, a) ∷ []) new)
  again_by None (Ok a) new e m =
      let is : a ≡ Refused why.NotSealed = (let x = m.0 in cc) in
      subst (Leaves lanes (h ++ (Again bases, a) ∷ [])) (sym m.1) (refused_again a (ap seals is) (λ later. right_false (is_sealed h) _ _ (l.sealed ∙ ap is_some e) is))
  again_by None (Err f) new e m = tt
  again_by (Some p) (Ok a) new e m =
      let sealed : is_sealed h ≡ true = l.sealed ∙ ap is_some e in
      elim m [
        | inl b ↦ subst (Leaves lanes (h ++ (Again bases, a) ∷ [])) (sym b.3) (refused_again a (ap seals b.2) (λ later. right_true (is_sealed h) _ _ sealed (inl (b.0, held_by b.0 b.1, b.2))))
        | inr b ↦
            (let r : Replans bases s p a new = b.1 in
            subst (Leaves lanes (h ++ (Again bases, a) ∷ [])) (sym r.after)
            (made lanes h s (Again bases) a r.plan r.table l (λ r i. refl) (λ r. refl) (λ k. refl) (λ id. refl) (ap seals r.answer)
            (left_table p r.table e r.ascend r.table_ok r.left r.reported)
            (λ later. right_true (is_sealed h) _ _ sealed (inr (
              λ k. ap is_held (sym (l.cell k)) ∙ b.0 k,
              makes (plans_of l.earlier s.plan) later h bases r.plan r.planned.offered a l.count
                  (left_offers p r.planned.offered e r.ascend r.planned.ordered r.planned.left) r.planned.planned r.planned.least r.answer,
            )))))
      ]
  again_by (Some p) (Err f) new e m = tt

pub leaves_again : (lanes : List ℕ) (h : History) (s : State) (bases : List ℕ) (result : Result Answer AllocError) (new : State) → Leaves lanes h s → AgainTo s bases result new → IfOk result (λ a. Leaves lanes (h ++ (Again bases, a) ∷ []) new)
leaves_again lanes h s bases result new l m = again_by lanes h s l bases s.plan result new refl m
