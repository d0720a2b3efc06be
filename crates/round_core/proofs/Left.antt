-- Reports and inserts, from what they leave to the history behind it.
use Rattle.std.proofs.Common.{◌≡◌, ◌≢◌, ℕ, ◌+◌, ◌-◌, ◌==◌, nat_lt, Bool, true, false, cond, not, ◌&&◌, ◌||◌, List, [], ◌∷◌, ◌++◌, length, take, refl, sym, ap, ◌∙◌, subst, arith, Option, Some, None, Ok, Err}
use Rattle.std.specs.Prelude.{is_some, MatchBool, MatchOption, Result, IfOk}
use Rattle.std.specs.List.{list_any}
use Rattle.std.specs.declared.alloc.AllocError.{AllocError}
use Rattle.std.proofs.lemmas.Bool.{false≢true}
use Rattle.std.specs.BTreeSet.{BTreeSet}
use Rattle.item_key.specs.declared.Id.{Id}
use Rattle.sharing.specs.declared.TheConstants.{RELAYS, MOST_IDS}
use Rattle.sharing.specs.Sharing.{is_among}
use Rattle.sharing.specs.Offers.{is_id, relays_of}
use Rattle.offer_table.specs.Table.{Table}
use Rattle.fetch_plan.specs.Plan.{Planned}
use Rattle.round_core.specs.declared.events.Refusal.{Refusal}
use Rattle.round_core.specs.declared.events.Refusal.TheVariants as why
use Rattle.round_core.specs.declared.events.RoundEvent.{RoundEvent}
use Rattle.round_core.specs.declared.events.RoundEvent.TheVariants.{Report, Insert}
use Rattle.round_core.specs.declared.events.Answer.{Answer}
use Rattle.round_core.specs.declared.events.Answer.TheVariants.{Taken, Sealed, Won, Lost, Finished, MissedIt, Released, Placed, Refused}
use Rattle.round_core.specs.History.{History, reports, wants_in, wants, TableOf, seals, is_sealed, sealings, gives_of, gives_before, changes, left_cell, cell_after, places, is_placed}
use Rattle.round_core.specs.Legal.{report_answer, new_ids, Right, Legal}
use Rattle.round_core.specs.Left.{State, plans_of, Leaves, HasReport, AddsBy, Adds, ReportsTo, InsertsTo}
use Rattle.round_core.proofs.Histories.{cell_push, sealed_push, sealings_push, placed_push, wants_push, reported_push, legal_push, before_none, or_false}
use Rattle.round_core.proofs.Touches.{table_kept}

-- an event that is no answer Sealed, adds no offer, and touches no cell
pub leaves_plain : (lanes : List ℕ) (h : History) (s : State) (e : RoundEvent) (a : Answer) (table : Table) (placed : List Id) (l : Leaves lanes h s) → seals a ≡ false → ((k : ℕ) → changes k e a ≡ false) →
    TableOf (h ++ (e, a) ∷ []) (gives_before (plans_of l.earlier s.plan) h) table → ((later : List Planned) → Right lanes (plans_of l.earlier s.plan ++ later) h e a) → ((id : Id) → list_any (is_id id) placed ≡ (list_any (is_id id) s.placed || places id e)) →
    Leaves lanes (h ++ (e, a) ∷ []) (record s { table = table; placed = placed })
leaves_plain lanes h s e a table placed l unsealed kept offers right put =
    let count : sealings (h ++ (e, a) ∷ []) ≡ sealings h = omega (arith, sealings_push h e a, ap {B = ℕ} (λ b. cond b 1 0) unsealed) in
    record {
      same_lanes = l.same_lanes;
      earlier = l.earlier;
      count = count ∙ l.count;
      sealed = sealed_push h e a ∙ ap (λ b. is_sealed h || b) unsealed ∙ or_false (is_sealed h) ∙ l.sealed;
      legal = λ later. legal_push lanes (plans_of l.earlier s.plan ++ later) [] h e a (l.legal later) (right later);
      table = subst (λ n. TableOf (h ++ (e, a) ∷ []) (gives_of (take (n - 1) (plans_of l.earlier s.plan))) table) (sym count) offers;
      long = l.long;
      cell = λ i. l.cell i ∙ sym (cell_push h e a i ∙ ap (λ b. cond b (left_cell e a) (cell_after h i)) (kept i));
      place = λ id. put id ∙ ap (λ b. b || places id e) (l.place id) ∙ sym (placed_push h e a id);
    }

-- an answer that changes nothing
pub leaves_same : (lanes : List ℕ) (h : History) (s : State) (e : RoundEvent) (a : Answer) (l : Leaves lanes h s) → seals a ≡ false → ((k : ℕ) → changes k e a ≡ false) → ((r : ℕ) (i : Id) → wants_in r i e a ≡ false) → ((r : ℕ) → reports r e a ≡ false) → ((id : Id) → places id e ≡ false) →
    ((later : List Planned) → Right lanes (plans_of l.earlier s.plan ++ later) h e a) → Leaves lanes (h ++ (e, a) ∷ []) s
leaves_same lanes h s e a l unsealed kept w q none right =
    leaves_plain lanes h s e a s.table s.placed l unsealed kept (table_kept h e a (gives_before (plans_of l.earlier s.plan) h) s.table l.table w q (λ k lt. kept k)) right
    (λ id. sym (ap (λ b. list_any (is_id id) s.placed || b) (none id) ∙ or_false (list_any (is_id id) s.placed)))

pub right_true : (b : Bool) (P Q : Type 0) → b ≡ true → P → MatchBool b P Q
right_true true P Q e p = p
right_true false P Q e p = absurd (false≢true e)

pub right_false : (b : Bool) (P Q : Type 0) → b ≡ false → Q → MatchBool b P Q
right_false true P Q e q = absurd (false≢true (sym e))
right_false false P Q e q = q

-- ---- reports
bool_same : (a b : Bool) → (a ≡ true → b ≡ true) → (b ≡ true → a ≡ true) → a ≡ b
bool_same true b f g = sym (f refl)
bool_same false true f g = absurd (false≢true (g refl))
bool_same false false f g = refl

-- before the seal the offers are just those that were reported
reported_offers : (h : History) (table : Table) → TableOf h [] table → (i : Id) (r : ℕ) → is_among (relays_of table.offers i) r ≡ wants h r i
reported_offers h table t i r =
    bool_same (is_among (relays_of table.offers i) r) (wants h r i) (λ m. (t.offers.sound r i m).wanted) (λ w. t.offers.whole r i (record { wanted = w; kept = λ k lt. absurd (omega (arith, lt)) }))

table_added : (h : History) (relay : ℕ) (need : BTreeSet Id) (old new : Table) → TableOf h [] old → HasReport old relay need.keys new → TableOf (h ++ (Report relay need, Taken) ∷ []) [] new
table_added h relay need old new t a =
    let is : (r : ℕ) (i : Id) → is_among (relays_of new.offers i) r ≡ wants (h ++ (Report relay need, Taken) ∷ []) r i =
    λ r i. a.offers i r ∙ ap (λ b. b || ((r == relay) && list_any (is_id i) need.keys)) (reported_offers h old t i r) ∙ sym (wants_push h (Report relay need) Taken r i) in
    record {
      offers = record {
        ordered = a.table.offers_ok;
        sound = λ r i m. record { wanted = sym (is r i) ∙ m; kept = λ k lt. absurd (omega (arith, lt)) };
        whole = λ r i s. is r i ∙ s.wanted;
      };
      relays = a.relays;
      reported = λ r. a.reported r ∙ ap (λ b. b || (r == relay)) (t.reported r) ∙ sym (reported_push h (Report relay need) Taken r);
    }

-- a report is answered Taken or refused
odd : (x y z : Bool) (a : Answer) → a ≡ cond x (Refused why.Relay) (cond y (Refused why.TableFull) (cond z (Refused why.Double) Taken)) → ((r : Refusal) → a ≢ Refused r) → a ≢ Taken → ⊥
odd true y z a e never taken = never why.Relay e
odd false true z a e never taken = never why.TableFull e
odd false false true a e never taken = never why.Double e
odd false false false a e never taken = taken e

module _ (lanes : List ℕ) (h : History) (s : State) (l : Leaves lanes h s) (relay : ℕ) (need : BTreeSet Id) where
  refused_report : (r : Refusal) → ((later : List Planned) → Right lanes (plans_of l.earlier s.plan ++ later) h (Report relay need) (Refused r)) → Leaves lanes (h ++ (Report relay need, Refused r) ∷ []) s
  refused_report r right = leaves_same lanes h s (Report relay need) (Refused r) l refl (λ k. refl) (λ r i. refl) (λ r. refl) (λ id. refl) right

  module _ (unsealed : is_sealed h ≡ false) (none : gives_before (plans_of l.earlier s.plan) h ≡ []) (table : Table) where
    old : TableOf h [] s.table
    old = subst (λ gs. TableOf h gs s.table) none l.table

    right_report : (a : Answer) → a ≡ report_answer s.table relay need.keys → (later : List Planned) → Right lanes (plans_of l.earlier s.plan ++ later) h (Report relay need) a
    right_report a said later = right_false (is_sealed h) _ _ unsealed (s.table, old, said)

    never : (a : Answer) → a ≡ report_answer s.table relay need.keys → ((r : Refusal) → a ≢ Refused r) → a ≢ Taken → ⊥
    never a said = odd (not (nat_lt relay RELAYS)) (nat_lt MOST_IDS (length need.keys) || nat_lt MOST_IDS (length s.table.offers + new_ids s.table.offers need.keys)) (is_among s.table.reported relay) a said

    -- a report, by its answer
    answered : (a : Answer) → a ≡ report_answer s.table relay need.keys → AddsBy a s.table relay need.keys table → Leaves lanes (h ++ (Report relay need, a) ∷ []) (record s { table = table })
    answered Taken said adds =
        leaves_plain lanes h s (Report relay need) Taken table s.placed l refl (λ k. refl)
        (subst (λ gs. TableOf (h ++ (Report relay need, Taken) ∷ []) gs table) (sym none) (table_added h relay need s.table table old adds))
        (right_report Taken said) (λ id. sym (or_false (list_any (is_id id) s.placed)))
    answered (Refused r) said same =
        subst (λ (t : Table). Leaves lanes (h ++ (Report relay need, Refused r) ∷ []) (record s { table = t })) (sym same) (refused_report r (right_report (Refused r) said))
    answered (Sealed n) said same = absurd (never (Sealed n) said (λ r e. cc) (λ e. cc))
    answered Won said same = absurd (never Won said (λ r e. cc) (λ e. cc))
    answered (Lost c) said same = absurd (never (Lost c) said (λ r e. cc) (λ e. cc))
    answered Finished said same = absurd (never Finished said (λ r e. cc) (λ e. cc))
    answered MissedIt said same = absurd (never MissedIt said (λ r e. cc) (λ e. cc))
    answered Released said same = absurd (never Released said (λ r e. cc) (λ e. cc))
    answered (Placed b) said same = absurd (never (Placed b) said (λ r e. cc) (λ e. cc))

  report_by : (o : Option Planned) (result : Result Answer AllocError) (new : State) → s.plan ≡ o → MatchOption o (Adds s.table relay need.keys new.table result × (new ≡ record s { table = new.table })) (λ _. (result ≡ Ok (Refused why.Sealed)) × (new ≡ s)) →
      IfOk result (λ a. Leaves lanes (h ++ (Report relay need, a) ∷ []) new)
  report_by None (Ok a) new e m =
      subst (Leaves lanes (h ++ (Report relay need, a) ∷ [])) (sym m.1)
      (answered (l.sealed ∙ ap is_some e) (ap (λ o. gives_before (plans_of l.earlier o) h) e ∙ before_none h) new.table a m.0.0 m.0.1)
  report_by None (Err f) new e m = tt
  report_by (Some p) (Ok a) new e m =
      let same : a ≡ Refused why.Sealed = (let x = m.0 in cc) in
      subst (Leaves lanes (h ++ (Report relay need, a) ∷ [])) (sym m.1)
      (subst (λ b. Leaves lanes (h ++ (Report relay need, b) ∷ []) s) (sym same) (refused_report why.Sealed (λ later. right_true (is_sealed h) _ _ (l.sealed ∙ ap is_some e) refl)))
  report_by (Some p) (Err f) new e m = tt

pub leaves_report : (lanes : List ℕ) (h : History) (s : State) (relay : ℕ) (need : BTreeSet Id) (result : Result Answer AllocError) (new : State) → Leaves lanes h s → ReportsTo s relay need.keys result new → IfOk result (λ a. Leaves lanes (h ++ (Report relay need, a) ∷ []) new)
leaves_report lanes h s relay need result new l m = report_by lanes h s l relay need s.plan result new refl m

-- ---- an insert
pub leaves_insert : (lanes : List ℕ) (h : History) (s : State) (id : Id) (result : Result Answer AllocError) (new : State) → Leaves lanes h s → InsertsTo s id result new → IfOk result (λ a. Leaves lanes (h ++ (Insert id, a) ∷ []) new)
leaves_insert lanes h s id (Ok a) new l m =
    let said : a ≡ Placed (not (is_placed h id)) = m.0 ∙ ap (λ b. Placed (not b)) (l.place id) in
    let unsealed : seals a ≡ false = ap seals said in
    subst (Leaves lanes (h ++ (Insert id, a) ∷ [])) (sym m.1)
    (leaves_plain lanes h s (Insert id) a s.table new.placed l unsealed (λ k. refl)
    (table_kept h (Insert id) a (gives_before (plans_of l.earlier s.plan) h) s.table l.table (λ r i. refl) (λ r. refl) (λ k lt. refl)) (λ later. said) m.2)
leaves_insert lanes h s id (Err f) new l m = tt

pub leaves_legal : (lanes : List ℕ) (h : History) (s : State) → Leaves lanes h s → Legal lanes h
leaves_legal lanes h s l = (plans_of l.earlier s.plan ++ [], l.legal [])
