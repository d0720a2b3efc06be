-- Events on cells: what they are answered by the parts of a round and by its history, and what they leave.
use Rattle.std.proofs.Common.{◌≡◌, ◌≢◌, ℕ, ◌-◌, ◌<◌, ◌≤◌, ◌==◌, nat_lt, Bool, true, false, cond, not, ◌||◌, List, [], ◌∷◌, ◌++◌, length, take, get_or, set, refl, sym, ap, ◌∙◌, subst, arith, inl, inr, Option, Some, None, append_assoc}
use Rattle.std.specs.Prelude.{is_some}
use Rattle.std.specs.List.{list_any}
use Rattle.std.proofs.lemmas.List.{get_or-set_same, get_or-set_other, length-set, get_or-append_right, length-append}
use Rattle.std.proofs.lemmas.Bool.{cases_lt, cases_eq, eq-eqb, ne_eqb, lt-ltb, le-ltb}
use Rattle.item_key.specs.declared.Id.{Id}
use Rattle.sharing.specs.Offers.{is_id}
use Rattle.offer_table.specs.Table.{Table}
use Rattle.fetch_plan.specs.Plan.{Planned}
use Rattle.fetch_plan.specs.declared.cell.Cell.{Cell}
use Rattle.fetch_plan.specs.declared.cell.Cell.TheVariants.{Free, Held, Done, Missed}
use Rattle.round_core.specs.declared.events.Refusal.{Refusal}
use Rattle.round_core.specs.declared.events.Refusal.TheVariants as why
use Rattle.round_core.specs.declared.events.RoundEvent.{RoundEvent}
use Rattle.round_core.specs.declared.events.RoundEvent.TheVariants as event
use Rattle.round_core.specs.declared.events.Touch.{Touch}
use Rattle.round_core.specs.declared.events.Touch.TheVariants.{Claim, Finish, Miss, Release}
use Rattle.round_core.specs.declared.events.Answer.{Answer}
use Rattle.round_core.specs.declared.events.Answer.TheVariants.{Won, Finished, MissedIt, Released, Refused}
use Rattle.round_core.specs.History.{History, seals, is_sealed, sealings, gives_of, gives_so_far, gives_before, no_give, changes, left_cell, cell_after, places, is_placed, reports, has_reported, wants_in, wants, leaves_out, Stands, TableOf}
use Rattle.round_core.specs.Legal.{barred, barred_after, or_refused, claim_answer, is_held_by, Right}
use Rattle.round_core.specs.Left.{State, first_in, give_in, plans_of, Leaves, touch_answer, answer_in, cells_then, IsInRange}
use Rattle.round_core.proofs.Histories.{or_false, sealed_push, placed_push, wants_push, reported_push, sealings_push, cell_then, cell_push, so_far, before_last, before_none, gives_push, plans_push, legal_push}

abbrev pub event_of : Touch → ℕ → ℕ → RoundEvent
event_of Claim w i = event.Claim w i
event_of Finish w i = event.Finish w i
event_of Miss w i = event.Miss w i
event_of Release w i = event.Release w i

-- ---- ranges
-- a cell that the last plan doesn't have is refused, whatever its relay
barred_out : (sealed : Bool) (lanes : List ℕ) (first end w i : ℕ) → (nat_lt i first || not (nat_lt i end)) ≡ true → (x : Refusal) × ((relay : ℕ) → barred sealed lanes first end relay w i ≡ Some x)
barred_out false lanes first end w i out = (why.NotSealed, λ relay. refl)
barred_out true lanes first end w i out =
    elim (cases_lt w (length lanes)) [
      | inl lt ↦ (why.NoCell, λ relay. rw (lt-ltb w (length lanes) lt, out))
      | inr ge ↦ (why.NoLane, λ relay. rw (le-ltb w (length lanes) ge))
    ]

pub low_out : (first end i : ℕ) → i < first → (nat_lt i first || not (nat_lt i end)) ≡ true
low_out first end i lt = ap (λ b. b || not (nat_lt i end)) (lt-ltb i first lt)

high_out : (first end i : ℕ) → end ≤ i → (nat_lt i first || not (nat_lt i end)) ≡ true
high_out first end i le = ap (λ b. nat_lt i first || not b) (le-ltb i end le) ∙ or_true (nat_lt i first)
  where
    or_true : (b : Bool) → (b || true) ≡ true
    or_true true = refl
    or_true false = refl

some_none : (x : Refusal) → Some x ≢ None
some_none x e = cc

pub within : (sealed : Bool) (lanes : List ℕ) (first end relay w i : ℕ) → barred sealed lanes first end relay w i ≡ None → (first ≤ i) × (i < end)
within sealed lanes first end relay w i none =
    let inside : (nat_lt i first || not (nat_lt i end)) ≡ true → ⊥ = λ out. (let x = barred_out sealed lanes first end w i out in some_none x.0 (sym (x.1 relay) ∙ none)) in
    elim (cases_lt i first) [
      | inl lt ↦ absurd (inside (low_out first end i lt))
      | inr le ↦ elim (cases_lt i end) [
        | inl lt ↦ (le, lt)
        | inr ge ↦ absurd (inside (high_out first end i ge))
      ]
    ]

pub not_refused : (o : Option Refusal) (b a : Answer) → a ≡ or_refused o b → ((r : Refusal) → a ≢ Refused r) → o ≡ None
not_refused None b a e never = refl
not_refused (Some r) b a e never = absurd (never r e)

-- where the right answer changes a cell, it is one of the last plan's
pub range_right : (sealed : Bool) (lanes : List ℕ) (first end relay w i : ℕ) (b a : Answer) → a ≡ or_refused (barred sealed lanes first end relay w i) b → IsInRange a first end i
range_right sealed lanes first end relay w i b Won right = within sealed lanes first end relay w i (not_refused (barred sealed lanes first end relay w i) b Won right (λ r e. cc))
range_right sealed lanes first end relay w i b Finished right = within sealed lanes first end relay w i (not_refused (barred sealed lanes first end relay w i) b Finished right (λ r e. cc))
range_right sealed lanes first end relay w i b MissedIt right = within sealed lanes first end relay w i (not_refused (barred sealed lanes first end relay w i) b MissedIt right (λ r e. cc))
range_right sealed lanes first end relay w i b Released right = within sealed lanes first end relay w i (not_refused (barred sealed lanes first end relay w i) b Released right (λ r e. cc))
range_right sealed lanes first end relay w i b a right = tt

pub from_nought : (a : Answer) (first end i : ℕ) → IsInRange a first end i → IsInRange a 0 end i
from_nought Won first end i h = (omega arith, h.1)
from_nought Finished first end i h = (omega arith, h.1)
from_nought MissedIt first end i h = (omega arith, h.1)
from_nought Released first end i h = (omega arith, h.1)
from_nought a first end i h = tt

-- no cell of an earlier plan is changed
pub untouched : (t : Touch) (w i : ℕ) (a : Answer) (first end k : ℕ) → IsInRange a first end i → k < first → changes k (event_of t w i) a ≡ false
untouched Claim w i Won first end k h lt = ne_eqb i k (λ e. absurd (let le : first ≤ i = h.0 in omega arith))
untouched Finish w i Finished first end k h lt = ne_eqb i k (λ e. absurd (let le : first ≤ i = h.0 in omega arith))
untouched Miss w i MissedIt first end k h lt = ne_eqb i k (λ e. absurd (let le : first ≤ i = h.0 in omega arith))
untouched Release w i Released first end k h lt = ne_eqb i k (λ e. absurd (let le : first ≤ i = h.0 in omega arith))
untouched t w i a first end k h lt = refl

-- ---- cells
set_step : (cells : List Cell) (j i : ℕ) (c : Cell) → j < length cells → get_or (set cells j c) i Free ≡ cond (j == i) c (get_or cells i Free)
set_step cells j i c lt =
    elim (cases_eq i j) [
      | inl e ↦ ap (λ k. get_or (set cells j c) k Free) e ∙ get_or-set_same cells j c Free lt ∙ sym (ap (λ b. cond b c (get_or cells i Free)) (eq-eqb j i (sym e)))
      | inr ne ↦ get_or-set_other cells j i c Free ne ∙ sym (ap (λ b. cond b c (get_or cells i Free)) (ne_eqb j i (λ e. ne (sym e))))
    ]

cells_step : (cells : List Cell) (t : Touch) (w j : ℕ) (a : Answer) (i : ℕ) → IsInRange a 0 (length cells) j → get_or (cells_then cells t w j a) i Free ≡ cell_then i (get_or cells i Free) (event_of t w j) a
cells_step cells Claim w j Won i h = set_step cells j i (Held w) h.1
cells_step cells Finish w j Finished i h = set_step cells j i Done h.1
cells_step cells Miss w j MissedIt i h = set_step cells j i Missed h.1
cells_step cells Release w j Released i h = set_step cells j i Free h.1
cells_step cells t w j a i h = refl

pub cells_long : (cells : List Cell) (t : Touch) (w j : ℕ) (a : Answer) → length (cells_then cells t w j a) ≡ length cells
cells_long cells Claim w j Won = length-set cells j (Held w)
cells_long cells Finish w j Finished = length-set cells j Done
cells_long cells Miss w j MissedIt = length-set cells j Missed
cells_long cells Release w j Released = length-set cells j Free
cells_long cells t w j a = refl

-- ---- the table
stands_same : (h g : History) (gives : List (Id × ℕ)) (r : ℕ) (i : Id) → wants h r i ≡ wants g r i → ((k : ℕ) → k < length gives → cell_after h k ≡ cell_after g k) → Stands h gives r i → Stands g gives r i
stands_same h g gives r i w c s = record {
  wanted = sym w ∙ s.wanted;
  kept = λ k lt. ap (λ d. leaves_out d (get_or gives k no_give) r i) (sym (c k lt)) ∙ s.kept k lt;
}

-- an event that adds no offer and touches none of these cells leaves the table
pub table_kept : (h : History) (e : RoundEvent) (a : Answer) (gives : List (Id × ℕ)) (table : Table) → TableOf h gives table → ((r : ℕ) (i : Id) → wants_in r i e a ≡ false) → ((r : ℕ) → reports r e a ≡ false) → ((k : ℕ) → k < length gives → changes k e a ≡ false) →
    TableOf (h ++ (e, a) ∷ []) gives table
table_kept h e a gives table t w q c =
    let wanted : (r : ℕ) (i : Id) → wants (h ++ (e, a) ∷ []) r i ≡ wants h r i = λ r i. wants_push h e a r i ∙ ap (λ b. wants h r i || b) (w r i) ∙ or_false (wants h r i) in
    let cells : (k : ℕ) → k < length gives → cell_after (h ++ (e, a) ∷ []) k ≡ cell_after h k = λ k lt. cell_push h e a k ∙ ap (λ b. cond b (left_cell e a) (cell_after h k)) (c k lt) in
    record {
      offers = record {
        ordered = t.offers.ordered;
        sound = λ r i m. stands_same h (h ++ (e, a) ∷ []) gives r i (sym (wanted r i)) (λ k lt. sym (cells k lt)) (t.offers.sound r i m);
        whole = λ r i s. t.offers.whole r i (stands_same (h ++ (e, a) ∷ []) h gives r i (wanted r i) cells s);
      };
      relays = t.relays;
      reported = λ r. t.reported r ∙ sym (reported_push h e a r ∙ ap (λ b. has_reported h r || b) (q r) ∙ or_false (has_reported h r));
    }

-- ---- what an event on a cell is
right_touch : (lanes : List ℕ) (plans : List Planned) (h : History) (t : Touch) (w i : ℕ) (a : Answer) → a ≡ or_refused (barred_after lanes plans h w i) (touch_answer t (cell_after h i) w (is_placed h (get_or (gives_so_far plans h) i no_give).0)) → Right lanes plans h (event_of t w i) a
right_touch lanes plans h Claim w i a right = right
right_touch lanes plans h Finish w i a right = right
right_touch lanes plans h Miss w i a right = right
right_touch lanes plans h Release w i a right = right

touch_wants : (r : ℕ) (id : Id) (t : Touch) (w i : ℕ) (a : Answer) → wants_in r id (event_of t w i) a ≡ false
touch_wants r id Claim w i a = refl
touch_wants r id Finish w i a = refl
touch_wants r id Miss w i a = refl
touch_wants r id Release w i a = refl

touch_reports : (r : ℕ) (t : Touch) (w i : ℕ) (a : Answer) → reports r (event_of t w i) a ≡ false
touch_reports r Claim w i a = refl
touch_reports r Finish w i a = refl
touch_reports r Miss w i a = refl
touch_reports r Release w i a = refl

touch_places : (id : Id) (t : Touch) (w i : ℕ) → places id (event_of t w i) ≡ false
touch_places id Claim w i = refl
touch_places id Finish w i = refl
touch_places id Miss w i = refl
touch_places id Release w i = refl

claim_seals : (c : Cell) → seals (claim_answer c) ≡ false
claim_seals Free = refl
claim_seals (Held w) = refl
claim_seals Done = refl
claim_seals Missed = refl

cond_seals : (b : Bool) (x y : Answer) → seals x ≡ false → seals y ≡ false → seals (cond b x y) ≡ false
cond_seals true x y e f = e
cond_seals false x y e f = f

pub touch_seals : (t : Touch) (c : Cell) (w : ℕ) (placed : Bool) → seals (touch_answer t c w placed) ≡ false
touch_seals Claim c w placed = claim_seals c
touch_seals Finish c w placed = cond_seals (is_held_by c w) _ _ (cond_seals placed Finished (Refused why.NotPlaced) refl refl) refl
touch_seals Miss c w placed = cond_seals (is_held_by c w) MissedIt (Refused why.NotHeld) refl refl
touch_seals Release c w placed = cond_seals (is_held_by c w) Released (Refused why.NotHeld) refl refl

pub refused_seals : (o : Option Refusal) (b : Answer) → seals b ≡ false → seals (or_refused o b) ≡ false
refused_seals None b e = e
refused_seals (Some r) b e = refl

-- ---- its answer by the history
-- the answer, where the cell's give is g
abbrev told : List ℕ → History → Touch → ℕ → ℕ → Bool → ℕ → ℕ → Id × ℕ → Answer
told lanes h t w i sealed first end g = or_refused (barred sealed lanes first end g.1 w i) (touch_answer t (cell_after h i) w (is_placed h g.0))

-- the give counts only for a cell from the first on
give_same : (lanes : List ℕ) (h : History) (t : Touch) (w i : ℕ) (sealed : Bool) (first end : ℕ) (g k : Id × ℕ) → (first ≤ i → g ≡ k) → told lanes h t w i sealed first end g ≡ told lanes h t w i sealed first end k
give_same lanes h t w i sealed first end g k same =
    elim (cases_lt i first) [
      | inl lt ↦ (let x = barred_out sealed lanes first end w i (low_out first end i lt) in ap (λ o. or_refused o (touch_answer t (cell_after h i) w (is_placed h g.0))) (x.1 g.1) ∙ sym (ap (λ o. or_refused o (touch_answer t (cell_after h i) w (is_placed h k.0))) (x.1 k.1)))
      | inr le ↦ ap (told lanes h t w i sealed first end) (same le)
    ]

pub first_is : (o : Option Planned) (earlier : List Planned) (cells : List Cell) (h : History) → sealings h ≡ length (plans_of earlier o) → length cells ≡ length (gives_of (plans_of earlier o)) → length (gives_before (plans_of earlier o) h) ≡ first_in o cells
first_is None earlier cells h count long = ap length (before_none h) ∙ (let none : length cells ≡ 0 = long in omega (arith, none))
first_is (Some p) earlier cells h count long =
    omega (arith, ap length (before_last earlier (p ∷ []) h (count ∙ plans_push earlier p)), long, ap length (gives_push earlier p), length-append (gives_of earlier) p.gives)

module _ (lanes : List ℕ) (h : History) (t : Touch) (w i : ℕ) where
  by_plan : (o : Option Planned) (earlier later : List Planned) (cells : List Cell) → sealings h ≡ length (plans_of earlier o) → is_sealed h ≡ is_some o → length cells ≡ length (gives_of (plans_of earlier o)) →
      told lanes h t w i (is_some o) (first_in o cells) (length cells) (give_in o cells i)
      ≡ told lanes h t w i (is_sealed h) (length (gives_before (plans_of earlier o ++ later) h)) (length (gives_so_far (plans_of earlier o ++ later) h)) (get_or (gives_so_far (plans_of earlier o ++ later) h) i no_give)
  by_plan None earlier later cells count sealed long = sym (ap (λ b. told lanes h t w i b (length (gives_before later h)) (length (gives_so_far later h)) (get_or (gives_so_far later h) i no_give)) sealed)
  by_plan (Some p) earlier later cells count sealed long =
      let plans : List Planned = earlier ++ p ∷ [] in
      let all : gives_so_far (plans ++ later) h ≡ gives_of plans = so_far plans later h count in
      let old : gives_before (plans ++ later) h ≡ gives_of earlier = ap (λ ps. gives_before ps h) (append_assoc earlier (p ∷ []) later) ∙ before_last earlier (p ∷ later) h (count ∙ plans_push earlier p) in
      let parts : gives_of plans ≡ gives_of earlier ++ p.gives = gives_push earlier p in
      let first : first_in (Some p) cells ≡ length (gives_of earlier) = omega (arith, long, ap length parts, length-append (gives_of earlier) p.gives) in
      let give : length (gives_of earlier) ≤ i → give_in (Some p) cells i ≡ get_or (gives_of plans) i no_give = λ le.
      ap (λ n. get_or p.gives (i - n) no_give) first ∙ sym (ap (λ gs. get_or gs i no_give) parts ∙ get_or-append_right (gives_of earlier) p.gives (length (gives_of earlier)) i no_give refl le) in
      ap (λ n. told lanes h t w i true n (length cells) (give_in (Some p) cells i)) first
      ∙ ap (λ n. told lanes h t w i true (length (gives_of earlier)) n (give_in (Some p) cells i)) long
      ∙ give_same lanes h t w i true (length (gives_of earlier)) (length (gives_of plans)) _ _ give
      ∙ sym (ap (λ b. told lanes h t w i b (length (gives_before (plans ++ later) h)) (length (gives_so_far (plans ++ later) h)) (get_or (gives_so_far (plans ++ later) h) i no_give)) sealed
      ∙ ap (λ gs. told lanes h t w i true (length gs) (length (gives_so_far (plans ++ later) h)) (get_or (gives_so_far (plans ++ later) h) i no_give)) old
      ∙ ap (λ gs. told lanes h t w i true (length (gives_of earlier)) (length gs) (get_or gs i no_give)) all)

  by_history : (s : State) (l : Leaves lanes h s) (later : List Planned) → answer_in s.plan s.lanes s.cells s.placed t w i
      ≡ or_refused (barred_after lanes (plans_of l.earlier s.plan ++ later) h w i) (touch_answer t (cell_after h i) w (is_placed h (get_or (gives_so_far (plans_of l.earlier s.plan ++ later) h) i no_give).0))
  by_history s l later =
      let g : Id × ℕ = give_in s.plan s.cells i in
      let bar : List ℕ → Option Refusal = λ ws. barred (is_some s.plan) ws (first_in s.plan s.cells) (length s.cells) g.1 w i in
      ap (λ ws. or_refused (bar ws) (touch_answer t (get_or s.cells i Free) w (list_any (is_id g.0) s.placed))) l.same_lanes
      ∙ ap (λ c. or_refused (bar lanes) (touch_answer t c w (list_any (is_id g.0) s.placed))) (l.cell i)
      ∙ ap (λ b. or_refused (bar lanes) (touch_answer t (cell_after h i) w b)) (l.place g.0)
      ∙ by_plan s.plan l.earlier later s.cells l.count l.sealed l.long

  pub leaves_touch : (s : State) (a : Answer) → Leaves lanes h s → a ≡ answer_in s.plan s.lanes s.cells s.placed t w i → Leaves lanes (h ++ (event_of t w i, a) ∷ []) (record s { cells = cells_then s.cells t w i a })
  leaves_touch s a l said =
      let e : RoundEvent = event_of t w i in
      let plans : List Planned = plans_of l.earlier s.plan in
      let g : Id × ℕ = give_in s.plan s.cells i in
      let range : IsInRange a (first_in s.plan s.cells) (length s.cells) i = range_right (is_some s.plan) s.lanes (first_in s.plan s.cells) (length s.cells) g.1 w i _ a said in
      let unsealed : seals a ≡ false = ap seals said ∙ refused_seals (barred (is_some s.plan) s.lanes (first_in s.plan s.cells) (length s.cells) g.1 w i) _ (touch_seals t (get_or s.cells i Free) w (list_any (is_id g.0) s.placed)) in
      let count : sealings (h ++ (e, a) ∷ []) ≡ sealings h = omega (arith, sealings_push h e a, ap {B = ℕ} (λ b. cond b 1 0) unsealed) in
      let kept : TableOf (h ++ (e, a) ∷ []) (gives_before plans h) s.table =
      table_kept h e a (gives_before plans h) s.table l.table (λ r id. touch_wants r id t w i a) (λ r. touch_reports r t w i a)
      (λ k lt. untouched t w i a (first_in s.plan s.cells) (length s.cells) k range (omega (arith, lt, first_is s.plan l.earlier s.cells h l.count l.long))) in
      record {
        same_lanes = l.same_lanes;
        earlier = l.earlier;
        count = count ∙ l.count;
        sealed = sealed_push h e a ∙ ap (λ b. is_sealed h || b) unsealed ∙ or_false (is_sealed h) ∙ l.sealed;
        legal = λ later. legal_push lanes (plans ++ later) [] h e a (l.legal later) (right_touch lanes (plans ++ later) h t w i a (said ∙ by_history s l later));
        table = subst (λ n. TableOf (h ++ (e, a) ∷ []) (gives_of (take (n - 1) plans)) s.table) (sym count) kept;
        long = cells_long s.cells t w i a ∙ l.long;
        cell = λ k. cells_step s.cells t w i a k (from_nought a (first_in s.plan s.cells) (length s.cells) i range) ∙ ap (λ c. cell_then k c e a) (l.cell k) ∙ sym (cell_push h e a k);
        place = λ id. l.place id ∙ sym (placed_push h e a id ∙ ap (λ b. is_placed h id || b) (touch_places id t w i) ∙ or_false (is_placed h id));
      }
