-- A lane's seat before and after its steps.
use Rattle.std.proofs.Common.{◌≡◌, ◌≢◌, ℕ, suc, zero, ◌+◌, ◌*◌, ◌<◌, eqb, List, [], ◌∷◌, ◌++◌, length, sym, refl, ap, ◌∙◌, subst, arith}
use Rattle.std.specs.Prelude.{Contains, slice_index}
use mathlib.Core.Option.{none, some-injective}
use mathlib.Core.Logic.{dite}
use native.Mathlib.Decide.{ℕ_discrete}
use lib.ListN.{length-map}
use prog.Atomic.{either}
use Rattle.atomic_table.specs.Table.{State, Me, step, Allows}
use Rattle.fetch_plan.specs.declared.cell.Cell.{Cell}
use Rattle.fetch_plan.specs.declared.cell.Cell.TheVariants.{Free, Done, Missed}
use Rattle.item_key.specs.declared.Id.{Id}
use Rattle.claim_board.specs.declared.records.Claimed.TheVariants.{Won, Lost}
use Rattle.claim_board.specs.declared.records.LaneRecord.{LaneRecord}
use Rattle.claim_board.specs.declared.records.Layout.{Layout}
use Rattle.claim_board.specs.Rules.{relays, cell_of, Kept}
use Rattle.claim_board.specs.Steps.{with_won, with_met, with_ended, with_released, claimed, looked, ended, released, own_of, others_of, Idle, Seated}
use Rattle.claim_board.specs.Views.{LaneView, all_of, Claims, Sees}
use Rattle.claim_board.proofs.Moves.{claims, looks}
use Rattle.claim_board.proofs.Ends.{finishes, misses, releases}

abbrev M : Type 0
M = Me ℕ (List LaneRecord)

abbrev RuleOf : Layout → State ℕ (List LaneRecord) → Type 0
RuleOf k = Kept (relays k.cells.items) k.lanes.items

pub seated : (m m' : M) (number relay : ℕ) (f : LaneRecord) → Seated m number relay → m' ≡ (f ∷ others_of m.0, []) → f.lane ≡ (own_of m.0).lane → f.relay ≡ (own_of m.0).relay → Seated m' number relay
seated m m' number relay f was is lane relay_is =
    let own : f ≡ own_of m'.0 = sym (ap (λ (z : M). own_of z.0) is) in
    let others : others_of m.0 ≡ others_of m'.0 = sym (ap (λ (z : M). others_of z.0) is) in (
      is ∙ (λ k. (own k ∷ others k, [])),
      ap (λ (z : LaneRecord). z.lane) (sym own) ∙ (lane ∙ was.1),
      ap (λ (z : LaneRecord). z.relay) (sym own) ∙ (relay_is ∙ was.2),
      subst Idle others was.3,
    )

module _ (k p : Layout) (told : k ≡ p) where
  within : (i : ℕ) → i < length p.cells.items → i < length (relays k.cells.items)
  within i h = let t = length-map k.cells.items (λ (c : Id × ℕ). c.1) in let e = ap (λ (z : Layout). length z.cells.items) told in omega arith

  same_relay : (relay i : ℕ) → relay ≡ slice_index (relays p.cells.items) i → relay ≡ slice_index (relays k.cells.items) i
  same_relay relay i h = h ∙ ap (λ (z : Layout). slice_index (relays z.cells.items) i) (sym told)

  pub may_claim : (slots id : ℕ) (m : M) (i number relay : ℕ) → Seated m number relay → i < length p.cells.items → (own_of m.0).relay ≡ slice_index (relays p.cells.items) i
      → Allows (RuleOf k) slots id m (i + 1) (λ n. either (eqb n 0) (4 * number + 1) n) (claimed (step slots (i + 1) 0 (4 * number + 1) none) m)
  may_claim slots id m i number relay at h r = subst (λ (w : ℕ). Allows (RuleOf k) slots id m (i + 1) (λ n. either (eqb n 0) (4 * w + 1) n) (claimed (step slots (i + 1) 0 (4 * w + 1) none) m)) at.1
      (claims (relays k.cells.items) k.lanes.items slots id m i (own_of m.0) (others_of m.0) (ap (λ (z : M). z.0) at.0) (within i h) (same_relay (own_of m.0).relay i r))

  pub may_look : (slots id : ℕ) (m : M) (i number relay : ℕ) → Seated m number relay → i < length p.cells.items → Allows (RuleOf k) slots id m (i + 1) (λ n. n) (looked (step slots (i + 1) 0 0 none) m)
  may_look slots id m i number relay at h = looks (relays k.cells.items) k.lanes.items slots id m i (own_of m.0) (others_of m.0) (ap (λ (z : M). z.0) at.0) (within i h)

  pub may_finish : (slots id : ℕ) (m : M) (i number relay : ℕ) → Seated m number relay → i < length p.cells.items → Contains (own_of m.0).held i
      → Allows (RuleOf k) slots id m (i + 1) (λ _. 4 * number + 2) (ended Done (step slots (i + 1) (4 * number + 2) 0 none) m)
  may_finish slots id m i number relay at h mine = subst (λ (w : ℕ). Allows (RuleOf k) slots id m (i + 1) (λ _. 4 * w + 2) (ended Done (step slots (i + 1) (4 * w + 2) 0 none) m)) at.1
      (finishes (relays k.cells.items) k.lanes.items slots id m i (own_of m.0) (others_of m.0) (ap (λ (z : M). z.0) at.0) (within i h) mine)

  pub may_miss : (slots id : ℕ) (m : M) (i number relay : ℕ) → Seated m number relay → i < length p.cells.items → Contains (own_of m.0).held i
      → Allows (RuleOf k) slots id m (i + 1) (λ _. 4 * number + 3) (ended Missed (step slots (i + 1) (4 * number + 3) 0 none) m)
  may_miss slots id m i number relay at h mine = subst (λ (w : ℕ). Allows (RuleOf k) slots id m (i + 1) (λ _. 4 * w + 3) (ended Missed (step slots (i + 1) (4 * w + 3) 0 none) m)) at.1
      (misses (relays k.cells.items) k.lanes.items slots id m i (own_of m.0) (others_of m.0) (ap (λ (z : M). z.0) at.0) (within i h) mine)

  pub may_release : (slots id : ℕ) (m : M) (i number relay : ℕ) → Seated m number relay → i < length p.cells.items → Contains (own_of m.0).held i
      → Allows (RuleOf k) slots id m (i + 1) (λ _. 0) (released (step slots (i + 1) 0 0 none) m)
  may_release slots id m i number relay at h mine = releases (relays k.cells.items) k.lanes.items slots id m i (own_of m.0) (others_of m.0) (ap (λ (z : M). z.0) at.0) (within i h) mine

-- what a claim told, in one form: the first lane is f afterwards
pub after_claim : (i : ℕ) (m m' : M) (number relay found : ℕ) → Seated m number relay → claimed (step 0 (i + 1) 0 0 none) m found m'
    → (f : LaneRecord) × (m' ≡ (f ∷ others_of m.0, [])) × (f.lane ≡ (own_of m.0).lane) × (f.relay ≡ (own_of m.0).relay) × (found ≡ 0 → Claims i (own_of m.0) Won f) × (found ≢ 0 → (found < 4096) × Claims i (own_of m.0) (Lost (cell_of found)) f)
after_claim i m m' number relay found at did = let t = did i (own_of m.0) (others_of m.0) refl (ap (λ (z : M). z.0) at.0) in let bare : m'.1 ≡ [] = t.0 ∙ ap (λ (z : M). z.1) at.0 in
    dite (ℕ_discrete found 0)
    (λ hit. let u = t.1 hit in (with_won i (own_of m.0), (λ j. (u.0 j, bare j)), refl, refl, (λ _. (refl, u.1)), λ miss. absurd (miss hit)))
    (λ miss. let u = t.2 miss in (with_met i (cell_of found) (own_of m.0), (λ j. (u.2 j, bare j)), refl, refl, (λ hit. absurd (miss hit)), λ _. (u.0, (u.1, refl, u.3))))

pub after_look : (i : ℕ) (m m' : M) (number relay found : ℕ) → Seated m number relay → looked (step 0 (i + 1) 0 0 none) m found m'
    → (f : LaneRecord) × (m' ≡ (f ∷ others_of m.0, [])) × (f.lane ≡ (own_of m.0).lane) × (f.relay ≡ (own_of m.0).relay) × (found < 4096) × Sees i (own_of m.0) (cell_of found) f
after_look i m m' number relay found at did = let t = did i (own_of m.0) (others_of m.0) refl (ap (λ (z : M). z.0) at.0) in let bare : m'.1 ≡ [] = t.0 ∙ ap (λ (z : M). z.1) at.0 in
    dite (ℕ_discrete found 0)
    (λ hit. let u = t.1 hit in let free : cell_of found ≡ Free = ap cell_of hit in
    (own_of m.0, (λ j. ((u.0 ∙ ap (λ (z : M). z.0) at.0) j, bare j)), refl, refl, omega arith, ((λ _. refl), (λ other. absurd (other free)), λ c knows. free ∙ u.1 c knows)))
    (λ miss. let u = t.2 miss in (with_met i (cell_of found) (own_of m.0), (λ j. (u.2 j, bare j)), refl, refl, u.0, ((λ is. absurd (u.1 is)), (λ _. refl), u.3)))

pub after_end : (c : Cell) (i : ℕ) (m m' : M) (number relay : ℕ) → Seated m number relay → ended c (step 0 (i + 1) 0 0 none) m 0 m' → m' ≡ (with_ended i c (own_of m.0) ∷ others_of m.0, [])
after_end c i m m' number relay at did = let t = did i (own_of m.0) (others_of m.0) refl (ap (λ (z : M). z.0) at.0) in let bare : m'.1 ≡ [] = t.0 ∙ ap (λ (z : M). z.1) at.0 in λ j. (t.1 j, bare j)

pub after_release : (i : ℕ) (m m' : M) (number relay : ℕ) → Seated m number relay → released (step 0 (i + 1) 0 0 none) m 0 m' → m' ≡ (with_released i (own_of m.0) ∷ others_of m.0, [])
after_release i m m' number relay at did = let t = did i (own_of m.0) (others_of m.0) refl (ap (λ (z : M). z.0) at.0) in let bare : m'.1 ≡ [] = t.0 ∙ ap (λ (z : M). z.1) at.0 in λ j. (t.1 j, bare j)

-- a lane that holds nothing, with the lanes that it stands for
idle_all : (m : M) (number relay : ℕ) → Seated m number relay → (own_of m.0).held ≡ [] → Idle m.0
idle_all m number relay at none_held = subst Idle (sym (ap (λ (z : M). z.0) at.0)) go
  where
    go : Idle (own_of m.0 ∷ others_of m.0)
    go zero f e = ap (λ (z : LaneRecord). z.held) (sym (some-injective (own_of m.0) f e)) ∙ none_held
    go (suc p) f e = at.3 p f e

idle_append : (v w : List LaneRecord) → Idle v → Idle w → Idle (v ++ w)
idle_append [] w a b place f e = b place f e
idle_append (x ∷ xs) w a b zero f e = a zero f e
idle_append (x ∷ xs) w a b (suc p) f e = idle_append xs w (λ q. a (suc q)) b p f e

-- the keeper's seat once it stands for another's lanes too
pub after_join : (m n m' : M) (number relay number' relay' : ℕ) → Seated m number relay → Seated n number' relay' → (own_of n.0).held ≡ [] → m' ≡ (m.0 ++ n.0, m.1)
    → (m' ≡ (own_of m.0 ∷ (others_of m.0 ++ own_of n.0 ∷ others_of n.0), [])) × Seated m' number relay
after_join m n m' number relay number' relay' at at' idle is =
    let v = ap (λ (z : M). z.0) at.0 in
    let w = ap (λ (z : M). z.0) at'.0 in
    let bare : m.1 ≡ [] = ap (λ (z : M). z.1) at.0 in
    let e : m' ≡ (own_of m.0 ∷ (others_of m.0 ++ own_of n.0 ∷ others_of n.0), []) = is ∙ (λ k. (v k ++ w k, bare k)) in
    let q : Seated (own_of m.0 ∷ (others_of m.0 ++ own_of n.0 ∷ others_of n.0), []) number relay =
    (refl, at.1, at.2, idle_append (others_of m.0) (own_of n.0 ∷ others_of n.0) at.3 (subst Idle w (idle_all n number' relay' at' idle))) in
    (e, subst (λ (z : M). Seated z number relay) (sym e) q)

-- the lanes of a place that holds nothing
pub idle_view : (m : M) (number relay : ℕ) (p : LaneView) → Seated m number relay → own_of m.0 ∷ others_of m.0 ≡ all_of p → p.own.held ≡ [] → Idle (all_of p)
idle_view m number relay p at is none_held = subst Idle (ap (λ (z : M). z.0) at.0 ∙ is) (idle_all m number relay at (ap (λ (z : List LaneRecord). (own_of z).held) is ∙ none_held))
