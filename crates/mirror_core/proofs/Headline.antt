-- From what the sessions found to what the relays hold.
use Rattle.std.proofs.Common.{◌≡◌, ℕ, suc, zero, ◌+◌, ◌-◌, ◌*◌, ◌<◌, ◌≤◌, ◌⊎◌, ◌↔◌, length, map, ◌==◌, ◌&&◌, Bool, true, false, List, [], ◌∷◌, Some, refl, sym, ap, ◌∙◌, subst, arith, inl, inr}
use Rattle.std.specs.Prelude.{Contains, unwrap_or, is_some}
use Rattle.std.proofs.lemmas.Bool.{or_cases, or_left, or_right, and_parts, eqb-true, eq-eqb, false≢true}
use Rattle.std.proofs.lemmas.Option.{same_Some}
use Rattle.item_key.specs.declared.Id.{Id}
use Rattle.item_key.specs.declared.Item.{Item}
use Rattle.neg_initiator.specs.declared.initiator.Outcome.{Outcome}
use Rattle.neg_initiator.specs.Settled.{Needs}
use Rattle.neg_session.specs.Exchange.{Exchange, gained}
use Rattle.neg_session.specs.Ran.{IsRight}
use Rattle.neg_session.specs.declared.limits.SessionLimits.{SessionLimits}
use Rattle.sharing.specs.Sharing.{is_among, IsSharing, IsGreatest, load, taken, alone, Shows, NoneSmaller}
use Rattle.sharing.specs.Bases.{base_of}
use Rattle.sharing.specs.Offers.{StandsFor, Ascend, relays_of, beside, relay_in}
use Rattle.offer_table.specs.Table.{Table}
use Rattle.fetch_plan.specs.Plan.{Planned, IsPlanOf}
use Rattle.mirror_core.specs.declared.end.End.{End}
use Rattle.mirror_core.specs.declared.end.End.TheVariants.{Finished, Failed}
use Rattle.mirror_core.specs.Ends.{EachRan, FinishedWith}
use Rattle.mirror_core.specs.Tables.{needs, needs_from, IsTableOf}
use Rattle.mirror_core.specs.Headline.{MayHold, MayHoldAll, Offers, GivesEach, IsLeastPlan, Headline, PlainHeadline}
use Rattle.mirror_core.proofs.Three.{AllThree-at}
use Rattle.mirror_core.proofs.Looks.{stands, found, among_some, also_beside, shared_to}

and_both : (a b : Bool) → a ≡ true → b ≡ true → (a && b) ≡ true
and_both true b h k = k
and_both false b h k = absurd (false≢true h)

-- the session finished and needs the id
needs_that : (e : End) (i : Id) → needs e i ≡ true → (o : Outcome) × (e ≡ Finished o) × Contains o.need.keys i
needs_that (Finished o) i h = (o, refl, stands i o.need.keys h)
needs_that (Failed e) i h = absurd (false≢true h)

-- the relay is one of these, and its session needs the id
pub needed : (base : ℕ) (es : List End) (r : ℕ) (i : Id) → needs_from base es r i ≡ true → (k : ℕ) × (r ≡ base + k) × ((o : Outcome) × FinishedWith es k o × Contains o.need.keys i)
needed base [] r i h = absurd (false≢true h)
needed base (e ∷ es) r i h =
    elim (or_cases ((r == base) && needs e i) (needs_from (base + 1) es r i) h) [
      | inl t ↦
          (let parts : ((r == base) ≡ true) × (needs e i ≡ true) = and_parts (r == base) (needs e i) t in
          let same : r ≡ base = eqb-true r base parts.0 in
          let at : r ≡ base + 0 = omega arith in
          let it = needs_that e i parts.1 in
          (0, at, (it.0, ap Some it.1, it.2)))
      | inr t ↦
          (let rest = needed (base + 1) es r i t in
          let there : r ≡ base + 1 + rest.0 = rest.1 in
          let at : r ≡ base + suc rest.0 = omega arith in
          (suc rest.0, at, (rest.2.0, rest.2.1, rest.2.2)))
    ]

-- and the other way round
pub needed_of : (base : ℕ) (es : List End) (k : ℕ) (o : Outcome) (i : Id) → FinishedWith es k o → Contains o.need.keys i → needs_from base es (base + k) i ≡ true
needed_of base [] k o i f h = absurd (cc)
needed_of base (e ∷ es) zero o i f h =
    let same : base + 0 ≡ base = omega arith in
    let needs_it : needs e i ≡ true = ap (λ x. needs x i) (same_Some _ _ f) ∙ found i o.need.keys h in
    or_left ((base + 0 == base) && needs e i) (needs_from (base + 1) es (base + 0) i) (and_both (base + 0 == base) (needs e i) (eq-eqb (base + 0) base same) needs_it)
needed_of base (e ∷ es) (suc k) o i f h =
    let at : base + 1 + k ≡ base + suc k = omega arith in
    or_right ((base + suc k == base) && needs e i) (needs_from (base + 1) es (base + suc k) i) (subst (λ n. needs_from (base + 1) es n i ≡ true) at (needed_of (base + 1) es k o i f h))

from_zero : (k r : ℕ) → r ≡ 0 + k → k ≡ r
from_zero k r h = omega arith

needed_at_zero : (es : List End) (k : ℕ) (o : Outcome) (i : Id) → FinishedWith es k o → Contains o.need.keys i → needs_from 0 es k i ≡ true
needed_at_zero es k o i f h = let at : 0 + k ≡ k = omega arith in subst (λ n. needs_from 0 es n i ≡ true) at (needed_of 0 es k o i f h)

-- what loads that begin at 0 are, and what the words about them say
abbrev pub Unbased : Type 0
Unbased =
    ((base : ℕ → ℕ) (offers : List (Id × List ℕ)) (f : Id → ℕ) (r : ℕ) → base r ≡ 0 → load base f offers r ≡ taken f offers r)
    × ((base : ℕ → ℕ) (offers : List (Id × List ℕ)) (group : List ℕ) (most : ℕ) → ((r : ℕ) → base r ≡ 0) → (Shows base group offers most ↔ ((most ≡ 0) ⊎ ((0 < length group) × ((most - 1) * length group < alone group offers)))))
    × ((base : ℕ → ℕ) (offers : List (Id × List ℕ)) (least : ℕ) → ((r : ℕ) → base r ≡ 0) → (NoneSmaller base offers least ↔ ((g : Id → ℕ) (most : ℕ) → IsSharing g offers → IsGreatest (taken g offers) most → least ≤ most)))

unloaded : (base : ℕ → ℕ) (offers : List (Id × List ℕ)) (f : Id → ℕ) (most : ℕ) → ((base : ℕ → ℕ) (offers : List (Id × List ℕ)) (f : Id → ℕ) (r : ℕ) → base r ≡ 0 → load base f offers r ≡ taken f offers r) → ((r : ℕ) → base r ≡ 0)
    → IsGreatest (load base f offers) most → IsGreatest (taken f offers) most
unloaded base offers f most same begins h = (λ r. subst (λ n. n ≤ most) (same base offers f r (begins r)) (h.0 r), (h.1.0, sym (same base offers f h.1.0 (begins h.1.0)) ∙ h.1.1))

module _ {P : Type 0} (log : P → List Exchange) (faults : P → ℕ) (becomes : P → P → Type 0) (own : List Item) (limits : SessionLimits) (olds news : List P) (ends : List End) (ran : EachRan log faults becomes own limits olds news ends)
    (holds : ℕ → List Item) (may : MayHoldAll log own olds news ends holds) where
  -- what a finished session found is right for what its relay holds
  right_at : (r : ℕ) (o : Outcome) → FinishedWith ends r o → (i : Id) → (Contains o.need.keys i → Needs own (holds r) i) × (Needs own (holds r) i → Contains o.need.keys i)
  right_at r o f i =
      let at = AllThree-at _ olds news ends r (Finished o) ran f in
      let held : MayHold own (holds r) (gained (log at.0) (log at.1)) o = may r at.0 at.1 o at.2 at.3 f in
      let right : IsRight own (holds r) o = at.4.0.exact (holds r) held.explains in
      let both = right.need held.told_apart held.one_time i in
      (both.0, both.1)

  -- the table stands for what the relays hold and the roll lacks
  pub stands_for : (table : Table) → IsTableOf 0 ends table → StandsFor table.offers (Offers own ends holds)
  stands_for table t = record {
    ordered = t.table_ok.offers_ok;
    sound = λ r i m.
        let it = needed 0 ends r i (sym (t.offers i r) ∙ m) in
        let at : it.0 ≡ r = from_zero it.0 r it.1 in
        let f : FinishedWith ends r it.2.0 = subst (λ k. FinishedWith ends k it.2.0) at it.2.1 in
        (it.2.0, f, (right_at r it.2.0 f i).0 it.2.2);
    whole = λ r i w. t.offers i r ∙ needed_at_zero ends r w.0 i w.1 ((right_at r w.0 w.1 i).1 w.2);
  }

  pub gives_each : (table : Table) (plan : Planned) → IsTableOf 0 ends table → map (λ g. g.0) plan.gives ≡ map (λ p. p.0) table.offers → IsSharing (relay_in plan.gives) table.offers → Ascend (map (λ g. g.0) plan.gives) → GivesEach (Offers own ends holds) table plan
  gives_each table plan t ids shared ascend =
      let s : StandsFor table.offers (Offers own ends holds) = stands_for table t in
      record {
        stands = s;
        once = ascend;
        each = λ r i w. also_beside plan.gives table.offers i ids (among_some (beside table.offers i) r (s.whole r i w));
        right = λ q i e.
            let there : (rs : List ℕ) × (beside table.offers i ≡ Some rs) = also_beside table.offers plan.gives i (sym ids) (ap is_some e) in
            s.sound q i (subst (λ x. is_among (relays_of table.offers i) x ≡ true) (ap (λ x. unwrap_or x 0) e) (shared_to (relay_in plan.gives) table.offers i shared (ap is_some there.1)));
        sharing = shared;
      }

module _ {P : Type 0} (log : P → List Exchange) (faults : P → ℕ) (becomes : P → P → Type 0) (own : List Item) (limits : SessionLimits) (olds news : List P) (ends : List End) (table : Table) (bases : List ℕ) (plan : Planned)
    (ran : EachRan log faults becomes own limits olds news ends) (t : IsTableOf 0 ends table) (p : IsPlanOf bases table.offers plan) (none : NoneSmaller (base_of bases) table.offers plan.least_max) where
  pub to_headline : Headline log (base_of bases) own olds news ends table plan
  to_headline holds may = record {
    gives = gives_each log faults becomes own limits olds news ends ran holds may table plan t p.ids p.least.sharing p.plan_ok.ascend;
    greatest = subst (λ b. IsGreatest (load (base_of b) (relay_in plan.gives) table.offers) plan.least_max) p.bases_same p.least.greatest;
    none_smaller = none;
    shown = subst (λ b. Shows (base_of b) plan.group table.offers plan.least_max) p.bases_same p.least.shows;
  }

  -- where all loads begin at 0
  pub to_plain : Unbased → ((r : ℕ) → base_of bases r ≡ 0) → PlainHeadline log own olds news ends table plan
  to_plain unbased begins holds may =
      let h : IsLeastPlan (base_of bases) (Offers own ends holds) table plan = to_headline holds may in
      record {
        gives = h.gives;
        greatest = unloaded (base_of bases) table.offers (relay_in plan.gives) plan.least_max unbased.0 begins h.greatest;
        none_fewer = (unbased.2 (base_of bases) table.offers plan.least_max begins).0 h.none_smaller;
        shown = (unbased.1 (base_of bases) table.offers plan.group plan.least_max begins).0 h.shown;
      }
