-- What a round of sessions, and the plan made of it, mean for the relays' own lists.
use Rattle.std.specs.Prelude.{◌≡◌, ◌≤◌, ◌<◌, ◌-◌, ◌*◌, ◌⊎◌, ℕ, List, Some, slice_get, map, length}
use Rattle.item_key.specs.declared.Id.{Id}
use Rattle.item_key.specs.declared.Item.{Item}
use Rattle.neg_initiator.specs.declared.initiator.Outcome.{Outcome}
use Rattle.neg_initiator.specs.Settled.{Needs, ToldApart, OneTime}
use Rattle.neg_session.specs.Exchange.{Exchange, gained}
use Rattle.neg_session.specs.Explaining.{Explains}
use Rattle.neg_session.specs.Ran.{trusted_of}
use Rattle.sharing.specs.Sharing.{IsSharing, IsGreatest, taken, load, alone, NoneSmaller, Shows}
use Rattle.sharing.specs.Offers.{StandsFor, Ascend, beside, relay_in}
use Rattle.offer_table.specs.Table.{Table}
use Rattle.fetch_plan.specs.Plan.{Planned}
use Rattle.mirror_core.specs.declared.end.End.{End}
use Rattle.mirror_core.specs.Ends.{FinishedWith}

-- The list may be what a relay holds: it explains the pairs of the relay's session. And the premises: the
-- fingerprints that the session trusted tell it from the roll, and no id stands under two times.
pub record MayHold (own b : List Item) (pairs : List Exchange) (o : Outcome) : Type 0 where
  pub explains : Explains b pairs
  pub told_apart : ToldApart own b (trusted_of o)
  pub one_time : OneTime own b

-- each relay whose session finished may hold its list of the family
abbrev pub MayHoldAll : {P : Type 0} → (P → List Exchange) → List Item → List P → List P → List End → (ℕ → List Item) → Type 0
MayHoldAll {P} log own olds news ends holds =
    (r : ℕ) (p q : P) (o : Outcome) → slice_get olds r ≡ Some p → slice_get news r ≡ Some q → FinishedWith ends r o → MayHold own (holds r) (gained (log p) (log q)) o

-- relay r's session finished, and the relay holds an item with this id that the roll lacks
abbrev pub Offers : List Item → List End → (ℕ → List Item) → ℕ → Id → Type 0
Offers own ends holds r i = (o : Outcome) × FinishedWith ends r o × Needs own (holds r) i

-- The table's offers are the wanted ones. The plan gives each wanted id, and no other, once, to a relay that offers it.
pub record GivesEach (wants : ℕ → Id → Type 0) (table : Table) (plan : Planned) : Type 0 where
  pub stands : StandsFor table.offers wants
  pub once : Ascend (map (λ g. g.0) plan.gives)
  pub each : (r : ℕ) (i : Id) → wants r i → (q : ℕ) × (beside plan.gives i ≡ Some q)
  pub right : (q : ℕ) (i : Id) → beside plan.gives i ≡ Some q → wants q i
  pub sharing : IsSharing (relay_in plan.gives) table.offers

-- It gives each. No sharing of these offers has a smaller busiest load, and the group shows it.
pub record IsLeastPlan (base : ℕ → ℕ) (wants : ℕ → Id → Type 0) (table : Table) (plan : Planned) : Type 0 where
  pub gives : GivesEach wants table plan
  pub greatest : IsGreatest (load base (relay_in plan.gives) table.offers) plan.least_max
  pub none_smaller : NoneSmaller base table.offers plan.least_max
  pub shown : Shows base plan.group table.offers plan.least_max

-- The headline, for every family of lists that the relays may hold.
abbrev pub Headline : {P : Type 0} → (P → List Exchange) → (ℕ → ℕ) → List Item → List P → List P → List End → Table → Planned → Type 0
Headline log base own olds news ends table plan =
    (holds : ℕ → List Item) → MayHoldAll log own olds news ends holds → IsLeastPlan base (Offers own ends holds) table plan

-- It gives each. No sharing of these offers gives its busiest relay fewer ids, and the group alone holds too many ids for fewer.
pub record IsFewestPlan (wants : ℕ → Id → Type 0) (table : Table) (plan : Planned) : Type 0 where
  pub gives : GivesEach wants table plan
  pub greatest : IsGreatest (taken (relay_in plan.gives) table.offers) plan.least_max
  pub none_fewer : (g : Id → ℕ) (most : ℕ) → IsSharing g table.offers → IsGreatest (taken g table.offers) most → plan.least_max ≤ most
  pub shown : (plan.least_max ≡ 0) ⊎ ((0 < length plan.group) × ((plan.least_max - 1) * length plan.group < alone plan.group table.offers))

-- The headline's plain form, where all loads begin at 0.
abbrev pub PlainHeadline : {P : Type 0} → (P → List Exchange) → List Item → List P → List P → List End → Table → Planned → Type 0
PlainHeadline log own olds news ends table plan =
    (holds : ℕ → List Item) → MayHoldAll log own olds news ends holds → IsFewestPlan (Offers own ends holds) table plan
