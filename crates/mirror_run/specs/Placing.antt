-- Items that are placed in their order: which one isn't taken, and why.
use Rattle.std.specs.Prelude.{◌≡◌, ◌≢◌, ℕ, ◌≤◌, ◌<◌, List, Some, length, take, slice_get, All, Contains}
use Rattle.item_key.specs.declared.Item.{Item}
use Rattle.item_key.specs.Keys.{endless}
use Rattle.neg_initiator.specs.Listed.{Distinct}
use Rattle.mirror_run.specs.declared.refusal.LineFault.{LineFault}
use Rattle.mirror_run.specs.declared.refusal.LineFault.TheVariants.{Form, Infinity, Present, Full, Order}

-- a list takes all of these items
pub record IsTaken (items : List Item) : Type 0 where
  pub finite : All (λ item. item.time < endless) items
  pub distinct : Distinct items
  pub few : length items ≤ 1000000

-- why an item isn't taken after those before it
abbrev pub Refuses : List Item → Item → LineFault → Type 0
Refuses before item Form = ⊥
Refuses before item Order = ⊥
Refuses before item Infinity = item.time ≡ endless
Refuses before item Present = (item.time ≢ endless) × Contains before item
Refuses before item Full = (item.time ≢ endless) × (¬ Contains before item) × (length before ≡ 1000000)

-- the item at place i, from 0, is the first that isn't taken
pub record IsFirstRefused (items : List Item) (i : ℕ) (fault : LineFault) : Type 0 where
  pub item : Item
  pub here : slice_get items i ≡ Some item
  pub before : IsTaken (take i items)
  pub refused : Refuses (take i items) item fault
