use Rattle.std.proofs.Common.{◌≡◌, ◌<◌, ◌≤◌, ℕ, List, ap, subst, sym, ◌∙◌}
use Rattle.item_key.specs.declared.Item.{Item}
use Rattle.item_key.specs.Keys.{place, item_of}
use Rattle.item_roll.specs.Splits.{minimal_bound_of}
use Rattle.item_roll.proofs.Bounds.{ids_order, bound_same, bound_other, bound_between}
use Rattle.item_roll.proofs.bound.minimal_bound.Goals as goal
use Rattle.item_roll.proofs.bound.minimal_bound.Goals.{then-first-second, else-first-second}

pub front_apart-id-requires : goal.front_apart-id-requires
front_apart-id-requires c = ids_order c.args.first.now c.args.second.now c.if-first-second.true c.requires.order

made : (second : Item) (id other : List ℕ) → id ≡ other → item_of second.time id ≡ item_of second.time other
made second id other e = ap (λ (bytes : List ℕ). item_of second.time bytes) e

value : (c : goal.After-new) → c.new.result ≡ minimal_bound_of c.args.first.now c.args.second.now
value c = elim c.if-first-second.branch [
  | then-first-second w ↦ c.new.ensures ∙ made c.args.second.now c.if-first-second.id _ (w.id-is ∙ w.front_apart-id.ensures) ∙ sym (bound_same c.args.first.now c.args.second.now w.if-first-second.true)
  | else-first-second w ↦ c.new.ensures ∙ made c.args.second.now c.if-first-second.id _ w.id-is ∙ sym (bound_other c.args.first.now c.args.second.now w.if-first-second.false)
]

pub returns-clause-value : goal.returns-clause-value
returns-clause-value c = value c

pub returns-clause-above : goal.returns-clause-above
returns-clause-above c =
    let b = bound_between c.args.first.now c.args.second.now (record { time = c.requires.first; id = c.as_bytes.ensures.whole }) (record { time = c.requires.second; id = c.as_bytes-2.ensures.whole }) c.requires.order in
    subst (λ (k : Item). place c.args.first.now < place k) (sym (value c)) b.above

pub returns-clause-upto : goal.returns-clause-upto
returns-clause-upto c =
    let b = bound_between c.args.first.now c.args.second.now (record { time = c.requires.first; id = c.as_bytes.ensures.whole }) (record { time = c.requires.second; id = c.as_bytes-2.ensures.whole }) c.requires.order in
    subst (λ (k : Item). place k ≤ place c.args.second.now) (sym (value c)) b.upto
