use Rattle.std.proofs.Common.{◌≡◌, ◌-◌, ℕ, List, arith, refl}
use Rattle.item_key.specs.declared.Item.{Item}
use Rattle.item_key.specs.Keys.{least}
use Rattle.neg_codec.specs.Ranges.{Span, print}
use Rattle.item_roll.specs.Splits.{minimal_bound_of}
use Rattle.item_roll.proofs.Truths.{got, key_at, order_at}
use Rattle.item_roll.proofs.split.printed.Goals as goal

-- the two items read, and the range that is made of them
made : (items : List Item) (a b x y edge : Item) (bytes ids : List ℕ) → a ≡ x → b ≡ y → edge ≡ minimal_bound_of a b → bytes ≡ ids
    → let r : Span = record { upper = edge; claim = print bytes } in let s : Span = record { upper = minimal_bound_of x y; claim = print ids } in r ≡ s
made items a b x y edge bytes ids ea eb e f = rw (e, ea, eb, f) refl

pub minimal_bound-upper-requires-clause-order : goal.minimal_bound-upper-requires-clause-order
minimal_bound-upper-requires-clause-order c =
    rw (got c.args.roll.now (c.args.next - 1) c.pair.result.0 c.pair.ensures.first, got c.args.roll.now c.args.next c.pair.result.1 c.pair.ensures.second)
    (order_at c.args.roll.now (c.args.next - 1) c.args.next least c.pair.ensures.roll.ascending (omega arith) c.requires.within)

pub minimal_bound-upper-requires-clause-first : goal.minimal_bound-upper-requires-clause-first
minimal_bound-upper-requires-clause-first c = rw (got c.args.roll.now (c.args.next - 1) c.pair.result.0 c.pair.ensures.first) (key_at c.args.roll.now (c.args.next - 1) least c.pair.ensures.roll (omega arith)).time

pub minimal_bound-upper-requires-clause-second : goal.minimal_bound-upper-requires-clause-second
minimal_bound-upper-requires-clause-second c = rw (got c.args.roll.now c.args.next c.pair.result.1 c.pair.ensures.second) (key_at c.args.roll.now c.args.next least c.pair.ensures.roll c.requires.within).time

pub returns-clause-range : goal.returns-clause-range
returns-clause-range c = made c.args.roll.now c.pair.result.0 c.pair.result.1 _ _ _ _ _ (got c.args.roll.now (c.args.next - 1) c.pair.result.0 c.pair.ensures.first) (got c.args.roll.now c.args.next c.pair.result.1 c.pair.ensures.second) c.minimal_bound-upper.ensures.value c.print_from-below.ensures.print
