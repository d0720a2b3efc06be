use Rattle.std.proofs.Common.{List, arith}
use Rattle.item_key.specs.declared.Item.{Item}
use Rattle.item_roll.proofs.Kept.{told_many}
use Rattle.item_roll.proofs.run.Run+Chunk.chunks.Goals as goal

pub returns-clause-few : goal.returns-clause-few
returns-clause-few c = rw (← c.self.view_is) (omega (arith, (told_many (λ (xs : List Item). xs) 512 c.self.inside.entries.items 0 0 c.self.invariant.tells).0, c.len.ensures))

pub returns-clause-enough : goal.returns-clause-enough
returns-clause-enough c = rw (← c.self.view_is) (omega (arith, (told_many (λ (xs : List Item). xs) 512 c.self.inside.entries.items 0 0 c.self.invariant.tells).1, c.len.ensures))
