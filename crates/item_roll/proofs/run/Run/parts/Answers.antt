use Rattle.std.proofs.Common.{sym, subst, List}
use Rattle.std.specs.Prelude.{All}
use Rattle.item_roll.specs.declared.entries.Entry.{Entry}
use Rattle.item_roll.specs.Halves.{IsPart}
use Rattle.item_roll.specs.Chunks.{items_at}
use Rattle.item_roll.proofs.Kept.{told_all}
use Rattle.item_roll.proofs.run.Run.parts.Goals as goal

pub returns-clause-few : goal.returns-clause-few
returns-clause-few g c = rw (← c.self.view_is) c.self.invariant.few

pub returns-clause-parts : goal.returns-clause-parts
returns-clause-parts g c = subst (λ (es : List (Entry g.row.P.Denot)). All (λ e. IsPart g.P.Part.most (items_at g.P.Part.items e)) es) (sym c.as_slice.ensures.value) (told_all g.P.Part.items g.P.Part.most c.self.inside.entries.items 0 0 c.self.invariant.tells)
