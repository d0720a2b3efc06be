use Rattle.std.proofs.Common.{subst, ap, ◌∙◌, List}
use Rattle.std.specs.Prelude.{slice_set}
use Rattle.item_roll.specs.declared.entries.Entry.{Entry}
use Rattle.item_roll.specs.Chunks.{AreHalves}
use Rattle.item_roll.proofs.Lists.{at_any}
use Rattle.item_roll.proofs.Halves.{cut_list}
use Rattle.item_roll.proofs.entries.cut.Goals as goal

pub returns-clause-ok : goal.returns-clause-ok
returns-clause-ok g c = record {
  left = c.in_ok-left.left;
  right = c.in_ok-left.right;
  first_is = c.in_ok-left.ensures.first;
  halves = λ d. subst (λ (e : Entry g.row.P.Denot). AreHalves g.P.Part.items e c.in_ok-left.left c.in_ok-left.right) (c.index.ensures ∙ at_any c.args.entries.now.items c.args.at c.index.result.now d c.requires.within) c.in_ok-left.ensures.halves;
  list = ap (λ (es : List (Entry g.row.P.Denot)). slice_set es c.args.at c.in_ok-left.left) c.in_ok-insert.ensures.items ∙ cut_list c.args.entries.now.items c.args.at c.in_ok-left.left c.in_ok-left.right c.requires.within;
}
