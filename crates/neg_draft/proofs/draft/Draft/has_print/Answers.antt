use Rattle.std.proofs.Common.{rules, ◌≡◌, ap, sym, ◌∙◌, List}
use Rattle.item_key.specs.declared.Item.{Item}
use Rattle.neg_codec.specs.Ranges.{edge_of}
use Rattle.neg_print.specs.Print.{print_of}
use Rattle.item_roll.specs.Parts.{part, ids_of}
use Rattle.neg_draft.proofs.draft.Draft.has_print.Goals as goal

own : (c : goal.After-eq) → c.print-own.result ≡ print_of (ids_of (part c.args.roll.now (edge_of c.args.lower.now) (edge_of c.args.upper.now)))
own c = c.print-own.ensures ∙ ap (λ (xs : List Item). print_of (ids_of xs)) (sym c.places-lo.ensures.part)

pub returns-clause-own : goal.returns-clause-own
returns-clause-own c = rw (← own c) (search rules)
