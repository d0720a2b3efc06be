use Rattle.std.proofs.Common.{rules, ap, arith}
use Rattle.item_key.specs.Keys.{place, infinity}
use Rattle.neg_codec.specs.Ranges.{edge_of}
use Rattle.neg_draft.proofs.Owning.{count_up}
use Rattle.neg_draft.proofs.Telling.{last_fits}
use Rattle.neg_draft.proofs.draft.Draft.add_last.Goals as goal

pub print-print-requires : goal.print-print-requires
print-print-requires c =
    let up = count_up c.args.roll.now (edge_of c.end-end.result) infinity (omega (arith, ap place c.end-end.ensures.end, c.requires)) in
    (omega (arith, c.find.ensures.value, c.find-2.ensures.value, up), c.find-2.ensures.within)

pub add-requires-clause-fits : goal.add-requires-clause-fits
add-requires-clause-fits c =
    last_fits c.args.self.now c.print-print.result c.end-end.ensures.draft (rw c.end-end.ensures.end at c.edge.ensures.edge) c.requires (search rules)
