use Rattle.std.proofs.Common.{◌≡◌, map}
use Rattle.std.specs.Map.Iter.{deref}
use Rattle.offer_table.proofs.Tables.{each_with}
use Rattle.offer_table.proofs.table.OfferTable.of_report.Given as goal

abbrev pub invariant-loop-id : goal.invariant-loop-id
invariant-loop-id l = l.offers.items ≡ each_with l.relays (map deref l.yielded)
