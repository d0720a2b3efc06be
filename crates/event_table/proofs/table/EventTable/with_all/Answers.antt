use Rattle.std.proofs.Common.{◌∙◌, length, map, take}
use Rattle.std.specs.Arc.{arc_value}
use Rattle.event_table.proofs.More.{longer_begins}
use Rattle.event_table.proofs.table.EventTable.with_all.Goals as goal

pub longer-requires : goal.longer-requires
longer-requires c = longer_begins (take (length c.in_ok-listing-2.fresh.items) (map arc_value c.args.others.now)) c.in_ok-listing.listing c.args.self.now _ (c.in_ok-listing.ensures ∙ c.self.view_is) c.in_ok-listing-2.ensures.list
