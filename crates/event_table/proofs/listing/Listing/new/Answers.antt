use Rattle.event_table.proofs.Stands.{nothing_listed}
use Rattle.event_table.proofs.listing.Listing.new.Goals as goal

pub invariant_of-result : goal.invariant_of-result
invariant_of-result c = nothing_listed c.in_ok-new.field-0 c.in_ok-new-2.field-0 c.in_ok-new-3.field-0 c.in_ok-new.ensures c.in_ok-new-2.ensures c.in_ok-new-3.ensures
