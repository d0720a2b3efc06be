use Rattle.event_table.proofs.Stands.{same_listed}
use Rattle.event_table.proofs.listing.Listing.share.Goals as goal

pub invariant_of-result : goal.invariant_of-result
invariant_of-result c = same_listed _ c.in_ok-share.field-0 _ c.in_ok-share-2.field-0 _ c.in_ok-share-3.field-0 c.self.invariant c.in_ok-share.ensures c.in_ok-share-2.ensures c.in_ok-share-3.ensures
