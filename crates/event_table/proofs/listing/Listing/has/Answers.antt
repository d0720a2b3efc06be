use Rattle.std.proofs.Common.{ap, ◌∙◌}
use Rattle.std.specs.Prelude.{is_some}
use Rattle.event_table.proofs.Ids.{has_place}
use Rattle.event_table.proofs.listing.Listing.has.Goals as goal

pub returns : goal.returns
returns c = c.is_some.ensures ∙ ap is_some c.place.ensures ∙ has_place 0 c.args.id.now c.args.self.now
