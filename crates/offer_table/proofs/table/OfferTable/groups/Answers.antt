use Rattle.std.proofs.Common.{length, subst, ap, ◌∙◌}
use Rattle.sharing.specs.Offers.{IsOffers}
use Rattle.offer_table.specs.Table.{Table}
use Rattle.offer_table.specs.Groups.{groups_of}
use Rattle.offer_table.proofs.Partition.{are_groups}
use Rattle.offer_table.proofs.table.OfferTable.groups.Goals as goal

pub returns-clause-value : goal.returns-clause-value
returns-clause-value c = c.len.ensures ∙ ap length c.self.invariant.1.groups_are ∙ ap (λ (t : Table). length (groups_of t.offers)) c.self.view_is

pub returns-clause-groups : goal.returns-clause-groups
returns-clause-groups c = are_groups c.args.self.now.offers (subst (λ (t : Table). IsOffers t.offers) c.self.view_is c.self.invariant.0.offers_ok)
