use Rattle.std.proofs.Common.{◌<◌, length, sym, subst, ap, ◌∙◌}
use Rattle.std.specs.Prelude.{slice_get}
use Rattle.offer_table.specs.Table.{Table}
use Rattle.offer_table.specs.Groups.{groups_of}
use Rattle.offer_table.proofs.Rows.{Rows}
use Rattle.offer_table.proofs.table.OfferTable.group_at.Goals as goal

pub at-requires : goal.at-requires
at-requires c = subst (λ (gs : Rows). c.args.k < length gs) (sym (c.self.invariant.1.groups_are ∙ ap (λ (t : Table). groups_of t.offers) c.self.view_is)) c.requires

pub returns : goal.returns
returns c = ap (λ (gs : Rows). slice_get gs c.args.k) (sym (c.self.invariant.1.groups_are ∙ ap (λ (t : Table). groups_of t.offers) c.self.view_is)) ∙ c.at.ensures
