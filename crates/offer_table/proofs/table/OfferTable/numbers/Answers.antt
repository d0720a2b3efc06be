use Rattle.std.proofs.Common.{List, ℕ, sym, subst}
use Rattle.offer_table.specs.Table.{Table}
use Rattle.offer_table.specs.Groups.{groups_of, AreNumbers}
use Rattle.offer_table.proofs.table.OfferTable.numbers.Goals as goal

pub returns : goal.returns
returns c =
    subst (λ (t : Table). AreNumbers t.offers (groups_of t.offers) c.deref.result.now) c.self.view_is
    (subst (λ (ns : List ℕ). AreNumbers c.self.inside.offers.items (groups_of c.self.inside.offers.items) ns) (sym c.deref.ensures.value) c.self.invariant.1.numbers_are)
