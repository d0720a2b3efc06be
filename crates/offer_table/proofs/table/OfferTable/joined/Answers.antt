use Rattle.std.proofs.Common.{◌≡◌, ◌+◌, length, ap, arith}
use Rattle.offer_table.specs.Table.{Table, new_in}
use Rattle.offer_table.proofs.Runs.{Offers}
use Rattle.offer_table.proofs.table.OfferTable.joined.Goals as goal

pub of_guess-requires : goal.of_guess-requires
of_guess-requires c =
    let mine : c.self.inside.offers.items ≡ c.args.self.now.offers = ap (λ (t : Table). t.offers) c.self.view_is in
    let theirs : c.other.inside.offers.items ≡ c.args.other.now.offers = ap (λ (t : Table). t.offers) c.other.view_is in
    record {
      offers_ok = c.in_ok-offers.ensures.offers;
      few = omega (arith, c.requires, c.in_ok-offers.ensures.few, ap (λ (xs : Offers). length xs + new_in xs c.deref-2.result.now) c.deref.ensures.value, ap (λ (xs : Offers). length c.self.inside.offers.items + new_in c.self.inside.offers.items xs) c.deref-2.ensures.value, ap (λ (xs : Offers). length xs + new_in xs c.other.inside.offers.items) mine, ap (λ (xs : Offers). length c.args.self.now.offers + new_in c.args.self.now.offers xs) theirs);
    }
