use Rattle.std.proofs.Common.{◌<◌, ◌&&◌, not, ◌∷◌, [], sym, ap, ◌∙◌}
use Rattle.sharing.specs.declared.TheConstants.{RELAYS}
use Rattle.sharing.specs.Sharing.{is_among}
use Rattle.sharing.specs.Offers.{relays_of}
use Rattle.sharing.proofs.Looks.{among_each}
use Rattle.offer_table.proofs.Tables.{strike_none, strike_one, one_ascends}
use Rattle.offer_table.proofs.table.OfferTable.strike.Goals as goal

pub returns-then-not-has-clause-offers : goal.returns-then-not-has-clause-offers
returns-then-not-has-clause-offers c =
    strike_none c.args.self.now.offers c.args.id.now c.args.relay (sym (ap (λ s. is_among s c.args.relay) c.offers.ensures.value) ∙ sym c.has.ensures.value ∙ c.if-not-has.true)

pub one-requires : goal.one-requires
one-requires c = among_each (λ r. r < RELAYS) c.offers.result c.args.relay c.has.ensures.relays.small (sym c.has.ensures.value ∙ c.if-not-has.false)

pub leave_out-requires : goal.leave_out-requires
leave_out-requires c = one_ascends c.args.id.now

pub returns-clause-offers : goal.returns-clause-offers
returns-clause-offers c i r =
    c.in_ok-leave_out.ensures.offers i r
    ∙ ap (λ s. is_among (relays_of c.args.self.now.offers i) r && not (is_among (relays_of ((c.args.id.now, s) ∷ []) i) r)) c.one.ensures.value
    ∙ ap (λ b. is_among (relays_of c.args.self.now.offers i) r && not b) (strike_one c.args.id.now i c.args.relay r)
