use Rattle.std.proofs.Common.{◌-◌, sym, ap, ◌∙◌, subst, nat_eq}
use Rattle.std.proofs.lemmas.Bool.{le-ltb}
use Rattle.std.proofs.lemmas.Nat.Bits.{shr_and_one}
use Rattle.sharing.specs.declared.TheConstants.{RELAYS}
use Rattle.sharing.specs.Sharing.{is_among}
use Rattle.sharing.specs.Offers.{AreRelays}
use Rattle.offer_table.specs.Relays.{number}
use Rattle.offer_table.proofs.Words.{among_low, among_high, none_beyond, relays_members}
use Rattle.offer_table.proofs.relays.RelaySet.has.Goals as goal

pub returns-then-relay-lt-HALF-clause-value : goal.returns-then-relay-lt-HALF-clause-value
returns-then-relay-lt-HALF-clause-value c =
    let s = c.self.inside in
    ap (λ k. nat_eq k 1) (shr_and_one s.low c.args.relay) ∙ sym (among_low s.high s.low c.args.relay c.if-relay-lt-HALF.true) ∙ ap (λ s. is_among s c.args.relay) c.self.view_is

pub returns-then-relay-lt-HALF-clause-relays : goal.returns-then-relay-lt-HALF-clause-relays
returns-then-relay-lt-HALF-clause-relays c = subst AreRelays c.self.view_is (relays_members (number c.self.inside.high c.self.inside.low))

pub returns-then-relay-lt-RELAYS-clause-value : goal.returns-then-relay-lt-RELAYS-clause-value
returns-then-relay-lt-RELAYS-clause-value c =
    let s = c.self.inside in
    ap (λ k. nat_eq k 1) (shr_and_one s.high (c.args.relay - 128))
    ∙ sym (among_high s.high s.low c.args.relay c.self.invariant.1 c.if-relay-lt-HALF.false c.if-relay-lt-RELAYS.true)
    ∙ ap (λ s. is_among s c.args.relay) c.self.view_is

pub returns-then-relay-lt-RELAYS-clause-relays : goal.returns-then-relay-lt-RELAYS-clause-relays
returns-then-relay-lt-RELAYS-clause-relays c = subst AreRelays c.self.view_is (relays_members (number c.self.inside.high c.self.inside.low))

pub returns-else-relay-lt-RELAYS-clause-value : goal.returns-else-relay-lt-RELAYS-clause-value
returns-else-relay-lt-RELAYS-clause-value c =
    le-ltb c.args.relay RELAYS c.if-relay-lt-RELAYS.false
    ∙ sym (none_beyond (number c.self.inside.high c.self.inside.low) c.args.relay c.if-relay-lt-RELAYS.false)
    ∙ ap (λ s. is_among s c.args.relay) c.self.view_is

pub returns-else-relay-lt-RELAYS-clause-relays : goal.returns-else-relay-lt-RELAYS-clause-relays
returns-else-relay-lt-RELAYS-clause-relays c = subst AreRelays c.self.view_is (relays_members (number c.self.inside.high c.self.inside.low))
