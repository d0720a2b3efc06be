use Rattle.std.proofs.Common.{◌||◌, bit_or, refl, ap, ◌∙◌}
use Rattle.std.proofs.lemmas.Nat.{or_lt}
use Rattle.sharing.specs.Sharing.{is_among}
use Rattle.offer_table.specs.Relays.{members, number}
use Rattle.offer_table.proofs.Words.{word_by_word, or_law, relays_members}
use Rattle.offer_table.proofs.relays.RelaySet.union.Goals as goal

pub invariant_of-result : goal.invariant_of-result
invariant_of-result c = (or_lt 128 c.self.inside.high c.other.inside.high c.self.invariant.0 c.other.invariant.0, or_lt 128 c.self.inside.low c.other.inside.low c.self.invariant.1 c.other.invariant.1)

pub returns-clause-relays : goal.returns-clause-relays
returns-clause-relays c = relays_members _

pub returns-clause-member : goal.returns-clause-member
returns-clause-member c r =
    let s = c.self.inside in
    let o = c.other.inside in
    word_by_word bit_or (λ a b. a || b) or_law refl s.high s.low o.high o.low r c.self.invariant.1 c.other.invariant.0 c.other.invariant.1 (or_lt 128 s.low o.low c.self.invariant.1 c.other.invariant.1)
    ∙ ap (λ x. is_among x r || is_among (members (number o.high o.low)) r) c.self.view_is
    ∙ ap (λ x. is_among c.args.self r || is_among x r) c.other.view_is
