use Rattle.std.proofs.Common.{◌&&◌, not, bit_and, refl, ap, ◌∙◌}
use Rattle.std.specs.Int.{bit_not, w128}
use Rattle.sharing.specs.Sharing.{is_among}
use Rattle.offer_table.specs.Relays.{members, number}
use Rattle.offer_table.proofs.Words.{word_by_word, minus_law, relays_members, minus_lt}
use Rattle.offer_table.proofs.relays.RelaySet.minus.Goals as goal

pub returns-clause-relays : goal.returns-clause-relays
returns-clause-relays c = relays_members _

pub returns-clause-member : goal.returns-clause-member
returns-clause-member c r =
    let s = c.self.inside in
    let o = c.other.inside in
    word_by_word (λ a b. bit_and a (bit_not w128 b)) (λ a b. a && not b) minus_law refl s.high s.low o.high o.low r c.self.invariant.1 c.other.invariant.0 c.other.invariant.1 (minus_lt s.low o.low c.self.invariant.1)
    ∙ ap (λ x. is_among x r && not (is_among (members (number o.high o.low)) r)) c.self.view_is
    ∙ ap (λ x. is_among c.args.self r && not (is_among x r)) c.other.view_is
