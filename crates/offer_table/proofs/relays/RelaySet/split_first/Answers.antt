use Rattle.std.proofs.Common.{◌&&◌, not, ap, ◌∙◌}
use Rattle.sharing.specs.Sharing.{is_among}
use Rattle.offer_table.proofs.Words.{first_member}
use Rattle.offer_table.proofs.relays.RelaySet.split_first.Goals as goal

pub returns : goal.returns
returns c =
    first_member c.args.self c.minus.result c.in_ok-relay.relay c.in_ok-relay.ensures c.minus.ensures.relays
    (λ r. c.minus.ensures.member r ∙ ap (λ x. is_among c.args.self r && not (is_among x r)) c.one.ensures.value)
