use Rattle.std.proofs.Common.{◌≤◌, arith, map, length}
use Rattle.std.specs.Arc.{arc_value}
use Rattle.nostr_wire.specs.Forms.{relay_form}
use Rattle.relay_core.proofs.Passing.{nothing_told}
use Rattle.relay_core.proofs.requests.put_event.Goals as goal

pub returns-else-place-len : goal.returns-else-place-len
returns-else-place-len c =
    let past : length c.args.events.now ≤ c.args.place = omega (arith, c.len.ensures, c.if-place-len.false) in
    nothing_told (arc_value c.args.heading.now) c.args.events.now c.args.place (map relay_form c.args.out.now.items) past
