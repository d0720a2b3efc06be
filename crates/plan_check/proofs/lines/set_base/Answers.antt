use Rattle.std.proofs.Common.{◌<◌, arith}
use Rattle.sharing.specs.declared.TheConstants.{RELAYS}
use Rattle.plan_check.proofs.Digits.{relay_room, load_room}
use Rattle.plan_check.proofs.lines.set_base.Goals as goal

pub set_number-name-requires : goal.set_number-name-requires
set_number-name-requires c =
    let small : c.from.result < RELAYS = omega (arith, c.from.ensures, c.requires.base.relay) in
    record { room = omega (arith, relay_room c.from.result small) }

pub set_number-last-requires : goal.set_number-last-requires
set_number-last-requires c =
    let small : c.from.result < RELAYS = omega (arith, c.from.ensures, c.requires.base.relay) in
    record { room = omega (arith, relay_room c.from.result small, load_room c.args.load (omega (arith, c.requires.base.small))) }

pub set_word-requires : goal.set_word-requires
set_word-requires c =
    let small : c.from.result < RELAYS = omega (arith, c.from.ensures, c.requires.base.relay) in
    omega (arith, relay_room c.from.result small, load_room c.args.load (omega (arith, c.requires.base.small)))
