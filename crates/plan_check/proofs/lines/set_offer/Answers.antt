use Rattle.std.proofs.Common.{arith}
use Rattle.plan_check.proofs.Digits.{few_relays}
use Rattle.plan_check.proofs.lines.set_offer.Goals as goal

pub set_relays-last-requires-clause-room : goal.set_relays-last-requires-clause-room
set_relays-last-requires-clause-room c = omega (arith, few_relays c.args.relays.now c.requires.relays)

pub set_word-requires : goal.set_word-requires
set_word-requires c = omega (arith, few_relays c.args.relays.now c.requires.relays)
