use Rattle.std.proofs.Common.{arith}
use Rattle.std.proofs.lemmas.Bool.{false≢true}
use Rattle.fetch_plan.proofs.Readers.{no_relays}
use Rattle.fetch_plan.proofs.search.relays_with.Goals as goal

pub loop-relay-init : goal.loop-relay-init
loop-relay-init c = rw c.empty-relays.ensures (record { relays = no_relays; sound = λ r m. absurd (false≢true m); whole = λ r lt. absurd (omega arith) })
