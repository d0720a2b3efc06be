use Rattle.std.proofs.Common.{arith}
use Rattle.offer_table.specs.Relays.{number}
use Rattle.offer_table.proofs.Words.{none_of_zero}
use Rattle.offer_table.proofs.relays.RelaySet.empty.Goals as goal

pub returns : goal.returns
returns c = none_of_zero (number 0 0) (omega arith)
