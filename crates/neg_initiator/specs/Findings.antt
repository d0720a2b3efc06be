-- What was found, as lists.
use Rattle.std.specs.Prelude.{map}
use Rattle.neg_initiator.specs.Settling.{Findings}
use Rattle.neg_initiator.specs.Lookups.{ids_in}
use Rattle.neg_initiator.specs.Pairs.{pair_of}
use Rattle.neg_initiator.specs.declared.found.Found.{Found}

abbrev pub findings_of : Found → Findings
findings_of f = record { need = ids_in f.need; have = ids_in f.have; trusted = map pair_of f.trusted.items }
