use Rattle.offer_table.proofs.Tables.{zeros, no_bases}
use Rattle.offer_table.proofs.bases.Bases.none.Goals as goal

pub invariant_of-result : goal.invariant_of-result
invariant_of-result c = no_bases

pub returns-clause-none : goal.returns-clause-none
returns-clause-none c = zeros 256

pub returns-clause-bases : goal.returns-clause-bases
returns-clause-bases c = no_bases
