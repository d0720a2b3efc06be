use Rattle.std.proofs.Common.{◌≡◌, [], take}
use Rattle.newest.specs.Newest.{hits}
use Rattle.newest.proofs.rests.from_match.Given as goal

abbrev pub invariant-loop-at : goal.invariant-loop-at
invariant-loop-at l = hits l.filter (take l.at l.entries) ≡ []
