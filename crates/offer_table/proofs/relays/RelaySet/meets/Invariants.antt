use Rattle.std.proofs.Common.{◌≡◌, length}
use Rattle.std.specs.List.{list_any}
use Rattle.sharing.specs.Sharing.{is_among}
use Rattle.offer_table.proofs.relays.RelaySet.meets.Given as goal

abbrev pub invariant-loop-parts : goal.invariant-loop-parts
invariant-loop-parts l = list_any (is_among l.other) l.rest ≡ list_any (is_among l.other) l.fn.self

abbrev pub decreases-loop-parts : goal.decreases-loop-parts
decreases-loop-parts l = length l.rest
