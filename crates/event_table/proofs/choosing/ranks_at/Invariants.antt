use Rattle.std.proofs.Common.{◌≡◌, flat_map, take}
use Rattle.event_table.proofs.Ranked.{rank_at}
use Rattle.event_table.proofs.choosing.ranks_at.Given as goal

abbrev pub invariant-loop-place : goal.invariant-loop-place
invariant-loop-place l = l.ranks.items ≡ flat_map (rank_at l.filter l.events) (take l.place-index l.places)
