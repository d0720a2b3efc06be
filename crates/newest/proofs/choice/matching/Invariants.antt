use Rattle.std.proofs.Common.{◌≡◌, ◌≤◌, ℕ, ◌∷◌, map, take}
use Rattle.std.specs.Prelude.{All}
use Rattle.std.specs.Arc.{arc_value}
use Rattle.newest.specs.Newest.{joined, hits, placed_at, IsNewestFirst, BeginsMatched}
use Rattle.newest.proofs.choice.matching.Given as goal

abbrev pub invariant-loop-run : goal.invariant-loop-run
invariant-loop-run l = record {
  hits : hits l.filter (joined (map (λ r. r.now) l.rests.items)) ≡ hits l.filter (joined (l.last ∷ map arc_value (take l.run-index l.runs)));
  part : (n : ℕ) → placed_at n (joined (map (λ r. r.now) l.rests.items)) ≤ placed_at n (joined (l.last ∷ map arc_value (take l.run-index l.runs)));
  sorted : All IsNewestFirst (map (λ r. r.now) l.rests.items);
  begins : All (BeginsMatched l.filter) (map (λ r. r.now) l.rests.items);
}
