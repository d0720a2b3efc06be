use Rattle.std.proofs.Common.{◌≡◌, take, map}
use Rattle.fetch_plan.proofs.takers.give.Given as goal

abbrev pub invariant-loop-place : goal.invariant-loop-place
invariant-loop-place l = record {
  ids : map (λ g. g.0) l.gives.items ≡ map (λ o. o.0) (take l.place l.offers);
  takers : map (λ g. g.1) l.gives.items ≡ take l.place l.takers;
}
