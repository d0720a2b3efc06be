use Rattle.std.proofs.Common.{◌≡◌, ◌≤◌, ◌-◌, ◌++◌, length, map, take}
use Rattle.std.specs.Prelude.{All}
use Rattle.nostr_filter.specs.Choice.{newest_first, in_order}
use Rattle.newest.specs.Newest.{rank, joined, hits, AreApart, IsNewestFirst, BeginsMatched}
use Rattle.newest.proofs.choice.take_hits.Given as goal

abbrev pub invariant-loop-rests : goal.invariant-loop-rests
invariant-loop-rests l = record {
  few : length l.found.items ≤ l.most;
  sorted : All IsNewestFirst (map (λ r. r.now) l.rests.items);
  begins : All (BeginsMatched l.filter) (map (λ r. r.now) l.rests.items);
  apart : AreApart (joined (map (λ r. r.now) l.fn.lists.items)) → AreApart (joined (map (λ r. r.now) l.rests.items));
  rest : AreApart (joined (map (λ r. r.now) l.fn.lists.items))
      → take l.most (map (λ e. rank e.now) l.found.items ++ in_order newest_first (hits l.filter (joined (map (λ r. r.now) l.rests.items))))
      ≡ take l.most (in_order newest_first (hits l.filter (joined (map (λ r. r.now) l.fn.lists.items))));
}

abbrev pub decreases-loop-rests : goal.decreases-loop-rests
decreases-loop-rests l = l.most - length l.found.items
