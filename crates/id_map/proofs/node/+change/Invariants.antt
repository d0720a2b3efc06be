use Rattle.std.proofs.Common.{◌≡◌, ◌+◌, ◌*◌, ◌-◌, ◌≤◌, List, ℕ, length, drop}
use Rattle.id_map.specs.Places.{find_in, lookup_in}
use Rattle.id_map.proofs.node.+change.Given as goal

abbrev pub invariant-grown-loop-rest : goal.invariant-grown-loop-rest
invariant-grown-loop-rest l = record {
  within : l.rest ≤ length l.entries.items;
  put : (id : List ℕ) → lookup_in (l.left - 1) id l.children.items ≡ find_in id (drop l.rest l.entries.items);
}

abbrev pub decreases-grown-loop-rest : goal.decreases-grown-loop-rest
decreases-grown-loop-rest l = l.rest

abbrev pub decreases-grown : goal.decreases-grown
decreases-grown l = 4 * l.left

abbrev pub decreases-with : goal.decreases-with
decreases-with l = 4 * l.left + 1

abbrev pub decreases-put_into : goal.decreases-put_into
decreases-put_into l = 4 * l.left + 2

abbrev pub decreases-put : goal.decreases-put
decreases-put l = 4 * l.left + 3
