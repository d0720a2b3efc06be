use Rattle.std.proofs.Common.{◌≡◌, ◌++◌, take}
use Rattle.std.specs.List.{flat_map}
use Rattle.neg_codec.proofs.writing.put_ids.Given as goal

abbrev pub invariant-loop-id : goal.invariant-loop-id
invariant-loop-id l = l.out.items ≡ l.initial.out.items ++ flat_map (λ i. i.0) (take l.id-index l.list)
