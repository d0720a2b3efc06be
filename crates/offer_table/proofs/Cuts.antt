-- Lists in order.
use Rattle.std.proofs.Common.{◌≡◌, List, ◌∷◌}
use Rattle.std.specs.declared.cmp.Ordering.{Ordering}
use Rattle.std.specs.declared.cmp.Ordering.TheVariants.{Less}
use Rattle.std.specs.List.{All}
use Rattle.std.specs.List.Sorted.{IsStrictlySortedBy}
use Rattle.std.proofs.lemmas.List.Elements.{recursion_from_All}

pub sorted_cons : {K : Type 0} (c : K → K → Ordering) (x : K) (xs : List K) → All (λ y. c x y ≡ Less) xs → IsStrictlySortedBy c xs → IsStrictlySortedBy c (x ∷ xs)
unfolding IsStrictlySortedBy
sorted_cons c x xs h s = (recursion_from_All (λ y. c x y ≡ Less) xs h, s)
