-- A roll's chunks after an item was put in its place.
use Rattle.std.proofs.Common.{◌≡◌, ℕ, ◌+◌, ◌%◌, ◌^◌, ◌<◌, ◌≤◌, List, length, sym, ap, ◌∙◌, arith}
use Rattle.std.specs.List.{insert}
use Rattle.std.proofs.lemmas.List.Edits.{length-insert}
use Rattle.item_key.specs.declared.Item.{Item}
use Rattle.neg_print.specs.declared.sum.Sum.{Sum}
use Rattle.neg_print.specs.Print.{little_number}
use Rattle.neg_print.specs.Total.{total_of}
use Rattle.item_roll.specs.declared.entries.Entry.{Entry}
use Rattle.item_roll.specs.Sums.{sum_at}
use Rattle.item_roll.specs.Chunks.{joined, Tells, HasRoom, Grown, IsKept}
use Rattle.item_roll.proofs.Totals.{sum_insert}
use Rattle.item_roll.proofs.Grows.{regrown, grown_join}

pub put_list : {V : Type 0} → (its : V → List Item) (top : ℕ) (items : List Item) (es fs : List (Entry V)) (p i j : ℕ) (x : Item) → joined its es ≡ items → HasRoom its top es p i j → Grown its es i j x fs → joined its fs ≡ insert items p x
put_list {V} its top items es fs p i j x list room grown = grown_join its es fs i j p x room.within room.inside grown (sym room.there) ∙ ap (λ (xs : List Item). insert xs p x) list

pub kept_put : {V : Type 0} → (its : V → List Item) (top : ℕ) (items : List Item) (es fs : List (Entry V)) (n p i j : ℕ) (s u : Sum) (x : Item) → p ≤ length items → length items < 1000000 → joined its es ≡ items → Tells its top 0 0 es
    → HasRoom its top es p i j → Grown its es i j x fs → n ≡ length items → total_of s ≡ sum_at items → total_of u ≡ (total_of s + little_number x.id.0) % 2 ^ 256 → IsKept its top fs (n + 1) u
kept_put {V} its top items es fs n p i j s u x within few list tells room grown len sum added =
    let all = put_list its top items es fs p i j x list room grown in
    let more = ap length all ∙ length-insert items p x within in
    record {
      tells = regrown its top es fs i j 0 0 x tells room.within room.inside room.room grown;
      len = omega (arith, len, more);
      sum = added ∙ ap (λ (n : ℕ). (n + little_number x.id.0) % 2 ^ 256) sum ∙ sym (sum_insert items p x) ∙ ap sum_at (sym all);
      few = omega (arith, more, few);
    }
