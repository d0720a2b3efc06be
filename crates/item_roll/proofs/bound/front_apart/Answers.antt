use Rattle.std.proofs.Common.{◌≤◌, ℕ, ◌+◌, replicate, arith, ap, sym, ◌∙◌}
use Rattle.std.proofs.lemmas.List.{length-take-le}
use Rattle.item_roll.specs.Splits.{common_len}
use Rattle.item_roll.proofs.Bounds.{common_small, front_is}
use Rattle.item_roll.proofs.bound.front_apart.Goals as goal

pub slice_bounds-id-end : goal.slice_bounds-id-end
slice_bounds-id-end c = omega (arith, common_small c.args.first.now c.args.second.now (c.told-first ∙ sym c.told-second) c.requires)

pub slice_bounds-copy_from_slice-end : goal.slice_bounds-copy_from_slice-end
slice_bounds-copy_from_slice-end c =
    let le : c.common_bytes-len.result + 1 ≤ 32 = omega (arith, common_small c.args.first.now c.args.second.now (c.told-first ∙ sym c.told-second) c.requires) in
    sym (length-take-le (c.common_bytes-len.result + 1) (replicate 32 0) le)

pub shared_ref_as_front-copy_from_slice : goal.shared_ref_as_front-copy_from_slice
shared_ref_as_front-copy_from_slice c = omega (arith, common_small c.args.first.now c.args.second.now (c.told-first ∙ sym c.told-second) c.requires)

pub returns : goal.returns
returns c = front_is c.copy_from_slice.new.self c.args.second.now (c.common_bytes-len.result + 1) (common_len c.args.first.now c.args.second.now + 1) c.copy_from_slice.ensures.after (ap (λ (n : ℕ). n + 1) c.common_bytes-len.ensures)

pub overflow_add-len : goal.overflow_add-len
overflow_add-len c = omega (arith, common_small c.args.first.now c.args.second.now (c.told-first ∙ sym c.told-second) c.requires)
