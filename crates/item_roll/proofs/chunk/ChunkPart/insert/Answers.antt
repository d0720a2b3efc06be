use Rattle.std.proofs.Common.{◌≡◌, ℕ, ◌+◌, ◌*◌, ◌%◌, ◌^◌, ap, sym, ◌∙◌, List, length, take, arith}
use Rattle.std.specs.List.{insert}
use Rattle.item_key.specs.declared.Item.{Item}
use Rattle.neg_print.specs.Total.{total_of}
use Rattle.item_roll.specs.Sums.{sum_at}
use Rattle.item_roll.proofs.Totals.{sum_insert}
use Rattle.item_roll.proofs.chunk.ChunkPart.insert.Goals as goal

pub invariant_of-self-2 : goal.invariant_of-self-2
invariant_of-self-2 c =
    let grown : c.insert.new.self.items ≡ insert c.self.inside.items.items c.args.at c.args.item = rw c.if-is_err.ensures.negation at c.insert.ensures.items in
    let was : total_of c.self.inside.sum ≡ sum_at c.self.inside.items.items = c.self.invariant.0 in (
      c.add-self-inside.ensures ∙ ap (λ (n : ℕ). (n + total_of c.of.result) % 2 ^ 256) was ∙ ap (λ (n : ℕ). (sum_at c.self.inside.items.items + n) % 2 ^ 256) c.of.ensures
          ∙ sym (sum_insert c.self.inside.items.items c.args.at c.args.item) ∙ ap (λ (xs : List Item). sum_at xs) (sym grown),
      λ k d within also reached. c.mark_from.ensures.marked k d within also (omega (arith, reached, ap (λ (xs : List Item). length xs) c.as_slice.ensures.value)) ∙ ap (λ (xs : List Item). sum_at (take (16 * k) xs)) c.as_slice.ensures.value,
    )
