use Rattle.std.proofs.Common.{◌+◌, ◌++◌, ◌≤◌, ◌%◌, ◌^◌, ℕ, List, length, refl, ap, sym, subst, ◌∙◌}
use Rattle.std.specs.Arc.{arc_value}
use Rattle.item_key.specs.declared.Item.{Item}
use Rattle.neg_print.specs.Total.{total_of}
use Rattle.item_roll.proofs.Pushes.{kept_push}
use Rattle.item_roll.proofs.run.Run.push.Goals as goal

pub invariant_of-self-2 : goal.invariant_of-self-2
invariant_of-self-2 g c =
    let few = subst (λ (xs : List Item). length (xs ++ g.P.Part.items (arc_value c.args.part)) ≤ 1000000) (sym c.self.view_is) c.requires.few in
    let count = rw c.deref.ensures at c.len-count.ensures in
    let sum = rw c.deref-2.ensures at c.sum-sum.ensures in
    rw c.in_ok-push.ensures.items (kept_push g.P.Part.items g.P.Part.most c.self.inside.entries.items (record { before = c.self.inside.len; sum_before = c.self.inside.sum; part = c.args.part }) c.self.inside.len _ c.self.inside.sum _
    c.self.invariant c.requires.part few refl refl (ap (λ (n : ℕ). c.self.inside.len + n) count)
    (c.add-self-inside.ensures ∙ ap (λ (n : ℕ). (total_of c.self.inside.sum + n) % 2 ^ 256) sum))
