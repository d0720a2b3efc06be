use Rattle.std.proofs.Common.{◌≡◌, ◌∙◌, List, ℕ, get_or, drop, refl, sym, ap, arith}
use Rattle.std.proofs.lemmas.List.{drop_all}
use Rattle.nostr_filter.specs.declared.conditions.TagCondition.{TagCondition}
use Rattle.nostr_filter.specs.Tags.{letters, stand_among}
use Rattle.nostr_filter.proofs.Standing.{letters_of, step_same, step_other, step_end, walk_end, fifty_two, letters_are}
use Rattle.nostr_filter.proofs.letters.is_in_order.Goals as goal
use Rattle.nostr_filter.proofs.letters.is_in_order.Goals.{then-next-list+then-list-next, else-next-list, else-next-list-via-then-next-list+else-list-next, else-next-list-via-else-next-list}

pub loop-letter-preserved : goal.loop-letter-preserved
loop-letter-preserved c =
    let i = c.loop-letter.letter-index in
    let n = c.loop-letter.next in
    let read = ap (λ (l : List ℕ). get_or l i 0) letters_are in
    let so_far = c.loop-letter.invariant.left in
    elim c.if-next-list.branch [
      | then-next-list+then-list-next w ↦
          let is : w.index-list-next.result.letter ≡ get_or letters i 0 = ap (λ (t : TagCondition). t.letter) w.index-list-next.is ∙ w.if-list-next.true ∙ sym read in
          let one = step_same letters c.args.list.now i n (get_or letters i 0) w.index-list-next.result (omega (arith, fifty_two)) w.if-next-list.true refl (sym w.index-list-next.is) is in
          record { within = omega arith; left = rw w.next-is (so_far ∙ one) }
      | else-next-list w ↦ elim w.else-next-list.branch [
        | else-next-list-via-then-next-list+else-list-next v ↦
            let other : ¬ (v.index-list-next.result.letter ≡ get_or letters i 0) = λ e. v.if-list-next.false (sym (ap (λ (t : TagCondition). t.letter) v.index-list-next.is) ∙ e ∙ read) in
            let one = step_other letters c.args.list.now i n (get_or letters i 0) v.index-list-next.result (omega (arith, fifty_two)) v.if-next-list.true refl (sym v.index-list-next.is) other in
            record { within = omega arith; left = rw w.next-is (so_far ∙ one) }
        | else-next-list-via-else-next-list v ↦
            record { within = omega arith; left = rw w.next-is (so_far ∙ step_end letters c.args.list.now i n v.if-next-list.false) }
      ]
    ]

pub returns : goal.returns
returns c =
    let none = drop_all c.loop-letter.letter-index letters (omega (arith, fifty_two)) in
    walk_end c.args.list.now c.loop-letter.next c.loop-letter.invariant.within
    ∙ sym (c.loop-letter.invariant.left ∙ ap (λ l. stand_among l (letters_of (drop c.loop-letter.next c.args.list.now))) none)
