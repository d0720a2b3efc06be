use Rattle.std.proofs.Common.{rules, ap, ◌∙◌}
use Rattle.item_key.specs.declared.Item.{Item}
use Rattle.neg_codec.proofs.Lengths.{key_sum}
use Rattle.neg_codec.proofs.sizes.key_len.Goals as goal

pub returns-clause-value : goal.returns-clause-value
returns-clause-value c =
    key_sum c.args.before c.time.result c.len_kept-len.result c.spell-code.result.1 c.spell-count.result.1 c.as_bytes.result.now c.args.key.now c.time.ensures.value
    (c.as_bytes.ensures.value ∙ ap (λ (i : Item). i.id.0) c.item-item.ensures.value) (search rules) c.spell-code.ensures.len c.len_kept-len.ensures.value c.spell-count.ensures.len
