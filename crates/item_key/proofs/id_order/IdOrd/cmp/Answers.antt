use Rattle.std.proofs.Common.{ap, ◌∙◌}
use Rattle.std.specs.Ordering.{nat_cmp}
use Rattle.item_key.proofs.Words.{by_words}
use Rattle.item_key.proofs.id_order.IdOrd.cmp.Goals as goal

pub returns-in_default : goal.returns-in_default
returns-in_default c =
    by_words c.args.self.now c.args.other.now c.id_has_its_length.ensures c.id_has_its_length-2.ensures c.cmp.result
    (c.cmp.ensures ∙ ap (λ n. nat_cmp n c.first_word-2.result) c.first_word.ensures ∙ ap (nat_cmp _) c.first_word-2.ensures)
    c.in_default.not-Equal
