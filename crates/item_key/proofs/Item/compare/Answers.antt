use Rattle.std.proofs.Common.{◌∙◌}
use Rattle.item_key.proofs.Order.{key_cmp}
use Rattle.item_key.proofs.Item.compare.Goals as goal

pub returns : goal.returns
returns c = c.cmp.ensures ∙ key_cmp c.args.self.now c.args.other.now c.id_has_its_length.ensures c.id_has_its_length-2.ensures
