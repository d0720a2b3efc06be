use Rattle.std.proofs.Common.{◌∙◌, arith}
use Rattle.neg_print.proofs.Digits.{eight_number}
use Rattle.neg_print.proofs.sum.limb_of.Goals as goal

pub returns : goal.returns
returns c = c.from_le_bytes.ensures ∙ eight_number c.args.bytes.now (omega (arith, c.requires))
