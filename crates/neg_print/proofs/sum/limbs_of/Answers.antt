use Rattle.std.proofs.Common.{arith}
use Rattle.neg_print.proofs.Digits.{cut_eight}
use Rattle.neg_print.proofs.sum.limbs_of.Goals as goal

pub returns : goal.returns
returns c =
    let a = cut_eight c.args.bytes.now c.split_at.result.0.now c.split_at.result.1.now c.limb_of.result (omega (arith, c.told-bytes)) c.split_at.ensures.front c.split_at.ensures.back c.limb_of.ensures in
    let b = cut_eight c.split_at.result.1.now c.split_at-2.result.0.now c.split_at-2.result.1.now c.limb_of-2.result (omega (arith, c.told-bytes, c.split_at.ensures.back_len)) c.split_at-2.ensures.front c.split_at-2.ensures.back c.limb_of-2.ensures in
    let d = cut_eight c.split_at-2.result.1.now c.split_at-3.result.0.now c.split_at-3.result.1.now c.limb_of-3.result (omega (arith, c.told-bytes, c.split_at.ensures.back_len, c.split_at-2.ensures.back_len)) c.split_at-3.ensures.front c.split_at-3.ensures.back c.limb_of-3.ensures in
    omega (arith, a, b, d, c.limb_of-4.ensures)
