use Rattle.std.proofs.Common.{◌-◌, refl, arith}
use Rattle.std.proofs.Math.ListN.{drop_of_length-le}
use Rattle.neg_codec.proofs.Writes.{zeros_before}
use Rattle.neg_codec.proofs.writing.words_kept.Goals as goal

pub loop-len-init : goal.loop-len-init
loop-len-init c = record { within = omega arith; zeros = drop_of_length-le c.args.id.now {i = 32} (omega (arith, c.told-id)) }

pub loop-len-preserved : goal.loop-len-preserved
loop-len-preserved c =
    let n = c.loop-len.len - 8 in
    record {
      within = omega (arith, c.loop-len.invariant.within);
      zeros = zeros_before c.args.id.now n c.loop-len.len (32 - c.loop-len.len) (32 - n) (omega (arith, c.loop-len-test.true)) (omega (arith, c.loop-len-test.true, c.loop-len.invariant.within)) (c.if-not-are_zeros.ensures refl) c.loop-len.invariant.zeros;
    }
