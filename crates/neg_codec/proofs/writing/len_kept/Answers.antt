use Rattle.std.proofs.Common.{◌-◌, sym, arith}
use Rattle.neg_codec.proofs.Writes.{kept_at, zeros_more}
use Rattle.neg_codec.proofs.writing.len_kept.Goals as goal

pub loop-len-init : goal.loop-len-init
loop-len-init c = record { within = c.words_kept-len.ensures.within; zeros = c.words_kept-len.ensures.zeros }

pub returns-then-id-len-ne0-clause-value : goal.returns-then-id-len-ne0-clause-value
returns-then-id-len-ne0-clause-value c =
    sym (kept_at c.args.id.now c.loop-len.len (32 - c.loop-len.len) (omega (arith, c.told-id, c.loop-len.invariant.within)) c.loop-len.invariant.zeros (λ some. c.if-id-len-ne0.true))

pub loop-len-preserved : goal.loop-len-preserved
loop-len-preserved c =
    let n = c.loop-len.len - 1 in
    record {
      within = omega (arith, c.loop-len.invariant.within);
      zeros = zeros_more c.args.id.now n c.loop-len.len (32 - c.loop-len.len) (32 - n) (omega (arith, c.loop-len-test.true)) (omega (arith, c.loop-len-test.true, c.loop-len.invariant.within)) (omega (arith, c.told-id, c.loop-len-test.true, c.loop-len.invariant.within)) c.if-id-len-ne0.false c.loop-len.invariant.zeros;
    }
