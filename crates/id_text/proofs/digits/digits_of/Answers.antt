use Rattle.std.proofs.Common.{length, arith, refl, rules, ap}
use Rattle.hex.specs.Hex.{encode_with}
use Rattle.id_text.proofs.HexLemmas.{digits_more}
use Rattle.id_text.proofs.digits.digits_of.Goals as goal

pub loop-i-init : goal.loop-i-init
unfolding encode_with
loop-i-init c = record { len = refl; digits = refl }

pub loop-i-preserved : goal.loop-i-preserved
loop-i-preserved c =
    let i = c.loop-i.i in
    record {
      len = search rules;
      digits = digits_more c.loop-i.text c.as_bytes-bytes.result.now i c.hex_digit.result c.hex_digit-in-loop-i.result c.loop-i.invariant.len (omega (arith, ap length c.as_bytes-bytes.ensures.value, c.as_bytes-bytes.ensures.whole.len)) (omega arith) c.hex_digit.ensures c.hex_digit-in-loop-i.ensures c.loop-i.invariant.digits;
    }
