use Rattle.std.proofs.Common.{length, ap, arith}
use Rattle.hex.specs.Hex.{lower_digits}
use Rattle.hex.proofs.HexLemmas.{length-encode_with}
use Rattle.id_text.proofs.parsing.parse_id.Goals as goal

pub returns-then-text-ne64-clause-none : goal.returns-then-text-ne64-clause-none
returns-then-text-ne64-clause-none c = λ id is same.
    let len = length-encode_with lower_digits id.0 in omega (arith, ap length same, len, is.len)
