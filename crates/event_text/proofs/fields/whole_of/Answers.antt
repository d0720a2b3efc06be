use Rattle.std.proofs.Common.{◌≡◌, ◌==◌, get_or, false, sym, arith}
use Rattle.event_text.proofs.Texts.{whole_number}
use Rattle.event_text.proofs.fields.whole_of.Goals as goal

pub returns : goal.returns
returns c =
    let s = c.as_bytes-bytes.result.now in
    let above : (get_or s 0 0 == 45) ≡ false = grind arith in
    rw (sym c.as_bytes-bytes.ensures.value) (whole_number s c.whole_above.result above (rw (sym c.scan.ensures.parts) c.whole_above.ensures))
