use Rattle.std.proofs.Common.{◌≡◌, false, true≢false, sym, arith}
use Rattle.std.proofs.lemmas.Bool.{iff_false}
use Rattle.std.proofs.lemmas.Grind.{common_steps}
use Rattle.nostr_filter.proofs.Hexes.{hex_step, hex_stops}
use Rattle.nostr_filter.proofs.tested.are_hex.Goals as goal

pub returns-then-not-is_hex : goal.returns-then-not-is_hex
returns-then-not-is_hex c =
    let no : c.is_hex.result ≡ false = grind (arith, common_steps, c.if-not-is_hex.true) in
    let stops = hex_stops c.args.values.now c.loop-value.value-index c.value-item.result (omega arith) c.value-item.is (iff_false c.is_hex.ensures no) in
    (λ bad. absurd (true≢false (sym bad)), λ h. absurd (stops (c.loop-value.invariant.0 h)))

pub loop-value-preserved : goal.loop-value-preserved
loop-value-preserved c =
    let one = c.is_hex.ensures.0 (grind (arith, common_steps, c.if-not-is_hex.false)) in
    let step = hex_step c.args.values.now c.loop-value.value-index c.value-item.result (omega arith) c.value-item.is one in
    (λ h. step.0 (c.loop-value.invariant.0 h), λ h. c.loop-value.invariant.1 (step.1 h))
