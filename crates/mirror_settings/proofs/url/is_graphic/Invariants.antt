use Rattle.std.proofs.Common.{ℕ, ◌<◌, get_or}
use Rattle.mirror_settings.specs.Relays.{IsGraphic}
use Rattle.mirror_settings.proofs.url.is_graphic.Given as goal

abbrev pub invariant-loop-byte : goal.invariant-loop-byte
invariant-loop-byte l = (k : ℕ) → k < l.byte-index → IsGraphic (get_or l.bytes k 0)
