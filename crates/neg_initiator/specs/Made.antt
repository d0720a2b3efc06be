-- A session made of its parts.
use Rattle.std.specs.Prelude.{ℕ, List}
use Rattle.item_key.specs.declared.Item.{Item}
use Rattle.neg_codec.specs.Ranges.{Span}
use Rattle.neg_initiator.specs.Session.{Session}
use Rattle.neg_initiator.specs.Settling.{Findings}
use Rattle.neg_initiator.specs.declared.phase.Phase.TheVariants.{Asking}

-- one that asks
abbrev pub asking : ℕ → List Item → List Span → Findings → ℕ → Session
asking limit roll asked f most = record { roll = roll; asked = asked; need = f.need; have = f.have; trusted = f.trusted; limit = limit; most = most; phase = Asking }
