use Rattle.serde_json.specs.View.{view}
use Rattle.nostr_filter.proofs.Hexes.{hex_found}
use Rattle.nostr_filter.proofs.tested.is_hex.Goals as goal

pub returns : goal.returns
returns c = rw c.is_some.ensures (hex_found (view c.args.value.now) c.hex_at.result c.hex_at.ensures.spelled c.hex_at.ensures.missing)
