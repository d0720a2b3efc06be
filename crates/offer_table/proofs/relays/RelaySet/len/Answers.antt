use Rattle.std.proofs.Common.{ap, ◌∙◌, length}
use Rattle.offer_table.proofs.Words.{ones_members}
use Rattle.offer_table.proofs.relays.RelaySet.len.Goals as goal

pub returns : goal.returns
returns c = let s = c.self.inside in ones_members s.high s.low c.self.invariant.0 c.self.invariant.1 ∙ ap length c.self.view_is
