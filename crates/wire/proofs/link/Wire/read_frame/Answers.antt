use Rattle.wire.proofs.Roles.{read_role}
use Rattle.wire.proofs.link.Wire.read_frame.Goals as goal

pub returns-clause-role : goal.returns-clause-role
returns-clause-role g c =
    rw (← c.self.view_is) (read_role c.read.result c.self.inside.context c.read.new.self _ _ _ c.read.ensures.leaves c.read.ensures.err_state)
