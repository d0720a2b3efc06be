use Rattle.std.proofs.Common.{refl}
use Rattle.ws_link.proofs.Speaking.{was_spoken}
use Rattle.ws_link.proofs.peer.WsPeer.always_spoken.Goals as goal

pub returns : goal.returns
returns g c =
    let i = c.self.inside in
    rw (← c.self.view_is) (was_spoken _ i.filter i.link.wire i.link.given i.link.taken refl refl c.self.invariant)
