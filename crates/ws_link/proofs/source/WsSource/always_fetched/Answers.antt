use Rattle.std.proofs.Common.{refl}
use Rattle.ws_link.proofs.Fetching.{was_fetched}
use Rattle.ws_link.proofs.source.WsSource.always_fetched.Goals as goal

pub returns : goal.returns
returns g c =
    let i = c.self.inside.link in
    rw (← c.self.view_is) (was_fetched _ i.wire i.given i.taken refl refl c.self.invariant)
