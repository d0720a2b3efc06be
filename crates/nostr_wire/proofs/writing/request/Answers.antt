use Rattle.std.proofs.Common.{subst}
use Rattle.nostr_wire.proofs.Several.{AreSaid}
use Rattle.nostr_wire.proofs.writing.request.Goals as goal

pub returns-clause-says : goal.returns-clause-says
returns-clause-says c =
    let named = c.in_ok-put.ensures.says in
    let filters = subst AreSaid c.as_slice.ensures.filters c.in_ok-put_filters.ensures.says in
    (named, filters)
