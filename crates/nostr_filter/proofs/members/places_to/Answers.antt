use Rattle.std.proofs.Common.{◌<◌, sym, subst}
use Rattle.nostr_filter.proofs.Places.{one_more}
use Rattle.nostr_filter.proofs.members.places_to.Goals as goal

pub loop-place-preserved : goal.loop-place-preserved
loop-place-preserved c =
    let place = c.loop-place.place in
    rw c.in_ok-push.ensures.items (λ texts long text.
    one_more texts c.loop-place.places.items place text (subst (λ n. place < n) (sym long) c.loop-place-test.true) (c.loop-place.invariant texts long text))
