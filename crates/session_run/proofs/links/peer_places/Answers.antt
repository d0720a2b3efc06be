use Rattle.std.proofs.Common.{◌+◌, ◌∙◌, ap, length}
use Rattle.std.proofs.lemmas.List.{length_push}
use Rattle.session_run.proofs.links.peer_places.Goals as goal

pub loop-relay-init : goal.loop-relay-init
loop-relay-init g c = ap length c.new-places.ensures.items

pub loop-relay-preserved : goal.loop-relay-preserved
loop-relay-preserved g c = rw c.in_ok-push.ensures.items (length_push c.loop-relay.places.items _ ∙ ap (λ n. n + 1) c.loop-relay.invariant)
