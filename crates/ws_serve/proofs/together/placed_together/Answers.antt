use Rattle.std.proofs.Common.{map, subst, sym}
use Rattle.std.specs.Arc.{arc_value}
use Rattle.event_store.specs.Events.{Placing}
use Rattle.ws_serve.specs.Gathered.{ids_of, Follow}
use Rattle.ws_serve.proofs.Placing.{placed_follow}
use Rattle.ws_serve.proofs.together.placed_together.Goals as goal

pub returns-in-Ok : goal.returns-in-Ok
returns-in-Ok g c =
    subst (λ z. Follow (map (λ (p : Placing). p.id) z) (ids_of (map arc_value c.args.events.now))) (sym c.in-Ok.ensures.placed) (placed_follow _ (map arc_value c.args.events.now) _ _)
