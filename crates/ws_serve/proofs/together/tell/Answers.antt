use Rattle.std.proofs.Common.{◌≡◌, subst, rules}
use Rattle.std.specs.Prelude.{OnErr}
use Rattle.item_key.specs.declared.Id.{Id}
use Rattle.ws_serve.specs.Gathered.{MaySayOf}
use Rattle.ws_serve.proofs.together.tell.Goals as goal

pub returns-in-Ok-clause-failed : goal.returns-in-Ok-clause-failed
returns-in-Ok-clause-failed g c =
    let same : c.in-Ok.placed.id ≡ c.args.stored.id = search rules in
    subst (λ (i : Id). OnErr c.tell_kept.result (MaySayOf i c.args.socket.now c.tell_kept.new.socket)) same c.tell_kept.ensures.failed
