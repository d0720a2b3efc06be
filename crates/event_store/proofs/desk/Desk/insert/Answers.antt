use Rattle.std.proofs.Common.{ap, ◌∙◌}
use Rattle.event_table.proofs.Ids.{has_last}
use Rattle.event_store.proofs.desk.Desk.insert.Goals as goal

pub new-requires-in-Ok : goal.new-requires-in-Ok
new-requires-in-Ok g c =
    has_last c.in-Ok.front _ _ _ c.id-in-Ok.result c.in-Ok.ensures.ok.0 c.in-Ok.ensures.ok.1 (c.id-in-Ok.ensures.value ∙ ap (λ v. v.id) c.deref-in-Ok.ensures)
