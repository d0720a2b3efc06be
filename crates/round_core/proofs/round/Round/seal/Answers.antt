use Rattle.std.proofs.Common.{◌++◌, replicate, sym, ap, ◌∙◌, subst, Ok, Some}
use Rattle.fetch_plan.specs.declared.cell.Cell.TheVariants.{Free}
use Rattle.round_core.specs.declared.events.Answer.TheVariants.{Sealed}
use Rattle.round_core.specs.Left.{State, SealsTo}
use Rattle.round_core.proofs.Parts.{seal_made, no_plan}
use Rattle.round_core.proofs.round.Round.seal.Goals as goal

pub returns : goal.returns
returns c =
    let inside : State = record { lanes = c.self.inside.lanes.items; table = c.self.inside.table; plan = c.self.inside.plan; cells = c.self.inside.cells.items; placed = c.self.inside.placed.keys } in
    let made = seal_made inside c.args.bases.now c.in_ok-made.made c.least_max-least_max.result c.in_ok-cells.cells.items
    (no_plan inside.plan (sym c.is_some.ensures ∙ c.if-is_some.false)) c.in_ok-made.ensures.planned c.in_ok-made.ensures.least c.least_max-least_max.ensures
    (c.in_ok-cells.ensures ∙ ap (λ cs. cs ++ replicate c.len.result Free) c.deref.ensures.value ∙ ap (λ n. inside.cells ++ replicate n Free) c.len.ensures.value) in
    subst (λ (s : State). SealsTo s c.args.bases.now (Ok (Sealed c.least_max-least_max.result)) (record inside { plan = Some c.in_ok-made.made; cells = c.in_ok-cells.cells.items })) c.self.view_is made
