use Rattle.std.proofs.Common.{ap, sym, ◌∙◌}
use Rattle.item_key.specs.declared.Id.{Id as AnId}
use Rattle.plan_check.proofs.verdict.is_same.Goals as goal

pub returns : goal.returns
returns c =
    let id = c.as_bytes.ensures in
    let other = c.as_bytes-2.ensures in (
      λ yes. ap (λ bytes. record { 0 = bytes }) (sym id.value ∙ c.are_same.ensures.0 yes ∙ other.value),
      λ e. c.are_same.ensures.1 (id.value ∙ ap (λ (i : AnId). i.0) e ∙ sym other.value),
    )
