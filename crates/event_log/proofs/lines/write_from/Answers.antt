use Rattle.std.proofs.Common.{ℕ, ◌++◌, List, take, ap, sym, ◌∙◌}
use Rattle.std.proofs.lemmas.Result.{err_from_is_err_and}
use Rattle.event_log.specs.Text.{text_of}
use Rattle.event_log.proofs.Logging.{up_to_none, up_to_some, up_to_stop}
use Rattle.event_log.proofs.lines.write_from.Goals as goal

pub loop-place-init : goal.loop-place-init
loop-place-init g c = (c.requires, up_to_none _ _ _)

pub returns-in_err-place : goal.returns-in_err-place
returns-in_err-place g c =
    let p = err_from_is_err_and c.from_residual.result c.from_residual.ensures.1 in
    rw p.1 (up_to_stop _ _ _ _ _ _ c.loop-place.invariant.1)

pub returns-in_default : goal.returns-in_default
returns-in_default g c = up_to_stop _ _ _ _ _ _ c.loop-place.invariant.1

pub returns-in_err-write_all : goal.returns-in_err-write_all
returns-in_err-write_all g c =
    let p = err_from_is_err_and c.from_residual-in_err-write_all.result c.from_residual-in_err-write_all.ensures.1 in
    let lines = c.in_ok-place.ensures.lines ∙ ap (λ (t : List ℕ). text_of (take c.loop-place.place c.args.events.now) ++ t) (sym c.as_slice.ensures.value) in
    rw p.1 (up_to_some _ _ _ _ _ _ _ _ _ c.loop-place.invariant.1 lines c.in_err-write_all.ensures)
