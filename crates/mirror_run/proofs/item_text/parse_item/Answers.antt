use Rattle.std.proofs.Common.{ap, ◌∙◌, get_or, drop}
use Rattle.mirror_run.proofs.ItemLemmas.{short_line, line_space, line_time, line_id}
use Rattle.mirror_run.proofs.item_text.parse_item.Goals as goal

pub returns-then-line-lt65-clause-none : goal.returns-then-line-lt65-clause-none
returns-then-line-lt65-clause-none c = λ item is same. short_line c.args.line.now item is c.if-line-lt65.true same

pub returns-then-rest-ne32-clause-none : goal.returns-then-rest-ne32-clause-none
returns-then-rest-ne32-clause-none c = λ item is same.
    let space = line_space c.args.line.now item is same in
    c.if-rest-ne32.true (ap (λ t. get_or t 0 0) c.split_at.ensures.back ∙ space)

pub returns-in_err-time-clause-none : goal.returns-in_err-time-clause-none
returns-in_err-time-clause-none c = rw c.from_residual.ensures (λ item is same.
    c.in_err-time.ensures.none item.time is.time (c.split_at.ensures.front ∙ line_time c.args.line.now item is same))

pub returns-in_err-id-clause-none : goal.returns-in_err-id-clause-none
returns-in_err-id-clause-none c = rw c.from_residual-in_err-id.ensures (λ item is same.
    c.in_err-id.ensures.none item.id is.id (c.split_at-2.ensures.back ∙ ap (λ t. drop 1 t) c.split_at.ensures.back ∙ line_id c.args.line.now item is same))
