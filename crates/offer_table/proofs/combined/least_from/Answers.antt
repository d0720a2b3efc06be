use Rattle.std.proofs.Common.{sym, ap, ◌∙◌}
use Rattle.std.specs.Ordering.{ordering_reverse, is_eq}
use Rattle.sharing.proofs.Orders.{id_total, same_id}
use Rattle.offer_table.proofs.SideBySide.{least_alone, least_second, least_both, behind_none, behind_all, empty}
use Rattle.offer_table.proofs.combined.least_from.Goals as goal

pub returns-in_default : goal.returns-in_default
returns-in_default c =
    least_alone c.args.first.now c.args.more.now c.args.mine.now c.args.theirs.now c.empty.result c.requires.first c.requires.mine (behind_none c.args.first.now.0 c.args.theirs.now (empty c.args.theirs.now c.in_default.ensures.cases)) c.empty.ensures

pub returns-in-Less : goal.returns-in-Less
returns-in-Less c =
    least_alone c.args.first.now c.args.more.now c.args.mine.now c.args.theirs.now c.empty.result c.requires.first c.requires.mine
    (behind_all c.args.first.now.0 c.in-Some.second.now c.in-Some.rest.now c.args.theirs.now c.in-Some.ensures.cases.0 (sym c.cmp.ensures ∙ c.in-Less.is) c.requires.theirs) c.empty.ensures

pub returns-in-Equal : goal.returns-in-Equal
returns-in-Equal c =
    least_both c.args.first.now c.in-Some.second.now c.args.more.now c.in-Some.rest.now c.args.mine.now c.args.theirs.now c.requires.first c.in-Some.ensures.cases.0 c.requires.mine c.requires.theirs
    (same_id c.args.first.now.0 c.in-Some.second.now.0 (ap is_eq (sym c.cmp.ensures ∙ c.in-Equal.is)))

pub returns-in-Greater : goal.returns-in-Greater
returns-in-Greater c =
    least_second c.in-Some.second.now c.in-Some.rest.now c.args.mine.now c.args.theirs.now c.empty-in-Greater.result c.in-Some.ensures.cases.0 c.requires.theirs
    (behind_all c.in-Some.second.now.0 c.args.first.now c.args.more.now c.args.mine.now c.requires.first (id_total.antisymm c.in-Some.second.now.0 c.args.first.now.0 ∙ ap ordering_reverse (sym c.cmp.ensures ∙ c.in-Greater.is)) c.requires.mine) c.empty-in-Greater.ensures
