use Rattle.std.proofs.Common.{[], sym, subst, arith}
use Rattle.offer_table.proofs.Runs.{Offers}
use Rattle.offer_table.proofs.SideBySide.{Joining, joining_none, joining_step, joined_member, total_step}
use Rattle.offer_table.proofs.combined.combined.Goals as goal

pub loop-next-init : goal.loop-next-init
loop-next-init c = subst (λ (all : Offers). Joining c.args.keep c.args.mine.now c.args.theirs.now all c.args.mine.now c.args.theirs.now) (sym c.in_ok-all.ensures.items) (joining_none c.args.keep c.args.mine.now c.args.theirs.now c.requires.mine c.requires.theirs)

pub loop-next-preserved : goal.loop-next-preserved
loop-next-preserved c =
    let n = c.in-Some.next in
    joining_step c.args.keep c.args.mine.now c.args.theirs.now c.loop-next.all.items c.loop-next.first.now c.loop-next.second.now n.id n.mine n.theirs c.of-relays.result n.more.now n.rest.now c.push_some.new.all.items
    c.loop-next.invariant c.in-Some.ensures c.of-relays.ensures.member c.of-relays.ensures.relays c.in_ok-push_some.ensures

pub loop-next-smaller : goal.loop-next-smaller
loop-next-smaller c = let n = c.in-Some.next in omega (arith, total_step c.loop-next.first.now c.loop-next.second.now n.id n.mine n.theirs n.more.now n.rest.now c.in-Some.ensures)

pub returns-clause-member : goal.returns-clause-member
returns-clause-member c =
    joined_member c.args.keep c.args.mine.now c.args.theirs.now c.loop-next.all.items c.requires.mine c.requires.theirs
    (subst (λ (xs : Offers). Joining c.args.keep c.args.mine.now c.args.theirs.now c.loop-next.all.items xs []) c.in_default.ensures.0
    (subst (λ (xs : Offers). Joining c.args.keep c.args.mine.now c.args.theirs.now c.loop-next.all.items c.loop-next.first.now xs) c.in_default.ensures.1 c.loop-next.invariant))
