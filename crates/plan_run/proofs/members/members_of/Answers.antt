use Rattle.std.proofs.Common.{ℕ, List, sym, ◌∙◌, subst, arith, inl, inr}
use Rattle.std.proofs.lemmas.Bool.{cases_lt}
use Rattle.sharing.specs.declared.TheConstants.{RELAYS}
use Rattle.sharing.proofs.Orders.{same_sorted}
use Rattle.plan_run.proofs.Gathered.{Gathers, gather_none, gather_member, gather_other, none_past}
use Rattle.plan_run.proofs.members.members_of.Goals as goal
use Rattle.plan_run.proofs.members.members_of.Goals.{then-has+in_ok-push, else-has}

pub loop-relay-init : goal.loop-relay-init
loop-relay-init c = subst (λ (xs : List ℕ). Gathers c.args.relays xs 0) (sym c.new-members.ensures.items) (gather_none c.args.relays)

pub loop-relay-preserved : goal.loop-relay-preserved
loop-relay-preserved c =
    elim c.if-has.branch [
      | then-has+in_ok-push w ↦ rw w.members-is (gather_member c.args.relays c.loop-relay.members.items _ c.loop-relay.relay c.loop-relay.invariant (sym c.has.ensures.value ∙ w.if-has.true) w.in_ok-push.ensures.items)
      | else-has w ↦ rw w.members-is (gather_other c.args.relays c.loop-relay.members.items c.loop-relay.relay c.loop-relay.invariant (sym c.has.ensures.value ∙ w.if-has.false))
    ]

pub returns : goal.returns
returns c =
    let inv = c.loop-relay.invariant in
    same_sorted c.loop-relay.members.items c.args.relays inv.ordered c.requires.ascend
    (λ r. elim (cases_lt r RELAYS) [
      | inl lt ↦ inv.members r (omega arith)
      | inr ge ↦ none_past c.loop-relay.members.items c.loop-relay.relay r inv.below (omega arith) ∙ sym (none_past c.args.relays RELAYS r c.requires.small ge)
    ])
