use Rattle.std.proofs.Common.{◌≡◌, ◌∙◌, ap, sym, ℕ, List, arith}
use Rattle.std.specs.Global.{Vec}
use Rattle.std.specs.List.{All, list_all}
use Rattle.item_key.specs.declared.Id.{Id}
use Rattle.sharing.specs.Sharing.{is_among}
use Rattle.sharing.specs.Offers.{AreRelays}
use Rattle.sharing.proofs.Orders.{All-unmap}
use Rattle.plan_check.proofs.Given.{all_same, alone_more, alone_same}
use Rattle.plan_check.proofs.verdict.count_alone.Goals as goal
use Rattle.plan_check.proofs.verdict.count_alone.Goals.{then-are_within, else-are_within}

pub are_within-requires : goal.are_within-requires
are_within-requires c =
    let offers = c.args.offers.now in
    let o = c.offer-item.result in
    let all : All (λ (o : Id × Vec ℕ). AreRelays o.1.items) offers = All-unmap (λ (o : Id × List ℕ). AreRelays o.1) (λ (o : Id × Vec ℕ). (o.0, o.1.items)) offers c.requires.offers in
    rw (c.deref.ensures.value, c.offer-item.is) ((all c.loop-offer.offer-index o (omega arith)).small)

pub loop-offer-preserved : goal.loop-offer-preserved
loop-offer-preserved c =
    let group = c.args.group.now in
    let offers = c.args.offers.now in
    let o = c.offer-item.result in
    let i : ℕ = c.loop-offer.offer-index in
    let is : c.are_within.result ≡ list_all (is_among group) o.1.items =
    c.are_within.ensures ∙ all_same _ (is_among group) c.table_of-table.ensures.table c.deref.result.now ∙ ap (list_all (is_among group)) c.deref.ensures.value in
    elim c.if-are_within.branch [
      | then-are_within w ↦ record {
        counted = omega (arith, w.count-is, c.loop-offer.invariant.counted, alone_more group offers i o (omega arith) c.offer-item.is (sym is ∙ w.if-are_within.true));
        small = omega (arith, w.count-is, c.loop-offer.invariant.small);
      }
      | else-are_within w ↦ record {
        counted = omega (arith, w.count-is, c.loop-offer.invariant.counted, alone_same group offers i o (omega arith) c.offer-item.is (sym is ∙ w.if-are_within.false));
        small = omega (arith, w.count-is, c.loop-offer.invariant.small);
      }
    ]
