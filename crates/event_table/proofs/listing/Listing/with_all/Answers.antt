use Rattle.std.proofs.Common.{◌≡◌, ◌<◌, true, false, inr, [], subst, sym, ◌∙◌, ◌∷◌, ap, length-append, length, map, rules, arith}
use Rattle.std.specs.Arc.{arc_value}
use Rattle.std.specs.Prelude.{not}
use Rattle.event_table.specs.Events.{has_id, EndsRightly}
use Rattle.event_table.proofs.More.{shown_at, repeat_more, new_more, fresh_more}
use Rattle.event_table.proofs.listing.Listing.with_all.Goals as goal

pub loop-at-preserved-then-has : goal.loop-at-preserved-then-has
loop-at-preserved-then-has c =
    let others = c.args.others.now in
    let x = c.index-others-at.result in
    let lt : c.loop-at.at < length others = search rules in
    let has : has_id (arc_value x).id c.loop-at.all ≡ true = search rules in
    record {
      fresh = c.push_reserved.ensures.items ∙ fresh_more (map arc_value others) c.loop-at.at (arc_value x) c.args.self c.loop-at.all c.loop-at.fresh.items false (shown_at arc_value others c.loop-at.at x c.index-others-at.is lt) c.loop-at.invariant.list c.loop-at.invariant.fresh (sym (ap not has));
      count = search rules;
      cap = search rules;
      list = repeat_more (map arc_value others) c.loop-at.at (arc_value x) c.args.self c.loop-at.all (shown_at arc_value others c.loop-at.at x c.index-others-at.is lt) c.loop-at.invariant.list has;
      room = c.loop-at.invariant.room;
    }

pub returns-then-len-most-clause-ends : goal.returns-then-len-most-clause-ends
returns-then-len-most-clause-ends c =
    let others = c.args.others.now in
    let x = c.index-others-at.result in
    let lt : c.loop-at.at < length others = search rules in
    let none : has_id (arc_value x).id c.loop-at.all ≡ false = search rules in
    let full : length c.loop-at.all ≡ c.args.most = search rules in
    subst (λ n. EndsRightly c.args.most (map arc_value others) n c.loop-at.all) (sym c.loop-at.invariant.count) (inr (arc_value x, shown_at arc_value others c.loop-at.at x c.index-others-at.is lt, none, full))

pub loop-at-preserved : goal.loop-at-preserved
loop-at-preserved c =
    let others = c.args.others.now in
    let x = c.index-others-at.result in
    let lt : c.loop-at.at < length others = search rules in
    let none : has_id (arc_value x).id c.loop-at.all ≡ false = search rules in
    let room : length c.loop-at.all < c.args.most = search rules in
    record {
      fresh = c.push_reserved-in-loop-at.ensures.items ∙ fresh_more (map arc_value others) c.loop-at.at (arc_value x) c.args.self c.loop-at.all c.loop-at.fresh.items true (shown_at arc_value others c.loop-at.at x c.index-others-at.is lt) c.loop-at.invariant.list c.loop-at.invariant.fresh (sym (ap not none));
      count = search rules;
      cap = search rules;
      list = new_more (map arc_value others) c.loop-at.at (arc_value x) c.args.self c.loop-at.all c.in_ok-all.all (shown_at arc_value others c.loop-at.at x c.index-others-at.is lt) c.loop-at.invariant.list none c.in_ok-all.ensures;
      room = omega (arith, ap length c.in_ok-all.ensures, length-append c.loop-at.all (arc_value x ∷ []), room);
    }
