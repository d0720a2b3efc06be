use Rattle.std.proofs.Common.{◌≡◌, ◌<◌, ◌∙◌, Bool, sym, ap, subst, length, map, take, get_or, rules, arith}
use Rattle.std.proofs.lemmas.List.{length-take, take_all}
use Rattle.std.specs.Arc.{arc_value}
use Rattle.event_table.specs.Events.{has_id, freshness, with_events, EndsRightly}
use Rattle.event_store.specs.Events.{placings}
use Rattle.event_table.proofs.More.{longer_begins, shown_at}
use Rattle.event_store.proofs.More.{taken_at, each_there, placed_more}
use Rattle.event_store.proofs.desk.Desk.insert_each.Goals as goal

pub show-requires-clause-begins : goal.show-requires-clause-begins
show-requires-clause-begins g c =
    let published : c.deref.result.now ≡ c.args.self.now = search rules in
    longer_begins (take (length c.in_ok-state.fresh.items) (map arc_value c.args.events.now)) c.deref.result.now c.args.self.now _ published (c.in_ok-state-2.ensures ∙ c.in_ok-state.ensures.list)

pub new-requires : goal.new-requires
new-requires g c =
    let xs = c.args.events.now in
    let x = c.index-events-at.result in
    let n = length c.in_ok-state.fresh.items in
    let below : c.loop-at.at < n = search rules in
    let lt : c.loop-at.at < length xs = search rules in
    let at = taken_at (map arc_value xs) n c.loop-at.at (arc_value x) below (shown_at arc_value xs c.loop-at.at x c.index-events-at.is lt) in
    let there = each_there (take n (map arc_value xs)) c.loop-at.at (arc_value x) c.deref.result.now at in
    let named : c.id.result ≡ (arc_value x).id = c.id.ensures.value ∙ ap (λ v. v.id) c.deref-in-loop-at.ensures in
    let shown : c.again.result ≡ with_events (take n (map arc_value xs)) c.deref.result.now = search rules in
    (λ i. has_id (named i) (shown i)) ∙ there

pub loop-at-preserved : goal.loop-at-preserved
loop-at-preserved g c =
    let xs = c.args.events.now in
    let x = c.index-events-at.result in
    let n = length c.in_ok-state.fresh.items in
    let below : c.loop-at.at < n = search rules in
    let lt : c.loop-at.at < length xs = search rules in
    let at = taken_at (map arc_value xs) n c.loop-at.at (arc_value x) below (shown_at arc_value xs c.loop-at.at x c.index-events-at.is lt) in
    let published : c.deref.result.now ≡ c.args.self.now = search rules in
    let are : c.in_ok-state.fresh.items ≡ freshness (take n (map arc_value xs)) c.args.self.now = c.in_ok-state.ensures.fresh ∙ ap (freshness (take n (map arc_value xs))) published in
    let named : c.new.result.id ≡ (arc_value x).id = c.new.ensures.0 ∙ (c.id.ensures.value ∙ ap (λ v. v.id) c.deref-in-loop-at.ensures) in
    record {
      placed = c.push_reserved.ensures.items ∙ placed_more (take n (map arc_value xs)) c.loop-at.at (arc_value x) c.args.self.now c.show.new.self c.loop-at.placed.items c.in_ok-state.fresh.items c.new.result at c.loop-at.invariant.placed are named
          (subst (λ (b : Bool). b ≡ get_or c.in_ok-state.fresh.items c.loop-at.at b) (sym c.new.ensures.1) c.index.ensures) (search rules);
      room = search rules;
      count = search rules;
    }

pub returns-clause-placed : goal.returns-clause-placed
returns-clause-placed g c =
    let ys = map arc_value c.args.events.now in
    let n = length c.in_ok-state.fresh.items in
    let all : c.loop-at.at ≡ n = search rules in
    let same : length c.loop-at.placed.items ≡ n = c.loop-at.invariant.count ∙ all in
    let taken : take c.loop-at.at (take n ys) ≡ take (length c.loop-at.placed.items) ys =
    ap (λ k. take k (take n ys)) all ∙ (take_all n (take n ys) (omega (arith, length-take n ys)) ∙ ap (λ k. take k ys) (sym same)) in
    c.loop-at.invariant.placed ∙ ap (λ zs. placings zs c.args.self.now c.show.new.self) taken

pub returns-clause-list : goal.returns-clause-list
returns-clause-list g c =
    let n = length c.in_ok-state.fresh.items in
    let all : c.loop-at.at ≡ n = search rules in
    let same : length c.loop-at.placed.items ≡ n = c.loop-at.invariant.count ∙ all in
    let published : c.deref.result.now ≡ c.args.self.now = search rules in
    let listed : c.show.new.self ≡ with_events (take n (map arc_value c.args.events.now)) c.deref.result.now = search rules in
    listed ∙ (λ i. with_events (take (sym same i) (map arc_value c.args.events.now)) (published i))

pub returns-clause-ends : goal.returns-clause-ends
returns-clause-ends g c =
    let n = length c.in_ok-state.fresh.items in
    let all : c.loop-at.at ≡ n = search rules in
    let same : length c.loop-at.placed.items ≡ n = c.loop-at.invariant.count ∙ all in
    let ended : EndsRightly g.J.Naming.most (map arc_value c.args.events.now) n c.show.new.self = search rules in
    subst (λ k. EndsRightly g.J.Naming.most (map arc_value c.args.events.now) k c.show.new.self) (sym same) ended
