use Rattle.std.proofs.Common.{◌≡◌, ◌+◌, ◌++◌, ◌∷◌, [], List, map, take, length, sym, ap, subst, arith, ◌∙◌, length-take}
use Rattle.std.specs.Arc.{arc_value}
use Rattle.std.proofs.lemmas.List.{length-map, map-append, take_all}
use Rattle.nostr_event.specs.EventView.{EventView}
use Rattle.event_index.specs.Marks.{marks_of}
use Rattle.event_index.specs.Postings.{posting, HavePostings}
use Rattle.event_index.proofs.Lists.{took_more, have_more}
use Rattle.event_index.proofs.postings.postings_of.Goals as goal

pub loop-at-preserved : goal.loop-at-preserved
loop-at-preserved c =
    let events = c.args.events.now in
    let at = c.loop-at.at in
    let item = c.index-events-at.result in
    let before = map arc_value (take at events) in
    let more : map arc_value (take (at + 1) events) ≡ before ++ arc_value item ∷ [] =
    ap (map arc_value) (took_more events at item c.loop-at-test.true ∙ ap (λ x. take at events ++ x ∷ []) (sym c.index-events-at.is)) ∙ map-append arc_value (take at events) (item ∷ []) in
    let place : c.args.start + at ≡ c.args.start + length before = omega (arith, length-map (take at events) arc_value, length-take at events, c.loop-at-test.true) in
    subst (λ (es : List EventView). HavePostings c.args.start es c.put_event.new.postings.items) (sym more)
    (have_more c.args.start (c.args.start + at) before (arc_value item) c.loop-at.postings.items c.put_event.new.postings.items place c.loop-at.invariant
    (c.in_ok-put_event.ensures ∙ ap (λ (e : EventView). c.loop-at.postings.items ++ map (λ m. posting m (c.args.start + at)) (marks_of e)) c.deref.ensures))

pub returns : goal.returns
returns c =
    subst (λ es. HavePostings c.args.start (map arc_value es) c.loop-at.postings.items) (take_all c.loop-at.at c.args.events.now c.loop-at-test.false) c.loop-at.invariant
