use Rattle.std.proofs.Common.{List, [], ◌∷◌, ap, map, subst, sym, arith, ◌∙◌, length, length-append}
use Rattle.std.specs.Arc.{arc_value}
use Rattle.std.proofs.lemmas.List.{map-append}
use Rattle.nostr_event.specs.EventView.{EventView}
use Rattle.mirror_run.specs.Lines.{lines_of}
use Rattle.event_file.specs.Lines.{HoldEvents}
use Rattle.event_file.proofs.Told.{hold_more}
use Rattle.event_file.proofs.reading.next_events.Goals as goal

pub loop-preserved : goal.loop-preserved
loop-preserved c =
    let before = c.loop.events.items in
    let e = c.in-Some.event in
    let now = c.in_ok-push-2.ensures.items in
    let more = ap (map arc_value) now ∙ map-append arc_value before (e ∷ []) in
    record {
      hold = λ lines h. subst (λ (es : List EventView). HoldEvents lines es (lines_of c.in-Some.after.now)) (sym more)
          (hold_more lines (lines_of c.loop.rest.now) (lines_of c.in-Some.after.now) (map arc_value before) (arc_value e) (c.loop.invariant.hold lines h) c.in-Some.ensures.next);
      shorter = omega (arith, c.loop.invariant.shorter, c.in-Some.ensures.shorter, ap length now, length-append before (e ∷ []));
      some = omega (arith, ap length now, length-append before (e ∷ []));
    }
