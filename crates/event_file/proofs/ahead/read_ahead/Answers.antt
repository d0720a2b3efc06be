use Rattle.std.proofs.Common.{List, [], ◌∷◌, ap, map, subst, sym, arith, ◌∙◌, length, length-append}
use Rattle.std.specs.Arc.{arc_value}
use Rattle.std.proofs.lemmas.List.{map-append}
use Rattle.nostr_event.specs.EventView.{EventView}
use Rattle.mirror_run.specs.Lines.{lines_of}
use Rattle.event_file.specs.Lines.{HoldEvents}
use Rattle.event_file.proofs.Told.{hold_more}
use Rattle.event_file.proofs.Behind.{behind_more}
use Rattle.event_file.proofs.ahead.read_ahead.Goals as goal

pub loop-event-preserved : goal.loop-event-preserved
loop-event-preserved c =
    let before = c.loop-event.events.items in
    let e = c.in-Some.event in
    let now = c.in_ok-push.ensures.items in
    let more = ap (map arc_value) now ∙ map-append arc_value before (e ∷ []) in
    let was = c.loop-event.invariant in
    record {
      hold = subst (λ (es : List EventView). HoldEvents (lines_of c.args.text.now) es (lines_of c.in-Some.after.now)) (sym more)
          (hold_more (lines_of c.args.text.now) (lines_of c.loop-event.rest.now) (lines_of c.in-Some.after.now) (map arc_value before) (arc_value e) was.hold c.in-Some.ensures.next);
      shorter = omega (arith, was.shorter, c.in-Some.ensures.shorter, ap length now, length-append before (e ∷ []));
      behind = behind_more c.args.text.now c.loop-event.rest.now c.in-Some.after.now (omega (arith, was.shorter)) (omega (arith, c.in-Some.ensures.shorter)) was.behind c.in-Some.ensures.behind;
    }
