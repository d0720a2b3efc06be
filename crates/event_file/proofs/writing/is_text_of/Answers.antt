use Rattle.std.proofs.Common.{map, rules}
use Rattle.std.specs.Arc.{arc_value}
use Rattle.event_table.proofs.More.{shown_at}
use Rattle.event_file.proofs.Compared.{agree_more}
use Rattle.event_file.proofs.writing.is_text_of.Goals as goal

pub loop-place-preserved : goal.loop-place-preserved
loop-place-preserved c =
    let xs = c.args.events.now in
    let x = c.index-events-place.result in
    agree_more c.args.text.now c.loop-place.rest.now c.in-Some.after.now (map arc_value xs) (map arc_value xs) c.loop-place.place (arc_value x)
    (shown_at arc_value xs c.loop-place.place x c.index-events-place.is (search rules)) c.in-Some.ensures c.loop-place.invariant
