use Rattle.std.proofs.Common.{◌≡◌, [], Some, arith}
use Rattle.json.specs.Json.{after_end_array}
use Rattle.event_text.proofs.Members.{some_with}
use Rattle.nostr_wire.proofs.Carried.{last_gives}
use Rattle.nostr_wire.proofs.events.last_event.Goals as goal

pub returns-then-ends : goal.returns-then-ends
returns-then-ends c =
    let read = c.in_ok-read.ensures in
    let d = read.ok.0 in
    let over : after_end_array c.event_in.new.reader ≡ Some [] = c.ends.ensures (grind arith) in
    let gives = last_gives c.args.reader.now c.event_in.new.reader d read.ok.1 read.shorter over in
    some_with c.shared.result _ _ (λ r told. let says = told d read.ok.2 in (d, gives, says.0, says.1)) c.shared.ensures
