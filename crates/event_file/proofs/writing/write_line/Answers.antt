use Rattle.std.proofs.Common.{◌≡◌, rules}
use Rattle.std.specs.Arc.{arc_value}
use Rattle.serde_json.specs.Written.{compact_text}
use Rattle.nostr_event.specs.EventJson.{object_of}
use Rattle.event_file.proofs.Written.{appends_line}
use Rattle.event_file.proofs.writing.write_line.Goals as goal

pub returns : goal.returns
returns g c =
    let text : c.as_bytes.result.now ≡ compact_text (object_of (arc_value c.args.event.now)) = search rules in
    appends_line _ _ _ c.as_bytes.result.now (arc_value c.args.event.now) text c.in_ok-put.ensures c.in_ok-put-2.ensures
