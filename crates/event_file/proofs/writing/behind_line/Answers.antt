use Rattle.std.proofs.Common.{◌≡◌, false, [], ◌∷◌, take, nat_eq, rules}
use Rattle.std.specs.Arc.{arc_value}
use Rattle.std.specs.Cmp.Lexicographic.{pointwise}
use Rattle.serde_json.specs.Written.{compact_text}
use Rattle.nostr_event.specs.EventJson.{object_of}
use Rattle.event_file.proofs.Compared.{if_matched, stripped, stripped_line}
use Rattle.event_file.proofs.writing.behind_line.Goals as goal

pub returns : goal.returns
returns c =
    let json = c.as_bytes.result.now in
    let text = c.args.text.now in
    let rest = c.in_ok-rest.rest.now in
    let is : json ≡ compact_text (object_of (arc_value c.args.event.now)) = search rules in
    let first = stripped json text rest c.in_ok-rest.ensures.cases.0 c.in_ok-rest.ensures.cases.1 in
    if_matched (pointwise nat_eq (take 1 rest) (10 ∷ []) ≡ false) c.strip_prefix-2.result c.strip_prefix-2.ensures.cases (λ x q. stripped_line (arc_value c.args.event.now) json text rest x.now is first (stripped (10 ∷ []) rest x.now q.0 q.1))
