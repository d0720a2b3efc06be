use Rattle.std.proofs.Common.{◌≡◌, ◌<◌, length, None, Some, arith}
use Rattle.json.specs.Json.{read_key}
use Rattle.json.proofs.Grammar.{read_key-shorter}
use Rattle.serde_json.specs.Data.{put}
use Rattle.event_text.proofs.Texts.{end_gives_members, one_gives_members}
use Rattle.event_text.proofs.fields.fields_in.Goals as goal

pub fields-preserved : goal.fields-preserved
fields-preserved c =
    let l = c.fields in
    let before = l.invariant in
    let k = c.in-Some.name.now in
    let s = c.next_key.new.self in
    let r = c.read.new.reader in
    let named : read_key l.reader ≡ Some (Some k, s) = grind arith in
    let done = c.in_ok-read.ensures in
    let d = done.ok.0 in
    let less : length r < length l.reader = omega (arith, read_key-shorter l.reader (Some k) s named, done.shorter) in (
      put k d before.0,
      done.ok.2 before.0 before.1,
      λ all rest gives. before.2 all rest (one_gives_members c.args.depth l.reader s r k d before.0 named done.ok.1 less all rest gives),
      omega (arith, less, before.3),
    )

pub returns-clause-ok : goal.returns-clause-ok
returns-clause-ok c =
    let l = c.fields in
    let before = l.invariant in
    let r = c.next_key.new.self in
    let over : read_key l.reader ≡ Some (None, r) = grind arith in
    (before.0, before.1, before.2 before.0 r (end_gives_members c.args.depth l.reader r before.0 over))
