use Rattle.std.proofs.Common.{arith}
use Rattle.nostr_event.proofs.Utf8.{ascii_then}
use Rattle.std.proofs.lemmas.Str.{IsUtf8-nil}
use Rattle.nostr_filter.proofs.taking.take_condition.Goals as goal

pub unreachable-requires : goal.unreachable-requires
unreachable-requires c =
    let fits = ascii_then 35 _ (omega arith) (ascii_then c.args.letter _ (omega arith) IsUtf8-nil) in
    (c.in-Err.ensures.cases).0 fits
