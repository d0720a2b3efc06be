use Rattle.std.proofs.Common.{◌≡◌, take}
use Rattle.std.specs.List.{list_all}
use Rattle.nostr_event.specs.Runs.{is_plain}
use Rattle.nostr_event.proofs.runs.are_plain.Given as goal

abbrev pub invariant-loop-byte : goal.invariant-loop-byte
invariant-loop-byte l = l.are_plain ≡ list_all is_plain (take l.byte-index l.bytes)
