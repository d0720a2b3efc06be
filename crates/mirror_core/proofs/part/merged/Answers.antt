use Rattle.mirror_core.proofs.Tables.{never_double}
use Rattle.mirror_core.proofs.Full.{full_count}
use Rattle.mirror_core.proofs.part.merged.Goals as goal

pub unreachable-requires : goal.unreachable-requires
unreachable-requires c =
    never_double c.args.front c.args.back c.in-Err-Double-default-default.field-0-0 c.in-Err-Double-default-default.field-0-1 c.in-Err-Double-default-default.field-0-2
    c.requires.apart c.in-Err-Double-default-default.field-0-0-is c.in-Err-Double-default-default.ensures.fault

pub returns-in-Err-TableFull-default-default-clause-full : goal.returns-in-Err-TableFull-default-default-clause-full
returns-in-Err-TableFull-default-default-clause-full c is =
    full_count c.args.front c.args.back c.in-Err-TableFull-default-default.field-0-0 c.in-Err-TableFull-default-default.field-0-1 c.in-Err-TableFull-default-default.field-0-2
    c.in-Err-TableFull-default-default.field-0-0-is c.in-Err-TableFull-default-default.ensures.fault
