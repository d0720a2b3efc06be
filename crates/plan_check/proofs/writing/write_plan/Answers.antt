use Rattle.std.specs.Prelude.{IsOk}
use Rattle.plan_check.proofs.Ascii.{text_utf8}
use Rattle.plan_check.proofs.writing.write_plan.Goals as goal

pub unreachable-requires : goal.unreachable-requires
unreachable-requires c =
    let ok : IsOk c.from_utf8.result = c.from_utf8.ensures.succeeds (text_utf8 _ c.args.file.now c.in_ok-bytes.ensures) in
    cc (rw c.in_default.is at ok)
