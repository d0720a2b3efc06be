use Rattle.std.proofs.Common.{◌≡◌, rules}
use Rattle.round_core.proofs.Start.{leaves_none}
use Rattle.round_core.proofs.round.Round.new.Goals as goal

pub returns : goal.returns
returns c =
    let copied : c.in_ok-to_vec.field-0.items ≡ c.args.lanes.now = search rules in
    leaves_none c.args.lanes.now c.in_ok-to_vec.field-0.items c.empty.result c.new.result.items c.new-2.result.keys copied c.empty.ensures.none c.empty.ensures.table c.new.ensures.items c.new-2.ensures.empty
