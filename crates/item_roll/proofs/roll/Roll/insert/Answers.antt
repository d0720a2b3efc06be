use Rattle.std.proofs.Common.{◌<◌, ◌∙◌, rules}
use Rattle.item_key.specs.Keys.{endless}
use Rattle.item_roll.specs.Parts.{IsRoll}
use Rattle.std.proofs.Common.{subst}
use Rattle.item_roll.proofs.Inserts.{inserted_is}
use Rattle.item_roll.proofs.roll.Roll.insert.Goals as goal

pub returns-clause-ok : goal.returns-clause-ok
returns-clause-ok c =
    let finite : c.args.item.time < endless = search rules in
    c.in_ok-put.ensures.ok ∙ inserted_is c.args.self.now c.in-Some.place c.args.item (subst IsRoll c.self.view_is c.self.invariant.0) (record { time = finite; id = c.in-Some.ensures.id }) c.in-Some.ensures.place
