use Rattle.std.proofs.Common.{refl}
use Rattle.item_roll.proofs.Grows.{set_is_few}
use Rattle.item_roll.proofs.entries.insert_into.Goals as goal

pub raise-requires-clause-few : goal.raise-requires-clause-few
raise-requires-clause-few g c = set_is_few c.args.entries.now c.args.at _ c.index-entries-at.result c.requires.within refl c.requires.few
