use Rattle.std.proofs.Common.{◌+◌, ◌<◌, length, arith}
use Rattle.std.proofs.lemmas.Bool.{ltb-true}
use Rattle.item_roll.proofs.Kept.{before_is}
use Rattle.item_roll.proofs.entries.is_in.Goals as goal

pub returns-then-entry-place : goal.returns-then-entry-place
returns-then-entry-place g c = λ e.
    let lt : c.args.i < length c.args.entries.now = omega (arith, c.requires.within) in
    let first = before_is g.P.Part.items g.P.Part.most c.args.entries.now c.args.i c.index-entries-i.result c.requires.tells lt c.index-entries-i.is in
    let next = before_is g.P.Part.items g.P.Part.most c.args.entries.now (c.args.i + 1) c.index-entries-i-2.result c.requires.tells c.requires.within c.index-entries-i-2.is in
    record { within = lt; from = omega (arith, c.if-entry-place.true, first); below = omega (arith, next, ltb-true c.args.place c.index-entries-i-2.result.before e) }
