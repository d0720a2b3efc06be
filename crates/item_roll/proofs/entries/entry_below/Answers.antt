use Rattle.std.proofs.Common.{Bool, rules, arith}
use Rattle.std.proofs.lemmas.List.Sorted.{IsPartitionPoint-from_clause}
use Rattle.item_roll.specs.declared.entries.Entry.{Entry}
use Rattle.item_roll.specs.Parts.{begins_below, count_below}
use Rattle.item_roll.specs.Chunks.{items_at, joined}
use Rattle.item_roll.proofs.Places.{count_most}
use Rattle.item_roll.proofs.Searches.{starts_parted, last_start, tests_first}
use Rattle.item_roll.proofs.entries.entry_below.Goals as goal

pub returns : goal.returns
returns g c =
    let its = g.P.Part.items in
    let es = c.args.entries.now in
    let b = c.args.edge.now in
    let n = count_below (joined its es) b in
    let test : Entry _ → Bool = λ e. begins_below (items_at its e) b in
    let tests = tests_first its es g.P.Part.most c.requires.tells b c.requires.ascending in
    let point = IsPartitionPoint-from_clause test _ _ c.partition_point.ensures.partitioned (starts_parted its es test n tests) (λ a r q k. search rules) in
    let at = last_start its es test n tests c.partition_point.result _ c.saturating_sub.ensures c.partition_point.ensures.bound c.requires.some (count_most (joined its es) b) point in
    record { within = at.0; from = omega (arith, at.1); upto = at.2 }
