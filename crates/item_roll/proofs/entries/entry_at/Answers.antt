use Rattle.std.proofs.Common.{◌+◌, leb, Bool, rules, arith}
use Rattle.std.proofs.lemmas.List.Sorted.{IsPartitionPoint-from_clause}
use Rattle.item_roll.specs.declared.entries.Entry.{Entry}
use Rattle.item_roll.proofs.Searches.{some_parts, starts_parted, last_start, tests_before}
use Rattle.item_roll.proofs.entries.entry_at.Goals as goal

pub returns : goal.returns
returns g c =
    let its = g.P.Part.items in
    let es = c.args.entries.now in
    let p = c.args.place in
    let test : Entry _ → Bool = λ e. leb e.before p in
    let tests = tests_before its es g.P.Part.most c.requires.tells p in
    let point = IsPartitionPoint-from_clause test _ _ c.partition_point.ensures.partitioned (starts_parted its es test (p + 1) tests) (λ a r q k. search rules) in
    let at = last_start its es test (p + 1) tests c.partition_point.result _ c.saturating_sub-2.ensures c.partition_point.ensures.bound (some_parts its es (omega (arith, c.requires.within))) (omega (arith, c.requires.within)) point in
    record { within = at.0; from = omega (arith, at.1); below = omega (arith, at.2) }
