use Rattle.std.proofs.Common.{◌≡◌, ◌++◌, take}
use Rattle.event_list.proofs.list.put_all.Given as goal

abbrev pub invariant-loop-i : goal.invariant-loop-i
invariant-loop-i l = l.events ≡ l.initial.events ++ take l.i l.few
