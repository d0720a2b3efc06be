use Rattle.std.proofs.Common.{◌≡◌, ◌+◌, ◌*◌, ◌≤◌, ◌++◌, length, take}
use Rattle.plan_check.specs.PlanText.{relays_text}
use Rattle.plan_check.proofs.lines.set_relays.Given as goal

abbrev pub invariant-loop-relay : goal.invariant-loop-relay
invariant-loop-relay l = record {
  text : take l.end l.line ≡ take l.at l.fn.line ++ relays_text (take l.relay-index l.relays);
  end : l.end ≤ l.at + 4 * l.relay-index;
  room : length l.line ≡ length l.fn.line;
}
