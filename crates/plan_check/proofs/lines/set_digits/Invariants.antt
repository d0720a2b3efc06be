use Rattle.std.proofs.Common.{◌≡◌, ◌+◌, ◌<◌, ◌^◌, ◌++◌, length, drop, decimal}
use Rattle.plan_check.proofs.lines.set_digits.Given as goal

abbrev pub invariant-loop-rest : goal.invariant-loop-rest
invariant-loop-rest l = record {
  room : length l.buffer ≡ 20;
  at : l.at < 20;
  few : l.rest < 10 ^ (l.at + 1);
  small : l.rest < 2 ^ 64;
  digits : decimal l.number ≡ decimal l.rest ++ drop (l.at + 1) l.buffer;
}

abbrev pub decreases-loop-rest : goal.decreases-loop-rest
decreases-loop-rest l = l.rest
