use Rattle.std.proofs.Common.{◌≢◌, ◌≤◌, ◌-◌, length, take, All}
use Rattle.plan_check.proofs.words.cut_word.Given as goal

abbrev pub invariant-loop-end : goal.invariant-loop-end
invariant-loop-end l = record {
  within : l.end ≤ length l.text;
  word : All (λ b. b ≢ 32) (take l.end l.text);
}

abbrev pub decreases-loop-end : goal.decreases-loop-end
decreases-loop-end l = length l.text - l.end
