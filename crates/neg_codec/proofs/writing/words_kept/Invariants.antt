use Rattle.std.proofs.Common.{◌≡◌, ◌≤◌, ◌-◌, drop, replicate}
use Rattle.neg_codec.proofs.writing.words_kept.Given as goal

abbrev pub invariant-loop-len : goal.invariant-loop-len
invariant-loop-len l = record { within : l.len ≤ 32; zeros : drop l.len l.id ≡ replicate (32 - l.len) 0 }

abbrev pub decreases-loop-len : goal.decreases-loop-len
decreases-loop-len l = l.len
