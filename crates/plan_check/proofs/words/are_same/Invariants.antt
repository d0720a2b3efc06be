use Rattle.std.proofs.Common.{◌≡◌, ◌<◌, ℕ, true, get_or}
use Rattle.plan_check.proofs.words.are_same.Given as goal

abbrev pub invariant-loop-place : goal.invariant-loop-place
invariant-loop-place l = record {
  yes : l.same ≡ true → (k : ℕ) → k < l.place → get_or l.text k 0 ≡ get_or l.other k 0;
  no : l.text ≡ l.other → l.same ≡ true;
}
