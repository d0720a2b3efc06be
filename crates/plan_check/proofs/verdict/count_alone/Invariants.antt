use Rattle.std.proofs.Common.{◌≡◌, ◌≤◌, take}
use Rattle.sharing.specs.Sharing.{alone}
use Rattle.plan_check.specs.File.{pairs_of}
use Rattle.plan_check.proofs.verdict.count_alone.Given as goal

abbrev pub invariant-loop-offer : goal.invariant-loop-offer
invariant-loop-offer l = record {
  counted : l.count ≡ alone l.group (pairs_of (take l.offer-index l.offers));
  small : l.count ≤ l.offer-index;
}
