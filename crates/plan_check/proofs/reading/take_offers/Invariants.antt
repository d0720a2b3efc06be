use Rattle.std.proofs.Common.{◌≡◌, ◌++◌, length, map, All, None}
use Rattle.sharing.specs.Offers.{IsOffers}
use Rattle.plan_check.specs.File.{pairs_of}
use Rattle.plan_check.specs.TextLines.{lines_of, ended}
use Rattle.plan_check.specs.PlanText.{offer_line, IsOffer}
use Rattle.plan_check.proofs.Runs.{last_from}
use Rattle.plan_check.proofs.reading.take_offers.Given as goal

abbrev pub invariant-loop-line : goal.invariant-loop-line
invariant-loop-line l = record {
  lines : lines_of l.text ≡ map (λ o. ended (offer_line o)) (pairs_of l.offers.items) ++ lines_of l.rest;
  form : All IsOffer (pairs_of l.offers.items);
  ordered : IsOffers (pairs_of l.offers.items);
  last : l.before ≡ last_from (λ o. o.0) None (pairs_of l.offers.items);
}

abbrev pub decreases-loop-line : goal.decreases-loop-line
decreases-loop-line l = length l.rest
