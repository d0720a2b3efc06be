use Rattle.std.proofs.Common.{◌≡◌, ◌++◌, length, map, All}
use Rattle.sharing.specs.Offers.{IsOffers}
use Rattle.plan_check.specs.TextLines.{lines_of, ended}
use Rattle.plan_check.specs.PlanText.{offer_line, IsOffer}
use Rattle.plan_run.proofs.offers.take_offers.Given as goal

abbrev pub invariant-loop-line : goal.invariant-loop-line
invariant-loop-line l = record {
  lines : lines_of l.text ≡ map (λ o. ended (offer_line o)) l.offers.items ++ lines_of l.rest;
  form : All IsOffer l.offers.items;
  ordered : IsOffers l.offers.items;
}

abbrev pub decreases-loop-line : goal.decreases-loop-line
decreases-loop-line l = length l.rest
