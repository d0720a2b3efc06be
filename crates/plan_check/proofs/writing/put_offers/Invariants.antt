use Rattle.std.proofs.Common.{◌≡◌, ◌++◌, take, flat_map, All}
use Rattle.item_key.specs.Keys.{IsId}
use Rattle.plan_check.specs.File.{pairs_of}
use Rattle.plan_check.specs.TextLines.{ended}
use Rattle.plan_check.specs.PlanText.{offer_line}
use Rattle.plan_check.proofs.writing.put_offers.Given as goal

abbrev pub invariant-loop-offer : goal.invariant-loop-offer
invariant-loop-offer l = record {
  written : l.text.items ≡ l.fn.text.items ++ flat_map (λ o. ended (offer_line o)) (pairs_of (take l.offer-index l.offers));
  ids : All (λ o. IsId o.0) (take l.offer-index l.offers);
}
