use Rattle.std.proofs.Common.{◌≡◌, ℕ, take}
use Rattle.std.specs.List.{list_any}
use Rattle.sharing.specs.Sharing.{is_among}
use Rattle.offer_table.proofs.table.all_of.Given as goal

abbrev pub invariant-loop-offer : goal.invariant-loop-offer
invariant-loop-offer l = (r : ℕ) → is_among l.all r ≡ list_any (λ o. is_among o.1 r) (take l.offer-index l.offers)
