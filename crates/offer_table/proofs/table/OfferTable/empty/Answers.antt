use Rattle.std.proofs.Common.{◌≡◌, subst, sym, [], List, ℕ}
use Rattle.offer_table.specs.Table.{IsTable}
use Rattle.offer_table.specs.Groups.{AreKept}
use Rattle.offer_table.proofs.Tables.{none_ok}
use Rattle.offer_table.proofs.Rows.{Rows}
use Rattle.offer_table.proofs.Rowed.{kept_none}
use Rattle.offer_table.proofs.Runs.{Offers}
use Rattle.offer_table.proofs.table.OfferTable.empty.Goals as goal

none_table : (reported : List ℕ) (offers : Offers) → offers ≡ [] → IsTable (record { reported = reported; offers = offers })
none_table reported offers e = subst (λ (es : Offers). IsTable (record { reported = reported; offers = es })) (sym e) (none_ok reported)

none_kept : (offers : Offers) (groups : Rows) (numbers : List ℕ) → offers ≡ [] → groups ≡ [] → numbers ≡ [] → AreKept offers groups numbers
none_kept offers groups numbers e f g =
    subst (λ (os : Offers). AreKept os groups numbers) (sym e) (subst (λ (gs : Rows). AreKept [] gs numbers) (sym f) (subst (λ (ns : List ℕ). AreKept [] [] ns) (sym g) kept_none))

pub invariant_of-result : goal.invariant_of-result
invariant_of-result c = (none_table c.empty.result c.new.result.items c.new.ensures.items, none_kept c.new.result.items c.none.result c.new-2.result.items c.new.ensures.items c.none.ensures c.new-2.ensures.items)

pub returns-clause-table : goal.returns-clause-table
returns-clause-table c = none_table c.empty.result c.new.result.items c.new.ensures.items
