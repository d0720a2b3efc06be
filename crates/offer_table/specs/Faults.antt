-- Why a table isn't made: the lowest fault whose cause is there.
use Rattle.std.specs.Prelude.{ℕ, ◌+◌, not, Option, Some, None, length, nat_lt, if◌then◌else◌}
use Rattle.std.specs.List.{list_any}
use Rattle.offer_table.specs.declared.faults.OfferFault.{OfferFault}
use Rattle.offer_table.specs.declared.faults.OfferFault.TheVariants.{Relay, TableFull, Double}
use Rattle.offer_table.specs.declared.faults.BaseFault.{BaseFault}
use Rattle.offer_table.specs.declared.faults.BaseFault.TheVariants.{Load}
use Rattle.offer_table.specs.declared.faults.BaseFault.TheVariants as why
use Rattle.sharing.specs.declared.TheConstants.{RELAYS, MOST_IDS, MOST_BASE}
use Rattle.sharing.specs.Sharing.{is_among}
use Rattle.offer_table.specs.Table.{Table, new_in}

-- of a report of that many ids
abbrev pub report_fault : ℕ → ℕ → Option OfferFault
report_fault relay count =
    if not (nat_lt relay RELAYS) then Some Relay
    else (if nat_lt MOST_IDS count then Some TableFull else None)

-- of offers of that many ids
abbrev pub offers_fault : ℕ → Option OfferFault
offers_fault count = if nat_lt MOST_IDS count then Some TableFull else None

-- of two tables put together
abbrev pub merge_fault : Table → Table → Option OfferFault
merge_fault a b =
    if nat_lt MOST_IDS (length a.offers + new_in a.offers b.offers) then Some TableFull
    else (if list_any (is_among b.reported) a.reported then Some Double else None)

-- of a base that is set
abbrev pub base_fault : ℕ → ℕ → Option BaseFault
base_fault relay load =
    if not (nat_lt relay RELAYS) then Some why.Relay
    else (if nat_lt MOST_BASE load then Some Load else None)
