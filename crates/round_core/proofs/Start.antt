-- The round before any event.
use Rattle.std.proofs.Common.{◌≡◌, ◌<◌, ℕ, List, [], length, get_or, refl, sym, ap, ◌∙◌, subst, None}
use Rattle.std.specs.List.{list_any}
use Rattle.std.specs.List.Sorted.{IsStrictlySortedBy}
use Rattle.std.proofs.lemmas.List.Elements.{All-nil}
use Rattle.std.proofs.lemmas.Bool.{false≢true}
use Rattle.item_key.specs.declared.Id.{Id}
use Rattle.sharing.specs.declared.TheConstants.{RELAYS}
use Rattle.sharing.specs.Sharing.{is_among}
use Rattle.sharing.specs.Offers.{is_id, relays_of, AreRelays}
use Rattle.offer_table.specs.Table.{Table, IsTable}
use Rattle.fetch_plan.specs.declared.cell.Cell.{Cell}
use Rattle.fetch_plan.specs.declared.cell.Cell.TheVariants.{Free}
use Rattle.round_core.specs.Left.{Leaves}

no_relays : AreRelays []
unfolding IsStrictlySortedBy
no_relays = record { ascend = tt; small = All-nil (λ r. r < RELAYS) }

pub leaves_none : (lanes copied : List ℕ) (table : Table) (cells : List Cell) (placed : List Id) → copied ≡ lanes → table ≡ record { reported = []; offers = [] } → IsTable table → cells ≡ [] → placed ≡ [] →
    Leaves lanes [] (record { lanes = copied; table = table; plan = None; cells = cells; placed = placed })
leaves_none lanes copied table cells placed same none ok free nothing = record {
  same_lanes = same;
  earlier = [];
  count = refl;
  sealed = refl;
  legal = λ later. tt;
  table = record {
    offers = record {
      ordered = ok.offers_ok;
      sound = λ r i m. absurd (false≢true (ap (λ (t : Table). is_among (relays_of t.offers i) r) (sym none) ∙ m));
      whole = λ r i s. absurd (false≢true s.wanted);
    };
    relays = subst (λ (t : Table). AreRelays t.reported) (sym none) no_relays;
    reported = λ r. ap (λ (t : Table). is_among t.reported r) none;
  };
  long = ap length free;
  cell = λ i. ap (λ cs. get_or cs i Free) free;
  place = λ id. ap (list_any (is_id id)) nothing;
}
