-- What sessions with relays come to, and the plan of what they found.
use Rattle.std.specs.Prelude.{◌≡◌, ℕ, List, map, length, ⊤}
use Rattle.std.specs.List.Sorted.{IsPermutation}
use Rattle.item_key.specs.declared.Item.{Item}
use Rattle.item_roll.specs.Parts.{IsRoll}
use Rattle.neg_session.specs.Exchange.{Exchange}
use Rattle.neg_session.specs.Most.{AreMost}
use Rattle.neg_session.specs.declared.limits.SessionLimits.{SessionLimits}
use Rattle.nostr_event.specs.EventView.{EventView, item_of}
use Rattle.mirror_settings.specs.declared.settings.Settings.{Settings}
use Rattle.event_table.specs.Events.{matching}
use Rattle.sharing.specs.Bases.{base_of}
use Rattle.offer_table.specs.Table.{Table}
use Rattle.fetch_plan.specs.Plan.{Planned, IsPlanOf}
use Rattle.mirror_core.specs.declared.end.End.{End}
use Rattle.mirror_core.specs.Ends.{EachRan}
use Rattle.mirror_core.specs.Tables.{IsTableOf}
use Rattle.mirror_core.specs.Headline.{Headline}
use Rattle.stream_laws.specs.Streams.{IsPlannedOver}
use Rattle.ws_link.specs.Wired.{Wired}

-- what a relay was asked and answered, and how many questions failed
abbrev pub Log : Type 0
Log = List Exchange × ℕ

-- the log of the link behind a stream
abbrev pub log_of : Wired Exchange → Log
log_of s = (s.log, s.faults)

-- Sessions over the items of the events that match, one for each relay of the settings, by the logs of the relays before and
-- after: how they ended, and the plan of what they found, over what the loads begin with. The headline holds of it, also said of
-- the streams of the links that have the logs.
pub record IsSynced (settings : Settings) (bases : List ℕ) (seen : List EventView) (ends : List End) (table : Table) (plan : Planned) : Type 0 where
  pub own : List Item
  pub olds : List Log
  pub news : List Log
  pub limits : SessionLimits
  pub items : IsPermutation (map item_of (matching settings.filter seen)) own
  pub sorted : IsRoll own
  pub each : length ends ≡ length settings.relays
  pub most : AreMost 60000 limits
  pub ran : EachRan (λ (l : Log). l.0) (λ (l : Log). l.1) (λ (k l : Log). ⊤) own limits olds news ends
  pub found : IsTableOf 0 ends table
  pub planned : IsPlanOf bases table.offers plan
  pub headline : Headline (λ (l : Log). l.0) (base_of bases) own olds news ends table plan
  pub streams : List (Wired Exchange)
  pub logs : map log_of streams ≡ news
  pub over : IsPlannedOver (λ s. s) (base_of bases) own streams ends table plan
