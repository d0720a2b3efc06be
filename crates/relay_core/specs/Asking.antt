-- Which texts ask for what is published.
use Rattle.std.specs.Prelude.{◌≤◌, ◌<◌, ◌+◌, ℕ, List, length}
use Rattle.nostr_filter.specs.Sizes.{sizes_of}
use Rattle.nostr_wire.specs.declared.messages.FromClient.{FromClient}
use Rattle.nostr_wire.specs.declared.messages.FromClient.TheVariants as client
use Rattle.nostr_wire.specs.Forms.{client_form, client_table}
use Rattle.nostr_wire.specs.Reading.{Reads}
use Rattle.relay_core.specs.declared.limits.RelayLimits.{RelayLimits}
use Rattle.relay_core.specs.Limits.{most_values}
use Rattle.relay_core.specs.Requests.{open_sizes}
use Rattle.relay_core.specs.Kept.{Kept, without_sub, without_session}

-- a request for events, or the first message of a session, that is within the limits
abbrev pub Asks : RelayLimits → Kept → FromClient → Type 0
Asks limits t (client.Req name filters) =
    (length filters ≤ limits.filters) × (open_sizes (without_sub name t).subs + sizes_of filters ≤ most_values) × (length (without_sub name t).subs < limits.subs)
Asks limits t (client.NegOpen name filter query) = length (without_session name t).sessions < limits.sessions
Asks limits t _ = ⊥

-- the text is such a message
abbrev pub TextAsks : RelayLimits → List ℕ → Kept → Type 0
TextAsks limits text t = (length text ≤ limits.text) × ((m : FromClient) × Reads client_table text (client_form m) × Asks limits t m)
