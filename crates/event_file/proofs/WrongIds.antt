-- A line whose event states an id that isn't its own.
use Rattle.std.proofs.Common.{◌≡◌, ◌≢◌, ◌∙◌, ℕ, List, Some, Err, sym, subst}
use Rattle.std.specs.Prelude.{IsUtf8}
use Rattle.serde_json.specs.Data.{Data}
use Rattle.serde_json.specs.Read.{read}
use Rattle.item_key.specs.declared.Id.{Id}
use Rattle.nostr_event.specs.EventView.{EventView}
use Rattle.nostr_event.specs.EventJson.{Reads}
use Rattle.nostr_event.specs.declared.fault.EventFault.{EventFault}
use Rattle.nostr_event.proofs.Laws.{refused_none}
use Rattle.event_text.specs.Fields.{Tells}
use Rattle.event_file.specs.Lines.{IsEventOf}

other : EventFault.WrongId ≢ EventFault.Memory
other e = cc

pub none_of_wrong_id : (line : List ℕ) (e : EventView) (i : Id) → IsUtf8 line × ((d : Data) × (read line ≡ Some d) × Tells d (Err i)) → ¬ IsEventOf line e
none_of_wrong_id line e i told is =
    let both : Some told.1.0 ≡ Some is.1.0 = sym told.1.1 ∙ is.1.1 in
    let same : told.1.0 ≡ is.1.0 = cc in
    refused_none told.1.0 EventFault.WrongId told.1.2.0 other e (subst (λ d. Reads d e) (sym same) is.1.2)
