-- Messages that carry an event.
use Rattle.std.proofs.Common.{◌≡◌, ◌≢◌, ◌<◌, ℕ, List, [], ◌∷◌, length, true, Some, Err, codes, refl, inl, inr, arith}
use Rattle.json.specs.Token.{Token}
use Rattle.json.specs.Lex.{tokens}
use Rattle.json.specs.Json.{after_end_array}
use Rattle.serde_json.specs.Data.{Data, array, string}
use Rattle.serde_json.specs.Read.{read}
use Rattle.serde_json.specs.View.{items_of}
use Rattle.item_key.specs.declared.Id.{Id}
use Rattle.nostr_event.specs.EventView.{EventView}
use Rattle.nostr_event.specs.declared.fault.EventFault.{EventFault}
use Rattle.nostr_event.proofs.Bytes.{id_of_bytes}
use Rattle.nostr_event.proofs.FieldTests.{object_from_get}
use Rattle.nostr_event.proofs.Laws.{refused_none}
use Rattle.event_text.specs.Tokens.{IsNext}
use Rattle.event_text.specs.Fields.{Tells}
use Rattle.event_text.proofs.Texts.{next_going, string_next}
use Rattle.nostr_wire.specs.declared.fault.WireFault.{WireFault}
use Rattle.nostr_wire.specs.Elements.{a_sub, an_event, sub, event, is_sub, Says}
use Rattle.nostr_wire.specs.Forms.{event_form, client_table, relay_table}
use Rattle.nostr_wire.specs.Reading.{Reads, Refuses}
use Rattle.nostr_wire.specs.Stream.{Gives, IsNoEvent}
use Rattle.nostr_wire.proofs.Streams.{end_gives, one_gives, array_read}

other : EventFault.WrongId ≢ EventFault.Memory
other e = cc

-- an object whose id isn't its own
pub no_event : (d : Data) (i : Id) → Tells d (Err i) → IsNoEvent d (WireFault.Event EventFault.WrongId (Some i))
no_event d i h = (
  object_from_get (codes "id") d _ h.1,
  refused_none d EventFault.WrongId h.0 other,
  (EventFault.WrongId, Some i, refl, other, h.0, (h.1, id_of_bytes i.0 h.2)),
)

-- ---- an array's elements

-- a string, and one element behind it
pub string_gives : (ts us : List Token) (s : List ℕ) (ds : List Data) → ts ≡ Token.string s ∷ us → Gives us ds [] → Gives ts (string s ∷ ds) []
string_gives ts us s ds is gives = one_gives ts us (string s) (rw is refl) (string_next 126 ts us s is) (rw is (omega arith)) ds [] gives

-- an element with which the array and the text end
pub last_gives : (ts us : List Token) (d : Data) → IsNext 126 ts d us → length us < length ts → after_end_array us ≡ Some [] → Gives ts (d ∷ []) []
last_gives ts us d is less over = one_gives ts us d (next_going 126 ts us d is) is less [] [] (end_gives us [] over)

pub two_read : (text : List ℕ) (us : List Token) (s : List ℕ) (d : Data) → tokens text ≡ Token.begin_array ∷ Token.string s ∷ us → Gives us (d ∷ []) []
    → read text ≡ Some (array (items_of (string s ∷ d ∷ [])))
two_read text us s d opened gives = array_read text (Token.string s ∷ us) (string s ∷ d ∷ []) opened (string_gives (Token.string s ∷ us) us s (d ∷ []) refl gives)

pub three_read : (text : List ℕ) (us vs : List Token) (s x : List ℕ) (d : Data) → tokens text ≡ Token.begin_array ∷ Token.string s ∷ us → us ≡ Token.string x ∷ vs → Gives vs (d ∷ []) []
    → read text ≡ Some (array (items_of (string s ∷ string x ∷ d ∷ [])))
three_read text us vs s x d opened is gives =
    array_read text (Token.string s ∷ us) (string s ∷ string x ∷ d ∷ []) opened (string_gives (Token.string s ∷ us) us s (string x ∷ d ∷ []) refl (string_gives us vs x (d ∷ []) is gives))

-- ---- what a client says

pub client_event : (text : List ℕ) (d : Data) (e : EventView) → read text ≡ Some (array (items_of (string (codes "EVENT") ∷ d ∷ []))) → Says d (event e)
    → Reads client_table text (record { name = codes "EVENT"; said = event e ∷ [] })
client_event text d e is says = (array (items_of (string (codes "EVENT") ∷ d ∷ [])), is, record { name = refl; parts = refl; said = (says, tt) })

pub client_no_event : (text : List ℕ) (d : Data) (f : WireFault) → read text ≡ Some (array (items_of (string (codes "EVENT") ∷ d ∷ []))) → IsNoEvent d f → Refuses client_table text f
client_no_event text d f is none =
    inr (inr (array (items_of (string (codes "EVENT") ∷ d ∷ [])), is, inr (an_event ∷ [], refl, inr (rw none.0 refl, inl (none.1, none.2)))))

-- ---- what a relay says

module _ (text s : List ℕ) (d : Data) (is : read text ≡ Some (array (items_of (string (codes "EVENT") ∷ string s ∷ d ∷ [])))) (name : is_sub s ≡ true) where
  pub relay_event : (e : EventView) → Says d (event e) → Reads relay_table text (event_form s e)
  relay_event e says = (array (items_of (string (codes "EVENT") ∷ string s ∷ d ∷ [])), is, record { name = refl; parts = refl; said = ((refl, name), (says, tt)) })

  pub relay_no_event : (f : WireFault) → IsNoEvent d f → Refuses relay_table text f
  relay_no_event f none =
      inr (inr (
        array (items_of (string (codes "EVENT") ∷ string s ∷ d ∷ [])),
        is,
        inr (a_sub ∷ an_event ∷ [], refl, inr (rw none.0 refl, inr ((sub s, refl, (refl, name)), inl (none.1, none.2)))),
      ))
