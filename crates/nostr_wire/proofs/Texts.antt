-- What the text of an event for a subscription is read as.
use Rattle.std.proofs.Common.{◌≡◌, ◌++◌, ℕ, List, [], ◌∷◌, Some, Result, Ok, Err, IfOk, codes, Global, refl, sym, ap, ◌∙◌, append_assoc, append-nil}
use Rattle.std.specs.String.{string_bytes}
use Rattle.std.specs.declared.string.String.{String}
use Rattle.json.specs.Print.{print_from, quoted}
use Rattle.json.specs.Lex.{tokens}
use Rattle.json.specs.Tree.{json_tokens}
use Rattle.json.proofs.Printed.Tokens.{tokens-print}
use Rattle.json.proofs.Printed.Trees.{ArePrintable-json_tokens}
use Rattle.serde_json.specs.Read.{of_json}
use Rattle.serde_json.specs.Written.{outline, compact_text}
use Rattle.serde_json.proofs.Texts.{print-outline}
use Rattle.nostr_event.specs.EventView.{EventView, IsInRange}
use Rattle.nostr_event.specs.EventJson.{object_of}
use Rattle.nostr_event.proofs.Printed.{object_read}
use Rattle.nostr_event.proofs.Rereading.{event_numbers}
use Rattle.nostr_wire.specs.Forms.{event_form}
use Rattle.nostr_wire.specs.Beginnings.{beginning}
use Rattle.nostr_wire.specs.Writing.{array_of, text_of}

pub event_tokens : (s : List ℕ) (e : EventView) → IsInRange e → tokens (text_of (event_form s e)) ≡ json_tokens (outline (array_of (event_form s e)))
event_tokens s e h =
    let d = array_of (event_form s e) in
    ap tokens (sym (print-outline d)) ∙ tokens-print (json_tokens (outline d)) (ArePrintable-json_tokens (outline d) (tt, (tt, (event_numbers e h, tt))))

pub event_read : (s : List ℕ) (e : EventView) → IsInRange e → of_json (outline (array_of (event_form s e))) ≡ Some (array_of (event_form s e))
event_read s e h = rw (object_read e h) refl

-- its names, a comma, the text of the event, and the closing bracket
regroup : (name sub event : List ℕ) → (((91 ∷ (name ++ (44 ∷ (sub ++ [])))) ++ 44 ∷ []) ++ event) ++ 93 ∷ [] ≡ 91 ∷ (name ++ (44 ∷ (sub ++ (44 ∷ (event ++ 93 ∷ [])))))
regroup name sub event = simp (append_assoc, append-nil)

pub event_written : (s : List ℕ) (e : EventView) → (beginning s ++ compact_text (object_of e)) ++ 93 ∷ [] ≡ text_of (event_form s e)
unfolding print_from
event_written s e = regroup (quoted (codes "EVENT")) (quoted s) (compact_text (object_of e))

-- the same behind what begins it, if that was made
pub event_begun : {E : Type 0} (r : Result (String Global) E) (s : List ℕ) → IfOk r (λ t. string_bytes t ≡ beginning s) → IfOk r (λ t. (e : EventView) → (string_bytes t ++ compact_text (object_of e)) ++ codes "]" ≡ text_of (event_form s e))
event_begun (Ok t) s begun = λ e. ap (λ (words : List ℕ). (words ++ compact_text (object_of e)) ++ 93 ∷ []) begun ∙ event_written s e
event_begun (Err f) s begun = tt
