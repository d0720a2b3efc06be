-- From what the fields are to what their tests say.
use Rattle.std.proofs.Common.{◌≡◌, ℕ, List, true, Some, None, is_some, refl, ap, ◌∙◌, codes}
use Rattle.hex.specs.Hex.{encode_lower}
use Rattle.serde_json.specs.Data.{Data, null, boolean, number, string, array, object}
use Rattle.serde_json.specs.Find.{get, as_object}
use Rattle.nostr_event.specs.declared.fields.Shapes.{Shapes}
use Rattle.nostr_event.specs.EventView.{IsBytesOf}
use Rattle.nostr_event.specs.EventJson.{HasShapes, IsHexAt, first_failing, shape_tests}

pub object_from_get : (k : List ℕ) (d e : Data) → get k d ≡ Some e → is_some (as_object d) ≡ true
object_from_get k null e h = cc
object_from_get k (boolean b) e h = cc
object_from_get k (number n) e h = cc
object_from_get k (string s) e h = cc
object_from_get k (array ds) e h = cc
object_from_get k (object ms) e h = refl

pub shapes_pass : (d : Data) (s : Shapes) → HasShapes d s → first_failing (shape_tests d) ≡ None
shapes_pass d s h = rw (object_from_get (codes "id") d _ h.id, h.id, h.pubkey, h.created_at, h.kind, h.tags, h.content, h.sig) refl

pub not_hex_at : (name : List ℕ) (n : ℕ) (d : Data) (text : List ℕ) → get name d ≡ Some (string text) → ((b : List ℕ) → IsBytesOf n b → ¬ (text ≡ encode_lower b)) → ¬ IsHexAt name n d
not_hex_at name n d text here none = λ h.
    let same : Some (string text) ≡ Some (string (encode_lower h.0)) = cc in
    let text_is : text ≡ encode_lower h.0 = cc in
    none h.0 h.1 text_is

pub hex_at : (name : List ℕ) (n : ℕ) (d : Data) (text b : List ℕ) → get name d ≡ Some (string text) → IsBytesOf n b → text ≡ encode_lower b → IsHexAt name n d
hex_at name n d text b here bytes e = (b, bytes, here ∙ ap (λ t. Some (string t)) e)
