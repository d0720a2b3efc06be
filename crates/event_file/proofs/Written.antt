-- One line more is written.
use Rattle.std.proofs.Common.{◌≡◌, ℕ, ◌+◌, List, [], ◌∷◌, ◌++◌, take, Option, None, Some, slice_get, ap, sym, ◌∙◌, subst, append_assoc}
use Rattle.std.proofs.lemmas.List.{append-nil}
use Rattle.std.proofs.lemmas.Grind.{flat_map-append}
use Rattle.std.specs.Io.KnownBytes.{Appends}
use Rattle.serde_json.specs.Written.{compact_text}
use Rattle.nostr_event.specs.EventView.{EventView}
use Rattle.nostr_event.specs.EventJson.{object_of}
use Rattle.event_list.proofs.Chunked.{took_more}
use Rattle.event_log.specs.Text.{line_of, text_of}

appends_both : (a b c : Option (List ℕ)) (first second : List ℕ) → Appends a b first → Appends b c second → Appends a c (first ++ second)
appends_both None b c first second h k = tt
appends_both (Some xs) None c first second h k = absurd h
appends_both (Some xs) (Some ys) None first second h k = absurd k
appends_both (Some xs) (Some ys) (Some zs) first second h k = k ∙ ap (λ t. t ++ second) h ∙ append_assoc xs first second

pub appends_line : (a b c : Option (List ℕ)) (text : List ℕ) (e : EventView) → text ≡ compact_text (object_of e) → Appends a b text → Appends b c (10 ∷ []) → Appends a c (line_of e)
appends_line a b c text e same h k = subst (λ t. Appends a c (t ++ 10 ∷ [])) same (appends_both a b c text (10 ∷ []) h k)

text_more : (events : List EventView) (place : ℕ) (e : EventView) → slice_get events place ≡ Some e → text_of (take (place + 1) events) ≡ text_of (take place events) ++ line_of e
text_more events place e at =
    ap text_of (took_more events place e at) ∙ flat_map-append line_of (take place events) (e ∷ []) ∙ ap (λ t. text_of (take place events) ++ t) (append-nil (line_of e))

pub appends_more : (a b c : Option (List ℕ)) (events : List EventView) (place : ℕ) (e : EventView) → slice_get events place ≡ Some e
    → Appends a b (text_of (take place events)) → Appends b c (line_of e) → Appends a c (text_of (take (place + 1) events))
appends_more a b c events place e at h k =
    let P : List ℕ → Type 0 = λ t. Appends a c t in
    subst P (sym (text_more events place e at)) (appends_both a b c _ _ h k)
