-- A text is compared with the lines of events, one after another.
use Rattle.std.proofs.Common.{◌≡◌, ℕ, suc, ◌+◌, true, List, [], ◌∷◌, ◌++◌, length, take, drop, drop-cons, Option, None, Some, IfSome, slice_get, ap, sym, ◌∙◌, arith, append_assoc, take-append-drop, nat_eq}
use Rattle.std.specs.Prelude.{MatchOption}
use Rattle.std.specs.Cmp.Lexicographic.{pointwise}
use Rattle.core.specs.Cmp.Lexicographic.{same_text}
use Rattle.std.proofs.lemmas.Option.{slice_get_within, get_or_from_slice_get}
use Rattle.serde_json.specs.Written.{compact_text}
use Rattle.nostr_event.specs.EventView.{EventView}
use Rattle.nostr_event.specs.EventJson.{object_of}
use Rattle.event_log.specs.Text.{line_of, text_of}

-- ---- one line

pub if_matched : {X : Type 0} {Q R : X → Type 0} (P : Type 0) (o : Option X) → MatchOption o P Q → ((x : X) → Q x → R x) → IfSome o R
if_matched P None m f = tt
if_matched P (Some x) m f = f x m

pub stripped : (prefix text rest : List ℕ) → pointwise nat_eq (take (length prefix) text) prefix ≡ true → rest ≡ drop (length prefix) text → text ≡ prefix ++ rest
stripped prefix text rest same is =
    sym (take-append-drop (length prefix) text) ∙ ap (λ t. t ++ drop (length prefix) text) (same_text (take (length prefix) text) prefix (sym same)) ∙ ap (λ t. prefix ++ t) (sym is)

pub stripped_line : (e : EventView) (json text rest after : List ℕ) → json ≡ compact_text (object_of e) → text ≡ json ++ rest → rest ≡ (10 ∷ []) ++ after → text ≡ line_of e ++ after
stripped_line e json text rest after is first second =
    first ∙ ap (λ t. json ++ t) second ∙ sym (append_assoc json (10 ∷ []) after) ∙ ap (λ t. (t ++ 10 ∷ []) ++ after) is

-- ---- the lines of events

-- the text and the lines of the events agree up to what is left of both
pub record Agrees (text rest : List ℕ) (events left : List EventView) : Type 0 where
  pub done : List ℕ
  pub read : text ≡ done ++ rest
  pub told : text_of events ≡ done ++ text_of left

dropped_more : (events : List EventView) (place : ℕ) (e : EventView) → slice_get events place ≡ Some e → drop place events ≡ e ∷ drop (place + 1) events
dropped_more events place e at =
    let next : suc place ≡ place + 1 = omega arith in
    drop-cons events place e (slice_get_within events place e at) ∙ ap (λ x. x ∷ drop (suc place) events) (get_or_from_slice_get events place e e at) ∙ ap (λ n. e ∷ drop n events) next

pub agree_more : (text rest after : List ℕ) (all events : List EventView) (place : ℕ) (e : EventView) → slice_get events place ≡ Some e → rest ≡ line_of e ++ after
    → Agrees text rest all (drop place events) → Agrees text after all (drop (place + 1) events)
agree_more text rest after all events place e at is h = record {
  done = h.done ++ line_of e;
  read = h.read ∙ ap (λ t. h.done ++ t) is ∙ sym (append_assoc h.done (line_of e) after);
  told = h.told ∙ ap (λ (es : List EventView). h.done ++ text_of es) (dropped_more events place e at) ∙ sym (append_assoc h.done (line_of e) (text_of (drop (place + 1) events)));
}
