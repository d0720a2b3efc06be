-- Lists of events with more of them.
use Rattle.std.proofs.Common.{◌≡◌, ℕ, ◌+◌, Bool, true, false, List, [], ◌∷◌, ◌++◌, Some, length, ◌<◌, map, take, get_or, slice_get, refl, ap, sym, subst, ◌∙◌}
use Rattle.std.specs.Prelude.{if◌then◌else◌, option_map, not}
use Rattle.std.proofs.lemmas.Option.{slice_get-map, slice_get-get_or}
use mathlib.Core.List.{IsPrefix}
use Rattle.nostr_event.specs.EventView.{EventView}
use Rattle.event_list.proofs.Chunked.{took_more}
use Rattle.event_list.proofs.Prefixes.{prefix_self, prefix_trans}
use Rattle.event_table.specs.Events.{has_id, with_event, with_events, freshness}

events_push : (xs : List EventView) (e : EventView) (events : List EventView) → with_events (xs ++ e ∷ []) events ≡ with_event e (with_events xs events)
events_push [] e events = refl
events_push (x ∷ xs) e events = events_push xs e (with_event x events)

-- one more of a list
one_more : (xs : List EventView) (i : ℕ) (e : EventView) (events now : List EventView) → slice_get xs i ≡ Some e → now ≡ with_events (take i xs) events → with_events (take (i + 1) xs) events ≡ with_event e now
one_more xs i e events now at is = ap (λ ys. with_events ys events) (took_more xs i e at) ∙ events_push (take i xs) e events ∙ ap (with_event e) (sym is)

pub repeat_more : (xs : List EventView) (i : ℕ) (e : EventView) (events now : List EventView) → slice_get xs i ≡ Some e → now ≡ with_events (take i xs) events → has_id e.id now ≡ true → now ≡ with_events (take (i + 1) xs) events
repeat_more xs i e events now at is has = sym (one_more xs i e events now at is ∙ ap (λ b. if b then now else now ++ e ∷ []) has)

pub new_more : (xs : List EventView) (i : ℕ) (e : EventView) (events now next : List EventView) → slice_get xs i ≡ Some e → now ≡ with_events (take i xs) events → has_id e.id now ≡ false → next ≡ now ++ e ∷ [] → next ≡ with_events (take (i + 1) xs) events
new_more xs i e events now next at is none put = put ∙ sym (one_more xs i e events now at is ∙ ap (λ b. if b then now else now ++ e ∷ []) none)

-- an element where another list has what it shows
pub shown_at : {A B : Type 0} (f : A → B) (xs : List A) (i : ℕ) (x : A) → x ≡ get_or xs i x → i < length xs → slice_get (map f xs) i ≡ Some (f x)
shown_at f xs i x is lt = slice_get-map f xs i ∙ ap (option_map f) (slice_get-get_or xs i x lt ∙ ap Some (sym is))

-- what was there is the beginning
begins : (b : Bool) (e : EventView) (events : List EventView) → IsPrefix events (if b then events else events ++ e ∷ [])
begins true e events = prefix_self events
begins false e events = (e ∷ [], refl)

pub events_begin : (xs events : List EventView) → IsPrefix events (with_events xs events)
events_begin [] events = prefix_self events
events_begin (x ∷ xs) events = prefix_trans events (with_event x events) (with_events xs (with_event x events)) (begins (has_id x.id events) x events) (events_begin xs (with_event x events))

pub longer_begins : (xs before events now : List EventView) → before ≡ events → now ≡ with_events xs before → IsPrefix events now
longer_begins xs before events now is longer =
    subst (λ (ys : List EventView). IsPrefix ys now) is (subst (λ (ys : List EventView). IsPrefix before ys) (sym longer) (events_begin xs before))

-- ---- what is told of each

fresh_push : (xs : List EventView) (e : EventView) (events : List EventView) → freshness (xs ++ e ∷ []) events ≡ freshness xs events ++ not (has_id e.id (with_events xs events)) ∷ []
fresh_push [] e events = refl
fresh_push (x ∷ xs) e events = ap (λ bs. not (has_id x.id events) ∷ bs) (fresh_push xs e (with_event x events))

-- whether one more is new
pub fresh_more : (xs : List EventView) (i : ℕ) (e : EventView) (events now : List EventView) (told : List Bool) (b : Bool) → slice_get xs i ≡ Some e → now ≡ with_events (take i xs) events
    → told ≡ freshness (take i xs) events → b ≡ not (has_id e.id now) → told ++ b ∷ [] ≡ freshness (take (i + 1) xs) events
fresh_more xs i e events now told b at is so new =
    (λ k. so k ++ (new ∙ ap (λ ys. not (has_id e.id ys)) is) k ∷ []) ∙ (sym (fresh_push (take i xs) e events) ∙ ap (λ ys. freshness ys events) (sym (took_more xs i e at)))
