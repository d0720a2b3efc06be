-- What is told of lists of events that are published.
use Rattle.std.proofs.Common.{◌≡◌, ℕ, zero, suc, ◌+◌, Bool, true, false, List, [], ◌∷◌, ◌++◌, Some, ◌<◌, take, get_or, slice_get, refl, ap, sym, subst, ◌∙◌, arith}
use Rattle.std.specs.Prelude.{if◌then◌else◌, not}
use Rattle.nostr_event.specs.EventView.{EventView}
use Rattle.event_list.proofs.Chunked.{took_more}
use Rattle.event_table.specs.Events.{has_id, with_event, with_events, freshness}
use Rattle.event_table.proofs.Ids.{has_last, has_longer}
use Rattle.event_table.proofs.More.{events_begin}
use Rattle.event_store.specs.Events.{Placing, placing, placings}

placed_push : (xs : List EventView) (e : EventView) (events list : List EventView) → placings (xs ++ e ∷ []) events list ≡ placings xs events list ++ placing e.id (not (has_id e.id (with_events xs events))) list ∷ []
placed_push [] e events list = refl
placed_push (x ∷ xs) e events list = ap (λ ps. placing x.id (not (has_id x.id events)) list ∷ ps) (placed_push xs e (with_event x events) list)

fresh_at : (xs : List EventView) (i : ℕ) (e : EventView) (events : List EventView) (b : Bool) → slice_get xs i ≡ Some e → b ≡ get_or (freshness xs events) i b → b ≡ not (has_id e.id (with_events (take i xs) events))
fresh_at [] i e events b at is = absurd (cc at)
fresh_at (x ∷ xs) zero e events b at is =
    let same : x ≡ e = cc at in
    is ∙ ap (λ (y : EventView). not (has_id y.id events)) same
fresh_at (x ∷ xs) (suc i) e events b at is = fresh_at xs i e (with_event x events) b at is

-- what is told of one more
pub placed_more : (xs : List EventView) (i : ℕ) (e : EventView) (events list : List EventView) (told : List Placing) (flags : List Bool) (p : Placing) → slice_get xs i ≡ Some e
    → told ≡ placings (take i xs) events list → flags ≡ freshness xs events → p.id ≡ e.id → p.fresh ≡ get_or flags i p.fresh → p.list ≡ list → told ++ p ∷ [] ≡ placings (take (i + 1) xs) events list
placed_more xs i e events list told flags p at so are named fresh shown =
    let new = fresh_at xs i e events p.fresh at (fresh ∙ ap (λ bs. get_or bs i p.fresh) are) in
    let one : p ≡ placing e.id (not (has_id e.id (with_events (take i xs) events))) list = λ k. record { id = named k; fresh = new k; list = shown k } in
    (λ k. so k ++ one k ∷ []) ∙ (sym (placed_push (take i xs) e events list) ∙ ap (λ ys. placings ys events list) (sym (took_more xs i e at)))

has_event : (b : Bool) (e : EventView) (events : List EventView) → has_id e.id events ≡ b → has_id e.id (if b then events else events ++ e ∷ []) ≡ true
has_event true e events is = is
has_event false e events is = has_last _ _ events e e.id refl refl refl

-- each is there
pub each_there : (xs : List EventView) (i : ℕ) (e : EventView) (events : List EventView) → slice_get xs i ≡ Some e → has_id e.id (with_events xs events) ≡ true
each_there [] i e events at = absurd (cc at)
each_there (x ∷ xs) zero e events at =
    let same : x ≡ e = cc at in
    has_longer e.id (with_event x events) (with_events xs (with_event x events)) (events_begin xs (with_event x events))
    (subst (λ (y : EventView). has_id y.id (with_event x events) ≡ true) same (has_event (has_id x.id events) x events refl))
each_there (x ∷ xs) (suc i) e events at = each_there xs i e (with_event x events) at

-- what a list has at a place its beginning has there
pub taken_at : {A : Type 0} (xs : List A) (n i : ℕ) (x : A) → i < n → slice_get xs i ≡ Some x → slice_get (take n xs) i ≡ Some x
taken_at [] n i x lt at = absurd (cc at)
taken_at (y ∷ ys) zero i x lt at = absurd (omega (arith, lt))
taken_at (y ∷ ys) (suc n) zero x lt at = at
taken_at (y ∷ ys) (suc n) (suc i) x lt at = taken_at ys n i x (omega (arith, lt)) at
