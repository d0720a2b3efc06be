-- What is pinned, and what is answered from it.
use Rattle.std.proofs.Common.{◌≡◌, ℕ, ◌≤◌, List, [], ◌∷◌, length, ap, sym, subst, ◌∙◌}
use Rattle.std.specs.Prelude.{Err}
use Rattle.item_key.specs.declared.Item.{Item}
use Rattle.neg_codec.specs.declared.CodecFault.TheVariants as codec
use Rattle.neg_codec.specs.Ranges.{Span}
use Rattle.neg_codec.specs.Text.{Spells}
use Rattle.neg_codec.specs.Reading.{longest, message_at}
use Rattle.neg_responder.specs.Reply.{Replies}
use Rattle.nostr_event.specs.EventView.{EventView}
use Rattle.nostr_filter.specs.declared.filter.Filter.{Filter}
use Rattle.nostr_wire.specs.Forms.{Form}
use Rattle.relay_core.specs.Kept.{Kept, kept_of, put}
use Rattle.relay_core.specs.Turns.{says}
use Rattle.relay_core.specs.Requests.{subscription, stored_events, subscribed}
use Rattle.relay_core.specs.Sessions.{IsBad, IsAnswer}

-- ---- a request

turned : (out told : List Form) (k t : Kept) → out ≡ told → k ≡ t → says out k ≡ says told t
turned out told k t same kept = ap (λ xs. says xs k) same ∙ ap (says told) kept

pub subscribed_is : (name : List ℕ) (filters : List Filter) (events pinned : List EventView) (places wanted : List ℕ) (mark : ℕ) (t k : Kept) (out : List Form)
    → pinned ≡ events → places ≡ wanted → mark ≡ length events → out ≡ stored_events name pinned places → k ≡ kept_of (put (subscription name filters mark) t.subs) t.sessions
    → says out k ≡ subscribed events name filters wanted t
subscribed_is name filters events pinned places wanted mark t k out whole found front told kept =
    turned out _ k _ (told ∙ ap (λ es. stored_events name es places) whole ∙ ap (stored_events name events) found)
    (kept ∙ ap (λ n. kept_of (put (subscription name filters n) t.subs) t.sessions) front)

-- ---- an answer

pub is_answer : (limit : ℕ) (items : List Item) (query told answer : List ℕ) → answer ≡ told → ¬ IsBad query
    → ((q : List Span) → length query ≤ longest → Spells query q → Replies limit items q told)
    → length told ≤ limit → ((b : ℕ) → message_at query ≡ Err (codec.Version b) → told ≡ 0x61 ∷ []) → IsAnswer limit items query answer
is_answer limit items query told answer same good replies short version =
    subst (IsAnswer limit items query) (sym same) (record { good = good; replies = replies; short = short; version = version })
