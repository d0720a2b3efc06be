-- Where the events stand that a filter matches.
use Rattle.std.specs.Prelude.{◌≡◌, ℕ, ◌+◌, ◌<◌, ◌≤◌, ◌==◌, ⊤, true, cond, List, [], ◌∷◌, length, get_or, bytes_eq, Contains}
use Rattle.std.specs.List.{list_any}
use Rattle.item_key.specs.declared.Id.{Id}
use Rattle.item_key.specs.declared.Item.{Item}
use Rattle.nostr_event.specs.EventView.{EventView}
use Rattle.nostr_filter.specs.declared.filter.Filter.{Filter}
use Rattle.nostr_filter.specs.declared.choice.Rank.{Rank}
use Rattle.nostr_filter.specs.Choice.{rank_of}
use Rattle.nostr_filter.specs.Matching.{matches_of, within_of}

-- each event that the filter matches has one of the ids
abbrev pub AreAsked : Filter → List EventView → List Id → Type 0
AreAsked f events ids = (i : ℕ) (e : EventView) → i < length events → matches_of f (get_or events i e) ≡ true
    → list_any (λ (x : Id). bytes_eq x.0 (get_or events i e).id.0) ids ≡ true

-- the places rise from one on, all below another
abbrev pub Rise : ℕ → ℕ → List ℕ → Type 0
Rise low high [] = ⊤
Rise low high (p ∷ places) = (low ≤ p) × (p < high) × Rise (p + 1) high places

-- the places rise, and each event that the filter matches stands at one of them
pub record HaveMatching (f : Filter) (events : List EventView) (places : List ℕ) : Type 0 where
  pub rise : Rise 0 (length events) places
  pub whole : (i : ℕ) (e : EventView) → i < length events → matches_of f (get_or events i e) ≡ true → list_any (λ p. p == i) places ≡ true

-- the ids are those of the items from the filter's first time on, up to its last
abbrev pub AreWithin : Filter → List Item → List Id → Type 0
AreWithin f items ids = (k : Item) → Contains items k → within_of f k.time ≡ true → list_any (λ (x : Id). bytes_eq x.0 k.id.0) ids ≡ true

-- what orders the events that the filter matches, where the first event stands at the place n
abbrev pub ranks_from : ℕ → Filter → List EventView → List Rank
ranks_from n f [] = []
ranks_from n f (e ∷ events) = cond (matches_of f e) (rank_of n e ∷ ranks_from (n + 1) f events) (ranks_from (n + 1) f events)
