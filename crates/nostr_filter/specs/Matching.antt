-- Which events a filter matches (NIP-01).
use Rattle.std.specs.Prelude.{ℕ, ◌==◌, ◌&&◌, List, [], ◌∷◌, Bool, true, false, nat_le, Option, option_map, unwrap_or, bytes_eq}
use Rattle.std.specs.List.{list_any, list_all}
use Rattle.nostr_event.specs.EventView.{EventView}
use Rattle.nostr_filter.specs.declared.conditions.TagCondition.{TagCondition}
use Rattle.nostr_filter.specs.declared.filter.Filter.{Filter}
pub use Rattle.nostr_filter.specs.Members.{has_text}

-- a condition that may be absent
abbrev pub met : {X : Type 0} → (X → Bool) → Option X → Bool
met test condition = unwrap_or (option_map test condition) true

-- the tag has the condition's letter for its name, and the first value after it is one of the condition's
abbrev pub tag_meets : TagCondition → List (List ℕ) → Bool
tag_meets c [] = false
tag_meets c (name ∷ []) = false
tag_meets c (name ∷ value ∷ more) = bytes_eq name (c.letter ∷ []) && has_text c.values value

-- some tag meets the condition
abbrev pub tags_meet : List (List (List ℕ)) → TagCondition → Bool
tags_meet tags c = list_any (tag_meets c) tags

abbrev pub within_of : Filter → ℕ → Bool
within_of f time = met (λ since. nat_le since time) f.since && met (λ until. nat_le time until) f.until

-- all conditions but those on tags hold together for an event of this id, author, kind and time
abbrev pub meets_of : Filter → List ℕ → List ℕ → ℕ → ℕ → Bool
meets_of f id author kind time =
    met (λ ids. has_text ids id) f.ids
    && met (λ authors. has_text authors author) f.authors
    && met (λ kinds. list_any (λ k. k == kind) kinds) f.kinds
    && within_of f time

-- all conditions hold together; the limit has no part in it
abbrev pub matches_of : Filter → EventView → Bool
matches_of f e = meets_of f e.id.0 e.draft.pubkey e.draft.kind e.draft.created_at && list_all (tags_meet e.draft.tags) f.tags
