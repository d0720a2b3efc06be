-- Postings, each a mark with the place of an event that has it, in runs.
use Rattle.std.specs.Prelude.{◌≡◌, ℕ, ◌+◌, ◌*◌, ◌<◌, true, List, flat_map, length, get_or, All, Contains}
use Rattle.nostr_event.specs.EventView.{EventView}
use Rattle.nostr_filter.specs.declared.filter.Filter.{Filter}
use Rattle.nostr_filter.specs.Matching.{matches_of}
use Rattle.event_index.specs.Marks.{marks_of}

abbrev pub posting : ℕ → ℕ → ℕ
posting mark place = mark * 1048576 + place

-- the postings of all runs
abbrev pub joined : List (List ℕ) → List ℕ
joined runs = flat_map (λ r. r) runs

-- what an index holds: runs of postings, of so many events
pub record Covered : Type 0 where
  pub runs : List (List ℕ)
  pub count : ℕ

-- each event has a posting for each of its marks, the first event at this place
abbrev pub HavePostings : ℕ → List EventView → List ℕ → Type 0
HavePostings start events postings = (i m : ℕ) (d : EventView) → i < length events → Contains (marks_of (get_or events i d)) m → Contains postings (posting m (start + i))

-- the index is of these events
pub record Covers (events : List EventView) (index : Covered) : Type 0 where
  pub counted : index.count ≡ length events
  pub listed : HavePostings 0 events (joined index.runs)

-- places below a limit were put behind others, among them each whose posting for the mark is there
pub record ReadsPlaces (limit mark : ℕ) (postings old new : List ℕ) : Type 0 where
  pub below : All (λ p. p < limit) old → All (λ p. p < limit) new
  pub kept : (i : ℕ) → Contains old i → Contains new i
  pub found : (i : ℕ) → i < limit → Contains postings (posting mark i) → Contains new i

-- the places are of the events, and each that the filter matches stands at one of them
pub record HoldMatching (f : Filter) (events : List EventView) (places : List ℕ) : Type 0 where
  pub below : All (λ p. p < length events) places
  pub whole : (i : ℕ) (d : EventView) → i < length events → matches_of f (get_or events i d) ≡ true → Contains places i
