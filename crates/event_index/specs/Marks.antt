-- Marks, short numbers that stand for what filters ask of an event. Two things may have one mark.
use Rattle.std.specs.Prelude.{◌≡◌, ℕ, ◌+◌, ◌*◌, ◌%◌, ◌^◌, true, List, [], ◌∷◌, filter_map, Contains, Option, None, Some}
use Rattle.nostr_event.specs.EventView.{EventView}
use Rattle.nostr_filter.specs.declared.filter.Filter.{Filter}
use Rattle.nostr_filter.specs.Matching.{matches_of}

-- a mark gone on with over more bytes
abbrev pub mixed : ℕ → List ℕ → ℕ
mixed mark [] = mark
mixed mark (byte ∷ bytes) = mixed ((mark * 1048573 + byte) % 2 ^ 44) bytes

-- the mark of a value behind a tag's letter
abbrev pub value_mark : ℕ → List ℕ → ℕ
value_mark letter value = mixed letter value

-- the mark of a tag, if its name is one byte and a value stands behind it
abbrev pub tag_mark : List (List ℕ) → Option ℕ
tag_mark [] = None
tag_mark (name ∷ []) = None
tag_mark ([] ∷ value ∷ more) = None
tag_mark ((letter ∷ []) ∷ value ∷ more) = Some (value_mark letter value)
tag_mark ((letter ∷ other ∷ rest) ∷ value ∷ more) = None

-- what stands for the event: its author's mark, its kind, and its tags' marks
abbrev pub marks_of : EventView → List ℕ
marks_of e = mixed 0 e.draft.pubkey ∷ e.draft.kind ∷ filter_map tag_mark e.draft.tags

-- each event that the filter matches has one of the marks
abbrev pub AreMarksOf : Filter → List ℕ → Type 0
AreMarksOf f marks = (e : EventView) → matches_of f e ≡ true → (m : ℕ) × Contains marks m × Contains (marks_of e) m
