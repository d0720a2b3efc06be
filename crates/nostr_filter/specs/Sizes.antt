-- How much the values of filters take.
use Rattle.std.specs.Prelude.{ℕ, ◌+◌, ◌*◌, List, [], ◌∷◌, length, Option, None, Some}
use Rattle.nostr_filter.specs.declared.conditions.TagCondition.{TagCondition}
use Rattle.nostr_filter.specs.declared.filter.Filter.{Filter}

-- a text takes its bytes, and 56 to keep them and to tell where it stands
abbrev pub texts_size : List (List ℕ) → ℕ
texts_size [] = 0
texts_size (t ∷ ts) = length t + 56 + texts_size ts

abbrev pub conditions_size : List TagCondition → ℕ
conditions_size [] = 0
conditions_size (c ∷ cs) = texts_size c.values + conditions_size cs

-- so many bytes for each of the values that are given
abbrev pub given_size : {X : Type 0} → ℕ → Option (List X) → ℕ
given_size each None = 0
given_size each (Some xs) = length xs * each

-- the bytes of a filter's values: 32 for an id or an author, two for a kind
abbrev pub size_of : Filter → ℕ
size_of f = given_size 32 f.ids + given_size 32 f.authors + given_size 2 f.kinds + conditions_size f.tags

-- the bytes of the values of several filters
abbrev pub sizes_of : List Filter → ℕ
sizes_of [] = 0
sizes_of (f ∷ fs) = size_of f + sizes_of fs
