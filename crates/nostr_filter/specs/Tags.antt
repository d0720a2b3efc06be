-- Conditions on tags: their letters, and the names of their fields.
use Rattle.std.specs.Prelude.{ℕ, ◌==◌, Bool, true, false, if◌then◌else◌, List, [], ◌∷◌, map, Option, None, Some, codes}
use Rattle.std.specs.declared.alloc.Global.{Global}
use Rattle.std.specs.declared.vec.Vec.{Vec}
use Rattle.nostr_filter.specs.declared.conditions.TagCondition.{TagCondition}

-- the letters that a condition may have, in the order of their codes
unfoldable pub letters : List ℕ
letters = codes "ABCDEFGHIJKLMNOPQRSTUVWXYZabcdefghijklmnopqrstuvwxyz"

-- the ys stand among the xs, in this order
abbrev pub stand_among : List ℕ → List ℕ → Bool
stand_among xs [] = true
stand_among [] (y ∷ ys) = false
stand_among (x ∷ xs) (y ∷ ys) = if x == y then stand_among xs ys else stand_among xs (y ∷ ys)

-- at most one condition for each letter, in the order of the letters
abbrev pub are_in_order : List TagCondition → Bool
are_in_order conditions = stand_among letters (map (λ c. c.letter) conditions)

-- the conditions of a list that may be missing
abbrev pub listed : Option (Vec TagCondition Global) → List TagCondition
listed None = []
listed (Some v) = v.items

-- `#x`
abbrev pub tag_name : ℕ → List ℕ
tag_name x = 35 ∷ x ∷ []

-- a field's name begins with `#`
abbrev pub begins_tag : List ℕ → Bool
begins_tag [] = false
begins_tag (c ∷ cs) = c == 35
