-- Which ids a reply adds to those found: what it lists of a stretch, against what the own roll has there.
use Rattle.std.specs.Prelude.{◌≡◌, ◌<◌, ◌⊎◌, ℕ, List, [], ◌∷◌, length, Contains}
use Rattle.item_key.specs.declared.Id.{Id}
use Rattle.item_key.specs.declared.Item.{Item}
use Rattle.item_key.specs.Keys.{IsKey}
use Rattle.neg_codec.specs.Ranges.{ids, Span, Stretch, stretches, Lies}
use Rattle.item_roll.specs.Parts.{part, ids_of}
use Rattle.neg_draft.specs.Coverage.{HasKeys}

-- the reply lists the id in a stretch, which isn't empty, where the own roll lacks it
abbrev pub IsListed : List Item → List Span → Id → Type 0
IsListed a answered i = (s : Stretch) × (is : List Id) × Contains (stretches answered) s × (s.claim ≡ ids is) × Contains is i × (Contains (ids_of (part a s.lower s.upper)) i → ⊥) × HasKeys s

-- the reply lists the id in a stretch where the own roll lacks it, and which has a key that is so
abbrev pub IsListedWhere : (Item → Type 0) → List Item → List Span → Id → Type 0
IsListedWhere P a answered i = (s : Stretch) × (is : List Id) × (k : Item) × Contains (stretches answered) s × (s.claim ≡ ids is) × Contains is i × (Contains (ids_of (part a s.lower s.upper)) i → ⊥) × IsKey k × Lies k s × P k

-- the own roll has the id in a stretch, which isn't empty, where the reply doesn't list it
abbrev pub IsUnlisted : List Item → List Span → Id → Type 0
IsUnlisted a answered i = (s : Stretch) × (is : List Id) × Contains (stretches answered) s × (s.claim ≡ ids is) × Contains (ids_of (part a s.lower s.upper)) i × (Contains is i → ⊥) × HasKeys s

-- the own roll has the id in a stretch where the reply doesn't list it, and which has a key that is so
abbrev pub IsUnlistedWhere : (Item → Type 0) → List Item → List Span → Id → Type 0
IsUnlistedWhere P a answered i = (s : Stretch) × (is : List Id) × (k : Item) × Contains (stretches answered) s × (s.claim ≡ ids is) × Contains (ids_of (part a s.lower s.upper)) i × (Contains is i → ⊥) × IsKey k × Lies k s × P k

-- nothing stands twice
abbrev pub Distinct : {X : Type 0} → List X → Type 0
Distinct [] = Unit {0}
Distinct (x ∷ xs) = (Contains xs x → ⊥) × Distinct xs

-- more ids than may be needed: found needed before, or listed by the reply
pub record PassesMost (a : List Item) (answered : List Span) (need : List Id) (most : ℕ) : Type 0 where
  pub ids : List Id
  pub distinct : Distinct ids
  pub more : most < length ids
  pub each : (i : Id) → Contains ids i → Contains need i ⊎ IsListed a answered i
