-- Which stretches of the last ask are trusted for what a reply skips.
use Rattle.std.specs.Prelude.{◌≡◌, ◌⊎◌, ℕ, Bool, IsTrue, List, Contains, nat_lt, if◌then◌else◌}
use Rattle.item_key.specs.declared.Item.{Item}
use Rattle.item_key.specs.Keys.{place}
use Rattle.neg_codec.specs.Ranges.{print, skip, Span, Stretch, stretches, IsSkip}
use Rattle.item_roll.specs.Truth.{IsTrueOf, Meet}
use Rattle.neg_draft.specs.Coverage.{HasKeys}

-- a fingerprint of the last ask has a key in common with a Skip of the reply
pub record IsSkippedPrint (asked answered : List Span) (t : Stretch) : Type 0 where
  pub print_of : List ℕ
  pub claims : t.claim ≡ print print_of
  pub asks : Contains (stretches asked) t
  pub by : Stretch
  pub answers : Contains (stretches answered) by
  pub skips : IsSkip by
  pub meets : Meet by t

-- a fingerprint of the reply, of a stretch that isn't empty, is the own one
pub record IsOwnPrint (roll : List Item) (answered : List Span) (s : Stretch) : Type 0 where
  pub print_of : List ℕ
  pub claims : s.claim ≡ print print_of
  pub answers : Contains (stretches answered) s
  pub has_keys : HasKeys s
  pub holds : IsTrueOf roll s

abbrev pub bounds_of : Stretch → Item × Item
bounds_of s = (s.lower, s.upper)

-- trusted for a reply: what it skips of the prints asked, and its own prints
abbrev pub IsTrustedBy : List Item → List Span → List Span → Item × Item → Type 0
IsTrustedBy roll asked answered x = (s : Stretch) × (bounds_of s ≡ x) × (IsSkippedPrint asked answered s ⊎ IsOwnPrint roll answered s)

-- the stretch between two bounds
abbrev pub between : Item → Item → Stretch
between lower upper = record { lower = lower; upper = upper; claim = skip }

-- the earlier of two bounds
abbrev pub earlier : Item → Item → Item
earlier a b = if nat_lt (place a) (place b) then a else b

-- what of a stretch lies below a bound
abbrev pub below : Item → Stretch → Stretch
below until t = between t.lower (earlier until t.upper)

-- one of the stretches is a Skip that has a key in common with it
abbrev pub IsSkippedIn : List Stretch → Stretch → Type 0
IsSkippedIn ss t = (s : Stretch) × Contains ss s × IsSkip s × Meet s t

-- the bounds that are trusted once the reply was looked at, up to a bound, for these stretches of the last ask
pub record TrustsSkipped (asked answered : List Span) (until : Item) (looked : List Stretch) (old new : List (Item × Item)) : Type 0 where
  pub kept : (x : Item × Item) → Contains old x → Contains new x
  pub whole : (t : Stretch) (p : List ℕ) → Contains looked t → t.claim ≡ print p → IsSkippedIn (stretches answered) (below until t) → Contains new (bounds_of t)
  pub right : (x : Item × Item) → Contains new x → Contains old x ⊎ ((t : Stretch) × (bounds_of t ≡ x) × IsSkippedPrint asked answered t)

-- what one range of the last ask, begun at a bound, adds where it was met
pub record TrustsOne (met : Bool) (lower : Item) (r : Span) (old new : List (Item × Item)) : Type 0 where
  pub kept : (x : Item × Item) → Contains old x → Contains new x
  pub whole : IsTrue met → (p : List ℕ) → r.claim ≡ print p → Contains new (lower, r.upper)
  pub right : (x : Item × Item) → Contains new x → Contains old x ⊎ (IsTrue met × ((p : List ℕ) × (r.claim ≡ print p)) × ((lower, r.upper) ≡ x))
