-- A message that is written from front to back, and what its ranges say as far as it has come.
use Rattle.std.specs.Prelude.{◌≡◌, ◌<◌, ◌≤◌, ◌+◌, ◌⊎◌, ℕ, List, [], ◌∷◌, ◌++◌, length, All, Contains, nat_lt, if◌then◌else◌}
use Rattle.item_key.specs.declared.Item.{Item}
use Rattle.item_key.specs.Keys.{place, least, infinity, IsKey}
use Rattle.neg_codec.specs.Ranges.{skip, print, Span, Stretch, stretches, Lies, IsSkip, Ascends}
use Rattle.neg_codec.specs.Encoding.{text_of}
use Rattle.item_roll.specs.Truth.{IsTrueOf}
use Rattle.item_roll.specs.Closed.{closed_from, IsTold}

-- ranges, the bound up to which the message has come, between which nothing is said of the keys, and
-- how many bytes it may have
pub record Written : Type 0 where
  pub limit : ℕ
  pub spans : List Span
  pub end : Item

-- the stretch of a range that begins at a bound
abbrev pub begun_at : Item → Span → Stretch
begun_at lower r = record { lower = lower; upper = r.upper; claim = r.claim }

-- a Skip of the message has the key
abbrev pub IsSkippedAt : List Span → Item → Type 0
IsSkippedAt spans k = (s : Stretch) × Contains (stretches spans) s × IsSkip s × Lies k s

-- where ranges end
abbrev pub end_of : Item → List Span → Item
end_of lower [] = lower
end_of lower (r ∷ rs) = end_of r.upper rs

-- the Skip that is due before ranges that don't begin where those before them end
abbrev pub gap : Item → Item → List Span
gap lower upper = if nat_lt (place lower) (place upper) then record { upper = upper; claim = skip } ∷ [] else []

-- the stretch isn't empty
abbrev pub HasKeys : Stretch → Type 0
HasKeys s = place s.lower < place s.upper

-- no range is empty: each ends above where it begins
abbrev pub NoneEmpty : List Span → Type 0
NoneEmpty spans = All HasKeys (closed_from least spans)

-- the ranges begin with one that tells something
abbrev pub BeginsTold : List Span → Type 0
BeginsTold [] = ⊥
BeginsTold (r ∷ rs) = IsTold r

-- Behind each Skip stands a range that tells something: no two Skips are neighbours, and the last range isn't one (Negentropy protocol
-- V1, "Skip").
abbrev pub SkipsJoined : List Span → Type 0
SkipsJoined [] = Unit {0}
SkipsJoined (r ∷ rs) = (r.claim ≡ skip → BeginsTold rs) × SkipsJoined rs

-- one of the ranges is no Skip
abbrev pub IsOpen : List Span → Type 0
IsOpen spans = (s : Stretch) × Contains (closed_from least spans) s × (IsSkip s → ⊥)

-- The ranges stand in order, none of them is empty, their Skips are joined, and they end no higher than the message has
-- come. Unless there is none, one of them is no Skip. They are no longer than the limit, and leave room for two short ranges where keys
-- are left.
pub record IsDraft (d : Written) : Type 0 where
  pub ascends : Ascends least d.spans
  pub none_empty : NoneEmpty d.spans
  pub skips_joined : SkipsJoined d.spans
  pub within : (end_of least d.spans ≡ d.end) ⊎ (place (end_of least d.spans) < place d.end)
  pub low : place d.end ≤ place infinity
  pub open_unless_blank : (d.spans ≡ []) ⊎ IsOpen d.spans
  pub fits : length (text_of d.spans) ≤ d.limit
  pub room : place d.end < place infinity → length (text_of d.spans) + 64 ≤ d.limit

-- the key lies in a Skip of the ranges, or above them
abbrev pub IsLeftOut : List Span → Item → Type 0
IsLeftOut spans k = ((s : Stretch) × Contains (closed_from least spans) s × IsSkip s × Lies k s) ⊎ (place (end_of least spans) ≤ place k)

-- one fingerprint of all that is left
abbrev pub all_left : List ℕ → List Span
all_left p = record { upper = infinity; claim = print p } ∷ []

-- The message was cut, for it has nearly as many bytes as it may: its last range is one fingerprint up
-- to infinity, and the key lies there.
pub record IsCutAt (limit size : ℕ) (spans : List Span) (k : Item) : Type 0 where
  pub front : List Span
  pub left : List ℕ
  pub ends : spans ≡ front ++ all_left left
  pub has : place (end_of least front) ≤ place k
  pub full : limit ≤ size + 256

-- The ranges say only what is true; of the keys so far only those are left out that may be, and those
-- that must be are, or lie where the message was cut.
pub record Covers (Holds : Stretch → Type 0) (MayDrop MustDrop : Item → Type 0) (d : Written) : Type 0 where
  pub told : All Holds (closed_from least d.spans)
  pub may : (k : Item) → IsKey k → place k < place d.end → IsLeftOut d.spans k → MayDrop k
  pub must : (k : Item) → IsKey k → place k < place d.end → MustDrop k → IsLeftOut d.spans k ⊎ IsCutAt d.limit (length (text_of d.spans)) d.spans k

-- the draft after keys of which it says nothing
abbrev pub passed : Written → Item → Written
passed d upper = record { limit = d.limit; spans = d.spans; end = if nat_lt (place d.end) (place upper) then upper else d.end }

-- the draft after ranges that begin where it has come to
abbrev pub told_more : Written → Item → List Span → Written
told_more d upper spans = record { limit = d.limit; spans = d.spans ++ (gap (end_of least d.spans) d.end ++ spans); end = upper }

-- ranges that may be written at a bound: in order from there, and each has keys and says something of them
pub record Tells (lower upper : Item) (spans : List Span) : Type 0 where
  pub ascends : Ascends lower spans
  pub ends : end_of lower spans ≡ upper
  pub some : (spans ≡ []) → ⊥
  pub none_skipped : All (λ s. IsSkip s → ⊥) (closed_from lower spans)
  pub none_empty : All HasKeys (closed_from lower spans)

-- the draft tells what is true of a roll, from where it has come to up to a bound
pub record Whole (roll : List Item) (old : Written) (upper : Item) (new : Written) : Type 0 where
  pub finite : place old.end < place infinity
  pub spans : List Span
  pub tells : Tells old.end upper spans
  pub holds : All (IsTrueOf roll) (closed_from old.end spans)
  pub now : new ≡ told_more old upper spans

-- It tells no more than that, and then all that the roll has left by one fingerprint up to infinity: it has
-- nearly as many bytes as it may.
pub record Cut (roll : List Item) (old : Written) (upper : Item) (new : Written) : Type 0 where
  pub finite : place old.end < place infinity
  pub front : List Span
  pub left : List ℕ
  pub tells : Tells old.end infinity (front ++ all_left left)
  pub holds : All (IsTrueOf roll) (closed_from old.end (front ++ all_left left))
  pub less : place (end_of old.end front) ≤ place upper
  pub now : new ≡ told_more old infinity (front ++ all_left left)
  pub full : old.limit ≤ length (text_of new.spans) + 256

-- the draft tells what is true of a roll up to a bound, or as much of it as fits
abbrev pub Told : List Item → Written → Item → Written → Type 0
Told roll old upper new = Whole roll old upper new ⊎ Cut roll old upper new

-- At most so many bytes stand before the payload of the next range: those written, and 48 for the bound,
-- the mode and the count of each range to come.
abbrev pub before_payload : Written → ℕ
before_payload d = length (text_of d.spans) + 48 + (if nat_lt (place (end_of least d.spans)) (place d.end) then 48 else 0)

-- the range tells a fingerprint
abbrev pub IsPrint : Span → Type 0
IsPrint r = (p : List ℕ) × (r.claim ≡ print p)
