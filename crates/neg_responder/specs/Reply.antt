-- What a reply owes to the question beside following the roll.
use Rattle.std.specs.Prelude.{◌≡◌, ◌⊎◌, ℕ, List, [], ◌∷◌, length, All, Contains}
use Rattle.item_key.specs.declared.Item.{Item}
use Rattle.item_key.specs.Keys.{place, least, IsKey}
use Rattle.neg_codec.specs.Ranges.{Claim, skip, print, ids, Span, Stretch, stretches, Lies, IsSkip}
use Rattle.neg_codec.specs.Text.{Spells}
use Rattle.neg_codec.specs.declared.CodecFault.{CodecFault}
use Rattle.neg_codec.specs.declared.CodecFault.TheVariants as codec
use Rattle.item_roll.specs.Closed.{closed_from}
use Rattle.item_roll.specs.Parts.{part, ids_of, count_below}
use Rattle.item_roll.specs.Splits.{split_of}
use Rattle.item_roll.specs.Truth.{IsTrueOf, Follows}
use Rattle.neg_draft.specs.Coverage.{Written, begun_at, passed, told_more, HasKeys, NoneEmpty, SkipsJoined, Told, Cut, IsSkippedAt, IsCutAt}

-- the stretch is a Skip, or a fingerprint that is the roll's own
abbrev pub IsSame : List Item → Stretch → Type 0
IsSame roll t = IsSkip t ⊎ ((p : List ℕ) × (t.claim ≡ print p) × IsTrueOf roll t)

-- each key of such a stretch lies in a Skip of the reply, which has so many bytes, or where it was cut
abbrev pub SkipsSame : ℕ → ℕ → List Item → List Span → List Span → Type 0
SkipsSame limit size roll asked answered =
    (t : Stretch) (k : Item) → Contains (stretches asked) t → IsSame roll t → IsKey k → Lies k t → IsSkippedAt answered k ⊎ IsCutAt limit size answered k

-- what tells of another stretch: a split where it is a fingerprint, and the roll's ids where it lists some
abbrev pub told_at : List Item → Item → Item → Claim → List Span
told_at roll lower upper skip = []
told_at roll lower upper (print p) = split_of roll (count_below roll lower) (count_below roll upper) upper
told_at roll lower upper (ids is) = record { upper = upper; claim = ids (ids_of (part roll lower upper)) } ∷ []

-- these ranges stand in the reply, begun at the stretch's lower bound (or at one of the same place)
abbrev pub IsToldIn : List Item → List Span → Stretch → Type 0
IsToldIn roll answered t = (lower : Item) × (place lower ≡ place t.lower) × All (Contains (closed_from least answered)) (closed_from lower (told_at roll lower t.upper t.claim))

-- each other stretch with keys is told so in the reply, which has so many bytes, or that was cut at its upper bound or before
abbrev pub TellsOthers : ℕ → ℕ → List Item → List Span → List Span → Type 0
TellsOthers limit size roll asked answered =
    (t : Stretch) → Contains (closed_from least asked) t → HasKeys t → (IsSame roll t → ⊥) → IsToldIn roll answered t ⊎ IsCutAt limit size answered t.upper

-- A reply to the question, which has so many bytes: it follows the roll; it skips what is the same, and tells the rest by splits and
-- lists of ids, but for where it was cut at the limit; it has no empty range, and no Skip where none is needed.
pub record IsReply (limit size : ℕ) (roll : List Item) (asked answered : List Span) : Type 0 where
  pub follows : Follows roll asked answered
  pub skips_same : SkipsSame limit size roll asked answered
  pub tells_others : TellsOthers limit size roll asked answered
  pub none_empty : NoneEmpty answered
  pub skips_joined : SkipsJoined answered

-- the answer in bytes is such a reply
abbrev pub Replies : ℕ → List Item → List Span → List ℕ → Type 0
Replies limit roll asked answer = (answered : List Span) × Spells answer answered × IsReply limit (length answer) roll asked answered

-- the draft goes past the range, which is true of the roll (one that is empty speaks of no key)
pub record PassesOver (roll : List Item) (old : Written) (r : Span) (new : Written) : Type 0 where
  pub holds : (k : Item) → Lies k (begun_at old.end r) → IsTrueOf roll (begun_at old.end r)
  pub same : (k : Item) → Lies k (begun_at old.end r) → IsSame roll (begun_at old.end r)
  pub now : new ≡ passed old r.upper

-- The draft after a range of the question: it goes past what is true of the roll, or it tells what the
-- roll has there, as far as it fits, unless that is a Skip or an own fingerprint.
abbrev pub Responds : List Item → Written → Span → Written → Type 0
Responds roll old r new =
    PassesOver roll old r new
    ⊎ (Told roll old r.upper new × (IsSame roll (begun_at old.end r) → ⊥)
    × ((new ≡ told_more old r.upper (told_at roll old.end r.upper r.claim)) ⊎ Cut roll old r.upper new))

-- The reader's fault refuses the query. Another version is answered, and want of memory is no fault of
-- the query.
abbrev pub RefusesQuery : CodecFault → Type 0
RefusesQuery (codec.Version b) = ⊥
RefusesQuery codec.Memory = ⊥
RefusesQuery _ = Unit {0}
