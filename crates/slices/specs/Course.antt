-- Times that are gone over slice by slice, from the newest to the oldest.
use Rattle.std.specs.Prelude.{◌≡◌, ℕ, ◌+◌, ◌-◌, ◌*◌, ◌/◌, ◌^◌, ◌<◌, ◌≤◌, min, max, Bool, true, false, ◌&&◌, nat_lt, nat_le, if◌then◌else◌, List, [], ◌∷◌, ◌++◌, Option, None, Some, IfSome, All, count_by}
use Rattle.slices.specs.declared.times.Slice.{Slice}
use Rattle.slices.specs.declared.times.Ending.{Ending}
use Rattle.slices.specs.declared.times.Ending.TheVariants.{Taken, GivenUp}

-- ---- what is gone over

-- slices that have ended, in their order, each beside what became of it
abbrev pub Gone : Type 0
Gone = List (Slice × Ending)

-- whether a time lies in a slice
abbrev pub holds : ℕ → Slice → Bool
holds t s = nat_le s.since t && nat_le t s.until

-- in how many slices a time lies
abbrev pub held_in : Gone → ℕ → ℕ
held_in gone t = count_by (λ g. holds t g.0) gone

-- each slice is earlier than those that stand before it
abbrev pub Descend : Gone → Type 0
Descend [] = Unit {0}
Descend (g ∷ gone) = All (λ h. h.0.until < g.0.since) gone × Descend gone

-- Each of these times lies in exactly one of the slices. Each slice has at least one of them and no others, and they are in order.
pub record AreGoneOver (since until : ℕ) (gone : Gone) : Type 0 where
  pub once : (t : ℕ) → since ≤ t → t ≤ until → held_in gone t ≡ 1
  pub within : All (λ g. (since ≤ g.0.since) × (g.0.since ≤ g.0.until) × (g.0.until ≤ until)) gone
  pub ordered : Descend gone

-- ---- how many of them ended how

abbrev pub was_taken : Ending → Bool
was_taken Taken = true
was_taken GivenUp = false

abbrev pub was_given_up : Ending → Bool
was_given_up Taken = false
was_given_up GivenUp = true

abbrev pub is_taken : Slice × Ending → Bool
is_taken g = was_taken g.1

abbrev pub is_given_up : Slice × Ending → Bool
is_given_up g = was_given_up g.1

-- a number, or the greatest one of 64 bits
abbrev pub capped : ℕ → ℕ
capped n = min n (2 ^ 64 - 1)

-- ---- where it stands

pub record Course : Type 0 where
  -- all times, from the first to the last
  pub since : ℕ
  pub until : ℕ
  -- the slice to take, until none is left
  pub next : Option Slice
  -- when the slice begins that was halved last
  pub bound : ℕ
  pub gone : Gone

-- the first of the times that are gone over
abbrev pub first_gone : ℕ → Option Slice → ℕ
first_gone since None = since
first_gone since (Some s) = s.until + 1

-- What is later than the slice to take is gone over. Without one, all is.
pub record UnderWay (c : Course) : Type 0 where
  pub gone : AreGoneOver (first_gone c.since c.next) c.until c.gone
  pub next : IfSome c.next (λ s. (c.since ≤ s.since) × (s.since ≤ s.until) × (s.until ≤ c.until))
  pub bound : c.since ≤ c.bound
  pub fits : c.until < 2 ^ 64

-- the same, beside how many slices were taken and given up
pub record Stands (c : Course) (well up : ℕ) : Type 0 where
  pub under_way : UnderWay c
  pub taken : well ≡ capped (count_by is_taken c.gone)
  pub given_up : up ≡ capped (count_by is_given_up c.gone)

-- nothing is gone over: all times are one slice, if there are any
abbrev pub begun : ℕ → ℕ → Course
begun since until = record {
  since = since;
  until = until;
  next = (if nat_le since until then Some (record { since = since; until = until }) else None);
  bound = since;
  gone = [];
}

-- ---- halves

-- whether a slice has more than a second
abbrev pub is_wide : Option Slice → Bool
is_wide None = false
is_wide (Some s) = nat_lt s.since s.until

-- the last time of a slice's older part: this one, where it leaves a newer part too, else the middle
abbrev pub cut_of : ℕ → Slice → ℕ
cut_of at s = if nat_le s.since at && nat_lt at s.until then at else s.since + (s.until - s.since) / 2

abbrev pub halved_at : ℕ → Course → Option Slice → Course
halved_at at c None = c
halved_at at c (Some s) =
    if nat_lt s.since s.until then record c { next = Some (record { since = cut_of at s + 1; until = s.until }); bound = s.since } else c

-- the slice's newer part is to take
abbrev pub halved : ℕ → Course → Course
halved at c = halved_at at c c.next

-- ---- what is behind a slice

-- The slice behind one, of the times from the first on: it ends a second before that one begins, and is twice as wide, as far as
-- there are times, or as far as back to the bound, where that is earlier.
abbrev pub slice_behind : ℕ → ℕ → Slice → Option Slice
slice_behind first bound s =
    if nat_le s.since first then None
    else Some (record { since = max (s.since - 1 - (2 * (s.until - s.since) + 1)) (if nat_le bound (s.since - 1) then bound else first); until = s.since - 1 })

abbrev pub ended_at : Ending → Course → Option Slice → Course
ended_at how c None = c
ended_at how c (Some s) = record c { next = slice_behind c.since c.bound s; gone = c.gone ++ (s, how) ∷ [] }

-- the slice to take ended so
abbrev pub ended : Ending → Course → Course
ended how c = ended_at how c c.next

-- ---- what is left

abbrev pub work_in : ℕ → Option Slice → ℕ
work_in since None = 0
work_in since (Some s) = (s.until - since + 1) * 2 ^ 65 + (s.until - s.since)

-- A measure of what is left to take: it falls wherever a slice is halved or ends.
abbrev pub work_left : Course → ℕ
work_left c = work_in c.since c.next
