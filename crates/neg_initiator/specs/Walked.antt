-- How far a reply was read for the next ask, what was found there, and what that ask owes to it.
use Rattle.std.specs.Prelude.{◌≡◌, ◌<◌, ◌⊎◌, ℕ, List, [], All, Contains}
use Rattle.item_key.specs.declared.Id.{Id}
use Rattle.item_key.specs.declared.Item.{Item}
use Rattle.item_key.specs.Keys.{place, least, infinity, IsKey}
use Rattle.neg_codec.specs.Ranges.{Span, Stretch, stretches, Lies, Ascends}
use Rattle.item_roll.specs.Truth.{IsTrueOf}
use Rattle.item_roll.specs.Closed.{closed_from}
use Rattle.neg_draft.specs.Coverage.{Written, HasKeys, end_of, passed, Covers}
use Rattle.neg_initiator.specs.Listed.{IsListed, IsUnlisted}
use Rattle.neg_initiator.specs.Session.{IsAnswered, LeavesOpen}
use Rattle.neg_initiator.specs.Settling.{Findings, AccountsFor}
use Rattle.neg_initiator.specs.Trusting.{bounds_of, IsOwnPrint}

-- the keys of the stretch lie below a bound
abbrev pub IsBelow : Item → Stretch → Type 0
IsBelow until s = (j : Item) → IsKey j → Lies j s → place j < place until

-- a key that the next ask may leave out: its stretch of the reply was read and is accounted for
abbrev pub MayDrop : List Item → List Span → Item → Findings → Item → Type 0
MayDrop a answered until f k = (s : Stretch) × Contains (stretches answered) s × Lies k s × IsBelow until s × AccountsFor a f s.lower s.upper s.claim

-- and one that it must: its stretch was answered
abbrev pub MustDrop : List Item → List Span → Item → Type 0
MustDrop a answered k = (s : Stretch) × Contains (stretches answered) s × Lies k s × IsAnswered a s

-- what was found by the ranges of a reply
pub record Found (a : List Item) (answered : List Span) (old new : Findings) : Type 0 where
  pub need_kept : (i : Id) → Contains old.need i → Contains new.need i
  pub have_kept : (i : Id) → Contains old.have i → Contains new.have i
  pub trusted_kept : (x : Item × Item) → Contains old.trusted x → Contains new.trusted x
  pub need_new : (i : Id) → Contains new.need i → Contains old.need i ⊎ IsListed a answered i
  pub have_new : (i : Id) → Contains new.have i → Contains old.have i ⊎ IsUnlisted a answered i
  pub trusted_new : (x : Item × Item) → Contains new.trusted x → Contains old.trusted x ⊎ ((s : Stretch) × (bounds_of s ≡ x) × IsOwnPrint a answered s)

-- the stretch is empty, or was answered
abbrev pub IsOver : List Item → Stretch → Type 0
IsOver a s = HasKeys s → IsAnswered a s

-- Nothing is asked, and all ranges read so far are over; or the reply left something open.
abbrev pub Remains : List Item → List Span → List Span → Written → Type 0
Remains a answered front d =
    ((d.spans ≡ []) × (place d.end ≡ place (end_of least front)) × All (IsOver a) (closed_from least front))
    ⊎ (((d.spans ≡ []) → ⊥) × LeavesOpen a answered)

-- The reply was read up to a bound: to its end, or up to where the next ask was cut.
pub record IsRead (limit : ℕ) (a : List Item) (answered : List Span) (old new : Findings) (until : Item) (d : Written) : Type 0 where
  pub ascends : Ascends least answered
  pub bytes : d.limit ≡ limit
  pub found : Found a answered old new
  pub covers : Covers (IsTrueOf a) (MayDrop a answered until new) (MustDrop a answered) (passed d infinity)
  pub leaves : ((d.spans ≡ []) × (LeavesOpen a answered → ⊥)) ⊎ (((d.spans ≡ []) → ⊥) × LeavesOpen a answered)
