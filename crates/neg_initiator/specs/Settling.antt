-- What the initiator does with one stretch of a reply.
use Rattle.std.specs.Prelude.{◌≡◌, ◌⊎◌, ℕ, List, Contains}
use Rattle.item_key.specs.declared.Id.{Id}
use Rattle.item_key.specs.declared.Item.{Item}
use Rattle.neg_codec.specs.Ranges.{Claim, skip, print, ids, Span, Lies}
use Rattle.neg_print.specs.Print.{print_of}
use Rattle.item_roll.specs.Parts.{part, ids_of}
use Rattle.item_roll.specs.Truth.{IsTrueOf}
use Rattle.neg_draft.specs.Coverage.{Written, HasKeys, begun_at, passed, Told}
use Rattle.neg_initiator.specs.Session.{IsAnswered}

-- what is found: needed ids, ids to offer, trusted stretches
pub record Findings : Type 0 where
  pub need : List Id
  pub have : List Id
  pub trusted : List (Item × Item)

-- what is owed to a stretch of the reply that isn't asked again: a fingerprint is the own one, and
-- trusted; of listed ids those that the own part lacks are needed, and the own ones not listed are there to offer
abbrev pub AccountsFor : List Item → Findings → Item → Item → Claim → Type 0
AccountsFor a f l u skip = Unit {0}
AccountsFor a f l u (print p) = (p ≡ print_of (ids_of (part a l u))) × Contains f.trusted (l, u)
AccountsFor a f l u (ids is) =
    ((i : Id) → Contains is i → (Contains (ids_of (part a l u)) i → ⊥) → Contains f.need i)
    × ((i : Id) → Contains (ids_of (part a l u)) i → (Contains is i → ⊥) → Contains f.have i)

-- what was found stays, and what is new is of the stretch, which isn't empty then
pub record Finds (a : List Item) (lower : Item) (r : Span) (old new : Findings) : Type 0 where
  pub need_kept : (i : Id) → Contains old.need i → Contains new.need i
  pub have_kept : (i : Id) → Contains old.have i → Contains new.have i
  pub trusted_kept : (x : Item × Item) → Contains old.trusted x → Contains new.trusted x
  pub need_new : (i : Id) → Contains new.need i → Contains old.need i ⊎ ((is : List Id) × (r.claim ≡ ids is) × Contains is i × (Contains (ids_of (part a lower r.upper)) i → ⊥) × HasKeys (begun_at lower r))
  pub have_new : (i : Id) → Contains new.have i → Contains old.have i ⊎ ((is : List Id) × (r.claim ≡ ids is) × Contains (ids_of (part a lower r.upper)) i × (Contains is i → ⊥) × HasKeys (begun_at lower r))
  pub trusted_new : (x : Item × Item) → Contains new.trusted x → Contains old.trusted x ⊎ (((p : List ℕ) × (r.claim ≡ print p)) × IsTrueOf a (begun_at lower r) × ((lower, r.upper) ≡ x) × HasKeys (begun_at lower r))

-- the stretch is passed over and accounted for
pub record Accounts (a : List Item) (lower : Item) (r : Span) (f : Findings) (old new : Written) : Type 0 where
  pub accounts : (k : Item) → Lies k (begun_at lower r) → AccountsFor a f lower r.upper r.claim
  pub now : new ≡ passed old r.upper

-- or the own part is told, as far as it fits, where the reply didn't answer
abbrev pub Settles : List Item → Item → Span → Findings → Written → Written → Type 0
Settles a lower r f old new = Accounts a lower r f old new ⊎ (Told a old r.upper new × (IsAnswered a (begun_at lower r) → ⊥) × HasKeys (begun_at lower r))
