-- The relays that chains of single moves reach from the busiest ones.
use Rattle.std.specs.Prelude.{◌≡◌, ℕ, ◌<◌, Bool, true, List, length}
use Rattle.std.specs.List.{All}
use Rattle.item_key.specs.declared.Id.{Id}
use Rattle.sharing.specs.Sharing.{is_among, load, IsSharing, IsGreatest, Shows}

-- with a relay, each relay that offers an id which f takes to it
abbrev pub KeepsTo : (Id → ℕ) → List (Id × List ℕ) → (ℕ → Bool) → Type 0
KeepsTo f offers test = All (λ p. test (f p.0) ≡ true → (r : ℕ) → is_among p.1 r ≡ true → test r ≡ true) offers

-- the least set that has the busiest relays and, with a relay, every relay that offers an id which f takes to it
pub record IsReached (base : ℕ → ℕ) (f : Id → ℕ) (offers : List (Id × List ℕ)) (most : ℕ) (group : List ℕ) : Type 0 where
  pub busiest : (r : ℕ) → load base f offers r ≡ most → is_among group r ≡ true
  pub keeps : KeepsTo f offers (is_among group)
  pub least : (test : ℕ → Bool) → ((r : ℕ) → load base f offers r ≡ most → test r ≡ true) → KeepsTo f offers test → (r : ℕ) → is_among group r ≡ true → test r ≡ true

-- a sharing with this busiest load, which the group shows to be least; the group is what chains of moves reach
pub record IsLeast (base : ℕ → ℕ) (f : Id → ℕ) (offers : List (Id × List ℕ)) (most : ℕ) (group : List ℕ) : Type 0 where
  pub sharing : IsSharing f offers
  pub greatest : IsGreatest (load base f offers) most
  pub shows : Shows base group offers most
  pub reached : 0 < most → IsReached base f offers most group
  pub none : most ≡ 0 → length group ≡ 0
