use Rattle.std.proofs.Common.{◌≡◌, take, length, List, ℕ}
use Rattle.nostr_filter.specs.Members.{is_at, has_text}
use Rattle.nostr_filter.proofs.members.places_to.Given as goal

abbrev pub invariant-loop-place : goal.invariant-loop-place
invariant-loop-place l = (texts : List (List ℕ)) → length texts ≡ l.count → (text : List ℕ) → is_at texts l.places.items text ≡ has_text (take l.place texts) text
