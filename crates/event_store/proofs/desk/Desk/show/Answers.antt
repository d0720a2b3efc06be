use Rattle.std.proofs.Common.{rules, ◌≡◌, ℕ, List, length, Option, Some, None, ap, sym, subst}
use Rattle.std.specs.Prelude.{option_map}
use Rattle.nostr_event.specs.EventView.{EventView}
use Rattle.event_store.specs.History.{IsLevel}
use Rattle.event_store.proofs.desk.Desk.show.Goals as goal

-- as many were added as are told
level_told : (old head : Option ℕ) (list told : List EventView) → head ≡ option_map (λ _. length told) old → list ≡ told → IsLevel head list
level_told None head list told counted same = subst (λ h. IsLevel h list) (sym counted) tt
level_told (Some n) head list told counted same = subst (λ h. IsLevel h list) (sym counted) (ap length (sym same))

pub invariant_of-self-in-Ok : goal.invariant_of-self-in-Ok
invariant_of-self-in-Ok g c =
    (search rules, search rules, search rules, search rules, level_told _ _ _ _ c.if-not-add_from.ensures.head (search rules))
