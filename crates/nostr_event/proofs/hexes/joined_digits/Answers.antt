use Rattle.std.proofs.Common.{◌++◌, ℕ, List, replicate, refl, ap, ap₂, ◌∙◌, length}
use Rattle.nostr_event.proofs.Halves.{second_part}
use Rattle.nostr_event.proofs.hexes.joined_digits.Goals as goal

pub returns : goal.returns
returns c =
    let first = c.copy_from_slice in
    let second = c.copy_from_slice-2 in
    second_part 64 64 first.new.self (replicate 64 0) second.new.self (ap length first.ensures.after ∙ c.told-first) refl
    ∙ ap₂ (λ (a b : List ℕ). a ++ b) first.ensures.after second.ensures.after
