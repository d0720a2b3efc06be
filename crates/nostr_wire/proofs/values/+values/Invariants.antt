use Rattle.std.proofs.Common.{◌≡◌, ℕ, ◌+◌, ◌*◌, ◌≤◌, length}
use Rattle.json.specs.Json.{items, members, value, parse_map}
use Rattle.serde_json.specs.Data.{no_members}
use Rattle.serde_json.specs.Read.{of_items, of_members, converted}
use Rattle.serde_json.specs.View.{members_view}
use Rattle.nostr_wire.proofs.Grown.{items_before}
use Rattle.nostr_wire.proofs.values.+values.Given as goal

abbrev pub decreases-value_in : goal.decreases-value_in
decreases-value_in l = 2 * l.depth

abbrev pub decreases-items_in : goal.decreases-items_in
decreases-items_in l = 2 * l.depth + 1

abbrev pub decreases-members_in : goal.decreases-members_in
decreases-members_in l = 2 * l.depth + 1

abbrev pub invariant-items_in-items : goal.invariant-items_in-items
invariant-items_in-items l =
    (n : ℕ) × (length l.reader ≤ n)
    × (converted of_items (items (value l.depth) (length l.initial.reader) l.initial.reader) ≡ parse_map (items_before l.found.items) (converted of_items (items (value l.depth) n l.reader)))
    × (length l.reader ≤ length l.initial.reader)

abbrev pub decreases-items_in-items : goal.decreases-items_in-items
decreases-items_in-items l = length l.reader

abbrev pub invariant-members_in-members : goal.invariant-members_in-members
invariant-members_in-members l =
    (n : ℕ) × (length l.reader ≤ n)
    × (converted (λ ms. of_members ms no_members) (members (value l.depth) (length l.initial.reader) l.initial.reader) ≡ converted (λ ms. of_members ms (members_view l.found.entries)) (members (value l.depth) n l.reader))
    × (length l.reader ≤ length l.initial.reader)

abbrev pub decreases-members_in-members : goal.decreases-members_in-members
decreases-members_in-members l = length l.reader
