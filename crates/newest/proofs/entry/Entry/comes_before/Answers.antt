use Rattle.std.proofs.Common.{◌≡◌, ◌∙◌, ℕ, is_lt, sym, ap, ap₂}
use Rattle.std.specs.Ordering.{nat_cmp, ordering_then}
use Rattle.std.specs.Cmp.Lexicographic.{slice_cmp}
use Rattle.std.specs.declared.cmp.Ordering.{Ordering}
use Rattle.std.specs.declared.cmp.Ordering.TheVariants.{Less, Greater}
use Rattle.nostr_event.specs.EventView.{EventView}
use Rattle.nostr_filter.specs.Choice.{rank_of}
use Rattle.newest.specs.Newest.{rank, comes_before}
use Rattle.newest.proofs.entry.Entry.comes_before.Goals as goal

abbrev time_of : ℕ × EventView → ℕ
time_of p = p.1.draft.created_at

-- what the times that are kept say of the order
by_times : (o : Ordering) (p q : ℕ × EventView) (s t : ℕ) → s ≡ time_of p → t ≡ time_of q → nat_cmp t s ≡ o
    → is_lt (ordering_then o (ordering_then (slice_cmp nat_cmp p.1.id.0 q.1.id.0) (nat_cmp p.0 q.0))) ≡ comes_before (rank p) (rank q)
unfolding rank_of
by_times o p q s t first second is =
    ap (λ x. is_lt (ordering_then x (ordering_then (slice_cmp nat_cmp p.1.id.0 q.1.id.0) (nat_cmp p.0 q.0)))) (sym is ∙ ap₂ nat_cmp second first)

pub returns-in-Less : goal.returns-in-Less
returns-in-Less c =
    by_times Less c.args.self.now c.args.other.now c.self.inside.time c.other.inside.time (c.self.invariant.0 ∙ ap time_of c.self.view_is) (c.other.invariant.0 ∙ ap time_of c.other.view_is)
    (sym c.cmp.ensures ∙ c.in-Less.is)

pub returns-in-Greater : goal.returns-in-Greater
returns-in-Greater c =
    by_times Greater c.args.self.now c.args.other.now c.self.inside.time c.other.inside.time (c.self.invariant.0 ∙ ap time_of c.self.view_is) (c.other.invariant.0 ∙ ap time_of c.other.view_is)
    (sym c.cmp.ensures ∙ c.in-Greater.is)
