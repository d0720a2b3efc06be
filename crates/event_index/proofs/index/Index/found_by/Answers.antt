use Rattle.std.proofs.Common.{ℕ, ◌<◌, List, subst, sym, ap}
use Rattle.std.specs.Prelude.{All, Contains}
use Rattle.event_index.proofs.Sifting.{hold_common}
use Rattle.event_index.proofs.index.Index.found_by.Goals as goal

pub returns : goal.returns
returns c f events of covers holds =
    let counted = ap (λ x. x.count) c.self.view_is in
    hold_common f events c.args.self.now.count c.args.places.now c.in_ok-others.others.items c.in_ok-both.both.items covers.counted holds (c.in_ok-others.ensures f events of covers)
    (subst (λ (n : ℕ). All (λ p. p < n) c.in_ok-both.both.items) counted c.in_ok-both.ensures.below)
    (λ i lt first last. c.in_ok-both.ensures.whole i (subst (λ (n : ℕ). i < n) (sym counted) lt) first
    (subst (λ (ps : List ℕ). Contains ps i) (sym c.as_slice.ensures.value) last))
