use Rattle.std.proofs.Common.{◌≡◌, ◌+◌, ◌∷◌, drop, sym, ap, subst, ◌∙◌}
use Rattle.std.proofs.lemmas.List.{drop_more}
use Rattle.newest.specs.Newest.{IsNewestFirst, hits}
use Rattle.newest.proofs.Ranks.{sorted_drop}
use Rattle.newest.proofs.Parts.{rest_none, rest_slice}
use Rattle.newest.proofs.rests.from_match.Goals as goal

pub returns-then-is_too_early-clause-rest : goal.returns-then-is_too_early-clause-rest
returns-then-is_too_early-clause-rest c =
    let i = c.loop-at.at in
    let ps = c.args.entries.now in
    let e = c.index-entries-at.result in
    let here : drop i ps ≡ e ∷ drop (i + 1) ps = drop_more ps i e c.loop-at-test.true ∙ ap (λ x. x ∷ drop (i + 1) ps) (sym c.index-entries-at.is) in
    rest_none c.args.filter.now ps i c.loop-at.invariant
    (ap (hits c.args.filter.now) here ∙ c.is_too_early.ensures (drop (i + 1) ps) (subst IsNewestFirst here (sorted_drop i ps c.requires)) c.if-is_too_early.true)

pub returns-then-matches-clause-rest : goal.returns-then-matches-clause-rest
returns-then-matches-clause-rest c = rest_slice c.args.filter.now c.args.entries.now c.loop-at.at c.requires c.loop-at.invariant
