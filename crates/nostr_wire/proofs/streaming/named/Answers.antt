use Rattle.std.proofs.Common.{◌≡◌, ◌∙◌, true, subst, inr, arith}
use Rattle.std.proofs.lemmas.Grind.{common_steps}
use Rattle.serde_json.specs.View.{view}
use Rattle.nostr_wire.specs.Elements.{a_sub, has_type}
use Rattle.nostr_wire.specs.Stream.{Stand}
use Rattle.nostr_wire.proofs.Stands.{request_fault, request_kept}
use Rattle.nostr_wire.proofs.streaming.named.Goals as goal

pub returns-in-NoFilter-clause-err : goal.returns-in-NoFilter-clause-err
returns-in-NoFilter-clause-err c =
    let named : has_type a_sub (view c.args.first.now) ≡ true = grind (arith, common_steps, c.fits.ensures, c.if-not-fits.false) in
    inr (λ ds h. let known = subst (λ few. Stand c.args.most few ds) c.in-NoFilter.is h in request_fault (view c.args.first.now) ds c.in_ok-_sub-in-NoFilter._sub _ named c.in_ok-_sub-in-NoFilter.ensures.ok known.0 known.1)

pub returns-in-Ok-clause-ok : goal.returns-in-Ok-clause-ok
returns-in-Ok-clause-ok c ds h =
    let known = subst (λ few. Stand c.args.most few ds) c.in-Kept.is h in
    (known.0, c.in-Ok.ensures.made.0 ∙ known.1, request_kept c.args.most known.0 c.in-Kept.filters.items (view c.args.first.now) ds c.in_ok-sub_of-in-Ok.field-0 c.in-Ok.ensures.made.1 known.1 known.2 c.in_ok-sub_of-in-Ok.ensures.ok)
