use Rattle.std.proofs.Common.{true, ℕ, None, Vec, Global, ap, ◌∙◌}
use Rattle.std.specs.Ordering.{nat_cmp}
use Rattle.sharing.specs.Offers.{id_cmp}
use Rattle.plan_check.specs.Lines.{first_out, rises}
use Rattle.plan_check.proofs.Files.{misplaced_is, place_same}
use Rattle.plan_check.proofs.file.misplaced.Goals as goal

pub returns : goal.returns
returns c =
    let bs = c.args.bases.now in
    let os = c.args.offers.now in
    let gs = c.args.gives.now in
    let b = c.misplaced_base.ensures ∙ ap (first_out nat_cmp (λ b. b.0) (λ _. true) None 0) c.deref.ensures.value in
    let o = c.misplaced_offer.ensures.place ∙ ap (first_out id_cmp (λ o. o.0) (λ o. rises o.1.items) None 0) c.deref-2.ensures.value in
    let g = c.misplaced_give.ensures.place ∙ ap (first_out id_cmp (λ g. g.0) (λ _. true) None 0) c.deref-3.ensures.value in
    let r = c.do_rise.ensures ∙ ap rises c.deref-4.ensures.value in
    c.first_place.ensures ∙ place_same (c.len.ensures ∙ bs.ok.0) (c.len-2.ensures ∙ os.ok.0) (c.len-3.ensures ∙ gs.ok.0) b o g r
    ∙ misplaced_is (λ (v : Vec ℕ Global). v.items) bs.items os.items gs.items c.args.group.now.items
