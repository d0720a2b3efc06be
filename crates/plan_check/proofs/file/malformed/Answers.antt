use Rattle.std.proofs.Common.{◌||◌, not, ℕ, Vec, Global, ap, ◌∙◌}
use Rattle.std.specs.Prelude.{nat_lt}
use Rattle.sharing.specs.declared.TheConstants.{RELAYS}
use Rattle.plan_check.specs.Lines.{first_at, is_base, is_empty, are_relays}
use Rattle.plan_check.proofs.Files.{malformed_is, place_same}
use Rattle.plan_check.proofs.file.malformed.Goals as goal

pub returns : goal.returns
returns c =
    let bs = c.args.bases.now in
    let os = c.args.offers.now in
    let gs = c.args.gives.now in
    let b = c.malformed_base.ensures ∙ ap (first_at (λ b. not (is_base b)) 0) c.deref.ensures.value in
    let o = c.malformed_offer.ensures.place ∙ ap (first_at (λ o. is_empty o.1.items || not (are_relays o.1.items)) 0) c.deref-2.ensures.value in
    let g = c.malformed_give.ensures.place ∙ ap (first_at (λ g. not (nat_lt g.1 RELAYS)) 0) c.deref-3.ensures.value in
    let r = c.are_all_relays.ensures ∙ ap are_relays c.deref-4.ensures.value in
    c.first_place.ensures ∙ place_same (c.len.ensures ∙ bs.ok.0) (c.len-2.ensures ∙ os.ok.0) (c.len-3.ensures ∙ gs.ok.0) b o g r
    ∙ malformed_is (λ (v : Vec ℕ Global). v.items) bs.items os.items gs.items c.args.group.now.items
