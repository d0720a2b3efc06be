-- The text of a file that is planned is that file's text.
use Rattle.std.proofs.Common.{◌≡◌, ℕ, List, map, refl, ap, sym, ◌∙◌, subst}
use Rattle.std.specs.List.{All}
use Rattle.std.proofs.lemmas.List.Elements.{All-map}
use Rattle.item_key.specs.declared.Id.{Id}
use Rattle.item_key.specs.Keys.{IsId}
use Rattle.sharing.proofs.Orders.{All-unmap}
use Rattle.plan_check.specs.File.{File, IsBase, IsFile}
use Rattle.plan_check.specs.PlanText.{plan_text, IsOffer, IsOfForm, IsTextOf}
use Rattle.plan_run.specs.Planned.{IsPlannedFrom}

-- the ids that are given are those that were read
given_ids : (read made : File) → IsOfForm read → IsPlannedFrom read made → All (λ g. IsId g.0) made.gives
given_ids read made form planned =
    let ids : map (λ g. g.0) made.gives ≡ map (λ o. o.0) read.offers = planned.passes.shared.ids ∙ ap (map (λ (o : Id × List ℕ). o.0)) planned.offers in
    All-unmap IsId (λ (g : Id × ℕ). g.0) made.gives
    (subst (All IsId) (sym ids) (All-map IsId (λ (o : Id × List ℕ). o.0) read.offers (λ k d lt. (form.offers k d lt).id)))

form_of : (read made : File) → IsOfForm read → IsPlannedFrom read made → IsFile made → IsOfForm made
form_of read made form planned ok = record {
  bases = subst (All IsBase) (sym planned.bases) form.bases;
  offers = subst (All IsOffer) (sym planned.offers) form.offers;
  gives = λ k d lt. record { id = given_ids read made form planned k d lt; relay = ok.relays k d lt };
  group = ok.group_ok.small;
}

pub spelled_from : (read made : File) → IsOfForm read → IsPlannedFrom read made → IsFile made → IsTextOf (plan_text made) made
spelled_from read made form planned ok = record { form = form_of read made form planned ok; ordered = ok; is = refl }
