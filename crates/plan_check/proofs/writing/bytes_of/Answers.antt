use Rattle.std.proofs.Common.{◌≡◌, ◌++◌, ℕ, List, flat_map, ap, ◌∙◌, subst, All}
use Rattle.item_key.specs.declared.Id.{Id}
use Rattle.item_key.specs.Keys.{IsId}
use Rattle.plan_check.specs.TextLines.{ended}
use Rattle.plan_check.specs.PlanText.{header_line, plan_text}
use Rattle.plan_check.proofs.FormLemmas.{based, offered, given, grouped}
use Rattle.plan_check.proofs.WriteLemmas.{whole_text, written_is, ids_of}
use Rattle.plan_check.proofs.writing.bytes_of.Goals as goal

pub returns : goal.returns
returns c =
    let file = c.args.file.now in
    let is : c.put_group.new.text.items ≡ plan_text file =
    whole_text file _ _ _ _ _
    (c.in_ok-put_header.ensures ∙ ap (λ t. t ++ ended (header_line c.bases.result.now)) c.new-bytes.ensures.items ∙ ap (λ (bs : List (ℕ × ℕ)). ended (header_line bs)) c.bases.ensures.value)
    (c.in_ok-put_bases.ensures ∙ ap (λ (bs : List (ℕ × ℕ)). c.put_header.new.text.items ++ flat_map based bs) c.bases-2.ensures.value)
    (c.in_ok-put_offers.ensures.written ∙ ap (λ (os : List (Id × List ℕ)). c.put_bases.new.text.items ++ flat_map offered os) c.offers.ensures.value)
    (c.in_ok-put_gives.ensures.written ∙ ap (λ (gs : List (Id × ℕ)). c.put_offers.new.text.items ++ flat_map given gs) c.gives.ensures.value)
    (c.in_ok-put_group.ensures ∙ ap (λ (rs : List ℕ). c.put_gives.new.text.items ++ grouped rs) c.group.ensures.value) in
    written_is c.put_group.new.text.items file c.offers.ensures.file
    (subst (All (λ (o : Id × List ℕ). IsId o.0)) c.offers.ensures.value (ids_of c.offers.result.now c.in_ok-put_offers.ensures.ids))
    (subst (All (λ (g : Id × ℕ). IsId g.0)) c.gives.ensures.value c.in_ok-put_gives.ensures.ids)
    is
