use Rattle.std.proofs.Common.{◌≡◌, ◌+◌, ◌++◌, ◌∙◌, [], ◌∷◌, take, inl, inr, get_or, refl, sym, ap, subst, arith}
use Rattle.std.proofs.lemmas.List.{take_more}
use Rattle.std.proofs.lemmas.Result.{err_from_is_err_and}
use Rattle.serde_json.specs.View.{view}
use Rattle.nostr_wire.specs.Elements.{a_filter, SaysNo}
use Rattle.nostr_wire.proofs.Few.{kept_none, kept_with}
use Rattle.nostr_wire.proofs.Several.{fault_at, fits_all, one_more, same_here, same_behind}
use Rattle.nostr_wire.proofs.reading.filters_of.Goals as goal

pub returns-in_err-filter_of-clause-err : goal.returns-in_err-filter_of-clause-err
returns-in_err-filter_of-clause-err c =
    let p = err_from_is_err_and c.from_residual.result c.from_residual.ensures.1 in
    let i = c.loop-value.value-index in
    let v = c.value-item.result in
    let here = same_here c.args.values.now c.loop-value.values i v c.loop-value.invariant.3 in
    rw (p.1, p.2) (elim c.in_err-filter_of.ensures.err [
      | inl memory ↦ inl memory
      | inr none ↦ inr (inr (fits_all c.args.values.now ∙ c.requires, fault_at c.loop-value.invariant.0 c.args.values.now i v _ (omega arith) c.loop-value.invariant.2 (subst (λ u. SaysNo a_filter (view u)) here none.0) none.1))
    ])

pub loop-value-preserved : goal.loop-value-preserved
loop-value-preserved c =
    let i = c.loop-value.value-index in
    let v = c.value-item.result in
    let here = same_here c.args.values.now c.loop-value.values i v c.loop-value.invariant.3 in
    let whole : take (i + 1) c.args.values.now ≡ take i c.args.values.now ++ get_or c.loop-value.values i v ∷ [] = take_more c.args.values.now i v (omega arith) ∙ ap (λ u. take i c.args.values.now ++ u ∷ []) (sym here) in
    let so_far = c.loop-value.invariant in
    let f = c.in_ok-filter_of.field-0 in (
      so_far.0 ++ f ∷ [],
      c.in_ok-put_filter.ensures ∙ kept_with c.args.most so_far.0 c.loop-value.filters.items f so_far.1,
      rw whole (one_more so_far.0 (take i c.args.values.now) f _ so_far.2 c.in_ok-filter_of.ensures.ok),
      same_behind c.args.values.now c.loop-value.values i _ so_far.3,
    )

pub loop-value-init : goal.loop-value-init
loop-value-init c = ([], c.new-filters.ensures.items ∙ sym (kept_none c.args.most), (refl, tt), refl)
