use Rattle.std.proofs.Common.{◌≡◌, ◌∙◌, None, Some, inr, map, refl, sym, ap, arith}
use Rattle.std.proofs.lemmas.List.{take_all}
use Rattle.serde_json.specs.View.{view}
use Rattle.nostr_filter.specs.FilterJson.{kind_of}
use Rattle.nostr_filter.proofs.Items.{each_more, each_none, each_some}
use Rattle.nostr_filter.proofs.fields.kinds_in.Goals as goal

pub loop-value-preserved : goal.loop-value-preserved
loop-value-preserved c =
    let v = c.value-item.result in
    let here : kind_of (view v) ≡ Some c.in-Some.kind = sym (rw c.in-Some.is at c.kind_at.ensures) in
    rw c.in_ok-push.ensures.items (each_more kind_of c.args.values.now c.loop-value.value-index v c.loop-value.kinds.items c.in-Some.kind c.loop-value-test.true c.value-item.is c.loop-value.invariant here)

pub returns-in_default-clause-err : goal.returns-in_default-clause-err
returns-in_default-clause-err c =
    let none : kind_of (view c.value-item.result) ≡ None = sym (rw c.in_default.is at c.kind_at.ensures) in
    inr (refl, each_none kind_of c.args.values.now c.loop-value.value-index c.value-item.result (omega arith) (rw (← c.value-item.is) none))

pub returns-clause-ok : goal.returns-clause-ok
returns-clause-ok c =
    let whole = take_all c.loop-value.value-index c.args.values.now (omega arith) in
    let all : map (λ v. kind_of (view v)) c.args.values.now ≡ map Some c.loop-value.kinds.items = ap (map (λ v. kind_of (view v))) (sym whole) ∙ c.loop-value.invariant in
    each_some kind_of c.args.values.now c.loop-value.kinds.items all ∙ ap Some (sym c.in_ok-searchable.ensures)
