use Rattle.std.proofs.Common.{◌<◌, ◌^◌, ◌∙◌, get_or, refl, sym, ap, arith}
use Rattle.std.proofs.lemmas.List.{take_all}
use Rattle.std.proofs.lemmas.List.Elements.{All-nil, All-same, All-more}
use Rattle.serde_json.specs.Data.{number, unsigned}
use Rattle.nostr_filter.proofs.Viewed.{viewed_more, viewed_all}
use Rattle.nostr_filter.proofs.writing.kinds_value.Goals as goal

pub loop-kind-init : goal.loop-kind-init
loop-kind-init c = record {
  values = rw c.new-values.ensures.items refl;
  fits = All-nil (λ k. k < 2 ^ 16);
}

pub loop-kind-preserved : goal.loop-kind-preserved
loop-kind-preserved c =
    let items = c.as_slice-kind-items.result.now in
    let i = c.loop-kind.kind-index in
    let fits : get_or items i 0 < 2 ^ 16 = omega (arith, c.type_inv.kind-items i) in
    let here = c.from-in-loop-kind.ensures ∙ ap (λ k. number (unsigned k)) c.from.ensures in
    record {
      values = rw c.in_ok-push.ensures.items (viewed_more (λ k. number (unsigned k)) items i 0 c.loop-kind.values.items _ c.loop-kind-test.true c.loop-kind.invariant.values here);
      fits = All-more (λ k. k < 2 ^ 16) items i 0 c.loop-kind-test.true c.loop-kind.invariant.fits fits;
    }

pub returns : goal.returns
returns c =
    let items = c.as_slice-kind-items.result.now in
    let i = c.loop-kind.kind-index in
    let whole = take_all i items c.loop-kind-test.false ∙ c.as_slice-kind-items.ensures in
    record {
      value = viewed_all (λ k. number (unsigned k)) items _ i c.loop-kind.values c.loop-kind-test.false c.loop-kind.invariant.values c.as_slice-kind-items.ensures;
      fits = All-same (λ k. k < 2 ^ 16) _ _ (sym whole) c.loop-kind.invariant.fits;
    }
