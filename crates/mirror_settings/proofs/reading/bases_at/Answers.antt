use Rattle.std.proofs.Common.{◌∙◌, length, map, inl, inr, refl, ap, arith}
use Rattle.std.proofs.lemmas.List.{length-map}
use Rattle.std.proofs.lemmas.Result.{IfErr-weaker}
use Rattle.toml.specs.View.{view, table_view, items_of}
use Rattle.mirror_settings.specs.Settings.{whole_data}
use Rattle.mirror_settings.proofs.Refusals.{no_bases, stands}
use Rattle.mirror_settings.proofs.reading.bases_at.Goals as goal

pub returns-then-len-count-clause-err : goal.returns-then-len-count-clause-err
returns-then-len-count-clause-err c =
    let vs = c.in-Some-as_array.values.now.items in
    let is = stands _ (view c.in-Some.value.now) (items_of (map view vs)) c.in-Some.ensures c.in-Some-as_array.ensures in
    inr (
      refl,
      no_bases c.args.sync (table_view c.args.table.now) c.args.count vs c.if-not-sync.false is
          (λ l all long same. omega (arith, long, c.len.ensures, c.if-len-count.true, ap length same, length-map vs view, length-map l whole_data)),
    )

pub returns-clause-err : goal.returns-clause-err
returns-clause-err c =
    let vs = c.in-Some-as_array.values.now.items in
    let is = stands _ (view c.in-Some.value.now) (items_of (map view vs)) c.in-Some.ensures c.in-Some-as_array.ensures in
    IfErr-weaker c.loads_in.result _ _ (λ e h. elim h [
      | inl memory ↦ inl memory
      | inr wrong ↦ inr (wrong.0, no_bases c.args.sync (table_view c.args.table.now) c.args.count vs c.if-not-sync.false is (λ l all long same. wrong.1 l all (ap (map view) c.as_slice.ensures.value ∙ same)))
    ]) c.loads_in.ensures.err
