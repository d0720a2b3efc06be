use Rattle.std.proofs.Common.{◌≡◌, ◌⊎◌, ◌<◌, List, length, map, inl, inr, refl, sym, subst, arith}
use Rattle.std.proofs.lemmas.List.{length-map}
use Rattle.std.proofs.lemmas.Result.{IfOk-weaker, IfErr-weaker}
use Rattle.toml.specs.View.{view, table_view, items_of}
use Rattle.toml.specs.declared.value.Value.{Value}
use Rattle.mirror_settings.specs.Relays.{AreRelays}
use Rattle.mirror_settings.proofs.Forms.{as_many_relays}
use Rattle.mirror_settings.proofs.Refusals.{has_relays, no_relays, stands}
use Rattle.mirror_settings.proofs.reading.relays_at.Goals as goal
use Rattle.mirror_settings.proofs.reading.relays_at.Goals.{then-count-eq0-via-then-count-eq0, then-count-eq0-via-else-count-eq0+then-count-gt256}

pub returns-then-count-eq0-clause-err : goal.returns-then-count-eq0-clause-err
returns-then-count-eq0-clause-err c =
    let vs = c.in-Some-as_array.values.now.items in
    let is = stands _ (view c.in-Some.value.now) (items_of (map view vs)) c.in-Some.ensures c.in-Some-as_array.ensures in
    let count : (length vs ≡ 0) ⊎ (256 < length vs) = elim c.then-count-eq0.branch [
      | then-count-eq0-via-then-count-eq0 w ↦ inl (omega arith)
      | then-count-eq0-via-else-count-eq0+then-count-gt256 w ↦ inr (omega arith)
    ] in
    λ mirror. inr (
      refl,
      no_relays c.args.sync mirror (table_view c.args.table.now) vs c.if-not-sync.false is
          (λ l low high is. omega (arith, count, low, high, as_many_relays (map view vs) l is, length-map vs view)),
    )

pub returns-clause-ok : goal.returns-clause-ok
returns-clause-ok c =
    let vs = c.in-Some-as_array.values.now.items in
    let is = stands _ (view c.in-Some.value.now) (items_of (map view vs)) c.in-Some.ensures c.in-Some-as_array.ensures in
    IfOk-weaker c.relays_in.result _ _ (λ l h.
    has_relays c.args.sync (table_view c.args.table.now) vs l c.if-not-sync.false is (omega arith) (omega arith)
    (subst (λ (ws : List Value). AreRelays (map view ws) l) c.as_slice.ensures.value h)) c.relays_in.ensures.ok

pub returns-clause-err : goal.returns-clause-err
returns-clause-err c =
    let vs = c.in-Some-as_array.values.now.items in
    let is = stands _ (view c.in-Some.value.now) (items_of (map view vs)) c.in-Some.ensures c.in-Some-as_array.ensures in
    IfErr-weaker c.relays_in.result _ _ (λ e h mirror. elim h [
      | inl memory ↦ inl memory
      | inr wrong ↦ inr (wrong.0, no_relays c.args.sync mirror (table_view c.args.table.now) vs c.if-not-sync.false is (λ l low high is. wrong.1 l (subst (λ (ws : List Value). AreRelays (map view ws) l) (sym c.as_slice.ensures.value) is)))
    ]) c.relays_in.ensures.err
