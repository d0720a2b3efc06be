use Rattle.std.proofs.Common.{inl, inr, arith}
use Rattle.std.proofs.lemmas.Result.{err_from_is_err_and}
use Rattle.toml.specs.View.{view}
use Rattle.mirror_settings.specs.declared.relay.Relay.{Relay}
use Rattle.mirror_settings.specs.Relays.{IsRelay}
use Rattle.mirror_settings.proofs.Forms.{and_a_relay, no_relay_at}
use Rattle.mirror_settings.proofs.values.relays_in.Goals as goal

pub loop-value-preserved : goal.loop-value-preserved
loop-value-preserved c =
    rw c.in_ok-push.ensures.items (and_a_relay c.args.values.now c.loop-value.value-index c.value-item.result c.loop-value.relays.items c.in_ok-relay.relay (omega arith) c.loop-value.invariant
    (rw (← c.value-item.is) c.in_ok-relay.ensures.ok))

pub returns-in_err-relay-clause-err : goal.returns-in_err-relay-clause-err
returns-in_err-relay-clause-err c =
    let p = err_from_is_err_and c.from_residual.result c.from_residual.ensures.1 in
    rw (p.1, p.2) (elim c.in_err-relay.ensures.err [
      | inl memory ↦ inl memory
      | inr h ↦
          (let none : (r : Relay) → ¬ IsRelay (view c.value-item.result) r = h.1 in
          inr (h.0, no_relay_at c.args.values.now c.loop-value.value-index c.value-item.result (omega arith) (rw (← c.value-item.is) none)))
    ])
