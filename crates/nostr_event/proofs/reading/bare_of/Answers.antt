use Rattle.std.proofs.Common.{◌≡◌, true, nat_lt, refl, codes, rules}
use Rattle.std.proofs.lemmas.Result.{err_from_is_err_and}
use Rattle.serde_json.specs.View.{view}
use Rattle.nostr_event.proofs.FieldTests.{shapes_pass, not_hex_at, hex_at}
use Rattle.nostr_event.proofs.reading.bare_of.Goals as goal

pub returns-in_err-id-clause-err : goal.returns-in_err-id-clause-err
returns-in_err-id-clause-err c =
    let p = err_from_is_err_and c.from_residual-in_err-id.result c.from_residual-in_err-id.ensures.1 in
    let h = c.in_ok-shapes.ensures.ok in
    rw (p.1, p.2, c.in_err-id.ensures.err.0) (shapes_pass (view c.args.value.now) _ h, not_hex_at (codes "id") 32 (view c.args.value.now) _ h.id c.in_err-id.ensures.err.1)

pub returns-in_err-pubkey-clause-err : goal.returns-in_err-pubkey-clause-err
returns-in_err-pubkey-clause-err c =
    let p = err_from_is_err_and c.from_residual-in_err-pubkey.result c.from_residual-in_err-pubkey.ensures.1 in
    let h = c.in_ok-shapes.ensures.ok in
    let i = c.in_ok-id.ensures.ok in
    rw (p.1, p.2, c.in_err-pubkey.ensures.err.0)
    (shapes_pass (view c.args.value.now) _ h, (hex_at (codes "id") 32 (view c.args.value.now) _ _ h.id i.0 i.1, not_hex_at (codes "pubkey") 32 (view c.args.value.now) _ h.pubkey c.in_err-pubkey.ensures.err.1))

pub returns-in_err-sig-clause-err : goal.returns-in_err-sig-clause-err
returns-in_err-sig-clause-err c =
    let p = err_from_is_err_and c.from_residual-in_err-sig.result c.from_residual-in_err-sig.ensures.1 in
    let h = c.in_ok-shapes.ensures.ok in
    let i = c.in_ok-id.ensures.ok in
    let k = c.in_ok-pubkey.ensures.ok in
    rw (p.1, p.2, c.in_err-sig.ensures.err.0)
    (shapes_pass (view c.args.value.now) _ h, (hex_at (codes "id") 32 (view c.args.value.now) _ _ h.id i.0 i.1, hex_at (codes "pubkey") 32 (view c.args.value.now) _ _ h.pubkey k.0 k.1, not_hex_at (codes "sig") 64 (view c.args.value.now) _ h.sig c.in_err-sig.ensures.err.1))

pub returns-in_err-created_at-clause-err : goal.returns-in_err-created_at-clause-err
returns-in_err-created_at-clause-err c =
    let p = err_from_is_err_and c.from_residual-in_err-created_at.result c.from_residual-in_err-created_at.ensures.1 in
    let h = c.in_ok-shapes.ensures.ok in
    let i = c.in_ok-id.ensures.ok in
    let k = c.in_ok-pubkey.ensures.ok in
    let s = c.in_ok-sig.ensures.ok in
    rw (p.1, p.2, c.in_err-created_at.ensures.err.0) (
      shapes_pass (view c.args.value.now) _ h,
      (hex_at (codes "id") 32 (view c.args.value.now) _ _ h.id i.0 i.1, hex_at (codes "pubkey") 32 (view c.args.value.now) _ _ h.pubkey k.0 k.1, hex_at (codes "sig") 64 (view c.args.value.now) _ _ h.sig s.0 s.1),
      rw (h.created_at, c.in_err-created_at.ensures.err.1) refl,
    )

pub returns-in_err-kind-clause-err : goal.returns-in_err-kind-clause-err
returns-in_err-kind-clause-err c =
    let p = err_from_is_err_and c.from_residual-in_err-kind.result c.from_residual-in_err-kind.ensures.1 in
    let h = c.in_ok-shapes.ensures.ok in
    let i = c.in_ok-id.ensures.ok in
    let k = c.in_ok-pubkey.ensures.ok in
    let s = c.in_ok-sig.ensures.ok in
    let t = c.in_ok-created_at.ensures.ok in
    let early : nat_lt c.in_ok-created_at.created_at 18446744073709551615 ≡ true = search rules in
    rw (p.1, p.2, c.in_err-kind.ensures.err.0) (
      shapes_pass (view c.args.value.now) _ h,
      (hex_at (codes "id") 32 (view c.args.value.now) _ _ h.id i.0 i.1, hex_at (codes "pubkey") 32 (view c.args.value.now) _ _ h.pubkey k.0 k.1, hex_at (codes "sig") 64 (view c.args.value.now) _ _ h.sig s.0 s.1),
      rw (h.created_at, t.0, early, h.kind, c.in_err-kind.ensures.err.1) refl,
    )

pub returns-clause-passes : goal.returns-clause-passes
returns-clause-passes c =
    let h = c.in_ok-shapes.ensures.ok in
    let i = c.in_ok-id.ensures.ok in
    let k = c.in_ok-pubkey.ensures.ok in
    let s = c.in_ok-sig.ensures.ok in
    let t = c.in_ok-created_at.ensures.ok in
    let n = c.in_ok-kind.ensures.ok in
    let early : nat_lt c.in_ok-created_at.created_at 18446744073709551615 ≡ true = search rules in
    let low : nat_lt c.in_ok-kind.kind 65536 ≡ true = search rules in (
      shapes_pass (view c.args.value.now) _ h,
      (hex_at (codes "id") 32 (view c.args.value.now) _ _ h.id i.0 i.1, hex_at (codes "pubkey") 32 (view c.args.value.now) _ _ h.pubkey k.0 k.1, hex_at (codes "sig") 64 (view c.args.value.now) _ _ h.sig s.0 s.1),
      rw (h.created_at, t.0, early, h.kind, n.0, low) refl,
    )
