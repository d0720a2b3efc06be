use Rattle.std.proofs.Common.{◌≡◌, true, inl, inr, rules}
use Rattle.std.proofs.lemmas.Result.{err_from_is_err_and}
use Rattle.serde_json.specs.View.{view}
use Rattle.nostr_wire.specs.Elements.{has_type}
use Rattle.nostr_wire.proofs.Arrays.{third_refused}
use Rattle.nostr_wire.proofs.reading.three.Goals as goal

pub returns-in_err-third-clause-err : goal.returns-in_err-third-clause-err
returns-in_err-third-clause-err g c =
    let p = err_from_is_err_and c.from_residual-in_err-third.result c.from_residual-in_err-third.ensures.1 in
    let ta : has_type g.A.Element.part (view c.result-item.result) ≡ true = search rules in
    let tb : has_type g.B.Element.part (view c.result-item-2.result) ≡ true = search rules in
    let tc : has_type g.C.Element.part (view c.result-item-3.result) ≡ true = search rules in
    rw (p.1, p.2) (elim c.in_err-third.ensures.err [
      | inl memory ↦ inl memory
      | inr none ↦ inr (third_refused c.args.rest.now c.result-item.result c.result-item-2.result c.result-item-3.result _ _ _ _ _ _ c.in-len3-up.len_at_least c.result-item.is c.result-item-2.is c.result-item-3.is
          ta tb tc c.in_ok-first.ensures.ok c.in_ok-second.ensures.ok none)
    ])
