use Rattle.std.proofs.Common.{◌≡◌, ◌++◌, [], refl, ap, sym, ◌∙◌, append_assoc, take-append-drop}
use Rattle.std.proofs.lemmas.Result.{on_ok_weaker}
use Rattle.hex.specs.Hex.{encode_lower, encode_with}
use Rattle.mirror_run.proofs.HexLemmas.{encode-append}
use Rattle.mirror_run.proofs.OutputLemmas.{Appends-nothing, Appends-both, Appends-same}
use Rattle.mirror_run.proofs.output.write_hex.Goals as goal

pub loop-rest-init : goal.loop-rest-init
unfolding encode_with
loop-rest-init g c = ([], refl, Appends-nothing _)

pub loop-rest-preserved : goal.loop-rest-preserved
loop-rest-preserved g c =
    let h = c.loop-rest.invariant in
    let rest = c.loop-rest.rest.now in
    let front = c.split_at.result.0.now in
    let after = c.split_at.result.1.now in
    let whole : rest ≡ front ++ after = rw (c.split_at.ensures.front, c.split_at.ensures.back) (sym (take-append-drop 32 rest)) in (
      h.0 ++ front,
      h.1 ∙ ap (λ t. h.0 ++ t) whole ∙ sym (append_assoc h.0 front after),
      Appends-same _ _ (encode_lower h.0 ++ encode_lower front) _ (sym (encode-append h.0 front)) (Appends-both _ _ _ _ _ h.2 c.in_ok-write_hex_block.ensures),
    )

pub returns : goal.returns
returns g c =
    let h = c.loop-rest.invariant in
    let rest = c.loop-rest.rest.now in
    on_ok_weaker c.write_hex_rest.result
    (λ last. Appends-same _ _ (encode_lower h.0 ++ encode_lower rest) _ (sym (encode-append h.0 rest) ∙ ap encode_lower (sym h.1)) (Appends-both _ _ _ _ _ h.2 last))
    c.write_hex_rest.ensures
