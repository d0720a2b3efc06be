use Rattle.std.proofs.Common.{rules, ◌≡◌, ◌+◌, ◌*◌, ◌<◌, map, get_or, take, take_all, slice_index, refl, ap, sym, ◌∙◌, arith}
use Rattle.std.proofs.lemmas.List.{take_more_set, get_or-map, length-map}
use Rattle.std.proofs.lemmas.List.Elements.{All-push, All-nil, All-get_or}
use Rattle.hex.specs.Hex.{encode_lower, encode_with, lower_digits}
use Rattle.id_text.proofs.HexLemmas.{encode_more}
use Rattle.id_text.proofs.parsing.id_of.Goals as goal

pub loop-i-init : goal.loop-i-init
unfolding encode_with
loop-i-init c = record { len = refl; bytes = All-nil (λ b. b < 256); digits = refl }

pub loop-i-preserved : goal.loop-i-preserved
loop-i-preserved c =
    let values = c.args.values.now in
    let i = c.loop-i.i in
    let b = c.byte_of.result in
    let digit = slice_index lower_digits in
    let high : get_or values (2 * i) 0 < 16 = All-get_or (λ v. v < 16) values (2 * i) 0 (omega arith) c.requires in
    let low : get_or values (2 * i + 1) 0 < 16 = All-get_or (λ v. v < 16) values (2 * i + 1) 0 (omega arith) c.requires in
    record {
      len = search rules;
      bytes = rw (take_more_set c.loop-i.id i b (omega (arith, c.loop-i.invariant.len))) (All-push (λ b. b < 256) (take i c.loop-i.id) b c.loop-i.invariant.bytes (omega arith));
      digits = encode_more (map digit values) c.loop-i.id i b (omega (arith, c.loop-i.invariant.len)) (omega (arith, length-map values digit))
          (get_or-map digit values (2 * i) 0 0 (omega arith) ∙ ap digit (sym (c.byte_of.ensures.high high low)))
          (get_or-map digit values (2 * i + 1) 0 0 (omega arith) ∙ ap digit (sym (c.byte_of.ensures.low high low)))
          c.loop-i.invariant.digits;
    }

pub returns-clause-digits : goal.returns-clause-digits
returns-clause-digits c =
    let all = map (slice_index lower_digits) c.args.values.now in
    sym (take_all (2 * c.loop-i.i) all (omega (arith, length-map c.args.values.now (slice_index lower_digits)))) ∙ c.loop-i.invariant.digits
    ∙ ap encode_lower (take_all c.loop-i.i c.loop-i.id (omega (arith, c.loop-i.invariant.len)))

pub returns-clause-id : goal.returns-clause-id
returns-clause-id c =
    let id : take c.loop-i.i c.loop-i.id ≡ c.loop-i.id = take_all c.loop-i.i c.loop-i.id (omega (arith, c.loop-i.invariant.len)) in
    record { len = c.loop-i.invariant.len; bytes = rw id at c.loop-i.invariant.bytes }
