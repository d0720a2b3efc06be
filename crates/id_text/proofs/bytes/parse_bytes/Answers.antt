use Rattle.std.proofs.Common.{◌≡◌, ◌<◌, [], ◌∷◌, ◌++◌, length, take, drop, refl, ap, sym, ◌∙◌, arith}
use Rattle.std.proofs.lemmas.List.{append-nil, nil_from_length}
use Rattle.std.proofs.lemmas.Bool.{eqb-true, eqb-false}
use Rattle.std.proofs.lemmas.List.Elements.{All-take, All-drop}
use Rattle.hex.specs.Hex.{encode_lower, encode_with}
use Rattle.id_text.proofs.HexLemmas.{block_more, left_told, front_told, half_as_many, one_byte}
use Rattle.id_text.proofs.bytes.parse_bytes.Goals as goal

pub loop-rest-init : goal.loop-rest-init
unfolding encode_with
loop-rest-init c = rw (c.in_ok-bytes.ensures.items) refl

pub returns-in_default-clause-none : goal.returns-in_default-clause-none
returns-in_default-clause-none c = λ bytes small same.
    let left = drop (length c.loop-rest.bytes.items) bytes in
    let told = front_told c.loop-rest.rest.now left 32 (left_told c.args.text.now c.loop-rest.bytes.items c.loop-rest.rest.now bytes c.loop-rest.invariant same) in
    let front = c.split_at.ensures.front ∙ told in
    let len : length (take 32 left) ≡ 32 = omega (arith, half_as_many c.split_at.result.0.now (take 32 left) front, c.split_at.ensures.front_len) in
    c.in_default.ensures.none (record { 0 = take 32 left }) (record { len = len; bytes = All-take (λ b. b < 256) 32 left (All-drop (λ b. b < 256) (length c.loop-rest.bytes.items) bytes small) }) front

pub loop-rest-smaller : goal.loop-rest-smaller
loop-rest-smaller c = omega (arith, c.split_at.ensures.back_len, c.loop-rest-test.true)

pub loop-rest-preserved : goal.loop-rest-preserved
loop-rest-preserved c =
    rw (c.in_ok-extend_from_slice.ensures.items, c.split_at.ensures.back)
    (block_more c.args.text.now c.loop-rest.bytes.items c.loop-rest.rest.now c.in-Some.block.0 64 c.loop-rest.invariant (sym c.split_at.ensures.front ∙ c.in-Some.ensures.found))

pub loop-rest-2-init : goal.loop-rest-2-init
loop-rest-2-init c = c.loop-rest.invariant

pub returns-in_default-pair_byte-clause-none : goal.returns-in_default-pair_byte-clause-none
returns-in_default-pair_byte-clause-none c = λ bytes small same.
    let pair = c.split_at-in-loop-rest-2 in
    let left = drop (length c.loop-rest-2.bytes.items) bytes in
    let told = front_told c.loop-rest-2.rest.now left 1 (left_told c.args.text.now c.loop-rest-2.bytes.items c.loop-rest-2.rest.now bytes c.loop-rest-2.invariant same) in
    let front = pair.ensures.front ∙ told in
    let len : length (take 1 left) ≡ 1 = omega (arith, half_as_many pair.result.0.now (take 1 left) front, pair.ensures.front_len) in
    let one = one_byte (take 1 left) len (All-take (λ b. b < 256) 1 left (All-drop (λ b. b < 256) (length c.loop-rest-2.bytes.items) bytes small)) in
    c.in_default-pair_byte.ensures.none one.0 one.1 (front ∙ ap encode_lower one.2)

pub loop-rest-2-smaller : goal.loop-rest-2-smaller
loop-rest-2-smaller c = omega (arith, c.split_at-in-loop-rest-2.ensures.back_len, c.loop-rest-2-test.true)

pub loop-rest-2-preserved : goal.loop-rest-2-preserved
loop-rest-2-preserved c =
    let pair = c.split_at-in-loop-rest-2 in
    rw (c.in_ok-push.ensures.items, pair.ensures.back)
    (block_more c.args.text.now c.loop-rest-2.bytes.items c.loop-rest-2.rest.now (c.in-Some-pair_byte.byte ∷ []) 2 c.loop-rest-2.invariant (sym pair.ensures.front ∙ c.in-Some-pair_byte.ensures.found))

pub returns-then-is_empty-clause-found : goal.returns-then-is_empty-clause-found
returns-then-is_empty-clause-found c =
    let none : c.loop-rest-2.rest.now ≡ [] = nil_from_length c.loop-rest-2.rest.now (eqb-true (length c.loop-rest-2.rest.now) 0 (sym c.is_empty.ensures ∙ c.if-is_empty.true)) in
    c.loop-rest-2.invariant ∙ ap (λ t. encode_lower c.loop-rest-2.bytes.items ++ t) none ∙ append-nil (encode_lower c.loop-rest-2.bytes.items)

pub returns-clause-none : goal.returns-clause-none
returns-clause-none c = λ bytes small same.
    let left = drop (length c.loop-rest-2.bytes.items) bytes in
    let told = left_told c.args.text.now c.loop-rest-2.bytes.items c.loop-rest-2.rest.now bytes c.loop-rest-2.invariant same in
    eqb-false (length c.loop-rest-2.rest.now) 0 (sym c.is_empty.ensures ∙ c.if-is_empty.false) (omega (arith, half_as_many c.loop-rest-2.rest.now left told, c.loop-rest-2-test.false))
