use Rattle.std.proofs.Common.{◌≡◌, ◌<◌, ◌∙◌, ◌∷◌, [], length, Some, None, Err, true≢false, codes, refl, sym, ap, subst, inl, inr, arith}
use Rattle.std.proofs.lemmas.Result.{err_from_is_err_and}
use Rattle.json.specs.Json.{after_end_array, value}
use Rattle.json.specs.Lex.{tokens}
use Rattle.json.specs.Token.{begin_array}
use Rattle.serde_json.specs.Find.{as_str}
use Rattle.serde_json.specs.Read.{of_json, converted}
use Rattle.serde_json.specs.View.{view}
use Rattle.nostr_wire.specs.Stream.{Gives}
use Rattle.nostr_wire.proofs.Requests.{some_token, no_token, request_refused_by, request_heard}
use Rattle.nostr_wire.proofs.Streams.{one_gives, one_gives_none, refused_gives_none, none_read, more_behind, array_read}
use Rattle.nostr_wire.proofs.streaming.request_text.Goals as goal

pub returns-in_err-name-clause-err : goal.returns-in_err-name-clause-err
returns-in_err-name-clause-err c =
    let p = err_from_is_err_and c.from_residual.result c.from_residual.ensures.1 in
    let ts = c.begins_array.new.reader in
    let opened : tokens c.args.text.now ≡ begin_array ∷ ts = sym c.in-Ok.ensures.ok ∙ c.begins_array.ensures (grind arith) in
    let going : after_end_array ts ≡ None = grind arith in
    let stood : c.take_end_array.new.self ≡ ts = grind arith in
    rw (p.1, p.2) (elim c.in_err-name.ensures.either [
      | inl memory ↦ inl memory
      | inr json ↦ inr (inl (json, none_read c.args.text.now ts opened (refused_gives_none ts going (rw (← stood) (c.value_in.ensures.err (c.in_err-name.was ∙ ap Err json))))))
    ])

pub returns-in_err-first-clause-err : goal.returns-in_err-first-clause-err
returns-in_err-first-clause-err c =
    let p = err_from_is_err_and c.from_residual-in_err-first.result c.from_residual-in_err-first.ensures.1 in
    let ts = c.begins_array.new.reader in
    let opened : tokens c.args.text.now ≡ begin_array ∷ ts = sym c.in-Ok.ensures.ok ∙ c.begins_array.ensures (grind arith) in
    let going : after_end_array ts ≡ None = grind arith in
    let stood : c.take_end_array.new.self ≡ ts = grind arith in
    let us = c.value_in.new.reader in
    let n = view c.in_ok-name.name in
    let found : converted of_json (value 126 ts) ≡ Some (n, us) = rw (← stood) c.in_ok-name.ensures.ok in
    let less : length us < length ts = rw (← stood) c.in_ok-name.ensures.shorter in
    let going-2 : after_end_array us ≡ None = grind arith in
    let stood-2 : c.take_end_array-else-not-is_request.new.self ≡ us = grind arith in
    rw (p.1, p.2) (elim c.in_err-first.ensures.either [
      | inl memory ↦ inl memory
      | inr json ↦ inr (inl (json, none_read c.args.text.now ts opened (one_gives_none ts us n going found less (refused_gives_none us going-2 (rw (← stood-2) (c.value_in-2.ensures.err (c.in_err-first.was ∙ ap Err json)))))))
    ])

pub returns-in_err-few-clause-err : goal.returns-in_err-few-clause-err
returns-in_err-few-clause-err c =
    let p = err_from_is_err_and c.from_residual-in_err-few.result c.from_residual-in_err-few.ensures.1 in
    let ts = c.begins_array.new.reader in
    let opened : tokens c.args.text.now ≡ begin_array ∷ ts = sym c.in-Ok.ensures.ok ∙ c.begins_array.ensures (grind arith) in
    let going : after_end_array ts ≡ None = grind arith in
    let stood : c.take_end_array.new.self ≡ ts = grind arith in
    let us = c.value_in.new.reader in
    let n = view c.in_ok-name.name in
    let found : converted of_json (value 126 ts) ≡ Some (n, us) = rw (← stood) c.in_ok-name.ensures.ok in
    let less : length us < length ts = rw (← stood) c.in_ok-name.ensures.shorter in
    let going-2 : after_end_array us ≡ None = grind arith in
    let stood-2 : c.take_end_array-else-not-is_request.new.self ≡ us = grind arith in
    let vs = c.value_in-2.new.reader in
    let s = view c.in_ok-first.first in
    let found-2 : converted of_json (value 126 us) ≡ Some (s, vs) = rw (← stood-2) c.in_ok-first.ensures.ok in
    let less-2 : length vs < length us = rw (← stood-2) c.in_ok-first.ensures.shorter in
    rw (p.1, p.2) (elim c.in_err-few.ensures.err [
      | inl memory ↦ inl memory
      | inr json ↦ inr (inl (json.0, none_read c.args.text.now ts opened (one_gives_none ts us n going found less (one_gives_none us vs s going-2 found-2 less-2 json.1))))
    ])

pub returns-then-is_some-clause-err : goal.returns-then-is_some-clause-err
returns-then-is_some-clause-err c =
    let ts = c.begins_array.new.reader in
    let opened : tokens c.args.text.now ≡ begin_array ∷ ts = sym c.in-Ok.ensures.ok ∙ c.begins_array.ensures (grind arith) in
    let going : after_end_array ts ≡ None = grind arith in
    let stood : c.take_end_array.new.self ≡ ts = grind arith in
    let us = c.value_in.new.reader in
    let n = view c.in_ok-name.name in
    let found : converted of_json (value 126 ts) ≡ Some (n, us) = rw (← stood) c.in_ok-name.ensures.ok in
    let less : length us < length ts = rw (← stood) c.in_ok-name.ensures.shorter in
    let going-2 : after_end_array us ≡ None = grind arith in
    let stood-2 : c.take_end_array-else-not-is_request.new.self ≡ us = grind arith in
    let vs = c.value_in-2.new.reader in
    let s = view c.in_ok-first.first in
    let found-2 : converted of_json (value 126 us) ≡ Some (s, vs) = rw (← stood-2) c.in_ok-first.ensures.ok in
    let less-2 : length vs < length us = rw (← stood-2) c.in_ok-first.ensures.shorter in
    let known = c.in_ok-few.ensures.ok in
    let gives : Gives ts (n ∷ s ∷ known.0) c.filters_in.new.reader = one_gives ts us n going found less (s ∷ known.0) c.filters_in.new.reader (one_gives us vs s going-2 found-2 less-2 known.0 c.filters_in.new.reader known.2) in
    let more = some_token _ _ c.next.result (sym c.is_some.ensures ∙ c.if-is_some.true) c.next.ensures.value in
    inr (inl (refl, more_behind c.args.text.now ts (n ∷ s ∷ known.0) more.0 _ opened (subst (λ rest. Gives ts (n ∷ s ∷ known.0) rest) more.1 gives)))

pub returns-in_err-sub-clause-err : goal.returns-in_err-sub-clause-err
returns-in_err-sub-clause-err c =
    let p = err_from_is_err_and c.from_residual-in_err-sub.result c.from_residual-in_err-sub.ensures.1 in
    let ts = c.begins_array.new.reader in
    let opened : tokens c.args.text.now ≡ begin_array ∷ ts = sym c.in-Ok.ensures.ok ∙ c.begins_array.ensures (grind arith) in
    let going : after_end_array ts ≡ None = grind arith in
    let stood : c.take_end_array.new.self ≡ ts = grind arith in
    let us = c.value_in.new.reader in
    let n = view c.in_ok-name.name in
    let found : converted of_json (value 126 ts) ≡ Some (n, us) = rw (← stood) c.in_ok-name.ensures.ok in
    let less : length us < length ts = rw (← stood) c.in_ok-name.ensures.shorter in
    let going-2 : after_end_array us ≡ None = grind arith in
    let stood-2 : c.take_end_array-else-not-is_request.new.self ≡ us = grind arith in
    let vs = c.value_in-2.new.reader in
    let s = view c.in_ok-first.first in
    let found-2 : converted of_json (value 126 us) ≡ Some (s, vs) = rw (← stood-2) c.in_ok-first.ensures.ok in
    let less-2 : length vs < length us = rw (← stood-2) c.in_ok-first.ensures.shorter in
    let known = c.in_ok-few.ensures.ok in
    let gives : Gives ts (n ∷ s ∷ known.0) c.filters_in.new.reader = one_gives ts us n going found less (s ∷ known.0) c.filters_in.new.reader (one_gives us vs s going-2 found-2 less-2 known.0 c.filters_in.new.reader known.2) in
    let over : c.filters_in.new.reader ≡ [] = no_token _ _ c.next.result (λ some. absurd (true≢false (sym some ∙ (sym c.is_some.ensures ∙ c.if-is_some.false)))) c.next.ensures.value in
    let is = array_read c.args.text.now ts (n ∷ s ∷ known.0) opened (subst (λ rest. Gives ts (n ∷ s ∷ known.0) rest) over gives) in
    let named : as_str n ≡ Some (codes "REQ") = c.is_request.ensures (grind arith) in
    rw (p.1, p.2) (elim c.in_err-sub.ensures.err [
      | inl memory ↦ inl memory
      | inr refused ↦ request_refused_by n s known.0 named c.args.text.now _ is (refused known.0 known.1)
    ])

pub returns-clause-ok : goal.returns-clause-ok
returns-clause-ok c =
    let ts = c.begins_array.new.reader in
    let opened : tokens c.args.text.now ≡ begin_array ∷ ts = sym c.in-Ok.ensures.ok ∙ c.begins_array.ensures (grind arith) in
    let going : after_end_array ts ≡ None = grind arith in
    let stood : c.take_end_array.new.self ≡ ts = grind arith in
    let us = c.value_in.new.reader in
    let n = view c.in_ok-name.name in
    let found : converted of_json (value 126 ts) ≡ Some (n, us) = rw (← stood) c.in_ok-name.ensures.ok in
    let less : length us < length ts = rw (← stood) c.in_ok-name.ensures.shorter in
    let going-2 : after_end_array us ≡ None = grind arith in
    let stood-2 : c.take_end_array-else-not-is_request.new.self ≡ us = grind arith in
    let vs = c.value_in-2.new.reader in
    let s = view c.in_ok-first.first in
    let found-2 : converted of_json (value 126 us) ≡ Some (s, vs) = rw (← stood-2) c.in_ok-first.ensures.ok in
    let less-2 : length vs < length us = rw (← stood-2) c.in_ok-first.ensures.shorter in
    let known = c.in_ok-few.ensures.ok in
    let gives : Gives ts (n ∷ s ∷ known.0) c.filters_in.new.reader = one_gives ts us n going found less (s ∷ known.0) c.filters_in.new.reader (one_gives us vs s going-2 found-2 less-2 known.0 c.filters_in.new.reader known.2) in
    let over : c.filters_in.new.reader ≡ [] = no_token _ _ c.next.result (λ some. absurd (true≢false (sym some ∙ (sym c.is_some.ensures ∙ c.if-is_some.false)))) c.next.ensures.value in
    let is = array_read c.args.text.now ts (n ∷ s ∷ known.0) opened (subst (λ rest. Gives ts (n ∷ s ∷ known.0) rest) over gives) in
    let named : as_str n ≡ Some (codes "REQ") = c.is_request.ensures (grind arith) in
    let read = c.in_ok-sub.ensures.ok known.0 known.1 in
    request_heard n s known.0 named c.args.text.now c.in_ok-sub.sub c.args.most read.0 c.in_ok-sub.filters is read.1 read.2
