use Rattle.std.proofs.Common.{◌≡◌, ◌<◌, ◌∙◌, ◌++◌, [], ◌∷◌, length, Some, None, Err, ap, subst, inl, inr, arith}
use Rattle.std.proofs.lemmas.List.{append-nil}
use Rattle.std.proofs.lemmas.Result.{err_from_is_err_and}
use Rattle.json.specs.Json.{after_end_array, value}
use Rattle.serde_json.specs.Read.{of_json, converted}
use Rattle.serde_json.specs.View.{view}
use Rattle.nostr_wire.specs.Stream.{Gives}
use Rattle.nostr_wire.proofs.Streams.{end_gives, turn_gives, one_gives_none, refused_gives_none}
use Rattle.nostr_wire.proofs.streaming.filters_in.Goals as goal

pub returns-in_err-value-clause-err : goal.returns-in_err-value-clause-err
returns-in_err-value-clause-err c =
    let p = err_from_is_err_and c.from_residual.result c.from_residual.ensures.1 in
    let l = c.elements in
    let going : after_end_array l.reader ≡ None = grind arith in
    let stood : c.take_end_array.new.self ≡ l.reader = grind arith in
    rw (p.1, p.2) (elim c.in_err-value.ensures.either [
      | inl memory ↦ inl memory
      | inr json ↦ inr (json, l.invariant.3 (refused_gives_none l.reader going (rw (← stood) (c.value_in.ensures.err (c.in_err-value.was ∙ ap Err json)))))
    ])

pub elements-preserved-in_ok-few : goal.elements-preserved-in_ok-few
elements-preserved-in_ok-few c =
    let l = c.elements in
    let before = l.invariant in
    let d = view c.in_ok-value.value in
    let going : after_end_array l.reader ≡ None = grind arith in
    let stood : c.take_end_array.new.self ≡ l.reader = grind arith in
    let found : converted of_json (value 126 l.reader) ≡ Some (d, c.value_in.new.reader) = rw (← stood) c.in_ok-value.ensures.ok in
    let less : length c.value_in.new.reader < length l.reader = rw (← stood) c.in_ok-value.ensures.shorter in (
      before.0 ++ d ∷ [],
      c.in_ok-few.ensures before.0 before.1,
      turn_gives c.args.reader.now l.reader c.value_in.new.reader before.0 d going found less before.2,
      λ none. before.3 (one_gives_none l.reader c.value_in.new.reader d going found less none),
    )

pub elements-preserved-in_ok-few-2 : goal.elements-preserved-in_ok-few-2
elements-preserved-in_ok-few-2 c =
    let l = c.elements in
    let before = l.invariant in
    let d = view c.in_ok-value.value in
    let going : after_end_array l.reader ≡ None = grind arith in
    let stood : c.take_end_array.new.self ≡ l.reader = grind arith in
    let found : converted of_json (value 126 l.reader) ≡ Some (d, c.value_in.new.reader) = rw (← stood) c.in_ok-value.ensures.ok in
    let less : length c.value_in.new.reader < length l.reader = rw (← stood) c.in_ok-value.ensures.shorter in (
      before.0 ++ d ∷ [],
      c.in_ok-few.ensures before.0 before.1,
      turn_gives c.args.reader.now l.reader c.value_in.new.reader before.0 d going found less before.2,
      λ none. before.3 (one_gives_none l.reader c.value_in.new.reader d going found less none),
    )

pub elements-preserved-in_ok-few-3 : goal.elements-preserved-in_ok-few-3
elements-preserved-in_ok-few-3 c =
    let l = c.elements in
    let before = l.invariant in
    let d = view c.in_ok-value.value in
    let going : after_end_array l.reader ≡ None = grind arith in
    let stood : c.take_end_array.new.self ≡ l.reader = grind arith in
    let found : converted of_json (value 126 l.reader) ≡ Some (d, c.value_in.new.reader) = rw (← stood) c.in_ok-value.ensures.ok in
    let less : length c.value_in.new.reader < length l.reader = rw (← stood) c.in_ok-value.ensures.shorter in (
      before.0 ++ d ∷ [],
      c.in_ok-few.ensures before.0 before.1,
      turn_gives c.args.reader.now l.reader c.value_in.new.reader before.0 d going found less before.2,
      λ none. before.3 (one_gives_none l.reader c.value_in.new.reader d going found less none),
    )

pub elements-preserved : goal.elements-preserved
elements-preserved c =
    let l = c.elements in
    let before = l.invariant in
    let d = view c.in_ok-value.value in
    let going : after_end_array l.reader ≡ None = grind arith in
    let stood : c.take_end_array.new.self ≡ l.reader = grind arith in
    let found : converted of_json (value 126 l.reader) ≡ Some (d, c.value_in.new.reader) = rw (← stood) c.in_ok-value.ensures.ok in
    let less : length c.value_in.new.reader < length l.reader = rw (← stood) c.in_ok-value.ensures.shorter in (
      before.0 ++ d ∷ [],
      c.in_ok-few.ensures before.0 before.1,
      turn_gives c.args.reader.now l.reader c.value_in.new.reader before.0 d going found less before.2,
      λ none. before.3 (one_gives_none l.reader c.value_in.new.reader d going found less none),
    )

pub returns-clause-ok : goal.returns-clause-ok
returns-clause-ok c =
    let l = c.elements in
    let before = l.invariant in
    let over : after_end_array l.reader ≡ Some c.take_end_array.new.self = grind arith in
    (before.0, before.1, subst (λ ds. Gives c.args.reader.now ds c.take_end_array.new.self) (append-nil before.0) (before.2 [] c.take_end_array.new.self (end_gives l.reader c.take_end_array.new.self over)))
