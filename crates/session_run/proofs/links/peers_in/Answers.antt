use Rattle.std.proofs.Common.{◌≡◌, ◌+◌, ◌-◌, ◌<◌, ◌^◌, ◌++◌, [], ◌∷◌, ◌∙◌, length, map, append_assoc, sym, ap, arith}
use Rattle.std.specs.List.{range_with_len}
use Rattle.std.specs.Vec.Iter.{into_iter_items}
use Rattle.std.proofs.lemmas.List.{length_push, length-append}
use Rattle.std.proofs.lemmas.List.Elements.{All-nil, All-push, All-same}
use Rattle.session_run.proofs.Numbers.{numbers_push}
use Rattle.session_run.proofs.links.peers_in.Goals as goal

pub loop-place-init : goal.loop-place-init
loop-place-init g c =
    let none = c.new-peers.ensures.items in
    record {
      faults = All-same (λ p. p.peer.faults < 2 ^ 64 - 1) _ [] none (All-nil (λ p. p.peer.faults < 2 ^ 64 - 1));
      numbers = ap (map (λ p. p.relay)) none ∙ sym (ap (λ ps. range_with_len 0 (length ps)) none);
      some = ap length none;
      all = sym c.into_iter-place-iterator.ensures.into_iter_gives.0;
    }

pub loop-place-preserved : goal.loop-place-preserved
loop-place-preserved g c =
    let before = c.loop-place.invariant in
    let seen = c.loop-place.yielded in
    let none : c.in_ok-told.told.peer.faults ≡ 0 = rw c.in_ok-told.ensures.peer at c.into_peer-linked.ensures in
    let small : c.in_ok-told.told.peer.faults < 2 ^ 64 - 1 = omega arith in
    let number : c.in_ok-told.told.relay ≡ length c.loop-place.peers.items = omega (arith, c.in_ok-told.ensures.number, c.len-relay.ensures) in
    rw c.in_ok-push.ensures.items
    (record {
      faults = All-push (λ p. p.peer.faults < 2 ^ 64 - 1) c.loop-place.peers.items _ before.faults small;
      numbers = numbers_push (λ p. p.relay) c.loop-place.peers.items _ (length c.loop-place.peers.items) before.numbers number
          ∙ ap (λ n. range_with_len 0 n) (sym (length_push c.loop-place.peers.items _));
      some = length_push c.loop-place.peers.items _ ∙ ap (λ n. n + 1) before.some ∙ sym (length_push seen c.in-Some.place);
      all = before.all ∙ ap (λ ps. seen ++ ps) c.in-Some.ensures.steps.0 ∙ sym (append_assoc seen (c.in-Some.place ∷ []) _);
    })

pub returns : goal.returns
returns g c =
    let at = c.loop-place.invariant in
    let rest : length (into_iter_items c.loop-place.place-iterator) ≡ 0 = sym c.loop-place.place-iterator.rest.ok.0 ∙ c.in-None.ensures.steps.0 in
    let whole = ap length at.all ∙ length-append c.loop-place.yielded (into_iter_items c.loop-place.place-iterator) in
    let all : length c.loop-place.peers.items ≡ length c.args.places.items = omega (arith, at.some, rest, whole) in
    record { faults = at.faults; numbers = at.numbers ∙ ap (λ n. range_with_len 0 n) all }
