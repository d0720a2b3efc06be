use Rattle.std.proofs.Common.{◌≡◌, ◌++◌, take, refl, sym}
use Rattle.std.proofs.lemmas.List.{take-append-drop}
use Rattle.wire.proofs.link.Wire.send.Goals as goal

pub returns-clause-hands : goal.returns-clause-hands
returns-clause-hands g c =
    let waiting = c.self.inside.output.items in
    let n = c.send_all-sent.result.0 in
    let is = c.self.view_is in
    let left : waiting ≡ take n waiting ++ c.drop_front.new.bytes.items = rw c.drop_front.ensures (sym (take-append-drop n waiting)) in
    let wrote = rw c.as_slice.ensures.value at c.send_all-sent.ensures.wrote in
    rw (← is) (take n waiting, (c.and-self-inside.ensures, left, refl, refl, refl, wrote))
