use Rattle.std.proofs.Common.{◌≡◌, ◌++◌, drop, take, refl, ◌∙◌, ap}
use Rattle.wire.proofs.link.Wire.fill.Goals as goal

pub returns : goal.returns
returns g c =
    let i = c.self.inside in
    let got = take c.in_ok-count.count c.read_some.new.chunk.items in
    let is = c.self.view_is in
    let put : c.put_front.new.input.items ≡ drop i.start i.input.items ++ got = c.put_front.ensures ∙ ap (λ bytes. bytes ++ got) (c.in_ok-reserve.ensures.items ∙ c.drop_front.ensures) in
    rw (← is) (record { fills = (got, (c.and-self-inside.ensures, put, refl, refl, refl, c.in_ok-count.ensures.given.1)) })
