use Rattle.std.proofs.Common.{◌≡◌, None, refl}
use Rattle.ws_link.specs.Held.{noted}
use Rattle.ws_link.proofs.Linking.{goes_back}
use Rattle.ws_link.proofs.Speaking.{spoken_stands}
use Rattle.ws_link.proofs.peer.WsPeer.try_ask.Goals as goal

pub invariant_of-self-2 : goal.invariant_of-self-2
invariant_of-self-2 g c =
    let i = c.self.inside in
    let out : c.take_out.new.self.wire ≡ None = rw c.take_out.ensures.rest refl in
    let over = rw (c.take_out.ensures.rest, c.take.ensures.value) at c.ask_over-asked.ensures in
    let back = rw c.put_back.ensures.result at c.put_back.ensures in
    spoken_stands c.ask_over-asked.result _ c.put_back.new.self (noted i.opens.items) i.filter c.take.new.self i.link.log.items c.in_ok-wire.wire c.ask_over-asked.new.wire i.link.given i.link.taken c.args.question.now (rw c.in_ok-wire.ensures.wire at c.self.invariant) over.exchanged over.logged over.kept over.grows out c.take.ensures.after back.ok back.err

pub returns-clause-grows : goal.returns-clause-grows
returns-clause-grows g c =
    let out : c.take_out.new.self.wire ≡ None = rw c.take_out.ensures.rest refl in
    let back = rw c.put_back.ensures.result at c.put_back.ensures in
    rw (← c.self.view_is, c.in_ok-wire.ensures.wire) (goes_back c.ask_over-asked.result _ c.put_back.new.self c.in_ok-wire.wire c.ask_over-asked.new.wire out c.ask_over-asked.ensures.grows back.ok back.err)
