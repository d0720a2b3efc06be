use Rattle.std.proofs.Common.{◌≡◌, None, refl}
use Rattle.ws_link.proofs.Fetching.{fetched_stands, fetch_gave}
use Rattle.ws_link.proofs.Linking.{goes_back}
use Rattle.ws_link.proofs.source.WsSource.try_fetch.Goals as goal

pub invariant_of-self-2 : goal.invariant_of-self-2
invariant_of-self-2 g c =
    let i = c.self.inside.link in
    let out : c.take_out.new.self.wire ≡ None = rw c.take_out.ensures.rest refl in
    let over = rw c.take_out.ensures.rest at c.fetch_over-fetched.ensures in
    let back = rw c.put_back.ensures.result at c.put_back.ensures in
    fetched_stands c.fetch_over-fetched.result _ c.put_back.new.self i.log.items c.in_ok-wire.wire c.fetch_over-fetched.new.wire i.given i.taken c.args.ids.now (rw c.in_ok-wire.ensures.wire at c.self.invariant) over.fetched over.logged over.kept over.grows out back.ok back.err

pub returns-clause-grows : goal.returns-clause-grows
returns-clause-grows g c =
    let out : c.take_out.new.self.wire ≡ None = rw c.take_out.ensures.rest refl in
    let back = rw c.put_back.ensures.result at c.put_back.ensures in
    rw (← c.self.view_is, c.in_ok-wire.ensures.wire) (goes_back c.fetch_over-fetched.result _ c.put_back.new.self c.in_ok-wire.wire c.fetch_over-fetched.new.wire out c.fetch_over-fetched.ensures.grows back.ok back.err)

pub returns-clause-gives : goal.returns-clause-gives
returns-clause-gives g c =
    let out : c.take_out.new.self.wire ≡ None = rw c.take_out.ensures.rest refl in
    let back = rw c.put_back.ensures.result at c.put_back.ensures in
    rw c.put_back.ensures.result (fetch_gave c.fetch_over-fetched.result _ c.put_back.new.self c.in_ok-wire.wire c.fetch_over-fetched.new.wire c.args.ids.now c.args.self.now _ out c.fetch_over-fetched.ensures.fetched back.ok (rw (← c.self.view_is, c.in_ok-wire.ensures.wire) refl) (rw (← c.self.view_is, c.in_ok-wire.ensures.wire) refl) refl refl)
