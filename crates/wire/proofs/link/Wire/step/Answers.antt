use Rattle.std.proofs.Common.{refl}
use Rattle.wire.specs.declared.heard.Message.TheVariants as Message
use Rattle.wire.specs.Line.{talk_of}
use Rattle.wire.proofs.Growing.{waited_send, waited_frame, waited_same, waited_fill, waited_chain, comes_frame, comes_later, grows_came, grows_waited}
use Rattle.wire.proofs.link.Wire.step.Goals as goal

pub returns-in-Text : goal.returns-in-Text
returns-in-Text g c =
    let heard = rw c.in-Text.is at c.in_ok-text.ensures.hears in
    let old = c.args.self.now in
    let mid = c.send_some.new.self in
    let new = c.hear.new.self in
    let come = comes_later (talk_of old) (talk_of mid) (talk_of new) (Message.Text c.in-Text.text) (waited_send g.S.Write.contents old mid c.send_some.ensures.hands) (comes_frame mid new (Message.Text c.in-Text.text) heard.0 heard.1) in
    record { may_come = come; grows = grows_came (talk_of old) (talk_of new) (Message.Text c.in-Text.text) come }

pub returns-in-Binary : goal.returns-in-Binary
returns-in-Binary g c =
    let heard = rw c.in-Binary.is at c.in_ok-text.ensures.hears in
    let old = c.args.self.now in
    let mid = c.send_some.new.self in
    let new = c.hear.new.self in
    let come = comes_later (talk_of old) (talk_of mid) (talk_of new) Message.Binary (waited_send g.S.Write.contents old mid c.send_some.ensures.hands) (comes_frame mid new Message.Binary heard.0 heard.1) in
    record { may_come = come; grows = grows_came (talk_of old) (talk_of new) Message.Binary come }

pub returns-in-Other : goal.returns-in-Other
returns-in-Other g c =
    let heard = rw c.in-Other.is at c.in_ok-text.ensures.hears in
    let old = c.args.self.now in
    let mid = c.send_some.new.self in
    let new = c.hear.new.self in
    let come = comes_later (talk_of old) (talk_of mid) (talk_of new) Message.Other (waited_send g.S.Write.contents old mid c.send_some.ensures.hands) (comes_frame mid new Message.Other heard.0 heard.1) in
    record { may_come = come; grows = grows_came (talk_of old) (talk_of new) Message.Other come }

pub returns-in-Close : goal.returns-in-Close
returns-in-Close g c =
    let heard = rw c.in-Close.is at c.in_ok-text.ensures.hears in
    let old = c.args.self.now in
    let mid = c.send_some.new.self in
    let new = c.hear.new.self in
    let come = comes_later (talk_of old) (talk_of mid) (talk_of new) Message.Close (waited_send g.S.Write.contents old mid c.send_some.ensures.hands) (comes_frame mid new Message.Close heard.0 heard.1) in
    record { may_come = come; grows = grows_came (talk_of old) (talk_of new) Message.Close come }

pub returns-in-Part : goal.returns-in-Part
returns-in-Part g c =
    let heard = rw c.in-Part.is at c.in_ok-text.ensures.hears in
    let old = c.args.self.now in
    let mid = c.send_some.new.self in
    let new = c.hear.new.self in
    let waited = waited_chain (talk_of old) (talk_of mid) (talk_of new) (waited_send g.S.Write.contents old mid c.send_some.ensures.hands) (waited_frame mid new heard.0 heard.1) in
    record { may_come = waited; grows = grows_waited (talk_of old) (talk_of new) waited }

pub returns-in_ok-fill-in-Nothing : goal.returns-in_ok-fill-in-Nothing
returns-in_ok-fill-in-Nothing g c =
    let heard = rw c.in-Nothing.is at c.in_ok-text.ensures.hears in
    let old = c.args.self.now in
    let mid = c.send_some.new.self in
    let new = c.hear.new.self in
    let end = c.fill.new.self in
    let waited =
    waited_chain (talk_of old) (talk_of mid) (talk_of end) (waited_send g.S.Write.contents old mid c.send_some.ensures.hands)
    (waited_chain (talk_of mid) (talk_of new) (talk_of end) (waited_same (talk_of mid) (talk_of new) (rw heard.0 refl)) (waited_fill g.S.Read.remaining new end c.fill.ensures.fills)) in
    record { may_come = waited; grows = grows_waited (talk_of old) (talk_of end) waited }
