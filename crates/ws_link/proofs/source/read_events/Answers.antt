use Rattle.std.proofs.Common.{map, refl}
use Rattle.std.proofs.lemmas.Result.{IfOk-from_err}
use Rattle.std.specs.Arc.{arc_value}
use Rattle.wire.specs.Line.{talk_of}
use Rattle.wire.proofs.Growing.{grows_chain, grows_same}
use Rattle.ws_link.proofs.Fetching.{answered, kept_more, kept_none}
use Rattle.ws_link.proofs.source.read_events.Goals.{else-loop-read-test, then-loop-read-test+in_ok-read_event+then-others-ge-TOO_MANY, in-Due, in-Other}
use Rattle.ws_link.proofs.source.read_events.Goals as goal

pub returns-in_err-due-clause-answers : goal.returns-in_err-due-clause-answers
returns-in_err-due-clause-answers g c = IfOk-from_err c.from_residual.result _ c.from_residual.ensures.0

pub returns-in_err-due-clause-grows : goal.returns-in_err-due-clause-grows
returns-in_err-due-clause-grows g c = grows_same (talk_of c.args.wire.now) (talk_of c.args.wire.now) refl

pub loop-read-init : goal.loop-read-init
loop-read-init g c =
    let wire = talk_of c.args.wire.now in
    let empty = c.new-events.ensures.items in
    record {
      grows = grows_same wire wire refl;
      kept = kept_none c.args.ids.now wire c.new-events.result.items empty;
      due = rw empty c.in_ok-due.ensures;
    }

pub returns-in_err-read_event-clause-answers : goal.returns-in_err-read_event-clause-answers
returns-in_err-read_event-clause-answers g c = IfOk-from_err c.from_residual-in_err-read_event.result _ c.from_residual-in_err-read_event.ensures.0

pub returns-in_err-read_event-clause-grows : goal.returns-in_err-read_event-clause-grows
returns-in_err-read_event-clause-grows g c =
    grows_chain (talk_of c.args.wire.now) (talk_of c.loop-read.wire) (talk_of c.read_event.new.wire) c.loop-read.invariant.grows c.read_event.ensures.grows

pub returns-in-End-clause-grows : goal.returns-in-End-clause-grows
returns-in-End-clause-grows g c =
    grows_chain (talk_of c.args.wire.now) (talk_of c.loop-read.wire) (talk_of c.read_event.new.wire) c.loop-read.invariant.grows c.read_event.ensures.grows

pub loop-read-preserved : goal.loop-read-preserved
loop-read-preserved g c =
    let first = talk_of c.args.wire.now in
    let mid = talk_of c.loop-read.wire in
    let last = talk_of c.read_event.new.wire in
    let before = map arc_value c.loop-read.events.items in
    let after = map arc_value c.read_event.new.events.items in
    let grown = grows_chain first mid last c.loop-read.invariant.grows c.read_event.ensures.grows in
    let taken = c.in_ok-read_event.ensures.takes c.args.ids.now c.loop-read.invariant.due in
    elim c.match-branch-3.branch [
      | in-Due w ↦ record { grows = grown; kept = kept_more c.args.ids.now first mid last before after c.loop-read.invariant.kept (rw w.in-Due.is at taken.0); due = taken.1 }
      | in-Other w ↦ record { grows = grown; kept = kept_more c.args.ids.now first mid last before after c.loop-read.invariant.kept (rw w.in-Other.is at taken.0); due = taken.1 }
    ]

pub returns-in-End-clause-answers : goal.returns-in-End-clause-answers
returns-in-End-clause-answers g c =
    let first = talk_of c.args.wire.now in
    let mid = talk_of c.loop-read.wire in
    let last = talk_of c.read_event.new.wire in
    let before = map arc_value c.loop-read.events.items in
    let after = map arc_value c.read_event.new.events.items in
    let taken = c.in_ok-read_event.ensures.takes c.args.ids.now c.loop-read.invariant.due in
    let ended = rw c.in-End.is at taken.0 in
    answered c.args.ids.now first mid last before after c.loop-read.invariant.kept ended.0 ended.1

pub returns-clause-grows : goal.returns-clause-grows
returns-clause-grows g c =
    let first = talk_of c.args.wire.now in
    let mid = talk_of c.loop-read.wire in
    elim c.loop-read-test.branch [
      | else-loop-read-test w ↦ rw w.wire-is c.loop-read.invariant.grows
      | then-loop-read-test+in_ok-read_event+then-others-ge-TOO_MANY w ↦
          rw w.wire-is (grows_chain first mid (talk_of w.read_event.new.wire) c.loop-read.invariant.grows w.read_event.ensures.grows)
    ]
