use Rattle.std.proofs.Common.{◌≡◌, ◌∙◌, [], ◌∷◌, refl, string_bytes}
use mathlib.Core.List.{IsPrefix}
use Rattle.event_list.proofs.Prefixes.{prefix_self, prefix_trans}
use Rattle.ws_serve.specs.Pieces.{words}
use Rattle.ws_serve.proofs.Failing.{stream_fault}
use Rattle.ws_serve.proofs.Going.{serving_reads}
use Rattle.ws_serve.proofs.hearing.go_on.Goals as goal
use Rattle.ws_serve.proofs.hearing.go_on.Goals.{in-Event+in_ok-behind-in-Event+in-Some, in-Other}

pub take_events-requires-clause-serving : goal.take_events-requires-clause-serving
take_events-requires-clause-serving g c =
    serving_reads [] c.next_message.new.socket (words (string_bytes c.in-Event.text) ∷ []) c.requires.serving (rw c.in-Event.is at c.in_ok-text.ensures.hears)

pub returns-in-Later-clause-served : goal.returns-in-Later-clause-served
returns-in-Later-clause-served g c =
    serving_reads [] c.next_message.new.socket [] c.requires.serving (rw c.in-Later.is at c.in_ok-text.ensures.hears)

pub heed-requires-clause-awaits : goal.heed-requires-clause-awaits
heed-requires-clause-awaits g c =
    elim c.match-branch-2.branch [
      | in-Event+in_ok-behind-in-Event+in-Some w ↦
          rw (w.heard-is, w.reply-is, w.conn-is, w.socket-is, w.reader-is) (rw w.in-Some.is at w.in_ok-behind-in-Event.ensures.awaited)
      | in-Other w ↦
          let h = rw w.in-Other.is at c.in_ok-text.ensures.hears in
          rw (w.heard-is, w.reply-is, w.conn-is, w.socket-is, w.reader-is) (h.0, h.1, serving_reads [] c.next_message.new.socket h.0 c.requires.serving h.2)
    ]

pub returns-in_err-text-clause-few : goal.returns-in_err-text-clause-few
returns-in_err-text-clause-few g c = c.requires.few

pub returns-in_err-text-clause-fault : goal.returns-in_err-text-clause-fault
returns-in_err-text-clause-fault g c = stream_fault c.from_residual.result c.in_err-text.field-0.0 c.from_residual.ensures.1 c.in_err-text.ensures.fault

pub returns-in_err-text-clause-limits : goal.returns-in_err-text-clause-limits
returns-in_err-text-clause-limits g c = refl

pub returns-in_err-text-clause-reader : goal.returns-in_err-text-clause-reader
returns-in_err-text-clause-reader g c = prefix_self c.args.reader.now

pub returns-in-Later-clause-few : goal.returns-in-Later-clause-few
returns-in-Later-clause-few g c = c.requires.few

pub returns-in-Later-clause-limits : goal.returns-in-Later-clause-limits
returns-in-Later-clause-limits g c = refl

pub returns-in-Later-clause-reader : goal.returns-in-Later-clause-reader
returns-in-Later-clause-reader g c = prefix_self c.args.reader.now

pub returns-clause-few : goal.returns-clause-few
returns-clause-few g c = c.heed.ensures.few

pub returns-clause-fault : goal.returns-clause-fault
returns-clause-fault g c = c.heed.ensures.fault

pub returns-clause-limits : goal.returns-clause-limits
returns-clause-limits g c =
    let heard : c.match-branch-2.conn.limits ≡ c.args.conn.now.limits = elim c.match-branch-2.branch [
      | in-Event+in_ok-behind-in-Event+in-Some w ↦ rw w.conn-is w.in_ok-behind-in-Event.ensures.limits
      | in-Other w ↦ rw w.conn-is refl
    ] in
    c.heed.ensures.limits ∙ heard

pub returns-clause-reader : goal.returns-clause-reader
returns-clause-reader g c =
    let heard : IsPrefix c.args.reader.now c.match-branch-2.reader = elim c.match-branch-2.branch [
      | in-Event+in_ok-behind-in-Event+in-Some w ↦ rw w.reader-is w.in_ok-behind-in-Event.ensures.reader
      | in-Other w ↦ rw w.reader-is (prefix_self c.args.reader.now)
    ] in
    prefix_trans _ _ _ heard c.heed.ensures.reader
