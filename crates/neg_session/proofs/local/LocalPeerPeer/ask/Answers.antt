use Rattle.std.proofs.Common.{rules, arith, ◌≡◌, ℕ, ◌++◌, ◌∷◌, [], Err, ap, ◌∙◌, subst}
use Rattle.neg_session.specs.Exchange.{exchange}
use Rattle.neg_session.specs.Explaining.{AnswersBy}
use Rattle.neg_session.specs.Local.{Local, IsAnswered}
use Rattle.neg_session.proofs.Answering.{answered_by, keeps_none, keeps_one}
use Rattle.neg_session.proofs.local.LocalPeerPeer.ask.Goals as goal

pub returns-in-Err-Bad-clause-becomes : goal.returns-in-Err-Bad-clause-becomes
returns-in-Err-Bad-clause-becomes c = keeps_none _ _ (ap (λ (v : Local). v.roll) c.self.view_is) (ap (λ (v : Local). v.limit) c.self.view_is) (ap (λ (v : Local). v.log) c.self.view_is)

pub returns-in_err-push-clause-becomes : goal.returns-in_err-push-clause-becomes
returns-in_err-push-clause-becomes c =
    let same : c.push.new.self.items ≡ c.self.inside.pairs.items = search rules in
    keeps_none _ _ (ap (λ (v : Local). v.roll) c.self.view_is) (ap (λ (v : Local). v.limit) c.self.view_is) (same ∙ ap (λ (v : Local). v.log) c.self.view_is)

pub returns-clause-becomes : goal.returns-clause-becomes
returns-clause-becomes c =
    let pair : c.in_ok-pair.pair ≡ exchange c.args.question.now c.in-Ok.reply.items = search rules in
    let grew : c.push.new.self.items ≡ c.self.inside.pairs.items ++ exchange c.args.question.now c.in-Ok.reply.items ∷ [] = search rules in
    let answers : AnswersBy c.self.inside.limit c.self.inside.roll (exchange c.args.question.now c.in-Ok.reply.items) = answered_by _ _ _ _ c.in-Ok.ensures.replies (λ e. let bad = c.in-Ok.ensures.refused _ e tt in cc) in
    keeps_one _ _ (exchange c.args.question.now c.in-Ok.reply.items) (ap (λ (v : Local). v.roll) c.self.view_is) (ap (λ (v : Local). v.limit) c.self.view_is)
    (grew ∙ ap (λ (v : Local). v.log ++ exchange c.args.question.now c.in-Ok.reply.items ∷ []) c.self.view_is)
    (subst (λ (v : Local). AnswersBy v.limit v.roll (exchange c.args.question.now c.in-Ok.reply.items)) c.self.view_is answers)
    (subst (λ (n : ℕ). IsAnswered n (exchange c.args.question.now c.in-Ok.reply.items)) (ap (λ (v : Local). v.limit) c.self.view_is)
    (record { taken = λ h. let bad = c.in-Ok.ensures.refused h.0 h.1 h.2 in cc; short = c.in-Ok.ensures.short }))

pub returns-in-Err-Bad-clause-failed : goal.returns-in-Err-Bad-clause-failed
returns-in-Err-Bad-clause-failed c = λ e.
    let bad = c.in-Err-Bad.ensures.bad c.in-Err-Bad.field-0-0 (ap Err c.in-Err-Bad.field-0-is) in
    (omega (arith, ap (λ (v : Local). v.faults) c.self.view_is), (c.in-Err-Bad.field-0-0, bad.0, bad.1))
