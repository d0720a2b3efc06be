use Rattle.std.proofs.Common.{arith, [], ◌∷◌, ◌≡◌, ◌≤◌, ℕ, List, length, Result, Ok, Err, sym, ap, subst, ◌∙◌}
use Rattle.std.proofs.lemmas.Result.{IfOk-weaker}
use Rattle.neg_codec.specs.Ranges.{Span}
use Rattle.neg_codec.specs.Text.{Spells}
use Rattle.neg_codec.specs.Reading.{Fails, longest, message_at}
use Rattle.neg_codec.specs.declared.CodecFault.{CodecFault}
use Rattle.neg_codec.specs.declared.CodecFault.TheVariants as codec
use Rattle.neg_responder.specs.Reply.{Replies, RefusesQuery}
use Rattle.neg_responder.specs.declared.answering.AnswerFault.TheVariants as answer_fault
use Rattle.neg_responder.proofs.answering.answer.Goals as goal

same_message : (q m : List Span) → ◌≡◌ {A = Result (List Span) CodecFault} (Ok q) (Ok m) → m ≡ q
same_message q m e = cc

pub returns-in-Ok-clause-replies : goal.returns-in-Ok-clause-replies
returns-in-Ok-clause-replies c =
    IfOk-weaker c.answer_message.result (λ v. Replies c.args.limit c.args.roll.now c.in-Ok.asked v.items)
    (λ v. (q : List Span) → length c.args.query.now ≤ longest → Spells c.args.query.now q → Replies c.args.limit c.args.roll.now q v.items)
    (λ v h q le spelled. subst (λ (m : List Span). Replies c.args.limit c.args.roll.now m v.items) (same_message q c.in-Ok.asked (c.in-Ok.ensures.only q le spelled)) h)
    c.answer_message.ensures.replies

-- a fault that refuses is the reader's
fault_read : (f : CodecFault) (read : Result (List Span) CodecFault) → RefusesQuery f → Fails f read → read ≡ Err f
fault_read codec.Empty read h e = e
fault_read (codec.Version b) read h e = e
fault_read (codec.Varint n) read h e = e
fault_read (codec.Truncated n) read h e = e
fault_read (codec.PrefixLength n) read h e = e
fault_read (codec.TimeTooLarge n) read h e = e
fault_read (codec.Descending n) read h e = e
fault_read (codec.AfterInfinity n) read h e = e
fault_read (codec.Mode n) read h e = e
fault_read codec.TooLong read h e = e
fault_read codec.Memory read h e = absurd h

same_fault : (f g : CodecFault) → ◌≡◌ {A = Result (List Span) CodecFault} (Err f) (Err g) → f ≡ g
same_fault f g e = cc

abbrev found : List Span → Result (List Span) CodecFault
found q = Ok q

abbrev err : CodecFault → Result (List Span) CodecFault
err f = Err f

no_version : (f : CodecFault) (q : List Span) (b : ℕ) → f ≡ codec.Version b → Fails f (found q) → ⊥
no_version f q b e h = let g = subst (λ (x : CodecFault). Fails x (found q)) e h in absurd (differ q b g)
  where
    differ : (q : List Span) (b : ℕ) → found q ≡ err (codec.Version b) → ⊥
    differ q b g = cc

pub returns-in-Err : goal.returns-in-Err
returns-in-Err c = record {
  replies = IfOk-weaker c.answer_fault.result (λ v. (b : ℕ) × (c.in-Err.fault ≡ codec.Version b))
      (λ v. (q : List Span) → length c.args.query.now ≤ longest → Spells c.args.query.now q → Replies c.args.limit c.args.roll.now q v.items)
      (λ v h q le spelled. absurd (no_version c.in-Err.fault q h.0 h.1 (c.in-Err.ensures.only q le spelled))) c.answer_fault.ensures.others;
  short = IfOk-weaker c.answer_fault.result (λ v. v.items ≡ 0x61 ∷ []) (λ v. length v.items ≤ c.args.limit) (λ v e. omega (arith, ap length e, c.requires)) c.answer_fault.ensures.own;
  bad = λ f e.
      let b = c.answer_fault.ensures.bad f e in
      (fault_read c.in-Err.fault (message_at c.args.query.now) b.1 c.in-Err.ensures.exact ∙ ap (λ (x : CodecFault). err x) (sym b.0), subst RefusesQuery (sym b.0) b.1);
  refused = λ f m r.
      let same = same_fault c.in-Err.fault f (c.in-Err.ensures.first f m) in
      subst (λ (x : CodecFault). c.answer_fault.result ≡ Err (answer_fault.Bad x)) same (c.answer_fault.ensures.refused (subst RefusesQuery (sym same) r));
  version = λ b m. c.answer_fault.ensures.version b (same_fault c.in-Err.fault (codec.Version b) (c.in-Err.ensures.first (codec.Version b) m));
}
