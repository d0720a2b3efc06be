use Rattle.std.proofs.Common.{◌≡◌, ◌≤◌, List, ℕ, Bool, true, Result, Err, Ok, length, refl, sym, subst}
use Rattle.std.specs.Prelude.{Vec}
use Rattle.std.specs.Global.{Global}
use Rattle.neg_codec.specs.Text.{Spells}
use Rattle.neg_initiator.specs.declared.initiator.Next.TheVariants.{Ask}
use Rattle.neg_initiator.specs.Views.{Leaves, AsksWhereDue}
use Rattle.neg_codec.specs.declared.CodecFault.{CodecFault}
use Rattle.neg_codec.specs.Ranges.{Span}
use Rattle.neg_codec.specs.Reading.{message_at}
use Rattle.neg_initiator.specs.declared.fault.InitFault.{InitFault}
use Rattle.neg_initiator.specs.declared.fault.InitFault.TheVariants as initiator
use Rattle.neg_initiator.specs.declared.initiator.Next.{Next}
use Rattle.neg_initiator.specs.Listed.{PassesMost}
use Rattle.neg_initiator.specs.Session.{Session, Taken, RefusesReply}
use Rattle.neg_session.specs.declared.fault.SessionFault.{SessionFault}
use Rattle.neg_session.specs.declared.fault.SessionFault.TheVariants as session
use Rattle.neg_session.specs.Faults.{IsToldAs}
use Rattle.neg_session.specs.Ran.{IsRefusedAnswer}
use Rattle.neg_session.specs.Turn.{GoesBy, EndsBy}
use Rattle.neg_session.proofs.session.take_answer.Goals as goal

-- a fault of the initiator ends the session as it is told
ends_by : (reply : List ℕ) (left : ℕ) (is_last : Bool) (old new : Session) (f : InitFault) (e : SessionFault) → IsToldAs f e
    → ((c : CodecFault) → f ≡ initiator.Bad c → IsRefusedAnswer c reply)
    → ((c : CodecFault) → RefusesReply c → IsRefusedAnswer c reply → f ≡ initiator.Bad c)
    → (f ≡ initiator.NeedFull → (answered : List Span) × (message_at reply ≡ Ok answered) × PassesMost old.roll answered old.need old.most)
    → EndsBy reply left is_last old new e
ends_by reply left is_last old new (initiator.Bad d) e told bad refused full = record {
  failed = λ h. cc;
  bad = λ c h. bad c cc;
  refused = λ c r l. let is = refused c r l in cc;
  need_full = λ h. absurd cc;
  rounds = λ h. absurd cc;
  log_full = λ h. absurd cc;
}
ends_by reply left is_last old new initiator.NeedFull e told bad refused full = record {
  failed = λ h. cc;
  bad = λ c h. absurd cc;
  refused = λ c r l. let is = refused c r l in cc;
  need_full = λ h. full refl;
  rounds = λ h. absurd cc;
  log_full = λ h. absurd cc;
}
ends_by reply left is_last old new initiator.Memory e told bad refused full = record {
  failed = λ h. cc;
  bad = λ c h. absurd cc;
  refused = λ c r l. let is = refused c r l in cc;
  need_full = λ h. absurd cc;
  rounds = λ h. absurd cc;
  log_full = λ h. absurd cc;
}
ends_by reply left is_last old new initiator.Spent e told bad refused full = absurd told

as_err : (e f : InitFault) → e ≡ f → ◌≡◌ {A = Result Next InitFault} (Err e) (Err f)
as_err e f h = cc

as_fault : (e f : InitFault) → ◌≡◌ {A = Result Next InitFault} (Err e) (Err f) → e ≡ f
as_fault e f h = cc

pub returns-in-Err-clause-ends : goal.returns-in-Err-clause-ends
returns-in-Err-clause-ends c =
    ends_by c.args.answer.now c.args.left c.args.is_last c.args.initiator.now c.take.new.self c.in-Err.fault c.told_as.result c.told_as.ensures
    (λ f e. (c.in-Err.ensures.bad f (as_err _ _ e)).0)
    (λ f r l. as_fault _ _ (c.in-Err.ensures.refused f c.requires l r))
    (λ e. c.in-Err.ensures.need_full (as_err _ _ e))

-- an answer that was taken goes on
goes_by : (reply : List ℕ) (old new : Session) (next : Next) → (answered : List Span) × Spells reply answered × (message_at reply ≡ Ok answered) × Taken answered old new
    → (length old.need ≤ old.most → length new.need ≤ new.most) → Leaves new next → AsksWhereDue old.roll reply next → GoesBy reply old new next
goes_by reply old new next taken within leaves due = record { answered = taken.0; spells = taken.1; read = taken.2; taken = taken.3; within = within; leaves = leaves; due = due }

goes_if : (reply : List ℕ) (old new : Session) (is next : Next) → is ≡ next → GoesBy reply old new next → GoesBy reply old new is
goes_if reply old new is next same goes = subst (λ (n : Next). GoesBy reply old new n) (sym same) goes

-- and is no refused one
ends_last : (reply : List ℕ) (left : ℕ) (is_last : Bool) (old new : Session) (text : Vec ℕ Global) (next : Next) → next ≡ Ask text → is_last ≡ true → GoesBy reply old new next → EndsBy reply left is_last old new session.Rounds
ends_last reply left is_last old new text next is end goes = record {
  failed = λ h. cc;
  bad = λ c h. absurd cc;
  refused = λ c r l. let read = goes.read in absurd cc;
  need_full = λ h. absurd cc;
  rounds = λ h. (end, (subst (λ (n : Next). AsksWhereDue old.roll reply n) is goes.due), (next, goes));
  log_full = λ h. absurd cc;
}

pub returns-in-Ok-Ask-clause-ends : goal.returns-in-Ok-Ask-clause-ends
returns-in-Ok-Ask-clause-ends c =
    ends_last _ _ _ _ _ c.in-Ok-Ask.field-0-0 c.in-Ok-Ask.field-0 c.in-Ok-Ask.field-0-is c.if-is_last.true
    (goes_by _ _ _ _ c.in-Ok-Ask.ensures.taken c.in-Ok-Ask.ensures.within c.in-Ok-Ask.ensures.leaves c.in-Ok-Ask.ensures.due)

pub returns-in-Ok-2-clause-goes : goal.returns-in-Ok-2-clause-goes
returns-in-Ok-2-clause-goes c =
    goes_if _ _ _ _ _ c.in-Ok-2.next-is (goes_by _ _ _ c.in-Ok-2.next c.in-Ok-2.ensures.taken c.in-Ok-2.ensures.within c.in-Ok-2.ensures.leaves c.in-Ok-2.ensures.due)

pub returns-in-Ok-2-clause-room : goal.returns-in-Ok-2-clause-room
returns-in-Ok-2-clause-room c = c.if-left-answer.false
