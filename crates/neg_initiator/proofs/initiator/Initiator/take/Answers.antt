use Rattle.std.proofs.Common.{rules, ◌≡◌, ◌≢◌, ◌==◌, ◌⊎◌, ◌∙◌, ◌≤◌, ℕ, List, [], Bool, true, false, not, length, map, refl, sym, subst, inl, inr, Result, Ok, Err}
use borrow.Author.Tests.{tests}
use denote.Enum.Bare.{sameb}
use Rattle.std.specs.Prelude.{◌↔◌, All}
use Rattle.std.proofs.lemmas.Bool.{eqb-true}
use Rattle.neg_codec.specs.declared.CodecFault.{CodecFault}
use Rattle.neg_codec.specs.declared.Range.{Range}
use Rattle.neg_codec.specs.Ranges.{Span, IsSkip, stretches, span_of}
use Rattle.neg_codec.specs.Reading.{message_at}
use Rattle.neg_initiator.specs.contracts.phase.Phase.{the_type}
use Rattle.neg_initiator.specs.declared.fault.InitFault.{InitFault}
use Rattle.neg_initiator.specs.declared.fault.InitFault.TheVariants as fault
use Rattle.neg_initiator.specs.declared.found.Found.{Found}
use Rattle.neg_initiator.specs.declared.initiator.Initiator.TheInside.{Inside}
use Rattle.neg_initiator.specs.declared.initiator.Next.{Next}
use Rattle.neg_initiator.specs.declared.phase.Phase.{Phase}
use Rattle.neg_initiator.specs.declared.phase.Phase.TheVariants as phase
use Rattle.neg_initiator.specs.Session.{Session, IsSound}
use Rattle.neg_initiator.specs.Views.{session_of, IsKept}
use Rattle.neg_initiator.proofs.Taking.{taken_any, not_due, spans_none, spans_gone}
use Rattle.neg_initiator.proofs.initiator.Initiator.take.Goals as goal

-- ---- faults

-- what comes after a reply is no fault
no_fault : (next : Next) (e : InitFault) → ◌≡◌ {A = Result Next InitFault} (Ok next) (Err e) → ⊥
no_fault next e h = cc

-- settling ends in want of memory or in too many needed ids, and is never refused as spent
not_spent : (e : InitFault) → (e ≡ fault.NeedFull) ⊎ (e ≡ fault.Memory)
    → ◌≡◌ {A = Result Next InitFault} (Err e) (Err fault.Spent) → ⊥
not_spent e w h = elim w [ inl full ↦ (cc) | inr memory ↦ (cc) ]

-- nor as a bad reply
not_bad : (e : InitFault) (f : CodecFault) → (e ≡ fault.NeedFull) ⊎ (e ≡ fault.Memory)
    → ◌≡◌ {A = Result Next InitFault} (Err e) (Err (fault.Bad f)) → ⊥
not_bad e f w h = elim w [ inl full ↦ (cc) | inr memory ↦ (cc) ]

-- want of memory is no want of room
not_full : ◌≡◌ {A = Result Next InitFault} (Err fault.Memory) (Err fault.NeedFull) → ⊥
not_full h = cc

-- a fault that is told of a bad reply is the one that was met
bad_is : (e : InitFault) (f : CodecFault) → ◌≡◌ {A = Result Next InitFault} (Err e) (Err (fault.Bad f)) → e ≡ fault.Bad f
bad_is e f h = cc

-- a reply that was read as a message isn't refused
read_once : (reply : List ℕ) (answered : List Span) (f : CodecFault)
    → message_at reply ≡ Ok answered → message_at reply ≡ Err f → ⊥
read_once reply answered f was is = cc

-- ---- phases

-- a phase that is no other than asking is it
asks_now : (p : Phase) → false ≡ not (sameb the_type p phase.Asking) → p ≡ phase.Asking
asks_now p same = search (tests, rules)

-- a session that asks isn't refused as a spent one
spent_as : (r : Result Next InitFault) (s t : Session) → s ≡ t → false ≡ not (sameb the_type s.phase phase.Asking)
    → (r ≡ Err fault.Spent → ⊥) → (r ≡ Err fault.Spent) ↔ (t.phase ≢ phase.Asking)
spent_as r s t is same other =
    let asks : t.phase ≡ phase.Asking = subst (λ (x : Session). x.phase ≡ phase.Asking) is (asks_now s.phase same) in
    ((λ e _. other e), (λ not_asking. absurd (not_asking asks)))

-- one that asks hasn't ended
asks_on : phase.Asking ≡ phase.Ended → ⊥
asks_on h = cc

-- nor has one that is spent
spent_on : phase.Spent ≡ phase.Ended → ⊥
spent_on h = cc

-- whether a session asks has no part in whether it is sound
sound_any : (s : Session) (p : Phase) → IsSound s → IsSound (record s { phase = p })
sound_any s p t = record {
  roll = t.roll;
  ascends = t.ascends;
  none_empty = t.none_empty;
  skips_joined = t.skips_joined;
  truth = t.truth;
  enough = t.enough;
}

-- nor has what was found in whether a spent one is kept
kept_spent : (s : Inside) (f : Found) → IsSound (session_of s) → IsKept (record s { found = f; phase = phase.Spent })
kept_spent s f t = record {
  sound = record {
    roll = t.roll;
    ascends = t.ascends;
    none_empty = t.none_empty;
    skips_joined = t.skips_joined;
    truth = t.truth;
    enough = t.enough;
  };
  sets = λ e. absurd (spent_on e);
}

-- ---- whether the next ask has ranges

-- an ask of no ranges skips all
skips_all : All IsSkip (stretches [])
skips_all = search rules

-- an ask whose ranges were seen to be none has none
none_left : (rs : List Range) (next : List Span) (b : Bool) → map span_of rs ≡ next → b ≡ (length rs == 0) → b ≡ true → next ≡ []
none_left rs next b value is none = spans_none rs next value (eqb-true (length rs) 0 (sym is ∙ none))

-- and one whose ranges were seen to be some isn't empty
some_left : (rs : List Range) (next : List Span) (b : Bool) → map span_of rs ≡ next → b ≡ (length rs == 0)
    → b ≡ false → next ≡ [] → ⊥
some_left rs next b value is some none =
    let gone : rs ≡ [] = spans_gone rs next value none in
    let seen : true ≡ false = subst (λ (xs : List Range). (length xs == 0) ≡ false) gone (sym is ∙ some) in cc

-- ---- a reply that is no message

pub returns-in-Err-clause-bad : goal.returns-in-Err-clause-bad
returns-in-Err-clause-bad c = λ f e. c.in-Err.ensures.bad f (bad_is c.in-Err.fault f e)

-- ---- a reply that isn't settled

pub invariant_of-self-in-Err-settle : goal.invariant_of-self-in-Err-settle
invariant_of-self-in-Err-settle c = kept_spent c.self.inside c.settle.new.found c.self.invariant.sound

pub returns-in-Err-settle-clause-spent : goal.returns-in-Err-settle-clause-spent
returns-in-Err-settle-clause-spent c =
    spent_as _ _ _ c.self.view_is c.if-ne.ensures
    (not_spent c.in-Err-settle.fault c.in-Err-settle.ensures.fault)

pub returns-in-Err-settle-clause-unchanged : goal.returns-in-Err-settle-clause-unchanged
returns-in-Err-settle-clause-unchanged c = λ e. absurd (not_spent c.in-Err-settle.fault c.in-Err-settle.ensures.fault e)

pub returns-in-Err-settle-clause-bad : goal.returns-in-Err-settle-clause-bad
returns-in-Err-settle-clause-bad c = λ f e. absurd (not_bad c.in-Err-settle.fault f c.in-Err-settle.ensures.fault e)

pub returns-in-Err-settle-clause-refused : goal.returns-in-Err-settle-clause-refused
returns-in-Err-settle-clause-refused c =
    λ f _ refused _. absurd (read_once c.args.reply.now c.in-Ok.message f c.in-Ok.ensures.found.1 refused)

-- ---- all is settled

pub invariant_of-self-then-is_empty : goal.invariant_of-self-then-is_empty
invariant_of-self-then-is_empty c =
    let none : c.in-Ok-settle.next ≡ [] =
    none_left c.ranges-2.result.now c.in-Ok-settle.next c.is_empty.result
    c.ranges-2.ensures.value c.is_empty.ensures c.if-is_empty.true in
    record {
      sound = sound_any _ phase.Ended c.in-Ok-settle.ensures.taken.sound;
      sets = λ _. c.in-Ok-settle.ensures.sets none;
    }

pub returns-then-is_empty-clause-spent : goal.returns-then-is_empty-clause-spent
returns-then-is_empty-clause-spent c = spent_as _ _ _ c.self.view_is c.if-ne.ensures (no_fault _ _)

pub returns-then-is_empty-clause-unchanged : goal.returns-then-is_empty-clause-unchanged
returns-then-is_empty-clause-unchanged c = λ e. absurd (no_fault _ _ e)

pub returns-then-is_empty-clause-bad : goal.returns-then-is_empty-clause-bad
returns-then-is_empty-clause-bad c = λ f e. absurd (no_fault _ _ e)

pub returns-then-is_empty-clause-refused : goal.returns-then-is_empty-clause-refused
returns-then-is_empty-clause-refused c =
    λ f _ refused _. absurd (read_once c.args.reply.now c.in-Ok.message f c.in-Ok.ensures.found.1 refused)

pub returns-then-is_empty-clause-need_full : goal.returns-then-is_empty-clause-need_full
returns-then-is_empty-clause-need_full c = λ e. absurd (no_fault _ _ e)

pub returns-then-is_empty-clause-within : goal.returns-then-is_empty-clause-within
returns-then-is_empty-clause-within c = λ _. c.in-Ok-settle.ensures.within

pub returns-then-is_empty-clause-taken : goal.returns-then-is_empty-clause-taken
returns-then-is_empty-clause-taken c =
    let t = taken_any c.in-Ok.message _ _ c.self.inside.phase phase.Ended c.in-Ok-settle.ensures.taken in
    (c.in-Ok.message, c.in-Ok.ensures.found.0, c.in-Ok.ensures.found.1, rw (← c.self.view_is) t)

pub returns-then-is_empty-clause-leaves : goal.returns-then-is_empty-clause-leaves
returns-then-is_empty-clause-leaves c =
    let none : c.in-Ok-settle.next ≡ [] =
    none_left c.ranges-2.result.now c.in-Ok-settle.next c.is_empty.result
    c.ranges-2.ensures.value c.is_empty.ensures c.if-is_empty.true in
    let over = subst (λ (asked : List Span). All IsSkip (stretches asked)) (sym none) skips_all in
    record { phase = refl; skips_all = over }

pub returns-then-is_empty-clause-due : goal.returns-then-is_empty-clause-due
returns-then-is_empty-clause-due c =
    let none : c.in-Ok-settle.next ≡ [] =
    none_left c.ranges-2.result.now c.in-Ok-settle.next c.is_empty.result
    c.ranges-2.ensures.value c.is_empty.ensures c.if-is_empty.true in
    let due = not_due c.self.inside.roll.now c.args.reply.now c.in-Ok.message c.in-Ok.ensures.found.1
    (c.in-Ok-settle.ensures.due.0 none) in
    rw (← c.self.view_is) due

-- ---- the next ask isn't written

pub invariant_of-self-in-Err-encode : goal.invariant_of-self-in-Err-encode
invariant_of-self-in-Err-encode c = kept_spent c.self.inside c.settle.new.found c.self.invariant.sound

pub returns-in-Err-encode-clause-spent : goal.returns-in-Err-encode-clause-spent
returns-in-Err-encode-clause-spent c = spent_as _ _ _ c.self.view_is c.if-ne.ensures (not_spent fault.Memory (inr refl))

pub returns-in-Err-encode-clause-unchanged : goal.returns-in-Err-encode-clause-unchanged
returns-in-Err-encode-clause-unchanged c = λ e. absurd (not_spent fault.Memory (inr refl) e)

pub returns-in-Err-encode-clause-bad : goal.returns-in-Err-encode-clause-bad
returns-in-Err-encode-clause-bad c = λ f e. absurd (not_bad fault.Memory f (inr refl) e)

pub returns-in-Err-encode-clause-refused : goal.returns-in-Err-encode-clause-refused
returns-in-Err-encode-clause-refused c =
    λ f _ refused _. absurd (read_once c.args.reply.now c.in-Ok.message f c.in-Ok.ensures.found.1 refused)

pub returns-in-Err-encode-clause-need_full : goal.returns-in-Err-encode-clause-need_full
returns-in-Err-encode-clause-need_full c = λ e. absurd (not_full e)

-- ---- the next ask

pub invariant_of-self-2 : goal.invariant_of-self-2
invariant_of-self-2 c = record { sound = c.in-Ok-settle.ensures.taken.sound; sets = λ e. absurd (asks_on e) }

pub returns-clause-spent : goal.returns-clause-spent
returns-clause-spent c = spent_as _ _ _ c.self.view_is c.if-ne.ensures (no_fault _ _)

pub returns-clause-unchanged : goal.returns-clause-unchanged
returns-clause-unchanged c = λ e. absurd (no_fault _ _ e)

pub returns-clause-bad : goal.returns-clause-bad
returns-clause-bad c = λ f e. absurd (no_fault _ _ e)

pub returns-clause-refused : goal.returns-clause-refused
returns-clause-refused c = λ f _ refused _. absurd (read_once c.args.reply.now c.in-Ok.message f c.in-Ok.ensures.found.1 refused)

pub returns-clause-need_full : goal.returns-clause-need_full
returns-clause-need_full c = λ e. absurd (no_fault _ _ e)

pub returns-clause-within : goal.returns-clause-within
returns-clause-within c = λ _. c.in-Ok-settle.ensures.within

pub returns-clause-taken : goal.returns-clause-taken
returns-clause-taken c =
    let t = taken_any c.in-Ok.message _ _ c.self.inside.phase phase.Asking c.in-Ok-settle.ensures.taken in
    (c.in-Ok.message, c.in-Ok.ensures.found.0, c.in-Ok.ensures.found.1, rw (← c.self.view_is) t)

pub returns-clause-leaves : goal.returns-clause-leaves
returns-clause-leaves c =
    let some : c.in-Ok-settle.next ≡ [] → ⊥ =
    some_left c.ranges-2.result.now c.in-Ok-settle.next c.is_empty.result
    c.ranges-2.ensures.value c.is_empty.ensures c.if-is_empty.false in
    let written = c.in-Ok-encode.ensures.text in
    record {
      phase = refl;
      spelled = c.in-Ok-encode.ensures.spelled;
      exact = written;
      short = subst (λ (text : List ℕ). length text ≤ c.self.inside.limit) (sym written) c.in-Ok-settle.ensures.short;
      asks = elim c.in-Ok-settle.ensures.leaves_open [ inl none ↦ absurd (some none) | inr left ↦ left ];
    }

pub returns-clause-due : goal.returns-clause-due
returns-clause-due c =
    let some : c.in-Ok-settle.next ≡ [] → ⊥ =
    some_left c.ranges-2.result.now c.in-Ok-settle.next c.is_empty.result
    c.ranges-2.ensures.value c.is_empty.ensures c.if-is_empty.false in
    rw (← c.self.view_is) (c.in-Ok.message, c.in-Ok.ensures.found.1, c.in-Ok-settle.ensures.due.1 some)
