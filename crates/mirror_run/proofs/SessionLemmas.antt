-- What one session with a peer in this process shows.
use Rattle.std.proofs.Common.{◌≡◌, ◌⊎◌, inl, inr, ℕ, ◌<◌, ◌≤◌, List, [], ◌∷◌, length, Option, None, Some, Result, Ok, Err, All, refl, sym, ap, ◌∙◌, subst, arith}
use Rattle.std.specs.Prelude.{IfSome}
use Rattle.std.specs.Io.KnownBytes.{Appends}
use Rattle.item_roll.specs.Parts.{IsRoll}
use Rattle.neg_codec.specs.declared.CodecFault.{CodecFault}
use Rattle.item_key.specs.declared.Item.{Item}
use Rattle.neg_codec.specs.Ranges.{Span}
use Rattle.neg_codec.specs.Reading.{message_at}
use Rattle.neg_codec.specs.Text.{Spells}
use Rattle.neg_codec.proofs.Again.{message_again}
use Rattle.std.proofs.lemmas.List.Elements.{All-nil, All-cons, All-head, All-tail}
use Rattle.neg_initiator.specs.declared.initiator.Outcome.{Outcome}
use Rattle.neg_session.specs.Asking.{Linked, Chained, MayResume, MayAsk}
use Rattle.neg_session.specs.Exchange.{Exchange, KeepsLimit, gained}
use Rattle.neg_session.specs.Explaining.{IsExplained, Explains, AnswersBy}
use Rattle.neg_session.specs.Faults.{number_of}
use Rattle.neg_session.specs.Local.{Local, IsRefusedQuestion, IsAnswered, Keeps, RollExplains}
use Rattle.neg_session.specs.Most.{AreMost}
use Rattle.neg_session.specs.Ran.{LastAnswer, IsRefusedAnswer, Ran}
use Rattle.neg_session.specs.declared.limits.SessionLimits.{SessionLimits}
use Rattle.neg_session.specs.declared.fault.SessionFault.{SessionFault}
use Rattle.neg_session.specs.declared.fault.SessionFault.TheVariants.{PeerFailed, Bad, Rounds, NeedFull, LogFull, Memory}
use Rattle.mirror_run.specs.ReconText.{recon_text}
use Rattle.mirror_run.specs.declared.refusal.Refusal.{Refusal}
use Rattle.mirror_run.specs.declared.refusal.Refusal.TheVariants as refusal
use Rattle.mirror_run.specs.Reconciled.{Reconciles, Fails, TellsRolls, IsSessionRefusal, IsListsRefusal, IsPrinted}

-- a peer that was asked nothing yet
pub record IsFresh (limit : ℕ) (theirs : List Item) (peer : Local) : Type 0 where
  pub roll : peer.roll ≡ theirs
  pub log : peer.log ≡ []
  pub faults : peer.faults ≡ 0
  pub sorted : IsRoll peer.roll
  pub answers : All (AnswersBy limit peer.roll) peer.log
  pub limit_is : peer.limit ≡ limit
  pub pairs : All (IsAnswered limit) peer.log

ran_fresh : (limit : ℕ) (mine theirs : List Item) (limits : SessionLimits) (old new : Local) (r : Result Outcome SessionFault) → IsFresh limit theirs old
    → Ran mine limits old.log new.log old.faults new.faults r → Ran mine limits [] new.log 0 new.faults r
ran_fresh limit mine theirs limits old new r fresh ran = rw (fresh.log, fresh.faults) at ran

-- each answer is the reply of the peer's list
kept_answers : (limit : ℕ) (theirs : List Item) (old new : Local) → IsFresh limit theirs old → Keeps old new → All (AnswersBy limit theirs) new.log
kept_answers limit theirs old new fresh keeps =
    let start : All (AnswersBy old.limit old.roll) old.log = subst (λ (n : ℕ). All (AnswersBy n old.roll) old.log) (sym fresh.limit_is) fresh.answers in
    subst (λ (n : ℕ). All (AnswersBy n theirs) new.log) (keeps.limit_is ∙ fresh.limit_is) (subst (λ (b : List Item). All (AnswersBy new.limit b) new.log) (keeps.roll ∙ fresh.roll) (keeps.answers start))

explained : (limit : ℕ) (mine theirs : List Item) (limits : SessionLimits) (old new : Local) (r : Result Outcome SessionFault) → RollExplains → IsFresh limit theirs old → Keeps old new
    → Ran mine limits [] new.log 0 new.faults r → Explains theirs new.log
explained limit mine theirs limits old new r law fresh keeps ran =
    let sorted : IsRoll theirs = subst IsRoll fresh.roll fresh.sorted in
    law limit limits.limit mine theirs [] new.log sorted (kept_answers limit theirs old new fresh keeps) ran.appended ran.chained

-- what a session asks and hears is no longer than the limit

kept_pairs : (limit : ℕ) (theirs : List Item) (old new : Local) → IsFresh limit theirs old → Keeps old new → All (IsAnswered limit) new.log
kept_pairs limit theirs old new fresh keeps =
    subst (λ (n : ℕ). All (IsAnswered n) new.log) (keeps.limit_is ∙ fresh.limit_is) (keeps.pairs (subst (λ (n : ℕ). All (IsAnswered n) old.log) (sym fresh.limit_is) fresh.pairs))

chained_all : {r : Result Outcome SessionFault} {n : ℕ} → (mine : List Item) (limits : SessionLimits) (log : List Exchange) → Ran mine limits [] log 0 n r → Chained limits.limit mine log
chained_all mine limits log ran = subst (Chained limits.limit mine) (sym ran.appended) ran.chained

linked_short : (limit : ℕ) (own : List Item) (e : Exchange) (es : List Exchange) → Linked limit own e es → All (IsAnswered limit) es → All (KeepsLimit limit) es
linked_short limit own e [] l h = All-nil (KeepsLimit limit)
linked_short limit own e (f ∷ fs) l h =
    All-cons (KeepsLimit limit) f fs (l.0.short, (All-head (IsAnswered limit) f fs h).short) (linked_short limit own f fs l.1 (All-tail (IsAnswered limit) f fs h))

all_short : (limit : ℕ) (own : List Item) (es : List Exchange) → Chained limit own es → All (IsAnswered limit) es → All (KeepsLimit limit) es
all_short limit own [] l h = All-nil (KeepsLimit limit)
all_short limit own (e ∷ es) l h =
    All-cons (KeepsLimit limit) e es (l.0.short, (All-head (IsAnswered limit) e es h).short) (linked_short limit own e es l.1 (All-tail (IsAnswered limit) e es h))

-- a message within the length that is read isn't refused

is_read : (bytes : List ℕ) (m : List Span) (c : CodecFault) → length bytes ≤ 1048576 → Spells bytes m → message_at bytes ≡ Err c → ⊥
is_read bytes m c short spells refused = let read = message_again bytes m short spells in cc

heard : (limit : ℕ) (theirs : List Item) (c : CodecFault) (log : List Exchange) → limit ≤ 1048576 → Explains theirs log → All (IsAnswered limit) log → LastAnswer (IsRefusedAnswer c) log → ⊥
heard limit theirs c log most explains pairs last = go log explains.each pairs last
  where
    go : (es : List Exchange) → All (IsExplained theirs) es → All (IsAnswered limit) es → LastAnswer (IsRefusedAnswer c) es → ⊥
    go [] x h l = l
    go (e ∷ []) x h l =
        let told = All-head (IsExplained theirs) e [] x in
        is_read e.answered told.answered c (omega (arith, most, (All-head (IsAnswered limit) e [] h).short)) told.answers l
    go (e ∷ f ∷ es) x h l = go (f ∷ es) (All-tail (IsExplained theirs) e (f ∷ es) x) (All-tail (IsAnswered limit) e (f ∷ es) h) l

may_resume_read : (limit : ℕ) (own : List Item) (e : Exchange) (es : List Exchange) (q : List ℕ) → limit ≤ 1048576 → MayResume limit own e es q → IsRefusedQuestion q → ⊥
may_resume_read limit own e [] q most may refused = is_read q may.asked refused.0 (omega (arith, most, may.short)) may.spelled refused.1
may_resume_read limit own e (f ∷ fs) q most may refused = may_resume_read limit own f fs q most may refused

may_be_read : (limit : ℕ) (own : List Item) (es : List Exchange) (q : List ℕ) → limit ≤ 1048576 → MayAsk limit own es q → IsRefusedQuestion q → ⊥
may_be_read limit own [] q most may refused = is_read q may.asked refused.0 (omega (arith, most, may.short)) may.spelled refused.1
may_be_read limit own (e ∷ es) q most may refused = may_resume_read limit own e es q most may refused

pub reconciled : (limit : ℕ) (mine theirs : List Item) (limits : SessionLimits) (old new : Local) (o : Outcome) → RollExplains → AreMost limit limits → IsFresh limit theirs old
    → Keeps old new → Ran mine limits old.log new.log old.faults new.faults (Ok o) → Reconciles limit mine theirs new.log o
reconciled limit mine theirs limits old new o law are fresh keeps ran =
    let from_start = ran_fresh limit mine theirs limits old new (Ok o) fresh ran in
    let explains = explained limit mine theirs limits old new (Ok o) law fresh keeps from_start in
    let P : ℕ → Type 0 = λ n. Ran mine limits [] new.log 0 n (Ok o) in
    record {
      limits = limits;
      are = are;
      ran = subst P (from_start.unfailed (λ e. cc)) from_start;
      short = all_short limit mine new.log (subst (λ (n : ℕ). Chained n mine new.log) are.limit_is (chained_all mine limits new.log from_start)) (kept_pairs limit theirs old new fresh keeps);
      answers = kept_answers limit theirs old new fresh keeps;
      explained = explains;
      right = from_start.exact theirs explains;
    }

number_range : (fault : SessionFault) → ((c : CodecFault) → fault ≡ Bad c → ⊥) → (fault ≡ PeerFailed → ⊥) → (fault ≡ Memory → ⊥) → (2 < number_of fault) × (number_of fault < 6)
number_range PeerFailed bad failed memory = absurd (failed refl)
number_range (Bad c) bad failed memory = absurd (bad c refl)
number_range Rounds bad failed memory = (omega arith, omega arith)
number_range NeedFull bad failed memory = (omega arith, omega arith)
number_range LogFull bad failed memory = (omega arith, omega arith)
number_range Memory bad failed memory = absurd (memory refl)

pub failed : (limit : ℕ) (mine theirs : List Item) (limits : SessionLimits) (old new : Local) (fault : SessionFault) (number : ℕ) → RollExplains → AreMost limit limits → limit ≤ 1048576 → IsFresh limit theirs old
    → Keeps old new → Ran mine limits old.log new.log old.faults new.faults (Err fault)
    → (fault ≡ PeerFailed → (q : List ℕ) × MayAsk limits.limit mine (gained old.log new.log) q × IsRefusedQuestion q)
    → number ≡ number_of fault → (fault ≡ Memory → ⊥) → Fails limit mine theirs number
failed limit mine theirs limits old new fault number law are most fresh keeps ran asked is other =
    let from_start = ran_fresh limit mine theirs limits old new (Err fault) fresh ran in
    let explains = explained limit mine theirs limits old new (Err fault) law fresh keeps from_start in
    let range = number_range fault
    (λ c e. heard limit theirs c new.log most explains (kept_pairs limit theirs old new fresh keeps) (from_start.bad c (ap Err e)))
    (λ e. let q = asked e in may_be_read limits.limit mine (gained old.log new.log) q.0 (omega (arith, are.limit_is, most)) q.1 q.2) other in
    record {
      limits = limits;
      log = new.log;
      failures = new.faults;
      fault = fault;
      are = are;
      ran = from_start;
      explained = explains;
      is = is;
      answered = omega (arith, is, range.0);
      not_memory = omega (arith, is, range.1);
    }

is_memory : (fault : SessionFault) → (fault ≡ Memory) ⊎ (fault ≡ Memory → ⊥)
is_memory PeerFailed = inr (λ e. cc)
is_memory (Bad c) = inr (λ e. cc)
is_memory Rounds = inr (λ e. cc)
is_memory NeedFull = inr (λ e. cc)
is_memory LogFull = inr (λ e. cc)
is_memory Memory = inl refl

pub refused : (limit : ℕ) (mine theirs : List Item) (limits : SessionLimits) (old new : Local) (fault : SessionFault) (result : Refusal) → RollExplains → AreMost limit limits → limit ≤ 1048576 → IsFresh limit theirs old
    → Keeps old new → Ran mine limits old.log new.log old.faults new.faults (Err fault)
    → (fault ≡ PeerFailed → (q : List ℕ) × MayAsk limits.limit mine (gained old.log new.log) q × IsRefusedQuestion q)
    → (fault ≡ Memory → result ≡ refusal.Memory) → ((fault ≡ Memory → ⊥) → result ≡ refusal.Session (number_of fault)) → IsSessionRefusal limit mine theirs result
refused limit mine theirs limits old new fault result law are most fresh keeps ran asked memory others = elim (is_memory fault) [
  | inl is ↦ subst (IsSessionRefusal limit mine theirs) (sym (memory is)) tt
  | inr other ↦ subst (IsSessionRefusal limit mine theirs) (sym (others other)) (failed limit mine theirs limits old new fault (number_of fault) law are most fresh keeps ran asked refl other)
]

-- and what the text's two lists come to
pub lists_refused : (limit : ℕ) (text : List ℕ) (mine theirs : List Item) (e : Refusal) → TellsRolls text mine theirs → IsSessionRefusal limit mine theirs e → IsListsRefusal limit text e
lists_refused limit text mine theirs (refusal.Session number) told h = (mine, theirs, told, h)
lists_refused limit text mine theirs refusal.Memory told h = tt
lists_refused limit text mine theirs refusal.Read told h = h
lists_refused limit text mine theirs refusal.Write told h = h
lists_refused limit text mine theirs refusal.InputTooLong told h = h
lists_refused limit text mine theirs refusal.NotUtf8 told h = h
lists_refused limit text mine theirs (refusal.Line n f) told h = absurd h
lists_refused limit text mine theirs (refusal.Plan k) told h = h
lists_refused limit text mine theirs refusal.TableFull told h = h

-- what was written, where the input is known
pub printed : (limit : ℕ) (known old new : Option (List ℕ)) (text : List ℕ) (mine theirs : List Item) (log pairs : List Exchange) (o : Outcome) (trusted : ℕ)
    → IfSome known (λ input. text ≡ input) → TellsRolls text mine theirs
    → Reconciles limit mine theirs log o → pairs ≡ log → trusted ≡ length o.trusted.items
    → Appends old new (recon_text pairs o.need.keys o.have.keys trusted)
    → IfSome known (λ input. IsPrinted limit input old new)
printed limit None old new text mine theirs log pairs o trusted is told session same count written = tt
printed limit (Some input) old new text mine theirs log pairs o trusted is told session same count written = record {
  mine = mine;
  theirs = theirs;
  log = log;
  outcome = o;
  told = subst (λ (bytes : List ℕ). TellsRolls bytes mine theirs) is told;
  session = session;
  written = rw (same, count) at written;
}
