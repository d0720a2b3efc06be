-- What is known of the other side, how a session begins, and how it ends without another exchange.
use Rattle.std.proofs.Common.{◌≡◌, ℕ, ◌<◌, ◌≤◌, ◌⊎◌, inl, inr, List, [], ◌∷◌, Result, Err, refl, sym, ap, ◌∙◌, subst, arith, append-nil}
use Rattle.std.specs.Prelude.{◌↔◌, All, Contains}
use Rattle.std.proofs.lemmas.List.Elements.{All-nil, All-weaker, All-contains, All-contains_itself}
use Rattle.neg_codec.proofs.Stretches.{contains_none}
use Rattle.neg_codec.specs.declared.CodecFault.{CodecFault}
use Rattle.item_key.specs.declared.Id.{Id}
use Rattle.item_key.specs.declared.Item.{Item}
use Rattle.neg_codec.specs.Ranges.{Span, stretches}
use Rattle.item_roll.specs.Parts.{IsRoll, part}
use Rattle.item_roll.specs.Truth.{IsTrueOf, Follows}
use Rattle.neg_initiator.specs.declared.initiator.Outcome.{Outcome}
use Rattle.neg_initiator.specs.Session.{Session, Starts, Taken, IsDone}
use Rattle.neg_initiator.specs.Settled.{HasOnePrint, ToldApart, OneTime, Settled, Needs, Has}
use Rattle.neg_initiator.proofs.Ends.{settled_first, settled_last}
use Rattle.neg_session.specs.Exchange.{Exchange, gained}
use Rattle.neg_session.specs.Asking.{MayAsk}
use Rattle.neg_session.specs.Ran.{trusted_of, IsRight, LastAnswer, IsRefusedAnswer, AsksForFew, Ran}
use Rattle.neg_session.specs.Going.{Knows, IsRead, Going}
use Rattle.neg_session.specs.Faults.{fault_of}
use Rattle.neg_session.specs.declared.peer.PeerFault.{PeerFault}
use Rattle.neg_session.specs.declared.peer.PeerFault.TheVariants as peer
use Rattle.neg_session.specs.declared.limits.SessionLimits.{SessionLimits}
use Rattle.neg_session.specs.declared.fault.SessionFault.{SessionFault}
use Rattle.neg_session.specs.declared.fault.SessionFault.TheVariants.{PeerFailed, Bad, Rounds, NeedFull, LogFull, Memory}
use Rattle.neg_session.proofs.Logs.{gained_none, all_front, no_refusal, none_pushed, front_less}

-- what is known of the other side

told_before : (own b : List Item) (ts us : List (Item × Item)) → ((t : Item × Item) → Contains ts t → Contains us t) → ToldApart own b us → ToldApart own b ts
told_before own b ts us kept told =
    let P : Item × Item → Type 0 = λ t. HasOnePrint own b t → part own t.0 t.1 ≡ part b t.0 t.1 in
    All-weaker (Contains ts) P (λ t m. All-contains P us t told (kept t m)) ts (All-contains_itself ts)

knows_first : (own b : List Item) (limit need : ℕ) (text : List ℕ) (s : Session) → Starts own limit need text s → IsRoll b → Knows own b s
knows_first own b limit need text s h roll_b =
    let roll_a : IsRoll own = subst IsRoll h.roll h.sound.roll in
    record {
      one_print = subst (λ ts. All (HasOnePrint own b) ts) (sym h.trusted) (All-nil (HasOnePrint own b));
      settled = λ told one. subst (λ (hs : List Id). Settled own b s.asked s.need hs) (sym h.have)
          (subst (λ (ns : List Id). Settled own b s.asked ns []) (sym h.need) (settled_first own b s.asked roll_a.keys roll_b.keys h.skips_nothing));
    }

pub knows_more : (b : List Item) (old new : Session) (answered : List Span) → IsRoll b → Follows b old.asked answered → Taken answered old new → Knows old.roll b old → Knows old.roll b new
knows_more b old new answered roll_b follows taken knows =
    let step = taken.advances b roll_b follows in
    record {
      one_print = All-weaker (λ t. Contains old.trusted t ⊎ HasOnePrint old.roll b t) (HasOnePrint old.roll b)
          (λ t h. elim h [ inl m ↦ All-contains (HasOnePrint old.roll b) old.trusted t knows.one_print m | inr now ↦ now ]) new.trusted step.one_print;
      settled = λ told one. step.settled told one (knows.settled (told_before old.roll b old.trusted new.trusted taken.trusted_kept told) one);
    }

pub right_of : (own b : List Item) (s : Session) (o : Outcome) → Knows own b s → IsDone s → o.need.keys ≡ s.need → o.have.keys ≡ s.have → ((t : Item × Item) → Contains (trusted_of o) t ↔ Contains s.trusted t) → IsRight own b o
right_of own b s o knows done is_need is_have is_trusted = record {
  one_print = All-weaker (Contains (trusted_of o)) (HasOnePrint own b) (λ t h. All-contains (HasOnePrint own b) s.trusted t knows.one_print ((is_trusted t).0 h)) (trusted_of o) (All-contains_itself (trusted_of o));
  need = λ told one i. subst (λ (ns : List Id). Contains ns i ↔ Needs own b i) (sym is_need) ((found told one).0 i);
  have = λ told one i. subst (λ (hs : List Id). Contains hs i ↔ Has own b i) (sym is_have) ((found told one).1 i);
}
  where
    found : ToldApart own b (trusted_of o) → OneTime own b → ((i : Id) → Contains s.need i ↔ Needs own b i) × ((i : Id) → Contains s.have i ↔ Has own b i)
    found told one = settled_last own b s.asked s.need s.have done.skips_all (knows.settled (told_before own b s.trusted (trusted_of o) (λ t h. (is_trusted t).1 h) told) one)

-- a session begins

pub going_first : (own : List Item) (limits : SessionLimits) (old : List Exchange) (before : ℕ) (text : List ℕ) (s : Session)
    → Starts own limits.limit limits.need text s → Going own limits 0 old old before before text limits.log s
going_first own limits old before text s h = record {
  appended = rw gained_none (sym (append-nil old));
  chained = rw gained_none tt;
  due = inl (gained_none old);
  may = rw gained_none (record { asked = s.asked; spelled = h.spelled; short = h.short; none_empty = h.sound.none_empty; skips_joined = h.sound.skips_joined; truth = subst (λ (w : List Item). All (IsTrueOf w) (stretches s.asked)) h.roll h.sound.truth; skips_nothing = h.skips_nothing });
  count = rw gained_none refl;
  bytes = rw gained_none (omega arith);
  read = rw gained_none (All-nil IsRead);
  unfailed = refl;
  roll = h.roll;
  limit_is = h.limit_is;
  most = h.most;
  phase = h.phase;
  sound = h.sound;
  spelled = h.spelled;
  few = rw h.need (omega arith);
  offered = λ i m. absurd (contains_none i (subst (λ (ns : List Id). Contains ns i) h.need m));
  withheld = λ i m. absurd (contains_none i (subst (λ (hs : List Id). Contains hs i) h.have m));
  few_asked = rw gained_none (All-nil (AsksForFew limits.limit own limits.need));
  shown = λ t m. absurd (contains_none t (subst (λ (ts : List (Item × Item)). Contains ts t) h.trusted m));
  knows = λ b e. knows_first own b limits.limit limits.need text s h e.roll;
}

-- it ends before it begins
pub ran_none : (own : List Item) (limits : SessionLimits) (old : List Exchange) (before : ℕ) → Ran own limits old old before before (Err Memory)
ran_none own limits old before = record {
  appended = rw gained_none (sym (append-nil old));
  chained = rw gained_none tt;
  within = rw gained_none (omega arith);
  exact = tt;
  gathered = λ front e h. absurd (none_pushed front e (sym (gained_none old) ∙ h));
  done = tt;
  unfailed = λ no. refl;
  failed = λ e. cc;
  bad = λ c e. cc;
  rounds = λ e. cc;
  need_full = λ e. cc;
  log_full = λ e. cc;
  within_log = tt;
  few = tt;
  offered = tt;
  withheld = tt;
  few_before = λ front e h. absurd (none_pushed front e (sym (gained_none old) ∙ h));
  few_done = tt;
  few_rounds = λ e. cc;
  shown = tt;
  once = tt;
  refused = λ c r l. absurd (subst (LastAnswer (IsRefusedAnswer c)) (gained_none old) l);
}

-- it ends without another pair
module _ (own : List Item) (limits : SessionLimits) (asked : ℕ) (old now new : List Exchange) (before after last : ℕ) (question : List ℕ) (left : ℕ) (s : Session)
    (going : Going own limits asked old now before after question left s) (same : new ≡ now) where
  pub ran_quiet : asked ≤ limits.rounds → (e : SessionFault) → (e ≡ PeerFailed → after < last) → ((e ≡ PeerFailed → ⊥) → last ≡ after) → ((c : CodecFault) → e ≡ Bad c → ⊥)
      → (e ≡ Rounds → asked ≡ limits.rounds) → (e ≡ NeedFull → ⊥) → (e ≡ LogFull → ⊥) → Ran own limits old new before last (Err e)
  ran_quiet room e failed unfailed bad rounds need_full log_full = record {
    appended = rw same going.appended;
    chained = rw same going.chained;
    within = rw same (omega (arith, going.count));
    gathered = λ front e h. omega (arith, going.bytes, front_less (gained old now) front e (ap (gained old) (sym same) ∙ h));
    exact = tt;
    done = tt;
    unfailed = λ no. unfailed (λ x. no (ap Err x)) ∙ going.unfailed;
    failed = λ h. omega (arith, failed (is h), going.unfailed);
    bad = λ c h. absurd (bad c (is h));
    rounds = λ h. rw same (going.count ∙ rounds (is h), going.due);
    need_full = λ h. absurd (need_full (is h));
    log_full = λ h. absurd (log_full (is h));
    within_log = tt;
    few = tt;
    offered = tt;
    withheld = tt;
    few_before = λ front e h. all_front (AsksForFew limits.limit own limits.need) front (e ∷ [])
        (subst (λ es. All (AsksForFew limits.limit own limits.need) es) (ap (gained old) (sym same) ∙ h) going.few_asked);
    few_done = tt;
    few_rounds = λ h. rw same going.few_asked;
    shown = tt;
    once = tt;
    refused = λ c r l. absurd (no_refusal c (gained old now) going.read (subst (λ w. LastAnswer (IsRefusedAnswer c) (gained old w)) same l));
  }
    where
      is : {f : SessionFault} → ◌≡◌ {A = Result Outcome SessionFault} (Err e) (Err f) → e ≡ f
      is h = cc

  -- the peer gave no answer
  pub ran_unanswered : asked ≤ limits.rounds → (f : PeerFault) → (f ≡ peer.Failed → after < last) → (f ≡ peer.Memory → last ≡ after) → Ran own limits old new before last (Err (fault_of f))
  ran_unanswered room peer.Failed rose same_count = ran_quiet room PeerFailed (λ e. rose refl) (λ no. absurd (no refl)) (λ c e. cc) (λ e. cc) (λ e. cc) (λ e. cc)
  ran_unanswered room peer.Memory rose same_count = ran_quiet room Memory (λ e. cc) (λ no. same_count refl) (λ c e. cc) (λ e. cc) (λ e. cc) (λ e. cc)

  -- which the session tells as its own fault
  pub ran_told : asked < limits.rounds → (f : PeerFault) → (f ≡ peer.Failed → after < last) → (f ≡ peer.Memory → last ≡ after) → (r : Result Outcome SessionFault) (e : SessionFault) → r ≡ Err e → e ≡ fault_of f
      → Ran own limits old new before last r
  ran_told round f rose same_count r e is told =
      let ends : Err (fault_of f) ≡ r = ap Err (sym told) ∙ sym is in
      subst (Ran own limits old new before last) ends (ran_unanswered (omega (arith, round)) f rose same_count)

  -- it failed at a question that may come next
  pub may_fail : (Fails : List ℕ → Type 0) (asks : List ℕ) → asks ≡ question → (f : PeerFault) → (f ≡ peer.Failed → Fails asks) → (r : Result Outcome SessionFault) (e : SessionFault) → r ≡ Err e → e ≡ fault_of f → r ≡ Err PeerFailed
      → (q : List ℕ) × MayAsk limits.limit own (gained old new) q × Fails q
  may_fail Fails asks is_asked peer.Failed fails r e is told failed = (question, rw same going.may, subst Fails is_asked (fails refl))
  may_fail Fails asks is_asked peer.Memory fails r e is told failed = absurd cc
