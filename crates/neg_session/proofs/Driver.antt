-- How a session goes on, or ends, after another exchange.
use Rattle.std.proofs.Common.{◌≡◌, ℕ, ◌+◌, ◌<◌, ◌≤◌, ◌++◌, ◌-◌, ◌⊎◌, ◌==◌, inl, inr, Bool, false, List, [], ◌∷◌, length, Result, Ok, Err, sym, ap, ◌∙◌, subst, arith, append_assoc, length-append}
use Rattle.std.specs.Prelude.{◌↔◌, All, Contains, Vec}
use Rattle.std.specs.Global.{Global}
use Rattle.std.proofs.lemmas.Bool.{eqb-true, eqb-false}
use Rattle.std.proofs.lemmas.List.Elements.{All-push, All-contains}
use Rattle.neg_codec.specs.declared.CodecFault.{CodecFault}
use Rattle.item_key.specs.declared.Id.{Id}
use Rattle.item_key.specs.declared.Item.{Item}
use Rattle.neg_codec.specs.Laws.{OneMessage}
use Rattle.neg_codec.specs.Ranges.{Span, stretches, IsSkip}
use Rattle.neg_codec.specs.Reading.{message_at}
use Rattle.neg_codec.specs.Text.{Spells}
use Rattle.neg_codec.specs.Encoding.{text_of}
use Rattle.item_roll.specs.Truth.{IsTrueOf, Follows}
use Rattle.neg_initiator.specs.declared.initiator.Outcome.{Outcome}
use Rattle.neg_initiator.specs.declared.initiator.Next.{Next}
use Rattle.neg_initiator.specs.declared.initiator.Next.TheVariants.{Ask, Done}
use Rattle.neg_initiator.specs.Listed.{IsListed, IsListedWhere, IsUnlisted, Distinct, PassesMost}
use Rattle.neg_initiator.specs.Session.{Session, Taken, GoesOn, IsDone, NotAskedAgain, RefusesReply, IsAskDue}
use Rattle.neg_initiator.specs.Settled.{IsSkipped}
use Rattle.neg_initiator.specs.Trusting.{IsTrustedBy}
use Rattle.neg_session.specs.Exchange.{Exchange, exchange, gained, answered_bytes}
use Rattle.neg_session.specs.Explaining.{Explains}
use Rattle.neg_session.specs.Asking.{Resumes, Chained}
use Rattle.neg_session.specs.Ran.{trusted_of, LastAnswer, IsRefusedAnswer, IsOffered, IsWithheld, AsksForFew, IsShown, IsDue, Ran}
use Rattle.neg_session.specs.Turn.{GoesBy, EndsBy}
use Rattle.neg_session.specs.Going.{Knows, IsRead, Going}
use Rattle.neg_session.specs.declared.limits.SessionLimits.{SessionLimits}
use Rattle.neg_session.specs.declared.fault.SessionFault.{SessionFault}
use Rattle.neg_session.specs.declared.fault.SessionFault.TheVariants.{PeerFailed, Bad, Rounds, NeedFull, LogFull}
use Rattle.neg_session.proofs.Logs.{gained_more, chained_more, may_more, explains_front, explains_last, follows_last, last_gives, last_is, read_or_refused, bytes_more, push_front, due_last, offered_more, offered_last, withheld_more, withheld_last, offers_more, shown_more, shown_last, no_more}
use Rattle.neg_session.proofs.Beginning.{knows_more, right_of}

-- it goes on, or ends, after another pair
module _ (own : List Item) (limits : SessionLimits) (asked : ℕ) (old now new : List Exchange) (before after last : ℕ) (question : List ℕ) (left : ℕ) (s : Session)
    (going : Going own limits asked old now before after question left s) (reply : List ℕ) (grew : new ≡ now ++ exchange question reply ∷ []) (same : last ≡ after) where
  pairs : gained old new ≡ gained old now ++ exchange question reply ∷ []
  pairs = gained_more old now new _ going.appended grew

  next_appended : new ≡ old ++ gained old new
  next_appended = rw pairs (grew ∙ (ap (λ w. w ++ exchange question reply ∷ []) going.appended ∙ append_assoc old (gained old now) _))

  next_chained : Chained limits.limit own (gained old new)
  next_chained = rw pairs (chained_more limits.limit own (gained old now) question reply going.chained going.may)

  next_count : length (gained old new) ≡ asked + 1
  next_count = rw pairs (omega (arith, length-append (gained old now) (exchange question reply ∷ []), going.count))

  next_bytes : answered_bytes (gained old new) ≡ answered_bytes (gained old now) + length reply
  next_bytes = rw pairs (bytes_more (gained old now) question reply)

  next_gathered : (front : List Exchange) (e : Exchange) → gained old new ≡ front ++ e ∷ [] → answered_bytes front ≤ limits.log
  next_gathered front e h = omega (arith, going.bytes, ap answered_bytes (push_front (gained old now) front (exchange question reply) e (sym pairs ∙ h)))

  next_due : IsDue own (gained old new) → IsAskDue own reply
  next_due due = due_last own (gained old now) (exchange question reply) (subst (IsDue own) pairs due)

  next_knows : OneMessage → (next : Session) (answered : List Span) → Spells reply answered → Taken answered s next → (b : List Item) → Explains b (gained old new) → Knows own b next
  next_knows one next answered spells taken b h =
      let all : Explains b (gained old now ++ exchange question reply ∷ []) = subst (Explains b) pairs h in
      let follows : Follows b s.asked answered = follows_last one b (exchange question reply) s.asked answered going.spelled spells (explains_last b (gained old now) (exchange question reply) all) in
      let was : Knows s.roll b s = subst (λ (w : List Item). Knows w b s) (sym going.roll) (going.knows b (explains_front b (gained old now) _ all)) in
      subst (λ (w : List Item). Knows w b next) going.roll (knows_more b s next answered h.roll follows taken was)

  pub next_resumes : (next : Session) (answered : List Span) (text : List ℕ) → Spells reply answered → Taken answered s next → GoesOn text next → Resumes limits.limit own (exchange question reply) text
  next_resumes next answered text spells taken goes = record {
    answered = answered;
    asked = next.asked;
    answers = spells;
    spelled = goes.spelled;
    truth = subst (λ (w : List Item). All (IsTrueOf w) (stretches next.asked)) (taken.roll ∙ going.roll) taken.sound.truth;
    none_empty = taken.sound.none_empty;
    skips_joined = taken.sound.skips_joined;
    asks = goes.asks;
    short = omega (arith, goes.short, taken.limit_is, going.limit_is);
    not_again = subst (λ (n : ℕ). NotAskedAgain limits.limit n own answered next.asked) (ap length (sym goes.exact))
        (subst (λ (n : ℕ). NotAskedAgain n (length (text_of next.asked)) own answered next.asked) going.limit_is
        (subst (λ (w : List Item). NotAskedAgain s.limit (length (text_of next.asked)) w answered next.asked) going.roll taken.not_again));
  }

  next_few : (next : Session) (answered : List Span) → Taken answered s next → (length s.need ≤ s.most → length next.need ≤ next.most) → length next.need ≤ limits.need
  next_few next answered taken few = omega (arith, few (omega (arith, going.few, going.most)), taken.most, going.most)

  pub asks_for_few : (next : Session) (answered : List Span) → message_at reply ≡ Ok answered → Taken answered s next → (length s.need ≤ s.most → length next.need ≤ next.most)
      → All IsSkip (stretches next.asked) ⊎ ((text : List ℕ) × Spells text next.asked × Resumes limits.limit own (exchange question reply) text) → AsksForFew limits.limit own limits.need (exchange question reply)
  asks_for_few next answered read taken few may = record {
    answered = answered;
    next = next.asked;
    read = read;
    may = may;
    few = λ is d all.
        let noted = no_more is next.need d (λ i m. taken.need_noted i (subst (λ (w : List Item). IsListedWhere (IsSkipped next.asked) w answered i) (sym going.roll) (All-contains (IsListedWhere (IsSkipped next.asked) own answered) is i all m))) in
        omega (arith, noted, next_few next answered taken few);
  }

  next_shown : (next : Session) (answered : List Span) → message_at reply ≡ Ok answered → Taken answered s next → (t : Item × Item) → Contains next.trusted t → IsShown own (gained old new) t
  next_shown next answered read taken t m = rw pairs (elim (taken.trusted_from t m) [
    | inl was ↦ shown_more own (gained old now) (exchange question reply ∷ []) t (going.shown t was)
    | inr one ↦ shown_last own (gained old now) (exchange question reply) s.asked answered going.spelled read t (subst (λ (w : List Item). IsTrustedBy w s.asked answered t) going.roll one)
  ])

  next_offered : (next : Session) (answered : List Span) → message_at reply ≡ Ok answered → Taken answered s next → (i : Id) → Contains next.need i → IsOffered own (gained old new) i
  next_offered next answered read taken i m = rw pairs (elim (taken.need_from i m) [
    | inl was ↦ offered_more own (gained old now) (exchange question reply ∷ []) i (going.offered i was)
    | inr listed ↦ offered_last own (gained old now) (exchange question reply) answered read i (subst (λ (w : List Item). IsListed w answered i) going.roll listed)
  ])

  next_withheld : (next : Session) (answered : List Span) → message_at reply ≡ Ok answered → Taken answered s next → (i : Id) → Contains next.have i → IsWithheld own (gained old new) i
  next_withheld next answered read taken i m = rw pairs (elim (taken.have_from i m) [
    | inl was ↦ withheld_more own (gained old now) (exchange question reply ∷ []) i (going.withheld i was)
    | inr unlisted ↦ withheld_last own (gained old now) (exchange question reply) answered read i (subst (λ (w : List Item). IsUnlisted w answered i) going.roll unlisted)
  ])

  next_few_before : (front : List Exchange) (e : Exchange) → gained old new ≡ front ++ e ∷ [] → All (AsksForFew limits.limit own limits.need) front
  next_few_before front e h = subst (λ es. All (AsksForFew limits.limit own limits.need) es) (push_front (gained old now) front (exchange question reply) e (sym pairs ∙ h)) going.few_asked

  next_few_asked : AsksForFew limits.limit own limits.need (exchange question reply) → All (AsksForFew limits.limit own limits.need) (gained old new)
  next_few_asked few = rw pairs (All-push (AsksForFew limits.limit own limits.need) (gained old now) (exchange question reply) going.few_asked few)

  pub going_more : OneMessage → (next : Session) (answered : List Span) (text : List ℕ) (rest : ℕ) → rest + length reply ≡ left → Spells reply answered → message_at reply ≡ Ok answered → Taken answered s next → (length s.need ≤ s.most → length next.need ≤ next.most) → GoesOn text next → IsAskDue s.roll reply
      → Going own limits (asked + 1) old new before last text rest next
  going_more one next answered text rest is_rest spells read taken few goes due = record {
    due = inr (rw pairs (last_is (IsAskDue own) (gained old now) (exchange question reply) (subst (λ (w : List Item). IsAskDue w reply) going.roll due)));
    appended = next_appended;
    chained = next_chained;
    may = rw pairs (may_more limits.limit own (gained old now) (exchange question reply) text (next_resumes next answered text spells taken goes));
    count = next_count;
    bytes = omega (arith, next_bytes, going.bytes, is_rest);
    read = rw pairs (All-push IsRead (gained old now) (exchange question reply) going.read (answered, read));
    unfailed = same ∙ going.unfailed;
    roll = taken.roll ∙ going.roll;
    limit_is = taken.limit_is ∙ going.limit_is;
    most = taken.most ∙ going.most;
    phase = goes.phase;
    sound = taken.sound;
    spelled = goes.spelled;
    few = next_few next answered taken few;
    shown = next_shown next answered read taken;
    offered = next_offered next answered read taken;
    withheld = next_withheld next answered read taken;
    few_asked = next_few_asked (asks_for_few next answered read taken few (inr (text, goes.spelled, next_resumes next answered text spells taken goes)));
    knows = next_knows one next answered spells taken;
  }

  pub ran_done : OneMessage → (next : Session) (answered : List Span) → asked < limits.rounds → length reply ≤ left → Spells reply answered → message_at reply ≡ Ok answered → Taken answered s next → (length s.need ≤ s.most → length next.need ≤ next.most) → IsDone next → (IsAskDue s.roll reply → ⊥)
      → (o : Outcome) → o.need.keys ≡ next.need → o.have.keys ≡ next.have → ((t : Item × Item) → Contains (trusted_of o) t ↔ Contains next.trusted t) → Distinct o.trusted.items
      → Ran own limits old new before last (Ok o)
  ran_done one next answered round room spells read taken few done over o is_need is_have is_trusted once = record {
    gathered = next_gathered;
    done = λ due. over (subst (λ (w : List Item). IsAskDue w reply) (sym going.roll) (next_due due));
    appended = next_appended;
    chained = next_chained;
    within = omega (arith, next_count);
    exact = λ b h. right_of own b next o (next_knows one next answered spells taken b h) done is_need is_have is_trusted;
    unfailed = λ no. same ∙ going.unfailed;
    failed = λ e. cc;
    bad = λ c e. cc;
    rounds = λ e. cc;
    need_full = λ e. cc;
    log_full = λ e. cc;
    within_log = omega (arith, next_bytes, going.bytes);
    few = rw is_need (next_few next answered taken few);
    offered = λ i m. next_offered next answered read taken i (subst (λ (ns : List Id). Contains ns i) is_need m);
    withheld = λ i m. next_withheld next answered read taken i (subst (λ (hs : List Id). Contains hs i) is_have m);
    few_before = next_few_before;
    few_done = next_few_asked (asks_for_few next answered read taken few (inl done.skips_all));
    few_rounds = λ e. cc;
    shown = λ t m. next_shown next answered read taken t ((is_trusted t).0 m);
    once = once;
    refused = λ c r l. absurd (read_or_refused (exchange question reply) c (answered, read) (last_gives (IsRefusedAnswer c) (gained old now) (exchange question reply) (subst (LastAnswer (IsRefusedAnswer c)) pairs l)));
  }

  pub ran_fault : asked < limits.rounds → (e : SessionFault) → (e ≡ PeerFailed → ⊥) → ((c : CodecFault) → e ≡ Bad c → IsRefusedAnswer c reply) → (e ≡ Rounds → (asked + 1 ≡ limits.rounds) × IsAskDue own reply × AsksForFew limits.limit own limits.need (exchange question reply))
      → (e ≡ NeedFull → (answered : List Span) × (message_at reply ≡ Ok answered) × PassesMost s.roll answered s.need s.most) → (e ≡ LogFull → (left < length reply) × ((asked + 1 < limits.rounds) ⊎ (IsAskDue own reply → ⊥)) × AsksForFew limits.limit own limits.need (exchange question reply))
      → ((c : CodecFault) → RefusesReply c → IsRefusedAnswer c reply → e ≡ Bad c) → Ran own limits old new before last (Err e)
  ran_fault round e failed bad rounds need_full log_full refused = record {
    appended = next_appended;
    chained = next_chained;
    within = omega (arith, next_count);
    gathered = next_gathered;
    exact = tt;
    done = tt;
    unfailed = λ no. same ∙ going.unfailed;
    failed = λ h. absurd (failed (is h));
    bad = λ c h. rw pairs (last_is (IsRefusedAnswer c) (gained old now) (exchange question reply) (bad c (is h)));
    rounds = λ h. let r = rounds (is h) in (next_count ∙ r.0, inr (rw pairs (last_is (IsAskDue own) (gained old now) (exchange question reply) r.1)));
    need_full = λ h. let f = need_full (is h) in
        let passes : PassesMost own f.0 s.need limits.need = subst (λ (w : List Item). PassesMost w f.0 s.need limits.need) going.roll (subst (λ n. PassesMost s.roll f.0 s.need n) going.most f.2) in
        rw pairs (offers_more own (gained old now) (exchange question reply) f.0 s.need limits.need f.1 going.offered passes);
    log_full = λ h. let f = log_full (is h) in (
      let more : left < length reply = f.0 in omega (arith, more, next_bytes, going.bytes),
      elim f.1 [ inl fewer ↦ inl (omega (arith, fewer, next_count)) | inr over ↦ inr (λ due. over (next_due due)) ],
      (gained old now, exchange question reply, pairs, f.2),
    );
    within_log = tt;
    few = tt;
    offered = tt;
    withheld = tt;
    few_before = next_few_before;
    few_done = tt;
    few_rounds = λ h. next_few_asked (rounds (is h)).2;
    shown = tt;
    once = tt;
    refused = λ c r l. ap Err (refused c r (last_gives (IsRefusedAnswer c) (gained old now) (exchange question reply) (subst (LastAnswer (IsRefusedAnswer c)) pairs l)));
  }
    where
      is : {f : SessionFault} → ◌≡◌ {A = Result Outcome SessionFault} (Err e) (Err f) → e ≡ f
      is h = cc

  -- an answer that was taken asks for few ids, whatever comes next
  taken_for_few : (next : Session) (n : Next) → GoesBy reply s next n → AsksForFew limits.limit own limits.need (exchange question reply)
  taken_for_few next (Ask text) g = asks_for_few next g.answered g.read g.taken g.within (inr (text.items, g.leaves.spelled, next_resumes next g.answered text.items g.spells g.taken g.leaves))
  taken_for_few next Done g = asks_for_few next g.answered g.read g.taken g.within (inl g.leaves.skips_all)

  due_here : IsAskDue s.roll reply → IsAskDue own reply
  due_here due = subst (λ (w : List Item). IsAskDue w reply) going.roll due

  due_there : IsAskDue own reply → IsAskDue s.roll reply
  due_there due = subst (λ (w : List Item). IsAskDue w reply) (sym going.roll) due

  -- the answer ends it with a fault
  pub ran_ended : (answer : List ℕ) → answer ≡ reply → asked < limits.rounds → (is_last : Bool) → is_last ≡ (asked + 1 == limits.rounds) → (next : Session) (e : SessionFault) → EndsBy answer left is_last s next e
      → Ran own limits old new before last (Err e)
  ran_ended answer is round is_last means next e by =
      let ends : EndsBy reply left is_last s next e = subst (λ (r : List ℕ). EndsBy r left is_last s next e) is by in
      ran_fault round e ends.failed ends.bad
      (λ h. let r = ends.rounds h in (eqb-true (asked + 1) limits.rounds (sym means ∙ r.0), due_here r.1, taken_for_few next r.2.0 r.2.1))
      ends.need_full
      (λ h. let f = ends.log_full h in (f.0, elim f.1 [ inl more ↦ inl (fewer more) | inr over ↦ inr (λ due. over (due_there due)) ], taken_for_few next f.2.0 f.2.1))
      ends.refused
    where
      fewer : is_last ≡ false → asked + 1 < limits.rounds
      fewer more = let no : asked + 1 ≡ limits.rounds → ⊥ = eqb-false (asked + 1) limits.rounds (sym means ∙ more) in omega (arith, no, round)

  -- the next question is asked
  pub going_asked : OneMessage → (answer : List ℕ) → answer ≡ reply → (next : Session) (n : Next) → GoesBy answer s next n → (text : Vec ℕ Global) → n ≡ Ask text → (size : ℕ) → size ≡ length reply → length answer ≤ left
      → Going own limits (asked + 1) old new before last text.items (left - size) next
  going_asked one answer heard next n goes text is size is_size room =
      let g : GoesBy reply s next (Ask text) = subst (λ (m : Next). GoesBy reply s next m) is (subst (λ (r : List ℕ). GoesBy r s next n) heard goes) in
      let same_length : length answer ≡ length reply = ap length heard in
      going_more one next g.answered text.items (left - size) (omega (arith, same_length)) g.spells g.read g.taken g.within g.leaves g.due

  -- all is settled
  pub ran_answered : OneMessage → (answer : List ℕ) → answer ≡ reply → (next : Session) (n : Next) → GoesBy answer s next n → n ≡ Done → asked < limits.rounds → length answer ≤ left
      → (o : Outcome) → o.need.keys ≡ next.need → o.have.keys ≡ next.have → ((t : Item × Item) → Contains (trusted_of o) t ↔ Contains next.trusted t) → Distinct o.trusted.items
      → Ran own limits old new before last (Ok o)
  ran_answered one answer heard next n goes is round room =
      let g : GoesBy reply s next Done = subst (λ (m : Next). GoesBy reply s next m) is (subst (λ (r : List ℕ). GoesBy r s next n) heard goes) in
      ran_done one next g.answered round (subst (λ (r : List ℕ). length r ≤ left) heard room) g.spells g.read g.taken g.within g.leaves g.due
