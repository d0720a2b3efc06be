-- What a connection's steps make of the answers to a text.
use Rattle.std.proofs.Common.{◌≡◌, ℕ, List, [], ◌∷◌, ◌++◌, map, Option, Some, None, inl, inr, refl, sym, ap, ◌∙◌, subst, append_assoc, append-nil}
use Rattle.std.specs.Prelude.{option_map, OnOk, Result, Ok, Err}
use Rattle.std.specs.Arc.{arc_value}
use mathlib.Core.List.{IsPrefix}
use Rattle.event_list.proofs.Prefixes.{prefix_self, prefix_trans}
use Rattle.event_store.specs.declared.desk.InsertFault.TheVariants.{Full, Memory}
use Rattle.item_key.specs.declared.Id.{Id}
use Rattle.nostr_event.specs.EventView.{EventView}
use Rattle.nostr_wire.specs.Forms.{Form, relay_form}
use Rattle.relay_core.specs.declared.limits.RelayLimits.{RelayLimits}
use Rattle.relay_core.specs.declared.step.Step.{Step}
use Rattle.relay_core.specs.declared.storing.StoringFault.{StoringFault}
use Rattle.relay_core.specs.declared.storing.StoringFault.TheVariants.{Refused, Unkept}
use Rattle.relay_core.specs.Due.{due, CatchesUp}
use Rattle.relay_core.specs.Faults.{GoesOnBy}
use Rattle.relay_core.specs.Kept.{Kept}
use Rattle.relay_core.specs.Serving.{Serves}
use Rattle.relay_core.specs.Stored.{fault_answer}
use Rattle.relay_core.specs.Turns.{turn_of}
use Rattle.ws_serve.specs.Frames.{spoken, spoken_one}
use Rattle.ws_serve.specs.Answering.{TellsOf, SaysAnswers, SaysOf, SaysDue, IfOpen}
use Rattle.ws_serve.specs.Traffic.{Traffic, Says, Rests}
use Rattle.ws_serve.proofs.Putting.{says_none, says_kept, says_both}

-- the frames of messages that come behind others
pub spoken_both : (xs ys : List Form) → spoken (xs ++ ys) ≡ spoken xs ++ spoken ys
spoken_both [] ys = refl
spoken_both (x ∷ xs) ys = ap (λ bytes. spoken_one x ++ bytes) (spoken_both xs ys) ∙ sym (append_assoc (spoken_one x) (spoken xs) (spoken ys))

says_forms : (xs ys : List Form) (a b c : Traffic) → Says a b (spoken xs) → Says b c (spoken ys) → Says a c (spoken (xs ++ ys))
says_forms xs ys a b c h k = subst (Says a c) (sym (spoken_both xs ys)) (says_both a b c (spoken xs) (spoken ys) h k)

pub fault_tells : {J : Type 0} (id : Id) (fault : StoringFault J) → TellsOf id (fault_answer id fault)
fault_tells id (Refused (Full filled)) = inr (inl refl)
fault_tells id (Refused Memory) = inr (inr (inl refl))
fault_tells id Unkept = inr (inr (inr refl))

pub says_one_of : (id : Id) (m : Form) (a b : Traffic) → TellsOf id m → Says a b (spoken_one m) → SaysOf id a b
says_one_of id m a b t h = (m, t, subst (Says a b) (sym (append-nil (spoken_one m))) h)

-- the same of a call that may fail
pub refused_says : {T E : Type 0} (r : Result T E) (id : Id) (m told : Form) (a b : Traffic) → m ≡ told → TellsOf id told → OnOk r (Says a b (spoken_one m)) → OnOk r (SaysOf id a b)
refused_says (Ok v) id m told a b same t h = says_one_of id m a b (subst (TellsOf id) (sym same) t) h
refused_says (Err e) id m told a b same t h = tt

-- nothing is stored
pub answers_quiet : (limits : RelayLimits) (r0 r1 : List EventView) (t : List ℕ) (s : Step) (a b : Traffic) (k0 k1 : Option Kept) → IsPrefix r0 r1 → option_map arc_value s.store ≡ None
    → GoesOnBy (λ old new. Serves limits r1 t old (turn_of s new)) k0 k1 → Says a b (spoken (map relay_form s.out.items)) → GoesOnBy (SaysAnswers limits r0 r1 t a b) k0 k1
answers_quiet limits r0 r1 t s a b (Some old) (Some new) p e h said =
    (map relay_form s.out.items, (r1, p, prefix_self r1, (turn_of s new, h, rw e refl, refl)), said)
answers_quiet limits r0 r1 t s a b (Some old) None p e h said = absurd h
answers_quiet limits r0 r1 t s a b None k p e h said = absurd h

-- an event is stored, and what became of it is told
pub answers_stored : (limits : RelayLimits) (r0 r1 r2 : List EventView) (t : List ℕ) (s : Step) (e : EventView) (a b c : Traffic) (k0 k1 k2 : Option Kept)
    → IsPrefix r0 r1 → IsPrefix r1 r2 → option_map arc_value s.store ≡ Some e
    → GoesOnBy (λ old new. Serves limits r1 t old (turn_of s new)) k0 k1 → Says a b (spoken (map relay_form s.out.items))
    → SaysOf e.id b c → GoesOnBy (λ old new. new ≡ old) k1 k2 → GoesOnBy (SaysAnswers limits r0 r2 t a c) k0 k2
answers_stored limits r0 r1 r2 t s e a b c (Some old) (Some mid) (Some new) p q st h said told k =
    (map relay_form s.out.items ++ told.0 ∷ [], (r1, p, q, (turn_of s mid, h, rw st (told.0, told.1, refl), k)), says_forms (map relay_form s.out.items) (told.0 ∷ []) a b c said told.2)
answers_stored limits r0 r1 r2 t s e a b c (Some old) (Some mid) None p q st h said told k = absurd k
answers_stored limits r0 r1 r2 t s e a b c (Some old) None k2 p q st h said told k = absurd h
answers_stored limits r0 r1 r2 t s e a b c None k1 k2 p q st h said told k = absurd h

-- the same of a call that may fail
pub answers_stored_if : {T E : Type 0} (r : Result T E) (limits : RelayLimits) (r0 r1 r2 : List EventView) (t : List ℕ) (s : Step) (e : EventView) (a b c : Traffic) (k0 k1 k2 : Option Kept)
    → IsPrefix r0 r1 → IsPrefix r1 r2 → option_map arc_value s.store ≡ Some e
    → GoesOnBy (λ old new. Serves limits r1 t old (turn_of s new)) k0 k1 → Says a b (spoken (map relay_form s.out.items))
    → OnOk r (SaysOf e.id b c) → OnOk r (GoesOnBy (λ old new. new ≡ old) k1 k2) → OnOk r (GoesOnBy (SaysAnswers limits r0 r2 t a c) k0 k2)
answers_stored_if (Ok v) limits r0 r1 r2 t s e a b c k0 k1 k2 p q st h said told k = answers_stored limits r0 r1 r2 t s e a b c k0 k1 k2 p q st h said told k
answers_stored_if (Err f) limits r0 r1 r2 t s e a b c k0 k1 k2 p q st h said told k = tt

-- ---- what is due

pub due_none_yet : (events : List EventView) (a : Traffic) (k : Option Kept) → IfOpen (SaysDue events a a) k k
due_none_yet events a (Some t) = ([], says_none a, λ more p. refl)
due_none_yet events a None = refl

-- one part more
pub due_part_more : (e1 e2 : List EventView) (front : ℕ) (out : List Form) (a b c : Traffic) (k0 k1 k2 : Option Kept) → IsPrefix e1 e2
    → IfOpen (SaysDue e1 a b) k0 k1 → GoesOnBy (CatchesUp e2 front out) k1 k2 → Says b c (spoken out) → IfOpen (SaysDue e2 a c) k0 k2
due_part_more e1 e2 front out a b c (Some old) (Some mid) (Some new) p h k said = (
  h.0 ++ out,
  says_forms h.0 out a b c h.1 said,
  λ more q.
      h.2 more (prefix_trans e1 e2 more p q) ∙ ap (λ ms. h.0 ++ ms) (k.nothing_lost more q) ∙ sym (append_assoc h.0 out (due new.subs more)),
)
due_part_more e1 e2 front out a b c (Some old) (Some mid) None p h k said = absurd k
due_part_more e1 e2 front out a b c (Some old) None k2 p h k said = absurd h
due_part_more e1 e2 front out a b c None k1 k2 p h k said = absurd (subst (λ (x : Option Kept). GoesOnBy (CatchesUp e2 front out) x k2) h k)

-- what waits is sent
pub due_sent : (events : List EventView) (a b c : Traffic) (k0 k1 : Option Kept) → IfOpen (SaysDue events a b) k0 k1 → Rests b c → IfOpen (SaysDue events a c) k0 k1
due_sent events a b c (Some old) (Some new) h k = (h.0, says_kept a b c (spoken h.0) h.1 k, h.2)
due_sent events a b c (Some old) None h k = absurd h
due_sent events a b c None k1 h k = h
