-- What is heard, one message at a time.
use Rattle.std.proofs.Common.{◌≡◌, ℕ, List, [], ◌∷◌, ◌++◌, get_or, Bool, true, false, ◌⊎◌, Option, None, Some, Result, Ok, Err, refl, sym, ap, ◌∙◌, arith, inl, inr}
use Rattle.std.proofs.lemmas.Bool.{false≢true}
use Rattle.std.specs.Prelude.{IfOk, String, string_bytes, codes}
use Rattle.std.specs.declared.alloc.Global.{Global}
use Rattle.std.specs.declared.sync.Arc.{Arc as AnArc}
use Rattle.nostr_event.specs.EventView.{EventView}
use Rattle.nostr_wire.specs.declared.fault.WireFault.{WireFault}
use Rattle.nostr_wire.specs.declared.fault.WireFault.TheVariants as fault
use Rattle.nostr_wire.specs.declared.messages.FromRelay.{FromRelay}
use Rattle.nostr_wire.specs.Elements.{Said, sub}
use Rattle.nostr_wire.specs.Forms.{Form, relay_form}
use Rattle.websocket.specs.Content.{Content, text, binary, ping, pong, close}
use Rattle.wire.specs.declared.heard.Heard.{Heard}
use Rattle.wire.specs.declared.heard.Message.{Message}
use Rattle.wire.specs.Line.{Talk}
use Rattle.wire.specs.Steps.{Comes}
use Rattle.wire.specs.Talk.{Listened}
use Rattle.wire.specs.Turns.{Means as IsHeard}
use Rattle.ws_socket.specs.declared.fault.LinkFault.{LinkFault}
use Rattle.ws_link.specs.declared.source.Part.{Part}
use Rattle.ws_link.specs.Fetched.{Brings, IsForFetch, fetch}
use Rattle.ws_link.specs.Messages.{Hears, IsForNoCall, IsSaid, MayHear, Means}
use Rattle.ws_link.specs.Spoken.{HearsMessage}
use Rattle.ws_link.specs.Taken.{Tells, MayTell}

-- ---- faults

abbrev pub is_memory : WireFault → Bool
is_memory fault.Memory = true
is_memory _ = false

-- a fault that isn't want of memory
pub is_other : (f g : WireFault) → f ≡ g → is_memory g ≡ false → f ≡ fault.Memory → ⊥
is_other f g is other memory = false≢true (sym other ∙ (sym (ap is_memory is) ∙ ap is_memory memory))

-- ---- texts, and what else is read

heard_text : (m : Option Content) (s : String Global) → IsHeard m (Heard.Text s) → m ≡ Some (text (string_bytes s))
heard_text (Some (text bs)) s h = rw h refl
heard_text (Some (binary bs)) s h = absurd h
heard_text (Some (ping bs)) s h = absurd h
heard_text (Some (pong bs)) s h = absurd h
heard_text (Some (close frame)) s h = absurd h
heard_text None s h = absurd h

words_in : Option Content → List ℕ
words_in (Some (text bs)) = bs
words_in m = []

one_text : (m : Option Content) (bs words : List ℕ) → m ≡ Some (text bs) → m ≡ Some (text words) → bs ≡ words
unfolding words_in
one_text m bs words e f = ap words_in (sym e ∙ f)

no_binary : (m : Option Content) (words : List ℕ) → IsHeard m Heard.Binary → m ≡ Some (text words) → ⊥
no_binary (Some (text bs)) words h e = absurd h
no_binary (Some (binary bs)) words h e = cc (e)
no_binary (Some (ping bs)) words h e = absurd h
no_binary (Some (pong bs)) words h e = absurd h
no_binary (Some (close frame)) words h e = absurd h
no_binary None words h e = absurd h

no_other : (m : Option Content) (words : List ℕ) → IsHeard m Heard.Other → m ≡ Some (text words) → ⊥
no_other (Some (text bs)) words h e = absurd h
no_other (Some (binary bs)) words h e = absurd h
no_other (Some (ping bs)) words h e = cc (e)
no_other (Some (pong bs)) words h e = cc (e)
no_other (Some (close frame)) words h e = absurd h
no_other None words h e = absurd h

-- ---- one message came

hears_meant : (o : Option FromRelay) (old new : Talk) (s : String Global) → Comes old new (Message.Text s) → Means (string_bytes s) o → MayHear old new o
hears_meant None old new s h k =
    let is = heard_text h.2.1.message s h.5 in
    (h.0, h.1, h.2, h.3, h.4, λ words e. rw (one_text h.2.1.message (string_bytes s) words is e) at k)
hears_meant (Some m) old new s h k = (h.0, h.1, h.2, h.3, h.4, (string_bytes s, heard_text h.2.1.message s h.5, k))

pub may_hear : (r : Result (Option FromRelay) LinkFault) (old new : Talk) (s : String Global) (words : List ℕ) → words ≡ string_bytes s → Comes old new (Message.Text s) → IfOk r (Means words) → IfOk r (MayHear old new)
may_hear (Err e) old new s words is h k = tt
may_hear (Ok o) old new s words is h k = hears_meant o old new s h (rw is at k)

pub hears_binary : (old new : Talk) → Comes old new Message.Binary → MayHear old new None
hears_binary old new h = (h.0, h.1, h.2, h.3, h.4, λ words e. absurd (no_binary h.2.1.message words h.5 e))

pub hears_other : (old new : Talk) → Comes old new Message.Other → MayHear old new None
hears_other old new h = (h.0, h.1, h.2, h.3, h.4, λ words e. absurd (no_other h.2.1.message words h.5 e))

pub heard_message : (old new : Talk) (form : Form) → Hears (IsSaid form) old new → HearsMessage old new form
heard_message old new form h = (h.5.0, (h.0, h.1, h.2, h.3, h.5.1), h.5.2)

pub listened_hears : (IsSo : Option Content → Type 0) (old new : Talk) → Hears IsSo old new → Listened old new
listened_hears IsSo old new h = (h.0, h.1 ++ h.2 ∷ [], h.3)

-- ---- and what it says to a fetch

-- the fourth letter of the name tells it
fourth : Form → ℕ
fourth form = get_or form.name 3 0

for_fetch : (form : Form) → IsForFetch form → (fourth form ≡ 78) ⊎ (fourth form ≡ 69)
unfolding fourth
for_fetch form (inl e) = inl (ap (λ (f : Form). get_or f.name 3 0) e.1)
for_fetch form (inr e) = inr (ap (λ (f : Form). get_or f.name 3 0) e)

pub other_name : (form : Form) (n : ℕ) → get_or form.name 3 0 ≡ n → (n ≡ 78 → ⊥) → (n ≡ 69 → ⊥) → IsForFetch form → ⊥
unfolding fourth
other_name form n at no_event no_end is =
    elim (for_fetch form is) [
      | inl e ↦ no_event (sym at ∙ e)
      | inr e ↦ no_end (sym at ∙ e)
    ]

no_notice : (form : Form) → IsForFetch form → form.name ≡ codes "NOTICE" → ⊥
no_notice form is n =
    other_name form 73 (ap (λ (z : List ℕ). get_or z 3 0) n) (λ e. omega (arith, e)) (λ e. omega (arith, e)) is

sub_in : List Said → List ℕ
sub_in (sub s ∷ xs) = s
sub_in xs = []

pub other_event : (message : FromRelay) (s : List ℕ) (e : AnArc EventView Global) → message ≡ FromRelay.Event s e → (s ≡ fetch → ⊥) → IsForFetch (relay_form message) → ⊥
unfolding sub_in
other_event message s e at other (inl x) = other (ap (λ (f : Form). sub_in f.said) (ap relay_form (sym at) ∙ x.1))
other_event message s e at other (inr x) =
    let letters : 78 ≡ 69 = ap (λ (f : Form). get_or f.name 3 0) (ap relay_form (sym at) ∙ x) in
    omega (arith, letters)

pub other_end : (message : FromRelay) (s : List ℕ) → message ≡ FromRelay.Eose s → (s ≡ fetch → ⊥) → IsForFetch (relay_form message) → ⊥
unfolding sub_in
other_end message s at other (inr x) = other (ap (λ (f : Form). sub_in f.said) (ap relay_form (sym at) ∙ x))
other_end message s at other (inl x) =
    let letters : 69 ≡ 78 = ap (λ (f : Form). get_or f.name 3 0) (ap relay_form (sym at) ∙ x.1) in
    omega (arith, letters)

pub none_tells : (old new : Talk) → Hears IsForNoCall old new → Hears (Brings None) old new
none_tells old new h = (h.0, h.1, h.2, h.3, h.4, λ words form e reads is. no_notice form is (h.5 words e form reads))

pub may_tell : (old new : Talk) (message : FromRelay) (part : Part) → Hears (IsSaid (relay_form message)) old new → Tells message part → MayTell old new part
may_tell old new message (Part.Event e) h t = rw t at h
may_tell old new message Part.End h t = rw t at h
may_tell old new message (Part.Closed words) h t = tt
may_tell old new message Part.Other h t =
    let none : Brings None h.2.1.message = λ words form e reads is.
    let same : h.5.0 ≡ words = one_text h.2.1.message h.5.0 words h.5.1 e in
    let only : form ≡ relay_form message = h.5.2.1 form (rw same reads) in
    t (rw (← only) is) in
    (h.0, h.1, h.2, h.3, h.4, none)
