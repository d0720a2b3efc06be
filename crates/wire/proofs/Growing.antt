-- How what is said and heard goes on.
use Rattle.std.proofs.Common.{◌≡◌, ℕ, List, [], ◌∷◌, ◌++◌, drop, Option, None, Some, refl, sym, ap, ◌∙◌, subst, append_assoc, append-nil}
use Rattle.std.proofs.lemmas.List.{drop-append-le}
use Rattle.std.specs.Prelude.{String, string_bytes}
use Rattle.std.specs.declared.alloc.Global.{Global}
use Rattle.websocket.specs.Connection.{Connection, Effect, Outgoing, Sends}
use Rattle.websocket.specs.Content.{Content, text, binary, ping, pong, close}
use Rattle.websocket.specs.declared.protocol.config.Role.{Role}
use Rattle.websocket.proofs.StreamLemmas.{read_step-append, TookFrame_from_read}
use Rattle.wire.specs.declared.heard.Heard.{Heard}
use Rattle.wire.specs.declared.heard.Message.{Message}
use Rattle.wire.specs.Frames.{text_frame, Puts}
use Rattle.wire.specs.Line.{Line, Talk, talk_of, Fills, Hands, Rests}
use Rattle.wire.specs.Steps.{heard_of, Comes}
use Rattle.wire.specs.Talk.{Frames, AreParts, AreRead, AreReplied, Listens, Listened, Waited, HearsText, Says, Grows}
use Rattle.wire.specs.Turns.{Means, Reads, Hears, ReadsApart, HearsApart}
use mathlib.Core.List.{IsPrefix}

pub prefix_self : (xs : List ℕ) → IsPrefix xs xs
prefix_self xs = ([], append-nil xs)

pub prefix_trans : (xs ys zs : List ℕ) → IsPrefix xs ys → IsPrefix ys zs → IsPrefix xs zs
prefix_trans xs ys zs p q = (p.0 ++ q.0, sym (append_assoc xs p.0 q.0) ∙ (ap (λ w. w ++ q.0) p.1 ∙ q.1))

-- ---- frames

-- frames are read the same, however many bytes follow
read_more : (c c2 : Connection) (i i2 more : List ℕ) (fs : Frames) → AreRead c i fs c2 i2 → AreRead c (i ++ more) fs c2 (i2 ++ more)
read_more c c2 i i2 more [] h = (h.0, ap (λ z. z ++ more) h.1)
read_more c c2 i i2 more (f ∷ fs) h =
    let took = TookFrame_from_read c i f h.0 in (
      read_step-append c i more (λ k. cc (h.0, k.1)) ∙ h.0,
      rw (drop-append-le f.0 i more took.inside) (read_more f.1.next c2 (drop f.0 i) i2 more fs h.1),
    )

read_chain : (c c2 c3 : Connection) (i i2 i3 : List ℕ) (fs gs : Frames) → AreRead c i fs c2 i2 → AreRead c2 i2 gs c3 i3 → AreRead c i (fs ++ gs) c3 i3
read_chain c c2 c3 i i2 i3 [] gs h k = rw (← h.0, ← h.1) k
read_chain c c2 c3 i i2 i3 (f ∷ fs) gs h k = (h.0, read_chain f.1.next c2 c3 (drop f.0 i) i2 i3 fs gs h.1 k)

replied_chain : (a b c : List ℕ) (fs gs : Frames) → AreReplied fs a b → AreReplied gs b c → AreReplied (fs ++ gs) a c
replied_chain a b c [] gs h k = rw h at k
replied_chain a b c (f ∷ fs) gs h k = (h.0, h.1, replied_chain h.0 b c fs gs h.2 k)

sends_behind : (role : Role) (r : Option Outgoing) (a o o2 : List ℕ) → Sends role r o o2 → Sends role r (a ++ o) (a ++ o2)
sends_behind role None a o o2 h = ap (λ z. a ++ z) h
sends_behind role (Some frame) a o o2 h = (h.0, h.1, ap (λ z. a ++ z) h.2 ∙ sym (append_assoc a o _))

-- ---- what was heard

listens_chain : (l m n : Talk) (got more : List ℕ) (fs gs : Frames) → Listens l m got fs → Listens m n more gs → Listens l n (got ++ more) (fs ++ gs)
listens_chain l m n got more fs gs h k =
    record {
      given = k.given ∙ ap (λ z. z ++ more) h.given ∙ append_assoc l.given got more;
      read = rw (← append_assoc l.input got more) (read_chain l.conn m.conn n.conn ((l.input ++ got) ++ more) (m.input ++ more) n.input fs gs (read_more l.conn m.conn (l.input ++ got) m.input more fs h.read) k.read);
      replied = replied_chain (l.taken ++ l.output) (m.taken ++ m.output) (n.taken ++ n.output) fs gs h.replied k.replied;
      took = prefix_trans l.taken m.taken n.taken h.took k.took;
    }

pub listened_chain : (l m n : Talk) → Listened l m → Listened m n → Listened l n
listened_chain l m n h k = (h.0 ++ k.0, h.1 ++ k.1, listens_chain l m n h.0 k.0 h.1 k.1 h.2 k.2)

pub listened_same : (l m : Talk) → m ≡ l → Listened l m
listened_same l m e =
    rw e (
      [],
      [],
      record {
        given = sym (append-nil l.given);
        read = (refl, sym (append-nil l.input));
        replied = refl;
        took = prefix_self l.taken;
      },
    )

pub listened_heard : (l m : Talk) (words : List ℕ) → HearsText l m words → Listened l m
listened_heard l m words h = (h.0, h.1 ++ h.2 ∷ [], h.3)

-- a text that is heard later is heard
pub hears_later : (l m n : Talk) (words : List ℕ) → Listened l m → HearsText m n words → HearsText l n words
hears_later l m n words h k =
    let last : Frames = k.2 ∷ [] in
    let all : Listens l n (h.0 ++ k.0) ((h.1 ++ k.1) ++ last) = rw (append_assoc h.1 k.1 last) (listens_chain l m n h.0 k.0 h.1 (k.1 ++ last) h.2 k.3) in
    (h.0 ++ k.0, h.1 ++ k.1, k.2, all, k.4)

means_text : (m : Option Content) (s : String Global) → Means m (Heard.Text s) → m ≡ Some (text (string_bytes s))
means_text (Some (text bs)) s h = rw h refl
means_text (Some (binary bs)) s h = absurd h
means_text (Some (ping bs)) s h = absurd h
means_text (Some (pong bs)) s h = absurd h
means_text (Some (close frame)) s h = absurd h
means_text None s h = absurd h

means_part : (m : Option Content) → Means m Heard.Part → m ≡ None
means_part (Some (text bs)) h = absurd h
means_part (Some (binary bs)) h = absurd h
means_part (Some (ping bs)) h = absurd h
means_part (Some (pong bs)) h = absurd h
means_part (Some (close frame)) h = absurd h
means_part None h = refl

-- ---- up to a message

parts_chain : (fs gs : Frames) → AreParts fs → AreParts gs → AreParts (fs ++ gs)
parts_chain [] gs h k = k
parts_chain (f ∷ fs) gs h k = (h.0, parts_chain fs gs h.1 k)

pub waited_chain : (l m n : Talk) → Waited l m → Waited m n → Waited l n
waited_chain l m n h k = (h.0 ++ k.0, h.1 ++ k.1, listens_chain l m n h.0 k.0 h.1 k.1 h.2 k.2, parts_chain h.1 k.1 h.3 k.3)

pub waited_same : (l m : Talk) → m ≡ l → Waited l m
waited_same l m e =
    rw e (
      [],
      [],
      record {
        given = sym (append-nil l.given);
        read = (refl, sym (append-nil l.input));
        replied = refl;
        took = prefix_self l.taken;
      },
      tt,
    )

pub comes_later : (l m n : Talk) (message : Message) → Waited l m → Comes m n message → Comes l n message
comes_later l m n message h k =
    let last : Frames = k.2 ∷ [] in
    let all : Listens l n (h.0 ++ k.0) ((h.1 ++ k.1) ++ last) = rw (append_assoc h.1 k.1 last) (listens_chain l m n h.0 k.0 h.1 (k.1 ++ last) h.2 k.3) in
    (h.0 ++ k.0, h.1 ++ k.1, k.2, all, parts_chain h.1 k.1 h.3 k.4, k.5)

pub listened_came : (l m : Talk) (message : Message) → Comes l m message → Listened l m
listened_came l m message h = (h.0, h.1 ++ h.2 ∷ [], h.3)

pub hears_came : (l m : Talk) (s : String Global) → Comes l m (Message.Text s) → HearsText l m (string_bytes s)
hears_came l m s h = (h.0, h.1, h.2, h.3, means_text h.2.1.message s h.5)

-- ---- what was given and taken

pub grows_same : (l m : Talk) → m ≡ l → Grows l m
grows_same l m e = rw e (prefix_self l.given, prefix_self l.taken)

pub grows_chain : (l m n : Talk) → Grows l m → Grows m n → Grows l n
grows_chain l m n h k = (prefix_trans l.given m.given n.given h.0 k.0, prefix_trans l.taken m.taken n.taken h.1 k.1)

pub grows_listened : (l m : Talk) → Listened l m → Grows l m
grows_listened l m h = ((h.0, sym h.2.given), h.2.took)

pub grows_heard : (l m : Talk) (words : List ℕ) → HearsText l m words → Grows l m
grows_heard l m words h = ((h.0, sym h.3.given), h.3.took)

pub grows_said : (l m : Talk) (words : List ℕ) → Says l m words → Grows l m
grows_said l m words h =
    rw h.2 (prefix_self l.given, (l.output ++ text_frame h.0 words, sym (append_assoc l.taken l.output (text_frame h.0 words))))

pub grows_waited : (l m : Talk) → Waited l m → Grows l m
grows_waited l m h = ((h.0, sym h.2.given), h.2.took)

pub grows_came : (l m : Talk) (message : Message) → Comes l m message → Grows l m
grows_came l m message h = ((h.0, sym h.3.given), h.3.took)

-- ---- of one call

module _ {S : Type 0} where
  pub waited_fill : (remaining : S → Option (List ℕ)) (l m : Line S) → Fills remaining l m → Waited (talk_of l) (talk_of m)
  waited_fill remaining l m f = (
    f.0,
    [],
    record {
      given = f.1.0;
      read = (f.1.2, f.1.1);
      replied = rw (f.1.3, f.1.4) refl;
      took = rw f.1.4 (prefix_self l.taken);
    },
    tt,
  )

  pub waited_send : (contents : S → Option (List ℕ)) (l m : Line S) → Hands contents l m → Waited (talk_of l) (talk_of m)
  waited_send contents l m f = (
    [],
    [],
    record {
      given = f.1.4 ∙ sym (append-nil l.given);
      read = (f.1.2, f.1.3 ∙ sym (append-nil l.input));
      replied = rw (f.1.0, f.1.1) (append_assoc l.taken f.0 m.output);
      took = (f.0, sym f.1.0);
    },
    tt,
  )

  reads_put : (l m n : Line S) (r : List ℕ) (h : Heard) (frame : ℕ × Effect) → ReadsApart l m [] r h frame → n ≡ record m { output = m.output ++ r } → Reads l n h frame
  reads_put l m n r h frame read e =
      let same : m.output ≡ l.output = rw read.3 refl in
      let sent : Sends frame.1.next.role frame.1.reply l.output (l.output ++ r) =
      subst (λ (z : List ℕ). Sends frame.1.next.role frame.1.reply z (l.output ++ r)) (append-nil l.output) (sends_behind frame.1.next.role frame.1.reply l.output [] r read.2) in
      rw (e, read.3) (read.0, read.1, refl, refl, sent, (refl, refl, refl))

  -- a frame was read, and then its reply was put
  pub hears_put : (l m n : Line S) (r : List ℕ) (h : Heard) → HearsApart l m [] r h → n ≡ record m { output = m.output ++ r } → Hears l n h
  hears_put l m n r Heard.Nothing k e = (rw (e, k.0, k.1) (ap (λ z. record l { output = z }) (append-nil l.output)), k.2)
  hears_put l m n r (Heard.Text s) k e = (k.0, reads_put l m n r (Heard.Text s) k.0 k.1 e)
  hears_put l m n r Heard.Binary k e = (k.0, reads_put l m n r Heard.Binary k.0 k.1 e)
  hears_put l m n r Heard.Other k e = (k.0, reads_put l m n r Heard.Other k.0 k.1 e)
  hears_put l m n r Heard.Close k e = (k.0, reads_put l m n r Heard.Close k.0 k.1 e)
  hears_put l m n r Heard.Part k e = (k.0, reads_put l m n r Heard.Part k.0 k.1 e)

  listens_frame : (l m : Line S) (h : Heard) (frame : ℕ × Effect) → Reads l m h frame → Listens (talk_of l) (talk_of m) [] (frame ∷ [])
  listens_frame l m h frame r =
      record {
        given = r.5.1 ∙ sym (append-nil l.given);
        read = rw (append-nil l.input) (r.0, (r.2, r.3));
        replied = (l.taken ++ m.output, sends_behind frame.1.next.role frame.1.reply l.taken l.output m.output r.4, ap (λ z. z ++ m.output) r.5.2);
        took = rw r.5.2 (prefix_self l.taken);
      }

  pub waited_frame : (l m : Line S) (frame : ℕ × Effect) → Reads l m Heard.Part frame → Waited (talk_of l) (talk_of m)
  waited_frame l m frame r = ([], frame ∷ [], listens_frame l m Heard.Part frame r, (means_part frame.1.message r.1, tt))

  pub comes_frame : (l m : Line S) (message : Message) (frame : ℕ × Effect) → Reads l m (heard_of message) frame → Comes (talk_of l) (talk_of m) message
  comes_frame l m message frame r = ([], [], frame, listens_frame l m (heard_of message) frame r, tt, r.1)

  pub grows_rests : (l m : Line S) → Rests l m → Grows (talk_of l) (talk_of m)
  grows_rests l m r = (rw r.1 (prefix_self l.given), rw r.2 (prefix_self l.taken))

  pub grows_put : (l m : Line S) (words : List ℕ) → Puts l m words → Grows (talk_of l) (talk_of m)
  grows_put l m words p = rw p.2 (prefix_self l.given, prefix_self l.taken)

  -- a text that was put and then handed out with all that waited
  pub says_put : (contents : S → Option (List ℕ)) (l m n : Line S) (words : List ℕ) → Puts l m words → Hands contents m n → n.output ≡ [] → Says (talk_of l) (talk_of n) words
  says_put contents l m n words p h none =
      let frame = text_frame p.0 words in
      let sent = rw p.2 at h in
      let all : sent.0 ≡ l.output ++ frame = sym (append-nil sent.0) ∙ ap (λ z. sent.0 ++ z) (sym none) ∙ sym sent.1.1 in
      let taken : n.taken ≡ (l.taken ++ l.output) ++ frame = sent.1.0 ∙ ap (λ z. l.taken ++ z) all ∙ sym (append_assoc l.taken l.output frame) in
      (p.0, p.1, rw (taken, none, sent.1.2, sent.1.3, sent.1.4) refl)
