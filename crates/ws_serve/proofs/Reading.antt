-- What is heard, and what it asks for.
use Rattle.std.proofs.Common.{◌≡◌, ℕ, List, [], ◌∷◌, ◌++◌, map, drop, Option, None, Some, Result, Ok, Err, refl, sym, ap, ◌∙◌, subst, append_assoc, append-nil}
use Rattle.std.specs.Prelude.{String, string_bytes}
use Rattle.std.specs.declared.alloc.Global.{Global}
use Rattle.websocket.specs.declared.protocol.config.Role.{Role}
use Rattle.websocket.specs.Connection.{Connection, Effect, Outgoing, Sends, close_step}
use Rattle.websocket.specs.Content.{Content, text, binary, ping, pong, close}
use Rattle.websocket.specs.declared.error.Error.{Error}
use Rattle.websocket.specs.View.{Leaves}
use Rattle.wire.specs.declared.heard.Heard.{Heard}
use Rattle.wire.specs.Line.{Line, Fills, Rests as LineRests}
use Rattle.wire.specs.Turns.{Means, ReadsApart, HearsApart}
use Rattle.ws_serve.specs.Pieces.{Asked, words, bytes, reply, asked_by, messages_of}
use Rattle.ws_serve.specs.Served.{put_back}
use Rattle.ws_serve.specs.Steps.{Gives, Holds, PutsClose, Brings, Asks, Hears, HearsNext}
use Rattle.ws_serve.specs.Traffic.{Traffic, traffic_of, Rests}
use Rattle.ws_serve.proofs.Conversing.{read_chain, messages_both}

text_means : (m : Option Content) (s : String Global) (r : Option Outgoing) → Means m (Heard.Text s) → asked_by m r ≡ words (string_bytes s) ∷ []
text_means (Some (text bs)) s r h = rw h refl
text_means (Some (binary bs)) s r h = absurd h
text_means (Some (ping bs)) s r h = absurd h
text_means (Some (pong bs)) s r h = absurd h
text_means (Some (close frame)) s r h = absurd h
text_means None s r h = absurd h

binary_means : (m : Option Content) (r : Option Outgoing) → Means m Heard.Binary → asked_by m r ≡ bytes ∷ []
binary_means (Some (text bs)) r h = absurd h
binary_means (Some (binary bs)) r h = refl
binary_means (Some (ping bs)) r h = absurd h
binary_means (Some (pong bs)) r h = absurd h
binary_means (Some (close frame)) r h = absurd h
binary_means None r h = absurd h

other_means : (m : Option Content) (r : Option Outgoing) → Means m Heard.Other → asked_by m r ≡ reply r ∷ []
other_means (Some (text bs)) r h = absurd h
other_means (Some (binary bs)) r h = absurd h
other_means (Some (ping bs)) r h = refl
other_means (Some (pong bs)) r h = refl
other_means (Some (close frame)) r h = absurd h
other_means None r h = absurd h

close_means : (m : Option Content) (r : Option Outgoing) → Means m Heard.Close → asked_by m r ≡ reply r ∷ []
close_means (Some (text bs)) r h = absurd h
close_means (Some (binary bs)) r h = absurd h
close_means (Some (ping bs)) r h = absurd h
close_means (Some (pong bs)) r h = absurd h
close_means (Some (close frame)) r h = refl
close_means None r h = absurd h

part_means : (m : Option Content) (r : Option Outgoing) → Means m Heard.Part → asked_by m r ≡ []
part_means (Some (text bs)) r h = absurd h
part_means (Some (binary bs)) r h = absurd h
part_means (Some (ping bs)) r h = absurd h
part_means (Some (pong bs)) r h = absurd h
part_means (Some (close frame)) r h = absurd h
part_means None r h = refl

-- ---- frames

pub brings_none : (t : Traffic) → Brings t t []
brings_none t = record { frames = []; read = (refl, refl); asks = append-nil (put_back t); given = refl; said = refl }

pub brings_chain : (l m n : Traffic) (p q : List Asked) → Brings l m p → Brings m n q → Brings l n (p ++ q)
brings_chain l m n p q h k =
    record {
      frames = h.frames ++ k.frames;
      read = read_chain l.conn m.conn n.conn l.left m.left n.left h.frames k.frames h.read k.read;
      asks = ap (λ z. put_back l ++ z) (messages_both h.frames k.frames) ∙ sym (append_assoc (put_back l) (messages_of h.frames) (messages_of k.frames))
          ∙ ap (λ z. z ++ messages_of k.frames) h.asks ∙ append_assoc p (put_back m) (messages_of k.frames) ∙ ap (λ z. p ++ z) k.asks ∙ sym (append_assoc p q (put_back n));
      given = k.given ∙ h.given;
      said = k.said ∙ h.said;
    }

pub holds_later : (l m n : Traffic) (p : List Asked) → Brings l m p → Holds m n → Holds l n
holds_later l m n p h k = record { given = k.given ∙ h.given; said = k.said ∙ h.said }

-- behind parts
pub hears_later : (l m n : Traffic) (out : List ℕ) (h : Heard) → Brings l m [] → Hears m n out h → Hears l n out h
hears_later l m n out h p k = (k.0, k.1, brings_chain l m n [] k.0 p k.2, k.3)

pub hears_part : (l m n : Traffic) (out : List ℕ) → Brings l m [] → Hears m n out Heard.Part → Brings l n []
hears_part l m n out p k = subst (Brings l n) k.1 (brings_chain l m n [] k.0 p k.2)

pub hears_nothing : (l m : Traffic) (out : List ℕ) → Brings l m [] → Hears l m out Heard.Nothing
hears_nothing l m out p = ([], refl, p, tt)

-- the text of an event
pub hears_event : (l m : Traffic) (out : List ℕ) (s : String Global) → Hears l m out (Heard.Text s) → Brings l m (words (string_bytes s) ∷ [])
hears_event l m out s k = subst (Brings l m) k.1 k.2

-- a text that is put back
pub hears_put_back : (l m n : Traffic) (out : List ℕ) (s : String Global) → Hears l m out (Heard.Text s) → n ≡ record m { back = string_bytes s ∷ [] } → Brings l n []
hears_put_back l m n out s k e =
    let b = hears_event l m out s k in
    let w : Asked = words (string_bytes s) in
    rw e (record {
      frames = b.frames;
      read = b.read;
      asks = b.asks ∙ ap (λ (z : List (List ℕ)). (w ∷ []) ++ map words z) k.3;
      given = b.given;
      said = b.said;
    })

sends_behind : (role : Role) (r : Option Outgoing) (xs o o2 : List ℕ) → Sends role r o o2 → Sends role r (xs ++ o) (xs ++ o2)
sends_behind role None xs o o2 h = ap (λ z. xs ++ z) h
sends_behind role (Some frame) xs o o2 h = (h.0, h.1, ap (λ z. xs ++ z) h.2 ∙ sym (append_assoc xs o _))

module _ {S : Type 0} where
  read_apart : (l m : Line S) (out : List ℕ) (h : Heard) (frame : ℕ × Effect) → ReadsApart l m [] out h frame → Brings (traffic_of l []) (traffic_of m []) (asked_by frame.1.message frame.1.reply)
  read_apart l m out h frame r = rw r.3 (record { frames = frame ∷ []; read = (r.0, (refl, refl)); asks = refl; given = refl; said = refl })

  sent_apart : (l m : Line S) (out : List ℕ) (h : Heard) (frame : ℕ × Effect) → ReadsApart l m [] out h frame → Sends m.conn.role frame.1.reply [] out
  sent_apart l m out h frame r = rw r.3 r.2

  pub hears_apart : (l m : Line S) (out : List ℕ) (h : Heard) → HearsApart l m [] out h → Hears (traffic_of l []) (traffic_of m []) out h
  hears_apart l m out Heard.Nothing k = rw k.0 ([], refl, brings_none (traffic_of l []), tt)
  hears_apart l m out (Heard.Text s) k =
      let f = k.0 in
      (asked_by f.1.message f.1.reply, text_means f.1.message s f.1.reply k.1.1, read_apart l m out (Heard.Text s) f k.1, refl)
  hears_apart l m out Heard.Binary k =
      let f = k.0 in
      (asked_by f.1.message f.1.reply, binary_means f.1.message f.1.reply k.1.1, read_apart l m out Heard.Binary f k.1, tt)
  hears_apart l m out Heard.Other k =
      let f = k.0 in
      (asked_by f.1.message f.1.reply, (f.1.reply, sent_apart l m out Heard.Other f k.1, other_means f.1.message f.1.reply k.1.1), read_apart l m out Heard.Other f k.1, tt)
  hears_apart l m out Heard.Close k =
      let f = k.0 in
      (asked_by f.1.message f.1.reply, (f.1.reply, sent_apart l m out Heard.Close f k.1, close_means f.1.message f.1.reply k.1.1), read_apart l m out Heard.Close f k.1, tt)
  hears_apart l m out Heard.Part k =
      let f = k.0 in
      (asked_by f.1.message f.1.reply, part_means f.1.message f.1.reply k.1.1, read_apart l m out Heard.Part f k.1, tt)

  -- a text that was put back
  pub hears_again : (l : Line S) (out : List ℕ) (s : String Global) → Hears (traffic_of l (string_bytes s ∷ [])) (traffic_of l []) out (Heard.Text s)
  hears_again l out s =
      (words (string_bytes s) ∷ [], refl, record { frames = []; read = (refl, refl); asks = refl; given = refl; said = refl }, refl)

  pub gives_fill : (remaining : S → Option (List ℕ)) (l m : Line S) (back : List (List ℕ)) → Fills remaining l m → Gives (traffic_of l back) (traffic_of m back)
  gives_fill remaining l m back f =
      record { got = f.0; given = f.1.0; left = f.1.1; conn = f.1.2; said = rw (f.1.3, f.1.4) refl; back = refl }

  pub holds_rests : (l m : Line S) (back more : List (List ℕ)) → LineRests l m → m.output ≡ l.output → Holds (traffic_of l back) (traffic_of m more)
  holds_rests l m back more r e = record { given = r.1; said = rw (r.2, e) refl }

  pub puts_close : (l m : Line S) (back : List (List ℕ)) (r : Result Effect Error) → close_step l.conn None ≡ r → Leaves r m.conn l.output m.output → LineRests l m → PutsClose (traffic_of l back) (traffic_of m back)
  puts_close l m back (Err e) is h rests = absurd h
  puts_close l m back (Ok effect) is h rests =
      let sent : Sends effect.next.role effect.reply l.output m.output = rw h.0 at h.1 in
      let behind : Sends effect.next.role effect.reply (l.taken ++ l.output) (l.taken ++ m.output) = sends_behind effect.next.role effect.reply l.taken l.output m.output sent in
      record {
        effect = effect;
        closes = is;
        sends = subst (λ (z : List ℕ). Sends effect.next.role effect.reply (l.taken ++ l.output) (z ++ m.output)) (sym rests.2) behind;
        given = rests.1;
      }

  pub rests_same : (l m : Line S) (back : List (List ℕ)) → m ≡ l → Rests (traffic_of l back) (traffic_of m back)
  rests_same l m back e = rw e (record { said = refl; conn = refl; given = refl; left = refl; back = refl })
