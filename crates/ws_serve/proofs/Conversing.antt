-- How a conversation goes on.
use Rattle.std.proofs.Common.{◌≡◌, ℕ, Bool, true, false, List, [], ◌∷◌, ◌++◌, drop, Option, None, Some, Result, Ok, Err, inl, inr, refl, sym, ap, ◌∙◌, subst, append_assoc, append-nil}
use Rattle.std.specs.Prelude.{is_some}
use Rattle.std.proofs.lemmas.List.{drop-append-le}
use mathlib.Core.List.{IsPrefix}
use Rattle.nostr_event.specs.EventView.{EventView}
use Rattle.relay_core.specs.declared.limits.RelayLimits.{RelayLimits}
use Rattle.websocket.specs.declared.protocol.config.Role.{Role}
use Rattle.websocket.specs.declared.protocol.config.Role.TheVariants.{Server}
use Rattle.websocket.specs.declared.protocol.state.WebSocketState.{WebSocketState}
use Rattle.websocket.specs.declared.error.Error.{Error}
use Rattle.websocket.specs.Connection.{Connection, Effect, Outgoing, Sends, close_to, close_step, closing_state}
use Rattle.websocket.proofs.StreamLemmas.{read_step-append, TookFrame_from_read}
use Rattle.wire.specs.Talk.{Frames, AreRead}
use Rattle.wire.proofs.Roles.{role_stays}
use Rattle.ws_serve.specs.Pieces.{Asked, asked_by, Piece, answers, publishes, Standing, messages_of, reply_frame, put_by, said_by, answered_by, Puts, ArePut}
use Rattle.ws_serve.specs.Served.{server, start, MayClose, IsServed, Talks}
use Rattle.ws_serve.specs.Traffic.{Traffic}

-- ---- pieces

said_more : (ps : List Piece) (p : Piece) → said_by (ps ++ p ∷ []) ≡ said_by ps ++ put_by p
said_more [] p = append-nil (put_by p)
said_more (q ∷ ps) p = ap (λ z. put_by q ++ z) (said_more ps p) ∙ sym (append_assoc (put_by q) (said_by ps) (put_by p))

answered_more : (ps : List Piece) (p : Piece) → answered_by (ps ++ p ∷ []) ≡ answered_by ps ++ answered_by (p ∷ [])
answered_more [] p = refl
answered_more (answers m out ∷ ps) p = ap (λ z. m ∷ z) (answered_more ps p)
answered_more (publishes out ∷ ps) p = answered_more ps p

put_more : (limits : RelayLimits) (a b c : Standing) (ps : List Piece) (p : Piece) → ArePut limits a ps b → Puts limits b p c → ArePut limits a (ps ++ p ∷ []) c
put_more limits a b c [] p h k = (c, rw h at k, refl)
put_more limits a b c (q ∷ ps) p h k = (h.0, h.1, put_more limits h.0 b c ps p h.2 k)

-- ---- frames

-- frames are read the same, however many bytes follow
read_more : (c c2 : Connection) (i i2 more : List ℕ) (fs : Frames) → AreRead c i fs c2 i2 → AreRead c (i ++ more) fs c2 (i2 ++ more)
read_more c c2 i i2 more [] h = (h.0, ap (λ z. z ++ more) h.1)
read_more c c2 i i2 more (f ∷ fs) h =
    let took = TookFrame_from_read c i f h.0 in (
      read_step-append c i more (λ k. cc (h.0, k.1)) ∙ h.0,
      rw (drop-append-le f.0 i more took.inside) (read_more f.1.next c2 (drop f.0 i) i2 more fs h.1),
    )

pub read_chain : (c c2 c3 : Connection) (i i2 i3 : List ℕ) (fs gs : Frames) → AreRead c i fs c2 i2 → AreRead c2 i2 gs c3 i3 → AreRead c i (fs ++ gs) c3 i3
read_chain c c2 c3 i i2 i3 [] gs h k = rw (← h.0, ← h.1) k
read_chain c c2 c3 i i2 i3 (f ∷ fs) gs h k = (h.0, read_chain f.1.next c2 c3 (drop f.0 i) i2 i3 fs gs h.1 k)

read_role : (c c2 : Connection) (i i2 : List ℕ) (fs : Frames) → AreRead c i fs c2 i2 → c2.role ≡ c.role
read_role c c2 i i2 [] h = ap (λ (x : Connection). x.role) h.0
read_role c c2 i i2 (f ∷ fs) h = read_role f.1.next c2 (drop f.0 i) i2 fs h.1 ∙ role_stays c i f h.0

pub messages_both : (fs gs : Frames) → messages_of (fs ++ gs) ≡ messages_of fs ++ messages_of gs
messages_both [] gs = refl
messages_both (f ∷ fs) gs =
    ap (λ z. asked_by f.1.message f.1.reply ++ z) (messages_both fs gs) ∙ sym (append_assoc (asked_by f.1.message f.1.reply) (messages_of fs) (messages_of gs))

-- ---- a server's replies have no mask

none_of : (mask : Option (List ℕ)) → is_some mask ≡ false → mask ≡ None
none_of None e = refl
none_of (Some key) e = cc e

pub reply_exact : (role : Role) (r : Option Outgoing) (a b : List ℕ) → role ≡ Server → Sends role r a b → b ≡ a ++ reply_frame r
reply_exact role None a b e h = h ∙ sym (append-nil a)
reply_exact role (Some frame) a b e h =
    let none = none_of h.0 (rw e at h.1.0) in
    rw none at h.2

ok_is : {a b : Effect} → ◌≡◌ {A = Result Effect Error} (Ok a) (Ok b) → b ≡ a
ok_is e = cc e

close_role : (conn : Connection) (state : Option WebSocketState) (effect : Effect) → close_to conn None state ≡ Ok effect → effect.next.role ≡ conn.role
close_role conn None effect e = rw (ok_is e) refl
close_role conn (Some state) effect e = rw (ok_is e) refl

-- ---- a conversation

module _ {limits : RelayLimits} {conn : Connection} {left : List ℕ} {pending : List Asked} {a : Standing} {given said : List ℕ} where
  pub talks_as : (limits2 : RelayLimits) (conn2 : Connection) (left2 given2 said2 : List ℕ) → Talks limits conn left pending a given said
      → limits2 ≡ limits → conn2 ≡ conn → left2 ≡ left → given2 ≡ given → said2 ≡ said → Talks limits2 conn2 left2 pending a given2 said2
  talks_as limits2 conn2 left2 given2 said2 t e f g h k = rw (e, f, g, h, k) t

  pub talks_role : Talks limits conn left pending a given said → conn.role ≡ Server
  talks_role t = read_role (server t.config) conn given left t.frames t.read

  pub talks_answers : (m : Asked) (b : Standing) (out said2 : List ℕ) → Talks limits conn left (m ∷ pending) a given said → Puts limits a (answers m out) b
      → said2 ≡ said ++ out → Talks limits conn left pending b given said2
  talks_answers m b out said2 t p e =
      let piece : Piece = answers m out in
      record {
        config = t.config;
        frames = t.frames;
        pieces = t.pieces ++ piece ∷ [];
        read = t.read;
        asked = t.asked ∙ sym (ap (λ z. z ++ pending) (answered_more t.pieces piece) ∙ append_assoc (answered_by t.pieces) (m ∷ []) pending);
        put = put_more limits start a b t.pieces piece t.put p;
        spoke = e ∙ ap (λ z. z ++ out) t.spoke ∙ sym (said_more t.pieces piece);
      }

  pub talks_publishes : (b : Standing) (out said2 : List ℕ) → Talks limits conn left pending a given said → Puts limits a (publishes out) b
      → said2 ≡ said ++ out → Talks limits conn left pending b given said2
  talks_publishes b out said2 t p e =
      let piece : Piece = publishes out in
      record {
        config = t.config;
        frames = t.frames;
        pieces = t.pieces ++ piece ∷ [];
        read = t.read;
        asked = t.asked ∙ sym (ap (λ z. z ++ pending) (answered_more t.pieces piece ∙ append-nil (answered_by t.pieces)));
        put = put_more limits start a b t.pieces piece t.put p;
        spoke = e ∙ ap (λ z. z ++ out) t.spoke ∙ sym (said_more t.pieces piece);
      }

  pub talks_reads : (conn2 : Connection) (left2 : List ℕ) (fs : Frames) (pending2 : List Asked) → Talks limits conn left pending a given said
      → AreRead conn left fs conn2 left2 → pending ++ messages_of fs ≡ pending2 → Talks limits conn2 left2 pending2 a given said
  talks_reads conn2 left2 fs pending2 t h e =
      record {
        config = t.config;
        frames = t.frames ++ fs;
        pieces = t.pieces;
        read = read_chain (server t.config) conn conn2 given left left2 t.frames fs t.read h;
        asked = messages_both t.frames fs ∙ ap (λ z. z ++ messages_of fs) t.asked ∙ append_assoc (answered_by t.pieces) pending (messages_of fs) ∙ ap (λ z. answered_by t.pieces ++ z) e;
        put = t.put;
        spoke = t.spoke;
      }

  pub talks_gives : (got : List ℕ) → Talks limits conn left pending a given said → Talks limits conn (left ++ got) pending a (given ++ got) said
  talks_gives got t =
      record {
        config = t.config;
        frames = t.frames;
        pieces = t.pieces;
        read = read_more (server t.config) conn given left got t.frames t.read;
        asked = t.asked;
        put = t.put;
        spoke = t.spoke;
      }

  -- a beginning of it was said
  pub talks_served : (t2 : Traffic) (events : List EventView) → Talks limits conn left pending a given said → IsPrefix a.events events
      → t2.given ≡ given → IsPrefix t2.said said → IsServed limits events t2
  talks_served t2 events t p e q =
      record {
        config = t.config;
        frames = t.frames;
        conn = conn;
        left = left;
        pieces = t.pieces;
        pending = pending;
        last = a;
        closing = [];
        read = subst (λ (z : List ℕ). AreRead (server t.config) z t.frames conn left) (sym e) t.read;
        asked = t.asked;
        put = t.put;
        known = p;
        closed = inl refl;
        said = subst (λ (z : List ℕ). IsPrefix t2.said z) (t.spoke ∙ sym (append-nil (said_by t.pieces))) q;
      }

  -- and then a close
  pub talks_closed : (t2 : Traffic) (events : List EventView) (effect : Effect) → Talks limits conn left pending a given said → IsPrefix a.events events
      → t2.given ≡ given → close_step conn None ≡ Ok effect → Sends effect.next.role effect.reply said t2.said → IsServed limits events t2
  talks_closed t2 events effect t p e close sends =
      let role : effect.next.role ≡ Server = close_role conn (closing_state conn.state) effect close ∙ talks_role t in
      let out : List ℕ = reply_frame effect.reply in
      let all : t2.said ≡ said_by t.pieces ++ out = reply_exact effect.next.role effect.reply said t2.said role sends ∙ ap (λ z. z ++ out) t.spoke in
      record {
        config = t.config;
        frames = t.frames;
        conn = conn;
        left = left;
        pieces = t.pieces;
        pending = pending;
        last = a;
        closing = out;
        read = subst (λ (z : List ℕ). AreRead (server t.config) z t.frames conn left) (sym e) t.read;
        asked = t.asked;
        put = t.put;
        known = p;
        closed = inr (effect, close, refl);
        said = ([], append-nil t2.said ∙ all);
      }
