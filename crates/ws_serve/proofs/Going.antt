-- What a connection has served, call by call.
use Rattle.std.proofs.Common.{◌≡◌, ◌≢◌, ℕ, Bool, true, false, List, [], ◌∷◌, ◌++◌, map, Option, None, Some, Result, Ok, Err, inl, inr, refl, sym, ap, ◌∙◌, subst, append_assoc, append-nil}
use Rattle.std.specs.Prelude.{codes, option_map, IfSome}
use Rattle.std.specs.Arc.{arc_value}
use mathlib.Core.List.{IsPrefix}
use Rattle.event_list.proofs.Prefixes.{prefix_self, prefix_trans}
use Rattle.nostr_event.specs.EventView.{EventView}
use Rattle.nostr_wire.specs.Forms.{Form, relay_form}
use Rattle.relay_core.specs.declared.limits.RelayLimits.{RelayLimits}
use Rattle.relay_core.specs.declared.step.Step.{Step}
use Rattle.relay_core.specs.Due.{CatchesUp}
use Rattle.relay_core.specs.Faults.{GoesOnBy}
use Rattle.relay_core.specs.Kept.{Kept, Connection as Conn, kept_of}
use Rattle.relay_core.specs.Messages.{notice, okay}
use Rattle.relay_core.specs.Serving.{Serves}
use Rattle.relay_core.specs.Turns.{Turn, turn_of}
use Rattle.websocket.specs.declared.protocol.config.WebSocketConfig.{WebSocketConfig}
use Rattle.websocket.specs.Connection.{Connection, Outgoing, Sends}
use Rattle.wire.specs.declared.heard.Heard.{Heard}
use Rattle.wire.specs.Talk.{AreRead}
use Rattle.ws_socket.specs.declared.fault.LinkFault.{LinkFault}
use Rattle.ws_serve.specs.declared.turning.Turned.{Turned}
use Rattle.ws_serve.specs.Answering.{SaysAfter, SaysAnswers, TellsOf}
use Rattle.ws_serve.specs.Frames.{spoken, spoken_one}
use Rattle.ws_serve.specs.Gathered.{MaySayOf}
use Rattle.ws_serve.specs.Pieces.{Asked, words, bytes, reply, answers, publishes, Standing, reply_frame, messages_of, said_by, IsAnswered, Puts}
use Rattle.ws_serve.specs.After.{AfterTurned, AfterTurn, AfterStep, Refills, is_over}
use Rattle.ws_serve.specs.Served.{server, start, put_back, IsServed, Talks, IsServing, Serving, Served, GoesOn, Stops, Stands, known_by}
use Rattle.ws_serve.specs.Steps.{IsFresh, Gives, PutsClose, Brings, Asks, Awaits, SaysSome}
use Rattle.ws_serve.specs.Traffic.{Traffic, Says, Rests, MaySay, ReadsNone}
use Rattle.ws_serve.proofs.Answering.{spoken_both}
use Rattle.ws_serve.proofs.Conversing.{talks_as, talks_role, talks_answers, talks_publishes, talks_reads, talks_gives, talks_served, talks_closed, reply_exact}

-- an open connection goes on to what it keeps then
pub goes_from : (R : Kept → Kept → Type 0) (k k2 : Option Kept) (a : Kept) → k ≡ Some a → GoesOnBy R k k2 → (b : Kept) × (k2 ≡ Some b) × R a b
goes_from R k None a e h = absurd (rw e at h)
goes_from R k (Some b) a e h = (b, refl, rw e at h)

pub prefix_under : (xs part bs : List ℕ) → IsPrefix part bs → IsPrefix (xs ++ part) (xs ++ bs)
prefix_under xs part bs p = (p.0, append_assoc xs part p.0 ∙ ap (λ z. xs ++ z) p.1)

-- a beginning of these bytes stands behind what was said
pub some_under : (t t2 : Traffic) (bs : List ℕ) → SaysSome t t2 bs → IsPrefix t2.said (t.said ++ bs)
some_under t t2 bs s =
    subst (λ (z : List ℕ). IsPrefix z (t.said ++ bs)) (sym s.1.said) (prefix_under t.said s.0 bs s.2)

pub some_of_may : (t t2 : Traffic) (bs : List ℕ) → MaySay t t2 bs → SaysSome t t2 bs
some_of_may t t2 bs (inl r) =
    ([], record { said = r.said ∙ sym (append-nil t.said); conn = r.conn; given = r.given; left = r.left; back = r.back }, (bs, refl))
some_of_may t t2 bs (inr s) = (bs, s, prefix_self bs)

module _ {pending : List Asked} {conn : Connection} {left : List ℕ} {c : Conn} {t : Traffic} {events : List EventView} where
  -- the same, by other names
  pub serving_as : (conn2 : Connection) (left2 : List ℕ) (c2 : Conn) (t2 : Traffic) (events2 : List EventView) → IsServing pending conn left c t events
      → conn2 ≡ conn → left2 ≡ left → c2.limits ≡ c.limits → c2.kept ≡ c.kept → t2.given ≡ t.given → t2.said ≡ t.said → IsPrefix events events2
      → IsServing pending conn2 left2 c2 t2 events2
  serving_as conn2 left2 c2 t2 events2 s e f g h i j p =
      record {
        last = s.last;
        talks = talks_as c2.limits conn2 left2 t2.given t2.said s.talks g e f i j;
        kept = h ∙ s.kept;
        known = prefix_trans s.last.events events events2 s.known p;
      }

  -- a beginning of it was said
  pub serving_served : (c2 : Conn) (t2 : Traffic) (events2 : List EventView) → IsServing pending conn left c t events
      → c2.limits ≡ c.limits → t2.given ≡ t.given → IsPrefix t2.said t.said → IsPrefix events events2 → Served c2 t2 events2
  serving_served c2 t2 events2 s e f q p =
      subst (λ (l : RelayLimits). Served (record c2 { limits = l }) t2 events2) (sym e) (talks_served t2 events2 s.talks (prefix_trans s.last.events events events2 s.known p) f q)

  pub serving_publishes : (c2 : Conn) (t2 : Traffic) (events2 : List EventView) (front : ℕ) (forms : List Form) → IsServing pending conn left c t events
      → GoesOnBy (CatchesUp events2 front forms) c.kept c2.kept → c2.limits ≡ c.limits → IsPrefix events events2 → Says t t2 (spoken forms)
      → IsServing pending conn left c2 t2 events2
  serving_publishes c2 t2 events2 front forms s h e p says =
      let g = goes_from (CatchesUp events2 front forms) c.kept c2.kept s.last.kept s.kept h in
      let b : Standing = record { events = events2; kept = g.0 } in
      let put : Puts c.limits s.last (publishes (spoken forms)) b = (prefix_trans s.last.events events events2 s.known p, (front, forms, g.2, refl)) in
      record {
        last = b;
        talks = talks_as c2.limits conn left t2.given t2.said (talks_publishes b (spoken forms) t2.said s.talks put says.said) e refl refl says.given refl;
        kept = g.1;
        known = prefix_self events2;
      }

  -- the first message is answered
  pub serving_answers : (m : Asked) (c2 : Conn) (t2 : Traffic) (now events2 : List EventView) (kept2 : Kept) (out : List ℕ) (s : IsServing (m ∷ pending) conn left c t events)
      → IsPrefix events now → IsPrefix now events2 → IsAnswered c.limits now m s.last.kept out kept2 → c2.kept ≡ Some kept2 → c2.limits ≡ c.limits → Says t t2 out
      → IsServing pending conn left c2 t2 events2
  serving_answers m c2 t2 now events2 kept2 out s p q answered k e says =
      let b : Standing = record { events = now; kept = kept2 } in
      let put : Puts c.limits s.last (answers m out) b = (prefix_trans s.last.events events now s.known p, answered) in
      record {
        last = b;
        talks = talks_as c2.limits conn left t2.given t2.said (talks_answers m b out t2.said s.talks put says.said) e refl refl says.given refl;
        kept = k;
        known = q;
      }

  -- a beginning of its answer was said
  pub serving_answers_some : (m : Asked) (c2 : Conn) (t2 : Traffic) (now events2 : List EventView) (kept2 : Kept) (out : List ℕ) (s : IsServing (m ∷ pending) conn left c t events)
      → IsPrefix events now → IsPrefix now events2 → IsAnswered c.limits now m s.last.kept out kept2 → c2.limits ≡ c.limits → t2.given ≡ t.given → IsPrefix t2.said (t.said ++ out)
      → Served c2 t2 events2
  serving_answers_some m c2 t2 now events2 kept2 out s p q answered e f r =
      let b : Standing = record { events = now; kept = kept2 } in
      let put : Puts c.limits s.last (answers m out) b = (prefix_trans s.last.events events now s.known p, answered) in
      subst (λ (l : RelayLimits). Served (record c2 { limits = l }) t2 events2) (sym e) (talks_served t2 events2 (talks_answers m b out (t.said ++ out) s.talks put refl) q f r)

-- ---- where reading may go on

-- what was put back is the same
back_as : (pending : List Asked) (conn : Connection) (left : List ℕ) (c : Conn) (t t2 : Traffic) (events : List EventView) → t2.back ≡ t.back
    → IsServing (pending ++ put_back t) conn left c t2 events → IsServing (pending ++ put_back t2) conn left c t2 events
back_as pending conn left c t t2 events e s =
    subst (λ (b : List (List ℕ)). IsServing (pending ++ map words b) conn left c t2 events) (sym e) s

module _ (pending : List Asked) {c : Conn} {t : Traffic} {events : List EventView} where
  pub serving_rests : (t2 : Traffic) → Serving pending c t events → Rests t t2 → Serving pending c t2 events
  serving_rests t2 s r =
      back_as pending t2.conn t2.left c t t2 events r.back (serving_as t2.conn t2.left c t2 events s r.conn r.left refl refl r.given r.said (prefix_self events))

  pub serving_reads : (t2 : Traffic) (more : List Asked) → Serving pending c t events → Brings t t2 more → Serving (pending ++ more) c t2 events
  serving_reads t2 more s b =
      let e : (pending ++ put_back t) ++ messages_of b.frames ≡ (pending ++ more) ++ put_back t2 =
      append_assoc pending (put_back t) (messages_of b.frames) ∙ ap (λ z. pending ++ z) b.asks ∙ sym (append_assoc pending more (put_back t2)) in
      record {
        last = s.last;
        talks = talks_as c.limits t2.conn t2.left t2.given t2.said (talks_reads t2.conn t2.left b.frames ((pending ++ more) ++ put_back t2) s.talks b.read e) refl refl refl b.given b.said;
        kept = s.kept;
        known = s.known;
      }

  pub serving_gives : (t2 : Traffic) → Serving pending c t events → Gives t t2 → Serving pending c t2 events
  serving_gives t2 s g =
      back_as pending t2.conn t2.left c t t2 events g.back (record {
        last = s.last;
        talks = talks_as c.limits t2.conn t2.left t2.given t2.said (talks_gives g.got s.talks) refl g.conn g.left g.given g.said;
        kept = s.kept;
        known = s.known;
      })

  pub serving_later : (events2 : List EventView) → Serving pending c t events → IsPrefix events events2 → Serving pending c t events2
  serving_later events2 s p = serving_as t.conn t.left c t events2 s refl refl refl refl refl refl p

  -- nothing more was said
  pub serving_stops : (t2 : Traffic) → Serving pending c t events → t2.given ≡ t.given → t2.said ≡ t.said → Served c t2 events
  serving_stops t2 s e f =
      serving_served c t2 events s refl e (subst (λ (z : List ℕ). IsPrefix z t.said) (sym f) (prefix_self t.said)) (prefix_self events)

pub serving_closes : (c : Conn) (t t2 : Traffic) (events : List EventView) → Serving [] c t events → PutsClose t t2 → Served c t2 events
serving_closes c t t2 events s p = talks_closed t2 events p.effect s.talks s.known p.given p.closes p.sends

-- ---- what is put

-- a text is answered
pub serving_answered : (text : List ℕ) (c c2 : Conn) (t t2 : Traffic) (e e2 : List EventView) → Serving (words text ∷ []) c t e
    → GoesOnBy (SaysAnswers c.limits e e2 text t t2) c.kept c2.kept → c2.limits ≡ c.limits → Serving [] c2 t2 e2
serving_answered text c c2 t t2 e e2 s h limits =
    let g = goes_from (SaysAnswers c.limits e e2 text t t2) c.kept c2.kept s.last.kept s.kept h in
    let forms = g.2.0 in
    let between = g.2.1 in
    let says = g.2.2 in
    let done : IsServing (put_back t) t.conn t.left c2 t2 e2 =
    serving_answers (words text) c2 t2 between.0 e2 g.0 (spoken forms) s between.1 between.2 (forms, between.3, refl) g.1 limits says in
    back_as [] t2.conn t2.left c2 t t2 e2 says.back (serving_as t2.conn t2.left c2 t2 e2 done says.conn says.left refl refl refl refl (prefix_self e2))

-- a message that leaves all as it was is answered
answered_same : (m : Asked) (out : List ℕ) (c : Conn) (t t2 : Traffic) (e : List EventView) (s : Serving (m ∷ []) c t e)
    → IsAnswered c.limits e m s.last.kept out s.last.kept → Says t t2 out → Serving [] c t2 e
answered_same m out c t t2 e s a says =
    let done : IsServing (put_back t) t.conn t.left c t2 e =
    serving_answers m c t2 e e s.last.kept out s (prefix_self e) (prefix_self e) a s.kept refl says in
    back_as [] t2.conn t2.left c t t2 e says.back (serving_as t2.conn t2.left c t2 e done says.conn says.left refl refl refl refl (prefix_self e))

answered_same_some : (m : Asked) (out : List ℕ) (c : Conn) (t t2 : Traffic) (e : List EventView) (s : Serving (m ∷ []) c t e)
    → IsAnswered c.limits e m s.last.kept out s.last.kept → SaysSome t t2 out → Served c t2 e
answered_same_some m out c t t2 e s a says =
    serving_answers_some m c t2 e e s.last.kept out s (prefix_self e) (prefix_self e) a refl says.1.given (some_under t t2 out says)

refusal_alone : (out : List ℕ) → out ≡ spoken_one (notice (codes "invalid: bad message")) → out ≡ spoken (notice (codes "invalid: bad message") ∷ [])
refusal_alone out e = e ∙ sym (append-nil (spoken_one (notice (codes "invalid: bad message"))))

-- one message is pending
one_open : (q r : List Asked) (c : Conn) (t : Traffic) (e : List EventView) → q ≡ r → Serving q c t e → Serving r c t e
one_open q r c t e same s = subst (λ (z : List Asked). Serving z c t e) same s

pub bytes_answered : (out : List ℕ) (c : Conn) (t t2 : Traffic) (e : List EventView) → Awaits Heard.Binary out c t e
    → Says t t2 (spoken_one (notice (codes "invalid: bad message"))) → Serving [] c t2 e
bytes_answered out c t t2 e a says =
    answered_same bytes (spoken_one (notice (codes "invalid: bad message"))) c t t2 e (one_open a.0 (bytes ∷ []) c t e a.1 a.2) (refusal_alone _ refl, refl) says

pub bytes_answered_some : (out : List ℕ) (c : Conn) (t t2 : Traffic) (e : List EventView) → Awaits Heard.Binary out c t e
    → MaySay t t2 (spoken_one (notice (codes "invalid: bad message"))) → Served c t2 e
bytes_answered_some out c t t2 e a says =
    answered_same_some bytes (spoken_one (notice (codes "invalid: bad message"))) c t t2 e (one_open a.0 (bytes ∷ []) c t e a.1 a.2) (refusal_alone _ refl, refl) (some_of_may t t2 _ says)

reply_answered : (r : Option Outgoing) (q : List Asked) (out : List ℕ) (c : Conn) (t t2 : Traffic) (e : List EventView) → Sends t.conn.role r [] out → q ≡ reply r ∷ []
    → Serving q c t e → Says t t2 out → Serving [] c t2 e
reply_answered r q out c t t2 e sends same s says =
    answered_same (reply r) out c t t2 e (one_open q (reply r ∷ []) c t e same s) (reply_exact t.conn.role r [] out (talks_role s.talks) sends, refl) says

pub other_answered : (out : List ℕ) (c : Conn) (t t2 : Traffic) (e : List EventView) → Awaits Heard.Other out c t e → Says t t2 out → Serving [] c t2 e
other_answered out c t t2 e a says = reply_answered a.1.0 a.0 out c t t2 e a.1.1 a.1.2 a.2 says

pub close_answered : (out : List ℕ) (c : Conn) (t t2 : Traffic) (e : List EventView) → Awaits Heard.Close out c t e → Says t t2 out → Serving [] c t2 e
close_answered out c t t2 e a says = reply_answered a.1.0 a.0 out c t t2 e a.1.1 a.1.2 a.2 says

pub text_awaited : (s : List ℕ) (q : List Asked) (c : Conn) (t : Traffic) (e : List EventView) → q ≡ words s ∷ [] → Serving q c t e → Serving (words s ∷ []) c t e
text_awaited s q c t e same a = one_open q (words s ∷ []) c t e same a

pub none_awaited : (q : List Asked) (c : Conn) (t : Traffic) (e : List EventView) → q ≡ [] → Serving q c t e → Serving [] c t e
none_awaited q c t e same a = one_open q [] c t e same a

pub awaits_stops : (h : Heard) (out : List ℕ) (c : Conn) (t t2 : Traffic) (e : List EventView) → Awaits h out c t e → Rests t t2 → Served c t2 e
awaits_stops h out c t t2 e a r = serving_stops a.0 t2 a.2 r.given r.said

-- ---- a text's answers, of which a beginning was said

-- an answer that goes on from what a turn says
after_some : (out : List Form) (store : Option EventView) → (forms : List Form) × SaysAfter out store forms × ((more : List Form) × (forms ≡ out ++ more))
after_some out None = (out, refl, ([], sym (append-nil out)))
after_some out (Some e) =
    let m : Form = okay e.id false (codes "error: out of memory") in
    (out ++ m ∷ [], (m, inr (inr (inl refl)), refl), (m ∷ [], refl))

pub answers_begun : (text : List ℕ) (turn : Turn) (c c2 : Conn) (t t2 : Traffic) (e now e2 : List EventView) (s : Serving (words text ∷ []) c t e)
    → IsPrefix e now → IsPrefix now e2 → Serves c.limits now text s.last.kept turn → c2.limits ≡ c.limits → SaysSome t t2 (spoken turn.out) → Served c2 t2 e2
answers_begun text turn c c2 t t2 e now e2 s p q serves limits says =
    let after = after_some turn.out turn.store in
    let all : spoken after.0 ≡ spoken turn.out ++ spoken after.2.0 = ap spoken after.2.1 ∙ spoken_both turn.out after.2.0 in
    let begun : IsPrefix (spoken turn.out) (spoken after.0) = (spoken after.2.0, sym all) in
    let under : IsPrefix t2.said (t.said ++ spoken after.0) =
    prefix_trans t2.said (t.said ++ spoken turn.out) (t.said ++ spoken after.0) (some_under t t2 (spoken turn.out) says) (prefix_under t.said (spoken turn.out) (spoken after.0) begun) in
    serving_answers_some (words text) c2 t2 now e2 turn.kept (spoken after.0) s p q (after.0, (turn, serves, after.1, refl), refl) limits says.1.given under

-- the same where the answer about its event was begun
pub answers_told : (text : List ℕ) (turn : Turn) (v : EventView) (c c2 : Conn) (t t1 t2 : Traffic) (e now e2 : List EventView) (s : Serving (words text ∷ []) c t e)
    → IsPrefix e now → IsPrefix now e2 → Serves c.limits now text s.last.kept turn → turn.store ≡ Some v → c2.limits ≡ c.limits → Says t t1 (spoken turn.out) → MaySayOf v.id t1 t2
    → Served c2 t2 e2
answers_told text turn v c c2 t t1 t2 e now e2 s p q serves stores limits says may =
    let m : Form = may.0 in
    let forms : List Form = turn.out ++ m ∷ [] in
    let some = some_of_may t1 t2 (spoken_one m) may.2 in
    let after : SaysAfter turn.out turn.store forms = subst (λ (o : Option EventView). SaysAfter turn.out o forms) (sym stores) (m, may.1, refl) in
    let all : spoken forms ≡ spoken turn.out ++ spoken_one m = spoken_both turn.out (m ∷ []) ∙ ap (λ z. spoken turn.out ++ z) (append-nil (spoken_one m)) in
    let whole : t1.said ++ spoken_one m ≡ t.said ++ spoken forms = ap (λ z. z ++ spoken_one m) says.said ∙ append_assoc t.said (spoken turn.out) (spoken_one m) ∙ ap (λ z. t.said ++ z) (sym all) in
    let under : IsPrefix t2.said (t.said ++ spoken forms) = subst (λ (z : List ℕ). IsPrefix t2.said z) whole (some_under t1 t2 (spoken_one m) some) in
    serving_answers_some (words text) c2 t2 now e2 turn.kept (spoken forms) s p q (forms, (turn, serves, after, refl), refl) limits (some.1.given ∙ says.given) under

-- the same of a step, whose text was served
pub step_begun : (text : List ℕ) (s : Step) (c c2 : Conn) (t t2 : Traffic) (e e2 : List EventView) → Serving (words text ∷ []) c t e
    → GoesOnBy (λ old new. Serves c.limits e2 text old (turn_of s new)) c.kept c2.kept → c2.limits ≡ c.limits → IsPrefix e e2 → SaysSome t t2 (spoken (map relay_form s.out.items)) → Served c2 t2 e2
step_begun text s c c2 t t2 e e2 serving h limits p some =
    let on = goes_from (λ old new. Serves c.limits e2 text old (turn_of s new)) c.kept c2.kept serving.last.kept serving.kept h in
    answers_begun text (turn_of s on.0) c c2 t t2 e e2 e2 serving p (prefix_self e2) on.2 limits some

pub step_told : (text : List ℕ) (s : Step) (v : EventView) (c c2 c3 : Conn) (t t1 t2 : Traffic) (e e2 e3 : List EventView) → Serving (words text ∷ []) c t e
    → GoesOnBy (λ old new. Serves c.limits e2 text old (turn_of s new)) c.kept c2.kept → c3.limits ≡ c.limits → IsPrefix e e2 → IsPrefix e2 e3 → option_map arc_value s.store ≡ Some v
    → Says t t1 (spoken (map relay_form s.out.items)) → MaySayOf v.id t1 t2 → Served c3 t2 e3
step_told text s v c c2 c3 t t1 t2 e e2 e3 serving h limits p q stores says may =
    let on = goes_from (λ old new. Serves c.limits e2 text old (turn_of s new)) c.kept c2.kept serving.last.kept serving.kept h in
    answers_told text (turn_of s on.0) v c c3 t t1 t2 e e2 e3 serving p q on.2 stores limits says may

-- ---- what is published

pub goes_nowhere : (c : Conn) (t : Traffic) (e : List EventView) → GoesOn c t e c t e
goes_nowhere c t e pending conn left s = s

pub goes_publishing : (c0 c c2 : Conn) (t0 t t2 : Traffic) (e0 e e2 : List EventView) (front : ℕ) (forms : List Form) → GoesOn c0 t0 e0 c t e
    → GoesOnBy (CatchesUp e2 front forms) c.kept c2.kept → c2.limits ≡ c.limits → IsPrefix e e2 → Says t t2 (spoken forms) → GoesOn c0 t0 e0 c2 t2 e2
goes_publishing c0 c c2 t0 t t2 e0 e e2 front forms g h limits p says pending conn left s =
    serving_publishes c2 t2 e2 front forms (g pending conn left s) h limits p says

pub goes_resting : (c0 c : Conn) (t0 t t2 : Traffic) (e0 e : List EventView) → GoesOn c0 t0 e0 c t e → Rests t t2 → GoesOn c0 t0 e0 c t2 e
goes_resting c0 c t0 t t2 e0 e g r pending conn left s =
    serving_as conn left c t2 e (g pending conn left s) refl refl refl refl r.given r.said (prefix_self e)

-- a call fails
pub goes_stopping : (c0 c c2 : Conn) (t0 t t2 : Traffic) (e0 e e2 : List EventView) → GoesOn c0 t0 e0 c t e → c2.limits ≡ c.limits → t2.given ≡ t.given → t2.said ≡ t.said → IsPrefix e e2
    → Stops c0 t0 e0 c2 t2 e2
goes_stopping c0 c c2 t0 t t2 e0 e e2 g limits given said p pending conn left s =
    serving_served c2 t2 e2 (g pending conn left s) limits given (subst (λ (z : List ℕ). IsPrefix z t.said) (sym said) (prefix_self t.said)) p

-- a beginning of it was said
pub goes_beginning : (c0 c c2 : Conn) (t0 t t2 : Traffic) (e0 e e2 : List EventView) (front : ℕ) (forms : List Form) → GoesOn c0 t0 e0 c t e
    → GoesOnBy (CatchesUp e2 front forms) c.kept c2.kept → c2.limits ≡ c.limits → IsPrefix e e2 → SaysSome t t2 (spoken forms) → Stops c0 t0 e0 c2 t2 e2
goes_beginning c0 c c2 t0 t t2 e0 e e2 front forms g h limits p some pending conn left s =
    let full : Traffic = record t { said = t.said ++ spoken forms } in
    let all = serving_publishes c2 full e2 front forms (g pending conn left s) h limits p (record { said = refl; conn = refl; given = refl; left = refl; back = refl }) in
    serving_served c2 t2 e2 all refl some.1.given (some_under t t2 (spoken forms) some) (prefix_self e2)

pub none_read : (t : Traffic) → ReadsNone t t
none_read t = record { conn = refl; left = refl; back = refl }

pub none_read_says : (a b c : Traffic) (out : List ℕ) → ReadsNone a b → Says b c out → ReadsNone a c
none_read_says a b c out r s = record { conn = s.conn ∙ r.conn; left = s.left ∙ r.left; back = s.back ∙ r.back }

pub none_read_rests : (a b c : Traffic) → ReadsNone a b → Rests b c → ReadsNone a c
none_read_rests a b c r s = record { conn = s.conn ∙ r.conn; left = s.left ∙ r.left; back = s.back ∙ r.back }

-- it was caught up with what is published
pub serving_caught : (c c2 : Conn) (t t2 : Traffic) (e e2 : List EventView) → Serving [] c t e → GoesOn c t e c2 t2 e2 → ReadsNone t t2 → Serving [] c2 t2 e2
serving_caught c c2 t t2 e e2 s g r =
    let on = g (put_back t) t.conn t.left s in
    back_as [] t2.conn t2.left c2 t t2 e2 r.back (serving_as t2.conn t2.left c2 t2 e2 on r.conn r.left refl refl refl refl (prefix_self e2))

pub serving_uncaught : (c c2 : Conn) (t t2 : Traffic) (e e2 : List EventView) → Serving [] c t e → Stops c t e c2 t2 e2 → Served c2 t2 e2
serving_uncaught c c2 t t2 e e2 s g = g (put_back t) t.conn t.left s

-- ---- a connection between two turns

first_talks : (limits : RelayLimits) (config : WebSocketConfig) → Talks limits (server config) [] [] start [] []
first_talks limits config =
    record { config = config; frames = []; pieces = []; read = (refl, refl); asked = refl; put = refl; spoke = refl }

pub stands_first : (c : Conn) (t : Traffic) → c.kept ≡ Some (kept_of [] []) → IsFresh t → Stands false c t None
stands_first c t k f =
    let conn : t.conn ≡ server f.0 = ap (λ (x : Traffic). x.conn) f.1 in
    let left : t.left ≡ [] = ap (λ (x : Traffic). x.left) f.1 in
    let given : t.given ≡ [] = ap (λ (x : Traffic). x.given) f.1 in
    let said : t.said ≡ [] = ap (λ (x : Traffic). x.said) f.1 in
    let back : t.back ≡ [] = ap (λ (x : Traffic). x.back) f.1 in
    let first : IsServing [] t.conn t.left c t [] =
    record {
      last = start;
      talks = talks_as c.limits t.conn t.left t.given t.said (first_talks c.limits f.0) refl conn left given said;
      kept = k;
      known = ([], refl);
    } in
    let s : Serving [] c t [] = subst (λ (b : List (List ℕ)). IsServing (map words b) t.conn t.left c t []) (sym back) first in
    record { served = serving_stops [] t s refl refl; goes_on = λ e. s }

served_as : (limits : RelayLimits) (events events2 : List EventView) (t t2 : Traffic) → IsServed limits events t → t2.given ≡ t.given → t2.said ≡ t.said → IsPrefix events events2 → IsServed limits events2 t2
served_as limits events events2 t t2 s e f p =
    record {
      config = s.config;
      frames = s.frames;
      conn = s.conn;
      left = s.left;
      pieces = s.pieces;
      pending = s.pending;
      last = s.last;
      closing = s.closing;
      read = subst (λ (z : List ℕ). AreRead (server s.config) z s.frames s.conn s.left) (sym e) s.read;
      asked = s.asked;
      put = s.put;
      known = prefix_trans s.last.events events events2 s.known p;
      closed = s.closed;
      said = subst (λ (z : List ℕ). IsPrefix z (said_by s.pieces ++ s.closing)) (sym f) s.said;
    }

pub served_rests : (c : Conn) (t t2 : Traffic) (e : List EventView) → Served c t e → Rests t t2 → Served c t2 e
served_rests c t t2 e s r = served_as c.limits e e t t2 s r.given r.said (prefix_self e)

module _ {over : Bool} {c : Conn} {t : Traffic} {seen : Option (List EventView)} where
  pub stands_rests : (t2 : Traffic) → Stands over c t seen → Rests t t2 → Stands over c t2 seen
  stands_rests t2 s r =
      record {
        served = served_as c.limits (known_by seen) (known_by seen) t t2 s.served r.given r.said (prefix_self (known_by seen));
        goes_on = λ e. serving_rests [] t2 (s.goes_on e) r;
      }

  pub stands_later : (e2 : List EventView) → Stands over c t seen → IsPrefix (known_by seen) e2 → Stands over c t (Some e2)
  stands_later e2 s p =
      record {
        served = served_as c.limits (known_by seen) e2 t t s.served refl refl p;
        goes_on = λ e. serving_later [] e2 (s.goes_on e) p;
      }

-- what a reader knows that takes in what was seen
pub known_later : (seen : Option (List EventView)) (e : List EventView) → IfSome seen (λ s. IsPrefix s e) → IsPrefix (known_by seen) e
known_later None e h = (e, refl)
known_later (Some s) e h = h

pub stands_after : (r : Result Turned LinkFault) (over : Bool) (c : Conn) (t : Traffic) (e : List EventView) → over ≡ is_over r → AfterTurn r c t e → Stands over c t (Some e)
stands_after (Ok Turned.Idle) over c t e is s = record { served = serving_stops [] t s refl refl; goes_on = λ b. s }
stands_after (Ok Turned.Ready) over c t e is s = record { served = serving_stops [] t s refl refl; goes_on = λ b. s }
stands_after (Ok Turned.Full) over c t e is s = record { served = serving_stops [] t s refl refl; goes_on = λ b. s }
stands_after (Ok Turned.Later) over c t e is s = record { served = serving_stops [] t s refl refl; goes_on = λ b. s }
stands_after (Ok Turned.Over) over c t e is s = record { served = s; goes_on = λ b. absurd (cc (is, b)) }
stands_after (Err f) over c t e is s = record { served = s; goes_on = λ b. absurd (cc (is, b)) }

-- ---- reads of the stream

pub gives_rests : (t t2 : Traffic) → Rests t t2 → Gives t t2
gives_rests t t2 r =
    record { got = []; given = r.given ∙ sym (append-nil t.given); left = r.left ∙ sym (append-nil t.left); conn = r.conn; said = r.said; back = r.back }

pub gives_behind : (t t2 t3 : Traffic) → Rests t t2 → Gives t2 t3 → Gives t t3
gives_behind t t2 t3 r g =
    record { got = g.got; given = g.given ∙ ap (λ z. z ++ g.got) r.given; left = g.left ∙ ap (λ z. z ++ g.got) r.left; conn = g.conn ∙ r.conn; said = g.said ∙ r.said; back = g.back ∙ r.back }

-- a step that reads more of the stream
pub refilled : (r : Result (Option Turned) LinkFault) (c : Conn) (t t2 : Traffic) (e : List EventView) → Serving [] c t e → Refills r t t2 → AfterStep r c t2 e
refilled (Ok None) c t t2 e s g = serving_gives [] t2 s g
refilled (Ok (Some Turned.Idle)) c t t2 e s g = serving_gives [] t2 s g
refilled (Ok (Some Turned.Ready)) c t t2 e s g = serving_gives [] t2 s g
refilled (Ok (Some Turned.Full)) c t t2 e s g = serving_gives [] t2 s g
refilled (Ok (Some Turned.Later)) c t t2 e s g = serving_gives [] t2 s g
refilled (Ok (Some Turned.Over)) c t t2 e s g = absurd g
refilled (Err f) c t t2 e s g =
    let more = serving_gives [] t2 s g in
    serving_stops [] t2 more refl refl

-- what waits is sent, or nothing is
pub turned_rests : (turned : Turned) (c : Conn) (t t2 : Traffic) (e : List EventView) → AfterTurned turned c t e → Rests t t2 → AfterTurned turned c t2 e
turned_rests Turned.Idle c t t2 e s r = serving_rests [] t2 s r
turned_rests Turned.Ready c t t2 e s r = serving_rests [] t2 s r
turned_rests Turned.Full c t t2 e s r = serving_rests [] t2 s r
turned_rests Turned.Later c t t2 e s r = serving_rests [] t2 s r
turned_rests Turned.Over c t t2 e s r = served_rests c t t2 e s r

pub turned_stops : (turned : Turned) (c : Conn) (t t2 : Traffic) (e : List EventView) → AfterTurned turned c t e → Rests t t2 → Served c t2 e
turned_stops Turned.Idle c t t2 e s r = serving_stops [] t2 s r.given r.said
turned_stops Turned.Ready c t t2 e s r = serving_stops [] t2 s r.given r.said
turned_stops Turned.Full c t t2 e s r = serving_stops [] t2 s r.given r.said
turned_stops Turned.Later c t t2 e s r = serving_stops [] t2 s r.given r.said
turned_stops Turned.Over c t t2 e s r = served_rests c t t2 e s r

-- where a turn is not over
pub turned_serving : (turned : Turned) (c : Conn) (t : Traffic) (e : List EventView) → turned ≢ Turned.Over → AfterTurned turned c t e → Serving [] c t e
turned_serving Turned.Idle c t e ne s = s
turned_serving Turned.Ready c t e ne s = s
turned_serving Turned.Full c t e ne s = s
turned_serving Turned.Later c t e ne s = s
turned_serving Turned.Over c t e ne s = absurd (ne refl)

pub serving_turned : (turned : Turned) (c : Conn) (t : Traffic) (e : List EventView) → Serving [] c t e → AfterTurned turned c t e
serving_turned Turned.Idle c t e s = s
serving_turned Turned.Ready c t e s = s
serving_turned Turned.Full c t e s = s
serving_turned Turned.Later c t e s = s
serving_turned Turned.Over c t e s = serving_stops [] t s refl refl
