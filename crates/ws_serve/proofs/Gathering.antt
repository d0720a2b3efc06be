-- How events that came together are gathered and answered.
use Rattle.std.proofs.Common.{◌≡◌, ℕ, false, List, [], ◌∷◌, ◌++◌, map, Option, None, Some, Result, Ok, Err, inl, inr, refl, sym, ap, ◌∙◌, subst, append_assoc, append-nil}
use Rattle.std.proofs.lemmas.List.{map-append}
use Rattle.std.specs.Prelude.{⊤, option_map, codes}
use Rattle.std.specs.Arc.{arc_value}
use Rattle.std.specs.declared.alloc.Global.{Global}
use Rattle.std.specs.declared.sync.Arc.{Arc}
use mathlib.Core.List.{IsPrefix}
use Rattle.event_list.proofs.Prefixes.{prefix_self, prefix_trans}
use Rattle.item_key.specs.declared.Id.{Id}
use Rattle.nostr_event.specs.EventView.{EventView}
use Rattle.nostr_wire.specs.Forms.{Form, relay_form}
use Rattle.relay_core.specs.declared.limits.RelayLimits.{RelayLimits}
use Rattle.relay_core.specs.declared.step.Step.{Step}
use Rattle.relay_core.specs.Faults.{GoesOnBy}
use Rattle.relay_core.specs.Kept.{Kept, Connection as Conn}
use Rattle.relay_core.specs.Messages.{okay}
use Rattle.relay_core.specs.Serving.{Serves}
use Rattle.relay_core.specs.Turns.{Turn, turn_of, says}
use Rattle.websocket.specs.declared.protocol.config.Role.{Role}
use Rattle.websocket.specs.Connection.{Connection}
use Rattle.wire.specs.declared.heard.Heard.{Heard}
use Rattle.ws_socket.specs.declared.fault.LinkFault.{LinkFault}
use Rattle.ws_serve.specs.Answering.{TellsOf}
use Rattle.ws_serve.specs.Frames.{spoken, spoken_one}
use Rattle.ws_serve.specs.Gathered.{ids_of, AreTold, SaysOfAll, SaysOfSome, Stores, AreStored, Gathers, AnswersLast, Gathered, IsAwaited}
use Rattle.ws_serve.specs.Pieces.{Asked, words, answers, Standing, Puts}
use Rattle.ws_serve.specs.Served.{put_back, Talks, IsServing, Serving, Served, GoesOn, Stops}
use Rattle.ws_serve.specs.Steps.{Holds, Brings, Asks, Hears, Awaits, SaysSome}
use Rattle.ws_serve.specs.Traffic.{Traffic, Says, ReadsNone}
use Rattle.ws_serve.proofs.Answering.{spoken_both}
use Rattle.ws_serve.proofs.Conversing.{talks_as, talks_answers}
use Rattle.ws_serve.proofs.Going.{goes_from, prefix_under, some_under, serving_as, serving_served, serving_reads}
use Rattle.ws_serve.proofs.Storing.{text_found}

-- ---- gathering

words_more : (texts : List (List ℕ)) (w : List ℕ) (rest : List Asked) → map words (texts ++ w ∷ []) ++ rest ≡ map words texts ++ words w ∷ rest
words_more texts w rest = ap (λ z. z ++ rest) (map-append words texts (w ∷ [])) ∙ append_assoc (map words texts) (words w ∷ []) rest

stored_more : (limits : RelayLimits) (texts : List (List ℕ)) (es : List EventView) (w : List ℕ) (e : EventView) → AreStored limits texts es → Stores limits w e → AreStored limits (texts ++ w ∷ []) (es ++ e ∷ [])
stored_more limits [] [] w e h s = (s, tt)
stored_more limits [] (x ∷ es) w e h s = absurd h
stored_more limits (t ∷ texts) [] w e h s = absurd h
stored_more limits (t ∷ texts) (x ∷ es) w e h s = (h.0, stored_more limits texts es w e h.1 s)

pub gathers_first : (es : List EventView) (w : List ℕ) (c : Conn) (t : Traffic) (k : List EventView) → es ≡ [] → Serving (words w ∷ []) c t k → Gathers es (words w ∷ put_back t) t.conn t.left c t k
gathers_first es w c t k none s =
    record { texts = []; stored = subst (λ (z : List EventView). AreStored c.limits [] z) (sym none) tt; serving = s }

-- a text's event is to be stored
pub gathers_more : (es : List EventView) (w : List ℕ) (s : Step) (e : EventView) (rest : List Asked) (c c2 : Conn) (t : Traffic) (k k2 : List EventView) → Gathers es (words w ∷ rest) t.conn t.left c t k
    → GoesOnBy (λ old new. Serves c.limits k2 w old (turn_of s new)) c.kept c2.kept → c2.limits ≡ c.limits → IsPrefix k k2 → option_map arc_value s.store ≡ Some e
    → Gathers (es ++ e ∷ []) rest t.conn t.left c2 t k2
gathers_more es w s e rest c c2 t k k2 g h limits p stores =
    let last = g.serving.last in
    let on = goes_from (λ old new. Serves c.limits k2 w old (turn_of s new)) c.kept c2.kept last.kept g.serving.kept h in
    let found = text_found c.limits k2 w e last.kept (turn_of s on.0) on.2 stores in
    let same : on.0 ≡ last.kept = ap (λ (x : Turn). x.kept) found.1 in
    let kept : c2.kept ≡ c.kept = on.1 ∙ ap (λ z. Some z) same ∙ sym g.serving.kept in
    let stored : AreStored c.limits (g.texts ++ w ∷ []) (es ++ e ∷ []) = stored_more c.limits g.texts es w e g.stored found.0 in
    let serving : IsServing (map words (g.texts ++ w ∷ []) ++ rest) t.conn t.left c t k =
    subst (λ (z : List Asked). IsServing z t.conn t.left c t k) (sym (words_more g.texts w rest)) g.serving in
    record {
      texts = g.texts ++ w ∷ [];
      stored = subst (λ (l : RelayLimits). AreStored l (g.texts ++ w ∷ []) (es ++ e ∷ [])) (sym limits) stored;
      serving = serving_as t.conn t.left c2 t k2 serving refl refl limits kept refl refl p;
    }

-- and was put to the others
pub gathers_stored : (old new : List (Arc EventView Global)) (event : Arc EventView Global) (w : List ℕ) (s : Step) (rest : List Asked) (c c2 : Conn) (t : Traffic) (k k2 : List EventView)
    → Gathers (map arc_value old) (words w ∷ rest) t.conn t.left c t k → GoesOnBy (λ old new. Serves c.limits k2 w old (turn_of s new)) c.kept c2.kept → c2.limits ≡ c.limits → IsPrefix k k2
    → s.store ≡ Some event → new ≡ old ++ event ∷ [] → Gathers (map arc_value new) rest t.conn t.left c2 t k2
gathers_stored old new event w s rest c c2 t k k2 g h limits p stores pushed =
    let more = gathers_more (map arc_value old) w s (arc_value event) rest c c2 t k k2 g h limits p (ap (option_map arc_value) stores) in
    let all : map arc_value new ≡ map arc_value old ++ arc_value event ∷ [] = ap (map arc_value) pushed ∙ map-append arc_value old (event ∷ []) in
    subst (λ (z : List EventView). Gathers z rest t.conn t.left c2 t k2) (sym all) more

-- a text ends them
pub gathers_ends : (es : List EventView) (w : List ℕ) (s : Step) (c c2 : Conn) (t : Traffic) (k k2 : List EventView) → Gathers es (words w ∷ put_back t) t.conn t.left c t k
    → GoesOnBy (λ old new. Serves c.limits k2 w old (turn_of s new)) c.kept c2.kept → c2.limits ≡ c.limits → IsPrefix k k2 → option_map arc_value s.store ≡ None
    → AnswersLast es (map relay_form s.out.items) c2 t k2
gathers_ends es w s c c2 t k k2 g h limits p none =
    let last = g.serving.last in
    let on = goes_from (λ old new. Serves c.limits k2 w old (turn_of s new)) c.kept c2.kept last.kept g.serving.kept h in
    let out : List Form = map relay_form s.out.items in
    let serves : Serves c.limits k2 w last.kept (says out on.0) =
    subst (λ (o : Option EventView). Serves c.limits k2 w last.kept (record { out = out; store = o; kept = on.0 })) none on.2 in
    record {
      texts = g.texts;
      text = w;
      stored = subst (λ (l : RelayLimits). AreStored l g.texts es) (sym limits) g.stored;
      last = last;
      now = k2;
      kept = on.0;
      talks = talks_as c2.limits t.conn t.left t.given t.said g.serving.talks limits refl refl refl refl;
      behind = prefix_trans last.events k k2 g.serving.known p;
      serves = subst (λ (l : RelayLimits). Serves l k2 w last.kept (says out on.0)) (sym limits) serves;
      keeps = on.1;
      before = prefix_self k2;
    }

pub gathers_reads : (es : List EventView) (more : List Asked) (c : Conn) (t t2 : Traffic) (k : List EventView) → Gathers es (put_back t) t.conn t.left c t k → Brings t t2 more → Gathers es (more ++ put_back t2) t2.conn t2.left c t2 k
gathers_reads es more c t t2 k g b =
    let all : IsServing ((map words g.texts ++ more) ++ put_back t2) t2.conn t2.left c t2 k = serving_reads (map words g.texts) t2 more g.serving b in
    record {
      texts = g.texts;
      stored = g.stored;
      serving = subst (λ (z : List Asked). IsServing z t2.conn t2.left c t2 k) (append_assoc (map words g.texts) more (put_back t2)) all;
    }

-- a message behind them
pub gathered_message : (es : List EventView) (h : Heard) (bs : List ℕ) (c : Conn) (t t2 : Traffic) (k : List EventView) → Gathers es (put_back t) t.conn t.left c t k → Hears t t2 bs h → Gathered es (Ok (Some h)) [] bs c t2 k
gathered_message es h bs c t t2 k g b = (refl, (b.0, b.1, gathers_reads es b.0 c t t2 k g b.2))

-- none
pub gathered_later : (es : List EventView) (bs : List ℕ) (c : Conn) (t t2 : Traffic) (k : List EventView) → Gathers es (put_back t) t.conn t.left c t k → Brings t t2 [] → Gathered es (Ok None) [] bs c t2 k
gathered_later es bs c t t2 k g b = inl (refl, gathers_reads es [] c t t2 k g b)

-- reading has failed
pub gathered_fault : (es : List EventView) (f : LinkFault) (bs : List ℕ) (c : Conn) (t t2 : Traffic) (k : List EventView) → Gathers es (put_back t) t.conn t.left c t k → Holds t t2 → Gathered es (Err f) [] bs c t2 k
gathered_fault es f bs c t t2 k g h =
    (refl, (put_back t, t.conn, t.left, record { texts = g.texts; stored = g.stored; serving = serving_as t.conn t.left c t2 k g.serving refl refl refl refl h.given h.said (prefix_self k) }))

-- a text is left
pub gathered_text : (es : List EventView) (h : Heard) (w : List ℕ) (bs : List ℕ) (c : Conn) (t : Traffic) (k : List EventView) → Asks t.conn.role h bs (words w ∷ []) → Gathers es (words w ∷ put_back t) t.conn t.left c t k → Gathered es (Ok (Some h)) [] bs c t k
gathered_text es h w bs c t k a g = (refl, (words w ∷ [], a, g))

pub gathers_stops : (es : List EventView) (pending : List Asked) (conn : Connection) (left : List ℕ) (c c2 : Conn) (t t2 : Traffic) (k k2 : List EventView) → Gathers es pending conn left c t k
    → c2.limits ≡ c.limits → IsPrefix k k2 → t2.given ≡ t.given → t2.said ≡ t.said → Served c2 t2 k2
gathers_stops es pending conn left c c2 t t2 k k2 g limits p given said =
    serving_served c2 t2 k2 g.serving limits given (subst (λ (z : List ℕ). IsPrefix z t.said) (sym said) (prefix_self t.said)) p

-- ---- what became of each

told_none : (id : Id) → TellsOf id (okay id false (codes "error: out of memory"))
told_none id = inr (inr (inl refl))

-- a beginning goes on
told_rest : (ids : List Id) → (forms : List Form) × AreTold ids forms
told_rest [] = ([], tt)
told_rest (id ∷ ids) =
    let rest = told_rest ids in
    (okay id false (codes "error: out of memory") ∷ rest.0, (told_none id, rest.1))

told_both : (xs ys : List Id) (ms ns : List Form) → AreTold xs ms → AreTold ys ns → AreTold (xs ++ ys) (ms ++ ns)
told_both [] ys [] ns h k = k
told_both [] ys (m ∷ ms) ns h k = absurd h
told_both (x ∷ xs) ys [] ns h k = absurd h
told_both (x ∷ xs) ys (m ∷ ms) ns h k = (h.0, told_both xs ys ms ns h.1 k)

pub of_none : (t : Traffic) → SaysOfAll [] t t
of_none t = ([], tt, record { said = sym (append-nil t.said); conn = refl; given = refl; left = refl; back = refl })

pub of_more : (ids : List Id) (id : Id) (a b c : Traffic) → SaysOfAll ids a b → (m : Form) × TellsOf id m × Says b c (spoken (m ∷ [])) → SaysOfAll (ids ++ id ∷ []) a c
of_more ids id a b c h k = (
  h.0 ++ k.0 ∷ [],
  told_both ids (id ∷ []) h.0 (k.0 ∷ []) h.1 (k.1, tt),
  record {
    said = k.2.said ∙ ap (λ z. z ++ spoken (k.0 ∷ [])) h.2.said ∙ append_assoc a.said (spoken h.0) (spoken (k.0 ∷ [])) ∙ ap (λ z. a.said ++ z) (sym (spoken_both h.0 (k.0 ∷ [])));
    conn = k.2.conn ∙ h.2.conn;
    given = k.2.given ∙ h.2.given;
    left = k.2.left ∙ h.2.left;
    back = k.2.back ∙ h.2.back;
  },
)

-- a beginning of the next one's answer was said
pub of_begun : (ids : List Id) (id : Id) (rest all : List Id) (a b c : Traffic) → all ≡ (ids ++ id ∷ []) ++ rest → SaysOfAll ids a b
    → (m : Form) × TellsOf id m × SaysSome b c (spoken (m ∷ [])) → SaysOfSome all a c
of_begun ids id rest all a b c split h k =
    let more = told_rest rest in
    let forms : List Form = (h.0 ++ k.0 ∷ []) ++ more.0 in
    let told : AreTold ((ids ++ id ∷ []) ++ rest) forms = told_both (ids ++ id ∷ []) rest (h.0 ++ k.0 ∷ []) more.0 (told_both ids (id ∷ []) h.0 (k.0 ∷ []) h.1 (k.1, tt)) more.1 in
    let part : List ℕ = k.2.0 in
    let whole : spoken forms ≡ spoken h.0 ++ (spoken (k.0 ∷ []) ++ spoken more.0) =
    spoken_both (h.0 ++ k.0 ∷ []) more.0 ∙ ap (λ z. z ++ spoken more.0) (spoken_both h.0 (k.0 ∷ [])) ∙ append_assoc (spoken h.0) (spoken (k.0 ∷ [])) (spoken more.0) in
    let longer : IsPrefix part (spoken (k.0 ∷ []) ++ spoken more.0) =
    prefix_trans part (spoken (k.0 ∷ [])) (spoken (k.0 ∷ []) ++ spoken more.0) k.2.2 (spoken more.0, refl) in (
      forms,
      subst (λ (z : List Id). AreTold z forms) (sym split) told,
      (
        spoken h.0 ++ part,
        record {
          said = k.2.1.said ∙ ap (λ z. z ++ part) h.2.said ∙ append_assoc a.said (spoken h.0) part;
          conn = k.2.1.conn ∙ h.2.conn;
          given = k.2.1.given ∙ h.2.given;
          left = k.2.1.left ∙ h.2.left;
          back = k.2.1.back ∙ h.2.back;
        },
        subst (IsPrefix (spoken h.0 ++ part)) (sym whole) (prefix_under (spoken h.0) part (spoken (k.0 ∷ []) ++ spoken more.0) longer),
      ),
    )

-- nothing was said
pub of_some : (ids : List Id) (a : Traffic) → SaysOfSome ids a a
of_some ids a =
    let rest = told_rest ids in
    (rest.0, rest.1, ([], record { said = sym (append-nil a.said); conn = refl; given = refl; left = refl; back = refl }, (spoken rest.0, refl)))

-- ---- all answered

talks_events : (limits : RelayLimits) (conn : Connection) (left given said said2 : List ℕ) (pending : List Asked) (a : Standing) (texts : List (List ℕ)) (es : List EventView) (forms : List Form)
    → AreStored limits texts es → AreTold (ids_of es) forms → Talks limits conn left (map words texts ++ pending) a given said → said2 ≡ said ++ spoken forms
    → Talks limits conn left pending a given said2
talks_events limits conn left given said said2 pending a [] [] [] h k t e = talks_as limits conn left given said2 t refl refl refl refl (e ∙ append-nil said)
talks_events limits conn left given said said2 pending a [] [] (m ∷ ms) h k t e = absurd k
talks_events limits conn left given said said2 pending a [] (v ∷ es) forms h k t e = absurd h
talks_events limits conn left given said said2 pending a (w ∷ texts) [] forms h k t e = absurd h
talks_events limits conn left given said said2 pending a (w ∷ texts) (v ∷ es) [] h k t e = absurd k
talks_events limits conn left given said said2 pending a (w ∷ texts) (v ∷ es) (m ∷ ms) h k t e =
    let turn : Turn = record { out = []; store = Some v; kept = a.kept } in
    let put : Puts limits a (answers (words w) (spoken (m ∷ []))) a = (prefix_self a.events, (m ∷ [], (turn, h.0 a.events a.kept, (m, k.0, refl), refl), refl)) in
    let mid : Talks limits conn left (map words texts ++ pending) a given (said ++ spoken (m ∷ [])) = talks_answers (words w) a (spoken (m ∷ [])) (said ++ spoken (m ∷ [])) t put refl in
    let rest : said2 ≡ (said ++ spoken (m ∷ [])) ++ spoken ms =
    e ∙ ap (λ z. said ++ z) (spoken_both (m ∷ []) ms) ∙ sym (append_assoc said (spoken (m ∷ [])) (spoken ms)) in
    talks_events limits conn left given (said ++ spoken (m ∷ [])) said2 pending a texts es ms h.1 k.1 mid rest

events_said : (es : List EventView) (pending : List Asked) (conn : Connection) (left : List ℕ) (c c2 : Conn) (t t2 : Traffic) (k k2 : List EventView) → Gathers es pending conn left c t k
    → SaysOfAll (ids_of es) t t2 → c2.limits ≡ c.limits → c2.kept ≡ c.kept → IsPrefix k k2 → IsServing pending conn left c2 t2 k2
events_said es pending conn left c c2 t t2 k k2 g s limits kept p =
    let last = g.serving.last in
    let talks = talks_events c.limits conn left t.given t.said t2.said pending last g.texts es s.0 g.stored s.1 g.serving.talks s.2.said in
    record {
      last = last;
      talks = talks_as c2.limits conn left t2.given t2.said talks limits refl refl s.2.given refl;
      kept = kept ∙ g.serving.kept;
      known = prefix_trans last.events k k2 g.serving.known p;
    }

-- and the last text's answers behind them
ends_said : (es : List EventView) (out : List Form) (c c2 : Conn) (t t2 t3 : Traffic) (k k2 : List EventView) → AnswersLast es out c t k
    → SaysOfAll (ids_of es) t t2 → c2.limits ≡ c.limits → c2.kept ≡ c.kept → IsPrefix k k2 → Says t2 t3 (spoken out) → IsServing (put_back t) t.conn t.left c2 t3 k2
ends_said es out c c2 t t2 t3 k k2 d s limits kept p says3 =
    let last = d.last in
    let talks = talks_events c.limits t.conn t.left t.given t.said t2.said (words d.text ∷ put_back t) last d.texts es s.0 d.stored s.1 d.talks s.2.said in
    let b : Standing = record { events = d.now; kept = d.kept } in
    let turn : Turn = says out d.kept in
    let put : Puts c.limits last (answers (words d.text) (spoken out)) b = (d.behind, (out, (turn, d.serves, refl, refl), refl)) in
    let all = talks_answers (words d.text) b (spoken out) t3.said talks put says3.said in
    record {
      last = b;
      talks = talks_as c2.limits t.conn t.left t3.given t3.said all limits refl refl (says3.given ∙ s.2.given) refl;
      kept = kept ∙ d.keeps;
      known = prefix_trans d.now k k2 d.before p;
    }

-- what is pending then
abbrev Follows : Result (Option Heard) LinkFault → List ℕ → List Asked → Connection → List ℕ → Traffic → Type 0
Follows (Ok None) bs pending conn left t = (pending ≡ put_back t) × (conn ≡ t.conn) × (left ≡ t.left)
Follows (Ok (Some h)) bs pending conn left t =
    ((asked : List Asked) × Asks t.conn.role h bs asked × (pending ≡ asked ++ put_back t)) × (conn ≡ t.conn) × (left ≡ t.left)
Follows (Err f) bs pending conn left t = ⊤

no_frames : (t2 t3 : Traffic) (out : List Form) → out ≡ [] → Says t2 t3 (spoken out) → t3.said ≡ t2.said
no_frames t2 t3 out none s = s.said ∙ ap (λ (o : List Form). t2.said ++ spoken o) none ∙ append-nil t2.said

quiet_said : (es : List EventView) (out : List Form) (pending : List Asked) (conn : Connection) (left : List ℕ) (c c2 : Conn) (t t2 t3 : Traffic) (k k2 : List EventView) → out ≡ []
    → Gathers es pending conn left c t k → SaysOfAll (ids_of es) t t2 → c2.limits ≡ c.limits → c2.kept ≡ c.kept → IsPrefix k k2 → Says t2 t3 (spoken out) → IsServing pending conn left c2 t3 k2
quiet_said es out pending conn left c c2 t t2 t3 k k2 none g s limits kept p says3 =
    serving_as conn left c2 t3 k2 (events_said es pending conn left c c2 t t2 k k2 g s limits kept p) refl refl refl refl says3.given (no_frames t2 t3 out none says3) (prefix_self k2)

abbrev IsLeft : Result (Option Heard) LinkFault → List ℕ → Traffic → Conn → Traffic → List EventView → Type 0
IsLeft heard bs t c t2 k =
    (pending : List Asked) × (conn : Connection) × (left : List ℕ) × IsServing pending conn left c t2 k × Follows heard bs pending conn left t

all_said : (es : List EventView) (heard : Result (Option Heard) LinkFault) (out : List Form) (bs : List ℕ) (c c2 : Conn) (t t2 t3 : Traffic) (k k2 : List EventView) → Gathered es heard out bs c t k
    → SaysOfAll (ids_of es) t t2 → c2.limits ≡ c.limits → c2.kept ≡ c.kept → IsPrefix k k2 → Says t2 t3 (spoken out) → IsLeft heard bs t c2 t3 k2
all_said es (Ok None) out bs c c2 t t2 t3 k k2 (inl g) s limits kept p says3 =
    (put_back t, t.conn, t.left, quiet_said es out (put_back t) t.conn t.left c c2 t t2 t3 k k2 g.0 g.1 s limits kept p says3, (refl, refl, refl))
all_said es (Ok None) out bs c c2 t t2 t3 k k2 (inr d) s limits kept p says3 =
    (put_back t, t.conn, t.left, ends_said es out c c2 t t2 t3 k k2 d s limits kept p says3, (refl, refl, refl))
all_said es (Ok (Some h)) out bs c c2 t t2 t3 k k2 g s limits kept p says3 =
    let pending : List Asked = g.1.0 ++ put_back t in
    (pending, t.conn, t.left, quiet_said es out pending t.conn t.left c c2 t t2 t3 k k2 g.0 g.1.2 s limits kept p says3, ((g.1.0, g.1.1, refl), refl, refl))
all_said es (Err f) out bs c c2 t t2 t3 k k2 g s limits kept p says3 =
    (g.1.0, g.1.1, g.1.2, quiet_said es out g.1.0 g.1.1 g.1.2 c c2 t t2 t3 k k2 g.0 g.1.3 s limits kept p says3, tt)

awaited : (heard : Result (Option Heard) LinkFault) (bs : List ℕ) (pending : List Asked) (conn : Connection) (left : List ℕ) (c : Conn) (t t2 : Traffic) (k : List EventView)
    → Follows heard bs pending conn left t → IsServing pending conn left c t2 k → t2.conn ≡ t.conn → t2.left ≡ t.left → t2.back ≡ t.back → IsAwaited heard bs c t2 k
awaited (Ok None) bs pending conn left c t t2 k f s e g b =
    let same : IsServing pending t2.conn t2.left c t2 k = serving_as t2.conn t2.left c t2 k s (e ∙ sym f.1) (g ∙ sym f.2) refl refl refl refl (prefix_self k) in
    subst (λ (z : List Asked). IsServing z t2.conn t2.left c t2 k) (f.0 ∙ ap (map words) (sym b)) same
awaited (Ok (Some h)) bs pending conn left c t t2 k f s e g b =
    let same : IsServing pending t2.conn t2.left c t2 k = serving_as t2.conn t2.left c t2 k s (e ∙ sym f.1) (g ∙ sym f.2) refl refl refl refl (prefix_self k) in
    let asked : List Asked = f.0.0 in (
      asked,
      subst (λ (z : Connection). Asks z.role h bs asked) (sym e) f.0.1,
      subst (λ (z : List Asked). IsServing z t2.conn t2.left c t2 k) (f.0.2 ∙ ap (λ (z : List (List ℕ)). asked ++ map words z) (sym b)) same,
    )
awaited (Err x) bs pending conn left c t t2 k f s e g b = serving_served c t2 k s refl refl (prefix_self t2.said) (prefix_self k)

-- and what was published behind that
pub gathered_said : (es : List EventView) (heard : Result (Option Heard) LinkFault) (out : List Form) (bs : List ℕ) (c c2 c3 : Conn) (t t2 t3 t4 : Traffic) (k k2 k3 : List EventView)
    → Gathered es heard out bs c t k → SaysOfAll (ids_of es) t t2 → c2.limits ≡ c.limits → c2.kept ≡ c.kept → IsPrefix k k2 → Says t2 t3 (spoken out)
    → GoesOn c2 t3 k2 c3 t4 k3 → ReadsNone t3 t4 → IsAwaited heard bs c3 t4 k3
gathered_said es heard out bs c c2 c3 t t2 t3 t4 k k2 k3 g s limits kept p says3 on none =
    let all = all_said es heard out bs c c2 t t2 t3 k k2 g s limits kept p says3 in
    awaited heard bs all.0 all.1 all.2 c3 t t4 k3 all.4 (on all.0 all.1 all.2 all.3) (none.conn ∙ says3.conn ∙ s.2.conn) (none.left ∙ says3.left ∙ s.2.left) (none.back ∙ says3.back ∙ s.2.back)

pub gathered_stops : (es : List EventView) (heard : Result (Option Heard) LinkFault) (out : List Form) (bs : List ℕ) (c c2 c3 : Conn) (t t2 t3 t4 : Traffic) (k k2 k3 : List EventView)
    → Gathered es heard out bs c t k → SaysOfAll (ids_of es) t t2 → c2.limits ≡ c.limits → c2.kept ≡ c.kept → IsPrefix k k2 → Says t2 t3 (spoken out)
    → Stops c2 t3 k2 c3 t4 k3 → Served c3 t4 k3
gathered_stops es heard out bs c c2 c3 t t2 t3 t4 k k2 k3 g s limits kept p says3 stops =
    let all = all_said es heard out bs c c2 t t2 t3 k k2 g s limits kept p says3 in
    stops all.0 all.1 all.2 all.3

-- a beginning of the last text's answers was said
pub gathered_some : (es : List EventView) (heard : Result (Option Heard) LinkFault) (out : List Form) (bs : List ℕ) (c c2 : Conn) (t t2 t3 : Traffic) (k k2 : List EventView)
    → Gathered es heard out bs c t k → SaysOfAll (ids_of es) t t2 → c2.limits ≡ c.limits → c2.kept ≡ c.kept → IsPrefix k k2 → SaysSome t2 t3 (spoken out) → Served c2 t3 k2
gathered_some es heard out bs c c2 t t2 t3 k k2 g s limits kept p some =
    let full : Traffic = record t2 { said = t2.said ++ spoken out } in
    let all = all_said es heard out bs c c2 t t2 full k k2 g s limits kept p (record { said = refl; conn = refl; given = refl; left = refl; back = refl }) in
    serving_served c2 t3 k2 all.3 refl some.1.given (some_under t2 t3 (spoken out) some) (prefix_self k2)

-- a beginning of the events' answers was said
pub gathered_begun : (es : List EventView) (heard : Result (Option Heard) LinkFault) (out : List Form) (bs : List ℕ) (c c2 : Conn) (t t2 : Traffic) (k k2 : List EventView)
    → Gathered es heard out bs c t k → SaysOfSome (ids_of es) t t2 → c2.limits ≡ c.limits → IsPrefix k k2 → Served c2 t2 k2
gathered_begun es heard out bs c c2 t t2 k k2 g s limits p =
    let mid : Traffic = record t { said = t.said ++ spoken s.0 } in
    let full : Traffic = record mid { said = mid.said ++ spoken out } in
    let all = all_said es heard out bs c c t mid full k k g (s.0, s.1, record { said = refl; conn = refl; given = refl; left = refl; back = refl }) refl refl (prefix_self k) (record { said = refl; conn = refl; given = refl; left = refl; back = refl }) in
    let within : IsPrefix t2.said full.said = prefix_trans t2.said mid.said full.said (some_under t t2 (spoken s.0) s.2) (spoken out, refl) in
    serving_served c2 t2 k2 all.3 limits s.2.1.given within p
