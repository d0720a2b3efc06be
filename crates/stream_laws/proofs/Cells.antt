-- From the cells of a fetch to what went over the sources' streams.
use Rattle.std.proofs.Common.{◌≡◌, ◌⊎◌, ℕ, zero, suc, ◌&&◌, List, [], ◌∷◌, ◌++◌, length, Bool, true, false, not, cond, Option, None, Some, refl, sym, ap, ◌∙◌, subst, inl, inr}
use Rattle.std.specs.Prelude.{Contains, slice_get, slice_index_or, bytes_eq}
use Rattle.std.proofs.lemmas.Bool.{cases_Bool}
use Rattle.std.proofs.lemmas.Option.{same_Some}
use Rattle.std.proofs.lemmas.List.{map-append}
use Rattle.std.proofs.lemmas.List.Elements.{All-contains, Contains-append_left, Contains-append_right, Contains-push_cases}
use Rattle.std.proofs.lemmas.List.Folds.{Any-from_list_any, list_any_at}
use Rattle.std.proofs.lemmas.Slice.Eq.{bytes_eq-Decides}
use Rattle.neg_codec.proofs.Stretches.{contains_head, contains_tail, contains_cases, contains_none}
use Rattle.item_key.specs.declared.Id.{Id}
use Rattle.nostr_event.specs.EventView.{EventView}
use Rattle.nostr_wire.specs.Writing.{text_of}
use Rattle.fetch_plan.specs.declared.cell.Cell.TheVariants.{Free, Done, Missed}
use Rattle.event_source.specs.Fetching.{Fetching, WasGiven, WasMissed}
use Rattle.mirror_core.specs.Fetched.{logs_gained}
use Rattle.wire.specs.Line.{Talk}
use Rattle.wire.specs.Talk.{Grows, Listened}
use Rattle.wire.proofs.Growing.{grows_chain, grows_listened, grows_said, grows_same, listened_chain, listened_same, prefix_trans}
use Rattle.ws_link.specs.Fetched.{Answers, AreFetched, Brings, Come, IsFetched, WasFetched, closing, ending, has_id, ids_in, is_due, keep, keep_all, requesting}
use Rattle.ws_link.specs.Messages.{Hears, IsSaid}
use Rattle.stream_laws.specs.Streams.{CellsAreOverStreams, IsBroughtOver, IsMissedOver}
use Rattle.ws_link.specs.Wired.{Wired}
use Rattle.ws_link.proofs.Hearing.{listened_hears}
use Rattle.stream_laws.proofs.Streams.{contains_at, contains_later}

-- ---- ids

has_it : (ids : List Id) (id : Id) → Contains ids id → has_id ids id ≡ true
has_it ids id h =
    list_any_at (λ (i : Id). bytes_eq i.0 id.0) ids h.0 id h.1 (ap (λ (i : Id). bytes_eq i.0 id.0) h.2 ∙ (bytes_eq-Decides id.0 id.0).1 refl)

is_in : (ids : List Id) (id : Id) → has_id ids id ≡ true → Contains ids id
is_in ids id h =
    let any = Any-from_list_any (λ (i : Id). bytes_eq i.0 id.0) ids h in
    let same : any.1 ≡ id = ap (λ (z : List ℕ). record { 0 = z }) ((bytes_eq-Decides any.1.0 id.0).0 any.4) in
    (any.0, any.2, subst (λ (z : Id). slice_index_or ids any.0 z ≡ z) same any.3)

with_id : (events : List EventView) (id : Id) → Contains (ids_in events) id → (e : EventView) × Contains events e × (e.id ≡ id)
with_id [] id h = absurd (contains_none id h)
with_id (e ∷ es) id h =
    elim (contains_cases e.id (ids_in es) id h) [
      | inl same ↦ (e, contains_head e es, same)
      | inr later ↦
          (let it = with_id es id later in
          (it.0, contains_tail e es it.0 it.1, it.2))
    ]

-- ---- what is kept of what came

was_brought : (asked : List Id) (kept : List EventView) (bs : List (Option EventView)) (event : EventView) → Contains (keep_all asked kept bs) event → Contains kept event ⊎ Contains bs (Some event)
was_brought asked kept [] event h = inl h
was_brought asked kept (None ∷ bs) event h =
    elim (was_brought asked kept bs event h) [
      | inl before ↦ inl before
      | inr later ↦ inr (contains_tail None bs (Some event) later)
    ]
was_brought asked kept (Some e ∷ bs) event h =
    elim (was_brought asked (keep asked kept (Some e)) bs event h) [
      | inr later ↦ inr (contains_tail (Some e) bs (Some event) later)
      | inl now ↦
          elim (cases_Bool (is_due asked kept e)) [
            | inr late ↦ inl (subst (λ b. Contains (cond b (kept ++ e ∷ []) kept) event) late now)
            | inl due ↦
                elim (Contains-push_cases kept e event (subst (λ b. Contains (cond b (kept ++ e ∷ []) kept) event) due now)) [
                  | inl before ↦ inl before
                  | inr same ↦ inr (subst (λ z. Contains (Some e ∷ bs) (Some z)) same (contains_head (Some e) bs))
                ]
          ]
    ]

keep_grows : (asked : List Id) (kept : List EventView) (b : Option EventView) (id : Id) → Contains (ids_in kept) id → Contains (ids_in (keep asked kept b)) id
keep_grows asked kept None id h = h
keep_grows asked kept (Some e) id h =
    elim (cases_Bool (is_due asked kept e)) [
      | inl due ↦
          (let more : Contains (ids_in (kept ++ e ∷ [])) id = rw (map-append (λ (x : EventView). x.id) kept (e ∷ [])) (Contains-append_left (ids_in kept) (e.id ∷ []) id h) in
          subst (λ b. Contains (ids_in (cond b (kept ++ e ∷ []) kept)) id) (sym due) more)
      | inr late ↦ subst (λ b. Contains (ids_in (cond b (kept ++ e ∷ []) kept)) id) (sym late) h
    ]

keeps_all : (asked : List Id) (kept : List EventView) (bs : List (Option EventView)) (id : Id) → Contains (ids_in kept) id → Contains (ids_in (keep_all asked kept bs)) id
keeps_all asked kept [] id h = h
keeps_all asked kept (b ∷ bs) id h = keeps_all asked (keep asked kept b) bs id (keep_grows asked kept b id h)

not_due : (a b : Bool) → a ≡ true → (a && not b) ≡ false → b ≡ true
not_due true true e f = refl
not_due true false e f = sym f
not_due false b e f = cc

keeps_one : (asked : List Id) (kept : List EventView) (e : EventView) → Contains asked e.id → Contains (ids_in (keep asked kept (Some e))) e.id
keeps_one asked kept e h =
    elim (cases_Bool (is_due asked kept e)) [
      | inl due ↦
          (let more : Contains (ids_in (kept ++ e ∷ [])) e.id = rw (map-append (λ (x : EventView). x.id) kept (e ∷ [])) (Contains-append_right (ids_in kept) (e.id ∷ []) e.id (contains_head e.id [])) in
          subst (λ b. Contains (ids_in (cond b (kept ++ e ∷ []) kept)) e.id) (sym due) more)
      | inr late ↦ subst (λ b. Contains (ids_in (cond b (kept ++ e ∷ []) kept)) e.id) (sym late) (is_in (ids_in kept) e.id (not_due (has_id asked e.id) (has_id (ids_in kept) e.id) (has_it asked e.id h) late))
    ]

is_kept : (asked : List Id) (kept : List EventView) (bs : List (Option EventView)) (e : EventView) → Contains bs (Some e) → Contains asked e.id → Contains (ids_in (keep_all asked kept bs)) e.id
is_kept asked kept [] e h k = absurd (contains_none (Some e) h)
is_kept asked kept (b ∷ bs) e h k =
    elim (contains_cases b bs (Some e) h) [
      | inl same ↦ keeps_all asked (keep asked kept b) bs e.id (subst (λ z. Contains (ids_in (keep asked kept z)) e.id) (sym same) (keeps_one asked kept e k))
      | inr later ↦ is_kept asked (keep asked kept b) bs e later k
    ]

-- ---- what came

listened_come : (old new : Talk) (bs : List (Option EventView)) → Come old bs new → Listened old new
listened_come old new [] h = listened_same old new h
listened_come old new (b ∷ bs) h = listened_chain old h.0 new (listened_hears (Brings b) old h.0 h.1) (listened_come h.0 new bs h.2)

-- one of the messages that came
abbrev pub CameBetween : Talk → Option EventView → Talk → Type 0
CameBetween old b new = (mid after : Talk) × Listened old mid × Hears (Brings b) mid after × Listened after new

came_between : (old new : Talk) (bs : List (Option EventView)) (b : Option EventView) → Come old bs new → Contains bs b → CameBetween old b new
came_between old new [] b h k = absurd (contains_none b k)
came_between old new (x ∷ bs) b h k =
    elim (contains_cases x bs b k) [
      | inl same ↦ (old, h.0, listened_same old old refl, subst (λ z. Hears (Brings z) old h.0) same h.1, listened_come h.0 new bs h.2)
      | inr later ↦
          (let it = came_between h.0 new bs b h.2 later in
          (it.0, it.1, listened_chain old h.0 it.0 (listened_hears (Brings x) old h.0 h.1) it.2, it.3, it.4))
    ]

-- ---- fetches of a log

listened_answers : (asked : List Id) (events : List EventView) (old new : Talk) → Answers asked events old new → Listened old new
listened_answers asked events old new h =
    listened_chain old h.mid new (listened_come old h.mid h.brought h.came) (listened_hears (IsSaid ending) h.mid new h.ended)

grows_fetched : (asked : List Id) (events : List EventView) (old new : Talk) → IsFetched asked events old new → Grows old new
grows_fetched asked events old new h =
    grows_chain old h.sent new (grows_said old h.sent (text_of (requesting asked)) h.requested)
    (grows_chain h.sent h.heard new (grows_listened h.sent h.heard (listened_answers asked events h.sent h.heard h.answered)) (grows_said h.heard new (text_of closing) h.closed))

grows_all : (old new : Talk) (fs : List Fetching) → AreFetched old fs new → Grows old new
grows_all old new [] h = grows_same old new h
grows_all old new (f ∷ fs) h = grows_chain old h.0 new (grows_fetched f.asked h.1 old h.0 h.2) (grows_all h.0 new fs h.4)

abbrev pub FetchWent : Fetching → Talk → Type 0
FetchWent f new = (before after : Talk) × (events : List EventView) × IsFetched f.asked events before after × (f.given ≡ ids_in events) × Grows after new

fetch_went : (old new : Talk) (fs : List Fetching) (f : Fetching) → AreFetched old fs new → Contains fs f → FetchWent f new
fetch_went old new [] f h k = absurd (contains_none f k)
fetch_went old new (x ∷ fs) f h k =
    elim (contains_cases x fs f k) [
      | inl same ↦ subst (λ z. FetchWent z new) same (old, h.0, h.1, h.2, h.3, grows_all h.0 new fs h.4)
      | inr later ↦ fetch_went h.0 new fs f h.4 later
    ]

module _ (s : Wired Fetching) (was : WasFetched s) (id : Id) where
  brought_over : WasGiven s.log id → IsBroughtOver id s
  brought_over g =
      let went = fetch_went was.first was.last s.log g.0 was.fetched g.1 in
      let fetched = went.3 in
      let answered = fetched.answered in
      let it = with_id went.2 id (rw went.4 at g.3) in
      let kept = subst (λ z. Contains z it.0) answered.kept it.1 in
      let came : Contains answered.brought (Some it.0) = elim (was_brought g.0.asked [] answered.brought it.0 kept) [
        | inl none ↦ absurd (contains_none it.0 none)
        | inr there ↦ there
      ] in
      let at = came_between fetched.sent answered.mid answered.brought (Some it.0) answered.came came in
      let behind = listened_chain at.1 answered.mid fetched.heard at.4 (listened_hears (IsSaid ending) answered.mid fetched.heard answered.ended) in
      let grown = grows_chain at.1 fetched.heard was.last (grows_listened at.1 fetched.heard behind)
      (grows_chain fetched.heard went.1 was.last (grows_said fetched.heard went.1 (text_of closing) fetched.closed) went.5) in
      record {
        asked = g.0.asked;
        event = it.0;
        before = went.0;
        sent = fetched.sent;
        mid = at.0;
        after = at.1;
        wanted = g.2;
        requested = fetched.requested;
        listened = at.2;
        heard = at.3;
        right = it.2;
        given = prefix_trans at.1.given was.last.given s.given grown.0 was.given;
        taken = prefix_trans at.1.taken was.last.taken s.taken grown.1 was.taken;
      }

  missed_over : WasMissed s.log id → IsMissedOver id s
  missed_over g =
      let went = fetch_went was.first was.last s.log g.0 was.fetched g.1 in
      let fetched = went.3 in
      let answered = fetched.answered in
      let grown = grows_chain fetched.heard went.1 was.last (grows_said fetched.heard went.1 (text_of closing) fetched.closed) went.5 in
      let none : (e : EventView) → Contains answered.brought (Some e) → e.id ≡ id → ⊥ = λ e there same.
      let wanted = subst (Contains g.0.asked) (sym same) g.2 in
      let kept = is_kept g.0.asked [] answered.brought e there wanted in
      let events = subst (λ z. Contains (ids_in z) e.id) (sym answered.kept) kept in
      g.3 (subst (λ z. Contains z id) (sym went.4) (subst (Contains (ids_in went.2)) same events)) in
      record {
        asked = g.0.asked;
        brought = answered.brought;
        before = went.0;
        sent = fetched.sent;
        mid = answered.mid;
        after = fetched.heard;
        wanted = g.2;
        requested = fetched.requested;
        came = answered.came;
        ended = answered.ended;
        none = none;
        given = prefix_trans fetched.heard.given was.last.given s.given grown.0 was.given;
        taken = prefix_trans fetched.heard.taken was.last.taken s.taken grown.1 was.taken;
      }

-- ---- cells

index_is : {X : Type 0} → (xs : List X) (k : ℕ) (x d : X) → slice_get xs k ≡ Some x → slice_index_or xs k d ≡ x
index_is [] k x d e = cc
index_is (y ∷ xs) zero x d e = same_Some _ _ e
index_is (y ∷ xs) (suc k) x d e = index_is xs k x d e

module _ {S : Type 0} (log : S → List Fetching) where
  gained_at : (olds news : List S) (w : ℕ) (f : Fetching) → Contains (slice_index_or (logs_gained log olds news) w []) f → (s : S) × (slice_get news w ≡ Some s) × Contains (log s) f
  gained_at [] news zero f h = absurd (contains_none f h)
  gained_at [] news (suc w) f h = absurd (contains_none f h)
  gained_at (s ∷ ss) [] zero f h = absurd (contains_none f h)
  gained_at (s ∷ ss) [] (suc w) f h = absurd (contains_none f h)
  gained_at (s ∷ ss) (t ∷ ts) zero f h = (t, refl, contains_later (length (log s)) (log t) f h)
  gained_at (s ∷ ss) (t ∷ ts) (suc w) f h = gained_at ss ts w f h

pub cells_over : {S : Type 0} → (Names : Type 0) (log : S → List Fetching) → CellsAreOverStreams Names log
cells_over Names log stream logs cells lanes olds news stops found each was =
    record {
      done = λ k i r e f.
          let end = (each.ends k i r e).done (index_is found k Done Free f) in
          let g = end.2 in
          let at = gained_at log olds news end.0 g.0 g.1 in
          let given : WasGiven (stream at.0).log i = (g.0, subst (λ l. Contains l g.0) (logs at.0) at.2, g.2, g.3) in
          (end.0, at.0, end.1, at.1, brought_over (stream at.0) (All-contains (λ s. WasFetched (stream s)) news at.0 was (contains_at news end.0 at.0 at.1)) i given);
      missed = λ k i r e f.
          let end = (each.ends k i r e).missed (index_is found k Missed Free f) in
          let g = end.2 in
          let at = gained_at log olds news end.0 g.0 g.1 in
          let given : WasMissed (stream at.0).log i = (g.0, subst (λ l. Contains l g.0) (logs at.0) at.2, g.2, g.3) in
          (end.0, at.0, end.1, at.1, missed_over (stream at.0) (All-contains (λ s. WasFetched (stream s)) news at.0 was (contains_at news end.0 at.0 at.1)) i given);
    }
