-- All lanes have left, so each cell has come to its end.
use Rattle.std.proofs.Common.{◌≡◌, ◌≢◌, ◌⊎◌, ℕ, suc, zero, ◌+◌, ◌<◌, List, [], ◌∷◌, ◌++◌, map, length, get_or, Some, sym, refl, ap, ◌∙◌, subst, ⊎_elim, inl, inr, Bool, true, arith}
use Rattle.std.specs.Prelude.{All, Contains, slice_get, slice_index}
use Rattle.std.proofs.lemmas.List.{get_or-map, drop_all}
use Rattle.std.proofs.lemmas.Option.{slice_get_within, slice_get-get_or, get_or_from_slice_get}
use mathlib.Core.Option.{some}
use lib.ListN.{get_elem?}
use Rattle.atomic_table.specs.Seated.{TableId}
use Rattle.item_key.specs.declared.Id.{Id}
use Rattle.fetch_plan.specs.declared.cell.Cell.{Cell}
use Rattle.fetch_plan.specs.declared.cell.Cell.TheVariants.{Free, Held, Done, Missed}
use Rattle.claim_board.specs.declared.records.LaneRecord.{LaneRecord}
use Rattle.claim_board.specs.Rules.{relays, fresh, named}
use Rattle.claim_board.specs.Views.{LaneView, all_of, placed_at, ClosedAs, Honest}
use Rattle.event_source.specs.Fetching.{Fetching, fetched, WasGiven, WasMissed}
use Rattle.mirror_core.specs.declared.worker.Stop.{Stop}
use Rattle.mirror_core.specs.declared.worker.Stop.TheVariants.{Memory}
use Rattle.mirror_core.specs.Three.{AllThree}
use Rattle.mirror_core.specs.Six.{AllSix}
use Rattle.mirror_core.specs.Working.{is_through, IsUnused, EndedByFetches, Worked}
use Rattle.mirror_core.specs.Closing.{AllBack, Closed, behind}
use Rattle.mirror_core.specs.Fetched.{logs_gained, CellEnds, EachEnds, Fetches}
use Rattle.mirror_core.specs.Asked.{AreIdsOf, AskInOrder, asked_in}

-- what the worker of lane w left, whose source's log gained this
record Left (cells : List (Id × ℕ)) (lanes : List ℕ) (w : ℕ) (log : List Fetching) (through : Bool) (f : LaneRecord) : Type 0 where
  lane : f.lane ≡ w
  relay : f.relay ≡ get_or lanes w 0
  ends : EndedByFetches cells log f
  won : through ≡ true → (i : ℕ) → Contains f.won i → Contains f.ended (i, Done) ⊎ Contains f.ended (i, Missed)
  seen : through ≡ true → (i : ℕ) → i < length cells → slice_index (relays cells) i ≡ f.relay → Contains f.won i ⊎ ((c : Cell) × (c ≢ Free) × Contains f.met (i, c))

module _ {J : Type 0} (cells : List (Id × ℕ)) (lanes : List ℕ) (logs : List (List Fetching)) (stops : List (Stop J)) (k : LaneView) (honest : Honest cells lanes k)
    (whole : (w : ℕ) → w < length lanes → (place : ℕ) × (f : LaneRecord) × (get_elem? (all_of k) place ≡ some f) × Left cells lanes w (get_or logs w []) (is_through (get_or stops w Memory)) f)
    (i : ℕ) (id : Id) (relay : ℕ) (at : slice_get cells i ≡ Some (id, relay)) (c : Cell) (told : ClosedAs (length lanes) k i c) where
  serves : (w : ℕ) → w < length lanes → get_or lanes w 0 ≡ relay → slice_get lanes w ≡ Some relay
  serves w lt e = slice_get-get_or lanes w 0 lt ∙ ap (λ (z : ℕ). Some z) e

  relay_is : slice_index (relays cells) i ≡ relay
  relay_is = get_or-map (λ (x : Id × ℕ). x.1) cells i (id, relay) 0 (slice_get_within cells i (id, relay) at) ∙ ap (λ (x : Id × ℕ). x.1) (get_or_from_slice_get cells i (id, relay) (id, relay) at)

  one_cell : (a : Id) (r : ℕ) → slice_get cells i ≡ Some (a, r) → (a ≡ id) × (r ≡ relay)
  one_cell a r h = let both : Some (a, r) ≡ Some (id, relay) = sym h ∙ at in let pair : (a, r) ≡ (id, relay) = cc in (ap (λ (z : Id × ℕ). z.0) pair, ap (λ (z : Id × ℕ). z.1) pair)

  ended_is : (place : ℕ) (f : LaneRecord) → get_elem? (all_of k) place ≡ some f → Contains f.ended (i, Done) ⊎ Contains f.ended (i, Missed) → c ≡ Free → ⊥
  ended_is place f there ends free = ⊎_elim
      (λ (z : Contains f.ended (i, Done)). let e : c ≡ Done = told.told Done place f there (inr (inl refl, inl z)) in let d : Free ≡ Done = sym free ∙ e in absurd (cc))
      (λ (z : Contains f.ended (i, Missed)). let e : c ≡ Missed = told.told Missed place f there (inr (inr refl, inl z)) in let d : Free ≡ Missed = sym free ∙ e in absurd (cc)) ends

  met_is : ((w : ℕ) → slice_get lanes w ≡ Some relay → is_through (get_or stops w Memory) ≡ true) → (place : ℕ) (e : LaneRecord) → get_elem? (all_of k) place ≡ some e → (d : Cell) → d ≢ Free → Contains e.met (i, d) → c ≡ Free → ⊥
  met_is all place e there Free other met free = other refl
  met_is all place e there (Held v) other met free =
      let mine = honest.lane place e there i v met in
      let u = whole v mine.0 in
      ended_is u.0 u.1 u.2 (u.3.won (all v (serves v mine.0 (mine.1 ∙ relay_is))) i (honest.won place e u.0 u.1 there u.2 i (subst (λ (x : ℕ). Contains e.met (i, Held x)) (sym u.3.lane) met))) free
  met_is all place e there Done other met free = let d : Free ≡ Done = sym free ∙ told.told Done place e there (inr (inl refl, inr met)) in absurd (cc)
  met_is all place e there Missed other met free = let d : Free ≡ Missed = sym free ∙ told.told Missed place e there (inr (inr refl, inr met)) in absurd (cc)

  cell_ends : CellEnds lanes logs stops id relay c
  cell_ends = record {
    held = λ w is. let t = told.held w is in let u = whole w t.0 in t.1 u.0 u.1 u.2 u.3.lane;
    done = λ is. let t = told.done is in let u = whole t.0 t.1 in let d = u.3.ends.done i (t.2 u.0 u.1 u.2 u.3.lane) in let s = one_cell d.0 u.1.relay d.1 in
        (t.0, serves t.0 t.1 (sym u.3.relay ∙ s.1), subst (WasGiven (get_or logs t.0 [])) s.0 d.2);
    missed = λ is. let t = told.missed is in let u = whole t.0 t.1 in let d = u.3.ends.missed i (t.2 u.0 u.1 u.2 u.3.lane) in let s = one_cell d.0 u.1.relay d.1 in
        (t.0, serves t.0 t.1 (sym u.3.relay ∙ s.1), subst (WasMissed (get_or logs t.0 [])) s.0 d.2);
    free = λ is all w mine. let u = whole w (slice_get_within lanes w relay mine) in let its : u.1.relay ≡ relay = u.3.relay ∙ get_or_from_slice_get lanes w relay 0 mine in ⊎_elim
        (λ (z : Contains u.1.won i). ended_is u.0 u.1 u.2 (u.3.won (all w mine) i z) is)
        (λ (z : (d : Cell) × (d ≢ Free) × Contains u.1.met (i, d)). met_is all u.0 u.1 u.2 z.0 z.1 z.2 is)
        (u.3.seen (all w mine) i (slice_get_within cells i (id, relay) at) (relay_is ∙ sym its));
  }

-- ---- lanes by their places
elem_last : (xs : List LaneRecord) (y : LaneRecord) → get_elem? (xs ++ y ∷ []) (length xs) ≡ some y
elem_last [] y = refl
elem_last (x ∷ xs) y = elem_last xs y

elem_more : (xs ys : List LaneRecord) (n : ℕ) (y : LaneRecord) → get_elem? xs n ≡ some y → get_elem? (xs ++ ys) n ≡ some y
elem_more [] ys n y e = absurd (cc)
elem_more (x ∷ xs) ys zero y e = e
elem_more (x ∷ xs) ys (suc n) y e = elem_more xs ys n y e

behind_has : (ps : List LaneView) (w : ℕ) (q : LaneView) → slice_get ps w ≡ Some q → (place : ℕ) × (get_elem? (behind ps) place ≡ some q.own)
behind_has [] w q e = absurd (cc)
behind_has (p ∷ ps) zero q e = let same : p ≡ q = cc in (length (behind ps), elem_last (behind ps) p.own ∙ ap (λ (z : LaneView). some z.own) same)
behind_has (p ∷ ps) (suc w) q e = let t = behind_has ps w q e in (t.0, elem_more (behind ps) (p.own ∷ []) t.0 q.own t.1)

named_at : (n : ℕ) (lanes : List ℕ) (w : ℕ) (d : LaneRecord) → w < length lanes → get_or (named n lanes) w d ≡ fresh (n + w) (get_or lanes w 0)
named_at n [] w d lt = absurd (omega arith)
named_at n (l ∷ ls) zero d lt = let e : n ≡ n + 0 = omega arith in ap (λ (x : ℕ). fresh x l) e
named_at n (l ∷ ls) (suc w) d lt = let e : suc n + w ≡ n + suc w = omega arith in named_at (suc n) ls w d (omega arith) ∙ ap (λ (x : ℕ). fresh x (get_or ls w 0)) e

named_length : (n : ℕ) (lanes : List ℕ) → length (named n lanes) ≡ length lanes
named_length n [] = refl
named_length n (l ∷ ls) = ap (λ (x : ℕ). suc x) (named_length (suc n) ls)

pub lanes_length : (board : TableId) (n : ℕ) (lanes : List ℕ) → length (map (placed_at board) (named n lanes)) ≡ length lanes
lanes_length board n [] = refl
lanes_length board n (l ∷ ls) = ap (λ (x : ℕ). suc x) (lanes_length board (suc n) ls)

pub all_new : (board : TableId) (n : ℕ) (lanes : List ℕ) → All (λ (l : LaneView). (l.board ≡ board) × IsUnused l.own) (map (placed_at board) (named n lanes))
all_new board n [] k d lt = absurd (omega arith)
all_new board n (l ∷ ls) zero d lt = (refl, record { held = refl; ended = refl; won = refl })
all_new board n (l ∷ ls) (suc k) d lt = all_new board (suc n) ls k d (omega arith)

-- ---- the workers
module _ {J S : Type 0} (cells : List (Id × ℕ)) (log : S → List Fetching) (faults : S → ℕ) (becomes : S → S → Type 0) (board : TableId) where
  abbrev pub Works : LaneView → LaneView → S → S → Stop J → Stop J → Type 0
  Works l m s t u stop = Worked cells l m (log s) (log t) (faults s) (faults t) stop × becomes s t

  -- one of them
  worked_at : (rs : List LaneRecord) (news : List LaneView) (ss ts : List S) (us stops : List (Stop J)) → AllSix Works (map (placed_at board) rs) news ss ts us stops → (w : ℕ) → w < length rs → (d : LaneRecord)
      → (q : LaneView) × (before : List Fetching) × (after : List Fetching) × (a : ℕ) × (b : ℕ) × (slice_get news w ≡ Some q) × (fetched before after ≡ get_or (logs_gained log ss ts) w [])
      × Worked cells (placed_at board (get_or rs w d)) q before after a b (get_or stops w Memory)
  worked_at [] news ss ts us stops h w lt d = absurd (omega arith)
  worked_at (r ∷ rs) (q ∷ news) (s ∷ ss) (t ∷ ts) (u ∷ us) (p ∷ stops) h zero lt d = (q, log s, log t, faults s, faults t, refl, refl, h.0.0)
  worked_at (r ∷ rs) (q ∷ news) (s ∷ ss) (t ∷ ts) (u ∷ us) (p ∷ stops) h (suc w) lt d = worked_at rs news ss ts us stops h.1 w (omega arith) d
  worked_at (r ∷ rs) _ _ _ _ _ h w lt d = absurd h

  pub back_of : (rs : List LaneRecord) (news : List LaneView) (ss ts : List S) (us stops : List (Stop J)) → AllSix Works (map (placed_at board) rs) news ss ts us stops → AllBack board news
  back_of [] [] [] [] [] [] h = tt
  back_of (r ∷ rs) (q ∷ news) (s ∷ ss) (t ∷ ts) (u ∷ us) (p ∷ stops) h = ((h.0.0.same.board, h.0.0.held, h.0.0.same.others), back_of rs news ss ts us stops h.1)
  back_of _ _ _ _ _ _ h = absurd h

  pub fetches_of : (ps news : List LaneView) (ss ts : List S) (us stops : List (Stop J)) → AllSix Works ps news ss ts us stops → AllThree (λ s t stop. Fetches (log s) (log t) (faults s) (faults t) stop × becomes s t) ss ts stops
  fetches_of [] [] [] [] [] [] h = tt
  fetches_of (r ∷ rs) (q ∷ news) (s ∷ ss) (t ∷ ts) (u ∷ us) (p ∷ stops) h = ((record { appended = h.0.0.appended; few = h.0.0.few; failed = h.0.0.failed; told = h.0.0.told }, h.0.1), fetches_of rs news ss ts us stops h.1)
  fetches_of _ _ _ _ _ _ h = absurd h

  pub each_ends : (lanes : List ℕ) (news : List LaneView) (ss ts : List S) (us stops : List (Stop J)) (keeper : LaneView) (found : List Cell) → AllSix Works (map (placed_at board) (named 0 lanes)) news ss ts us stops
      → all_of keeper ≡ behind news → Closed cells lanes keeper found → EachEnds cells lanes (logs_gained log ss ts) stops found
  each_ends lanes news ss ts us stops keeper found h all closed =
      let whole : (w : ℕ) → w < length lanes → (place : ℕ) × (f : LaneRecord) × (get_elem? (all_of keeper) place ≡ some f) × Left cells lanes w (get_or (logs_gained log ss ts) w []) (is_through (get_or stops w Memory)) f =
      λ w lt. (let at = worked_at (named 0 lanes) news ss ts us stops h w (omega (arith, lt, named_length 0 lanes)) (fresh 0 0) in
      let name = named_at 0 lanes w (fresh 0 0) lt in
      let b = behind_has news w at.0 at.5 in (
        b.0,
        at.0.own,
        subst (λ (z : List LaneRecord). get_elem? z b.0 ≡ some at.0.own) (sym all) b.1,
        record {
          lane = at.7.same.lane ∙ (ap (λ (z : LaneRecord). z.lane) name ∙ (let none : 0 + w ≡ w = omega arith in none));
          relay = at.7.same.relay ∙ ap (λ (z : LaneRecord). z.relay) name;
          ends = subst (λ (z : List Fetching). EndedByFetches cells z at.0.own) at.6 at.7.ends;
          won = at.7.won;
          seen = at.7.seen;
        },
      )) in
      record {
        long = closed.len;
        ends = λ i id relay at. cell_ends cells lanes (logs_gained log ss ts) stops keeper closed.honest whole i id relay at (get_or found i Free) (closed.settled i (slice_get_within cells i (id, relay) at));
      }

  pub asked_of : (lanes : List ℕ) (news : List LaneView) (ss ts : List S) (us stops : List (Stop J)) → AllSix Works (map (placed_at board) (named 0 lanes)) news ss ts us stops → AskInOrder cells lanes (logs_gained log ss ts)
  asked_of lanes news ss ts us stops h w relay mine =
      let lt = slice_get_within lanes w relay mine in
      let at = worked_at (named 0 lanes) news ss ts us stops h w (omega (arith, lt, named_length 0 lanes)) (fresh 0 0) in
      let name = named_at 0 lanes w (fresh 0 0) lt in
      let its : at.0.own.relay ≡ relay = at.7.same.relay ∙ (ap (λ (z : LaneRecord). z.relay) name ∙ get_or_from_slice_get lanes w relay 0 mine) in
      subst (λ (r : ℕ). AreIdsOf cells r 0 (length cells) (asked_in (get_or (logs_gained log ss ts) w []))) its (subst (λ (z : List Fetching). AreIdsOf cells at.0.own.relay 0 (length cells) (asked_in z)) at.6 at.7.asked)

-- a log that stays gains nothing
none_gained : {S : Type 0} (log : S → List Fetching) (ss : List S) (w : ℕ) → get_or (logs_gained log ss ss) w [] ≡ []
none_gained log [] zero = refl
none_gained log [] (suc w) = refl
none_gained log (s ∷ ss) zero = drop_all (length (log s)) (log s) (omega arith)
none_gained log (s ∷ ss) (suc w) = none_gained log ss w

pub none_asked : {S : Type 0} (cells : List (Id × ℕ)) (lanes : List ℕ) (log : S → List Fetching) (ss : List S) → AskInOrder cells lanes (logs_gained log ss ss)
none_asked cells lanes log ss w relay mine =
    subst (λ (z : List Fetching). AreIdsOf cells relay 0 (length cells) (asked_in z)) (sym (none_gained log ss w)) (omega arith)
