-- How a batch grows and is ended.
use Rattle.std.proofs.Common.{◌≡◌, ◌≢◌, ◌⊎◌, ℕ, ◌+◌, ◌<◌, List, [], ◌∷◌, ◌++◌, length, sym, refl, ap, ◌∙◌, subst, ⊎_elim, inl, inr, arith, Some}
use Rattle.std.specs.Prelude.{Contains, slice_index, slice_get}
use Rattle.std.proofs.lemmas.List.Elements.{Contains-push, Contains-push_cases, Contains-append_left}
use Rattle.std.proofs.lemmas.Option.{slice_get_within}
use mathlib.Core.Logic.{dite}
use native.Mathlib.Decide.{ℕ_discrete}
use Rattle.item_key.specs.declared.Id.{Id}
use Rattle.fetch_plan.specs.declared.cell.Cell.{Cell}
use Rattle.fetch_plan.specs.declared.cell.Cell.TheVariants.{Free, Held, Done, Missed}
use Rattle.claim_board.specs.declared.records.LaneRecord.{LaneRecord}
use Rattle.claim_board.specs.Rules.{relays, IsIdOf}
use Rattle.claim_board.specs.Steps.{Knows, with_won, with_met, with_ended, without}
use Rattle.claim_board.proofs.Words.{in_first, in_later, in_cases, without_keeps}
use Rattle.claim_board.specs.Views.{LaneView}
use Rattle.mirror_core.specs.Batches.{NoneTwice, Holds, Batched, SameLane, EndsCell, Settles}

pub none_of : {X : Type 0} (xs : List X) (x : X) → xs ≡ [] → Contains xs x → ⊥
none_of xs x e c = let h = c.1 in let z = ap length e in omega arith

-- a list in which nothing stands is empty
pub is_empty : {X : Type 0} (xs : List X) → ((x : X) → Contains xs x → ⊥) → xs ≡ []
is_empty [] h = refl
is_empty (x ∷ xs) h = absurd (h x (in_first x xs))

-- a cell has one id
pub one_id : (cells : List (Id × ℕ)) (i : ℕ) (a b : Id) (r q : ℕ) → slice_get cells i ≡ Some (a, r) → slice_get cells i ≡ Some (b, q) → a ≡ b
one_id cells i a b r q h k = let both : Some (a, r) ≡ Some (b, q) = sym h ∙ k in let pair : (a, r) ≡ (b, q) = cc in ap (λ (z : Id × ℕ). z.0) pair

twice_push : (xs : List ℕ) (y : ℕ) → NoneTwice xs → (Contains xs y → ⊥) → NoneTwice (xs ++ y ∷ [])
twice_push [] y n h = ((λ c. none_of {X = ℕ} [] y refl c), tt)
twice_push (x ∷ xs) y n h = (
  (λ c. ⊎_elim n.0 (λ (z : y ≡ x). h (subst (Contains (x ∷ xs)) (sym z) (in_first x xs))) (Contains-push_cases xs y x c)),
  twice_push xs y n.1 (λ c. h (in_later x xs y c)),
)

-- ---- ends of a holding
pub holds_rest : (i : ℕ) (rest : List ℕ) (e : LaneRecord) (f : LaneRecord) → f.held ≡ without i e.held → Holds (i ∷ rest) e → Holds rest f
holds_rest i rest e f is h = record {
  once = h.once.1;
  held = λ j. (
    (λ c. let t = (without_keeps e.held i j).0 (subst (λ (z : List ℕ). Contains z j) is c) in
        ⊎_elim (λ (z : i ≡ j). absurd (t.1 (sym z))) (λ (z : Contains rest j). z) (in_cases i rest j ((h.held j).0 t.0))),
    (λ c. subst (λ (z : List ℕ). Contains z j) (sym is) ((without_keeps e.held i j).1 ((h.held j).1 (in_later i rest j c), λ (z : j ≡ i). h.once.0 (subst (Contains rest) z c)))),
  );
}

pub holds_none : (e : LaneRecord) → Holds [] e → e.held ≡ []
holds_none e h = is_empty e.held (λ j c. none_of {X = ℕ} [] j refl ((h.held j).0 c))

-- ---- the cells that a lane comes to
module _ (cells : List (Id × ℕ)) (n : ℕ) (batch : List ℕ) (ids : List Id) (e : LaneRecord) (b : Batched cells n batch ids e) where
  -- what was seen of the cells before, and of this one
  seen_more : (f : LaneRecord) → f.relay ≡ e.relay → ((i : ℕ) → Contains e.won i → Contains f.won i) → ((i : ℕ) (c : Cell) → Contains e.met (i, c) → Contains f.met (i, c))
      → (slice_index (relays cells) n ≡ e.relay → Contains f.won n ⊎ ((c : Cell) × (c ≢ Free) × Contains f.met (n, c)))
      → (i : ℕ) → i < n + 1 → slice_index (relays cells) i ≡ f.relay → Contains f.won i ⊎ ((c : Cell) × (c ≢ Free) × Contains f.met (i, c))
  seen_more f same won met here i low mine = dite (ℕ_discrete i n)
      (λ k. subst (λ (z : ℕ). Contains f.won z ⊎ ((c : Cell) × (c ≢ Free) × Contains f.met (z, c))) (sym k) (here (subst (λ (z : ℕ). slice_index (relays cells) z ≡ e.relay) k (mine ∙ same))))
      (λ other. ⊎_elim (λ (z : Contains e.won i). inl (won i z)) (λ (z : (c : Cell) × (c ≢ Free) × Contains e.met (i, c)). inr (z.0, z.1, met i z.0 z.2)) (b.seen i (omega arith) (mine ∙ same)))

  pub batched_skip : (slice_index (relays cells) n ≡ e.relay → ⊥) → Batched cells (n + 1) batch ids e
  batched_skip other = record {
    holds = b.holds;
    asked = b.asked;
    won = b.won;
    seen = seen_more e refl (λ i z. z) (λ i c z. z) (λ z. absurd (other z));
  }

  pub batched_met : (c : Cell) → c ≢ Free → Batched cells (n + 1) batch ids (with_met n c e)
  batched_met c some_cell = record {
    holds = record { once = b.holds.once; held = b.holds.held };
    asked = b.asked;
    won = b.won;
    seen = seen_more (with_met n c e) refl (λ i z. z) (λ i d z. Contains-append_left e.met ((n, c) ∷ []) (i, d) z) (λ _. inr (c, some_cell, Contains-push e.met (n, c)));
  }

  pub batched_won : (id : Id) → slice_get cells n ≡ Some (id, e.relay) → ((c : Cell) → Knows e n c → Free ≡ c) → Batched cells (n + 1) (batch ++ n ∷ []) (ids ++ id ∷ []) (with_won n e)
  batched_won id at unknown =
      let fresh : Contains batch n → ⊥ = λ c. (let k : Free ≡ Held e.lane = unknown (Held e.lane) (inl ((b.holds.held n).1 c, refl)) in absurd (cc)) in
      record {
        holds = record {
          once = twice_push batch n b.holds.once fresh;
          held = λ i. (
            (λ c. ⊎_elim (λ (z : Contains e.held i). Contains-append_left batch (n ∷ []) i ((b.holds.held i).0 z)) (λ (z : n ≡ i). subst (Contains (batch ++ n ∷ [])) z (Contains-push batch n)) (Contains-push_cases e.held n i c)),
            (λ c. ⊎_elim (λ (z : Contains batch i). Contains-append_left e.held (n ∷ []) i ((b.holds.held i).1 z)) (λ (z : n ≡ i). subst (Contains (e.held ++ n ∷ [])) z (Contains-push e.held n)) (Contains-push_cases batch n i c)),
          );
        };
        asked = λ i c. ⊎_elim (λ (z : Contains batch i). let t = b.asked i z in (t.0, t.1, Contains-append_left ids (id ∷ []) t.0 t.2))
            (λ (z : n ≡ i). (id, subst (λ (k : ℕ). slice_get cells k ≡ Some (id, e.relay)) z at, Contains-push ids id)) (Contains-push_cases batch n i c);
        won = λ i c. ⊎_elim (λ (z : Contains e.won i). ⊎_elim (λ (t : Contains e.ended (i, Done) ⊎ Contains e.ended (i, Missed)). inl t) (λ (t : Contains batch i). inr (Contains-append_left batch (n ∷ []) i t)) (b.won i z))
            (λ (z : n ≡ i). inr (subst (Contains (batch ++ n ∷ [])) z (Contains-push batch n))) (Contains-push_cases e.won n i c);
        seen = seen_more (with_won n e) refl (λ i z. Contains-append_left e.won (n ∷ []) i z) (λ i d z. z) (λ _. inl (Contains-push e.won n));
      }

-- ---- the cells of a batch that are ended
module _ (cells : List (Id × ℕ)) (n : ℕ) (i : ℕ) (rest : List ℕ) (ids : List Id) (e : LaneRecord) (b : Batched cells n (i ∷ rest) ids e) where
  pub batched_done : Batched cells n rest ids (with_ended i Done e)
  batched_done = record {
    holds = holds_rest i rest e (with_ended i Done e) refl b.holds;
    asked = λ j c. b.asked j (in_later i rest j c);
    won = λ j c. ⊎_elim (λ (z : Contains e.ended (j, Done) ⊎ Contains e.ended (j, Missed)). inl (⊎_elim (λ (t : Contains e.ended (j, Done)). inl (Contains-append_left e.ended ((i, Done) ∷ []) (j, Done) t)) (λ (t : Contains e.ended (j, Missed)). inr (Contains-append_left e.ended ((i, Done) ∷ []) (j, Missed) t)) z))
        (λ (z : Contains (i ∷ rest) j). ⊎_elim (λ (k : i ≡ j). inl (inl (subst (λ (x : ℕ). Contains (e.ended ++ (i, Done) ∷ []) (x, Done)) k (Contains-push e.ended (i, Done))))) (λ (k : Contains rest j). inr k) (in_cases i rest j z))
        (b.won j c);
    seen = b.seen;
  }

  pub batched_missed : Batched cells n rest ids (with_ended i Missed e)
  batched_missed = record {
    holds = holds_rest i rest e (with_ended i Missed e) refl b.holds;
    asked = λ j c. b.asked j (in_later i rest j c);
    won = λ j c. ⊎_elim (λ (z : Contains e.ended (j, Done) ⊎ Contains e.ended (j, Missed)). inl (⊎_elim (λ (t : Contains e.ended (j, Done)). inl (Contains-append_left e.ended ((i, Missed) ∷ []) (j, Done) t)) (λ (t : Contains e.ended (j, Missed)). inr (Contains-append_left e.ended ((i, Missed) ∷ []) (j, Missed) t)) z))
        (λ (z : Contains (i ∷ rest) j). ⊎_elim (λ (k : i ≡ j). inl (inr (subst (λ (x : ℕ). Contains (e.ended ++ (i, Missed) ∷ []) (x, Missed)) k (Contains-push e.ended (i, Missed))))) (λ (k : Contains rest j). inr k) (in_cases i rest j z))
        (b.won j c);
    seen = b.seen;
  }

  pub batched_ended : (given : List Id) (f : LaneRecord) → EndsCell cells given i e f → Batched cells n rest ids f
  batched_ended given f t = ⊎_elim
      (λ (z : (f ≡ with_ended i Done e) × Contains given t.0). subst (Batched cells n rest ids) (sym z.0) batched_done)
      (λ (z : (f ≡ with_ended i Missed e) × (Contains given t.0 → ⊥)). subst (Batched cells n rest ids) (sym z.0) batched_missed) t.2

  -- it is one that was asked for
  settles_done : (given : List Id) (id : Id) → IsIdOf cells i id → Contains given id → Settles cells ids given e (with_ended i Done e)
  settles_done given id is c =
      let a = b.asked i (in_first i rest) in
      let one : a.0 ≡ id = one_id cells i a.0 id e.relay is.0 a.1 is.1 in
      record {
        done = λ j z. ⊎_elim (λ (k : Contains e.ended (j, Done)). inl k) (λ (k : (i, Done) ≡ (j, Done)). inr (a.0, ap (slice_get cells) (ap (λ (x : ℕ × Cell). x.0) (sym k)) ∙ a.1, a.2, subst (Contains given) (sym one) c)) (Contains-push_cases e.ended (i, Done) (j, Done) z);
        missed = λ j z. ⊎_elim (λ (k : Contains e.ended (j, Missed)). inl k) (λ (k : (i, Done) ≡ (j, Missed)). (let d : Done ≡ Missed = ap (λ (x : ℕ × Cell). x.1) k in absurd (cc))) (Contains-push_cases e.ended (i, Done) (j, Missed) z);
      }

  settles_missed : (given : List Id) (id : Id) → IsIdOf cells i id → (Contains given id → ⊥) → Settles cells ids given e (with_ended i Missed e)
  settles_missed given id is c =
      let a = b.asked i (in_first i rest) in
      let one : a.0 ≡ id = one_id cells i a.0 id e.relay is.0 a.1 is.1 in
      record {
        done = λ j z. ⊎_elim (λ (k : Contains e.ended (j, Done)). inl k) (λ (k : (i, Missed) ≡ (j, Done)). (let d : Missed ≡ Done = ap (λ (x : ℕ × Cell). x.1) k in absurd (cc))) (Contains-push_cases e.ended (i, Missed) (j, Done) z);
        missed = λ j z. ⊎_elim (λ (k : Contains e.ended (j, Missed)). inl k) (λ (k : (i, Missed) ≡ (j, Missed)). inr (a.0, ap (slice_get cells) (ap (λ (x : ℕ × Cell). x.0) (sym k)) ∙ a.1, a.2, λ (x : Contains given a.0). c (subst (Contains given) one x))) (Contains-push_cases e.ended (i, Missed) (j, Missed) z);
      }

  pub settles_ended : (given : List Id) (f : LaneRecord) → EndsCell cells given i e f → Settles cells ids given e f
  settles_ended given f t = ⊎_elim
      (λ (z : (f ≡ with_ended i Done e) × Contains given t.0). subst (Settles cells ids given e) (sym z.0) (settles_done given t.0 t.1 z.1))
      (λ (z : (f ≡ with_ended i Missed e) × (Contains given t.0 → ⊥)). subst (Settles cells ids given e) (sym z.0) (settles_missed given t.0 t.1 z.1)) t.2

pub settles_none : (cells : List (Id × ℕ)) (asked given : List Id) (e f : LaneRecord) → f.ended ≡ e.ended → Settles cells asked given e f
settles_none cells asked given e f same = record {
  done = λ i z. inl (subst (λ (x : List (ℕ × Cell)). Contains x (i, Done)) same z);
  missed = λ i z. inl (subst (λ (x : List (ℕ × Cell)). Contains x (i, Missed)) same z);
}

pub settles_then : (cells : List (Id × ℕ)) (asked given : List Id) (e f g : LaneRecord) → g.relay ≡ f.relay → Settles cells asked given e f → Settles cells asked given f g → Settles cells asked given e g
settles_then cells asked given e f g same s t = record {
  done = λ i z. ⊎_elim (λ (k : Contains f.ended (i, Done)). ⊎_elim (λ (x : Contains e.ended (i, Done)). inl x)
      (λ (x : (id : Id) × (slice_get cells i ≡ Some (id, f.relay)) × Contains asked id × Contains given id). inr (x.0, x.1 ∙ ap (λ (r : ℕ). Some (x.0, r)) (sym same), x.2, x.3)) (s.done i k))
      (λ (x : (id : Id) × (slice_get cells i ≡ Some (id, g.relay)) × Contains asked id × Contains given id). inr x) (t.done i z);
  missed = λ i z. ⊎_elim (λ (k : Contains f.ended (i, Missed)). ⊎_elim (λ (x : Contains e.ended (i, Missed)). inl x)
      (λ (x : (id : Id) × (slice_get cells i ≡ Some (id, f.relay)) × Contains asked id × (Contains given id → ⊥)). inr (x.0, x.1 ∙ ap (λ (r : ℕ). Some (x.0, r)) (sym same), x.2, x.3)) (s.missed i k))
      (λ (x : (id : Id) × (slice_get cells i ≡ Some (id, g.relay)) × Contains asked id × (Contains given id → ⊥)). inr x) (t.missed i z);
}

pub same_then : (p q r : LaneView) → SameLane p q → SameLane q r → SameLane p r
same_then p q r h k = record {
  board = k.board ∙ h.board;
  others = k.others ∙ h.others;
  lane = k.lane ∙ h.lane;
  relay = k.relay ∙ h.relay;
}

pub batched_clear : (cells : List (Id × ℕ)) (n : ℕ) (batch : List ℕ) (ids : List Id) (e : LaneRecord) → batch ≡ [] → Batched cells n batch ids e → Batched cells n [] [] e
batched_clear cells n batch ids e none b = let c : Batched cells n [] ids e = subst (λ (z : List ℕ). Batched cells n z ids e) none b in record {
  holds = c.holds;
  asked = λ i z. absurd (none_of {X = ℕ} [] i refl z);
  won = c.won;
  seen = c.seen;
}

-- the first cell of a batch is one of the plan's
pub cell_within : (cells : List (Id × ℕ)) (n i : ℕ) (rest : List ℕ) (ids : List Id) (e : LaneRecord) → Batched cells n (i ∷ rest) ids e → i < length cells
cell_within cells n i rest ids e b = let a = b.asked i (in_first i rest) in slice_get_within cells i (a.0, e.relay) a.1

pub cells_within : (cells : List (Id × ℕ)) (n : ℕ) (batch : List ℕ) (ids : List Id) (e : LaneRecord) → Batched cells n batch ids e → (i : ℕ) → Contains batch i → i < length cells
cells_within cells n batch ids e b i c = let a = b.asked i c in slice_get_within cells i (a.0, e.relay) a.1
