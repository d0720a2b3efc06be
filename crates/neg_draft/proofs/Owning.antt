-- What a roll's own ranges tell.
use Rattle.std.proofs.Common.{◌≡◌, ℕ, ◌<◌, ◌≤◌, inl, inr, Bool, true, false, cond, ltb, List, [], ◌∷◌, length, refl, sym, ap, subst, ◌∙◌, arith}
use Rattle.std.specs.Prelude.{All, filter, slice_range}
use Rattle.std.proofs.lemmas.Bool.{ltb-true, ltb-false, cases_lt}
use Rattle.std.proofs.lemmas.List.Elements.{All-head, All-tail, All-cons, All-nil}
use Rattle.item_key.specs.declared.Id.{Id}
use Rattle.item_key.specs.declared.Item.{Item}
use Rattle.item_key.specs.Keys.{place, IsKey}
use Rattle.neg_codec.specs.Ranges.{ids, Span, IsSkip, Ascends, IsEdge}
use Rattle.item_roll.specs.Parts.{IsRoll, part, ids_of, count_below}
use Rattle.item_roll.proofs.Truths.{piece_is}
use Rattle.item_roll.specs.Truth.{SameIds, IsTrueOf}
use Rattle.item_roll.specs.Closed.{closed_from, EndsAt, IsTold, Reaches}
use Rattle.neg_draft.specs.Coverage.{end_of, HasKeys, Tells}
use Rattle.neg_draft.proofs.Covering.{edge_low}

-- no fewer items stand below a higher bound
pub count_up : (xs : List Item) (l u : Item) → place l ≤ place u → count_below xs l ≤ count_below xs u
unfolding count_below
count_up [] l u le = omega arith
count_up (x ∷ xs) l u le = go (ltb (place x) (place l)) (ltb (place x) (place u)) refl refl (count_up xs l u le)
  where
    go : (a b : Bool) → ltb (place x) (place l) ≡ a → ltb (place x) (place u) ≡ b → length (filter (λ k. ltb (place k) (place l)) xs) ≤ length (filter (λ k. ltb (place k) (place u)) xs)
        → length (cond a (x ∷ filter (λ k. ltb (place k) (place l)) xs) (filter (λ k. ltb (place k) (place l)) xs)) ≤ length (cond b (x ∷ filter (λ k. ltb (place k) (place u)) xs) (filter (λ k. ltb (place k) (place u)) xs))
    go true true ea eb ih = omega (arith, ih)
    go true false ea eb ih = absurd (omega (arith, ltb-true _ _ ea, ltb-false _ _ eb, le))
    go false true ea eb ih = omega (arith, ih)
    go false false ea eb ih = ih

-- where fewer items stand below a bound, it is lower
pub lower_of : (xs : List Item) (l u : Item) → count_below xs l < count_below xs u → place l < place u
lower_of xs l u lt = elim (cases_lt (place l) (place u)) [
  | inl less ↦ less
  | inr ge ↦ absurd (omega (arith, lt, count_up xs u l ge))
]

-- a bound below another is a key
pub edge_key : (l u : Item) → IsEdge l → IsEdge u → place l < place u → IsKey l
edge_key l u (inl same) eu lt = absurd (omega (arith, ap place same, edge_low u eu, lt))
edge_key l u (inr key) eu lt = key

ends_at : (lower upper : Item) (rs : List Span) → EndsAt upper rs → end_of lower rs ≡ upper
ends_at lower upper [] h = absurd h
ends_at lower upper (r ∷ []) h = h
ends_at lower upper (r ∷ s ∷ rs) h = ends_at r.upper upper (s ∷ rs) h

some_end : (upper : Item) (rs : List Span) → EndsAt upper rs → (rs ≡ []) → ⊥
some_end upper [] h e = h
some_end upper (r ∷ rs) h e = cc

none_skip : (lower : Item) (rs : List Span) → All IsTold rs → All (λ s. IsSkip s → ⊥) (closed_from lower rs)
none_skip lower [] h = All-nil (λ s. IsSkip s → ⊥)
none_skip lower (r ∷ rs) h = All-cons (λ s. IsSkip s → ⊥) (record { lower = lower; upper = r.upper; claim = r.claim }) (closed_from r.upper rs) (λ e. All-head IsTold r rs h e) (none_skip r.upper rs (All-tail IsTold r rs h))

pub tells_split : (lower upper : Item) (rs : List Span) → Ascends lower rs → Reaches upper rs → All HasKeys (closed_from lower rs) → Tells lower upper rs
tells_split lower upper rs up r full = record {
  ascends = up;
  ends = ends_at lower upper rs r.ends;
  some = some_end upper rs r.ends;
  none_skipped = none_skip lower rs r.told;
  none_empty = full;
}

abbrev pub listed : Item → List Id → Span
listed upper is = record { upper = upper; claim = ids is }

pub tells_ids : (lower upper : Item) (is : List Id) → IsKey lower → place lower < place upper → Tells lower upper (listed upper is ∷ [])
tells_ids lower upper is key lt = record {
  ascends = (key.time, omega (arith, lt), tt);
  ends = refl;
  some = λ e. cc;
  none_skipped = All-cons (λ s. IsSkip s → ⊥) (record { lower = lower; upper = upper; claim = ids is }) [] (λ e. cc) (All-nil (λ s. IsSkip s → ⊥));
  none_empty = All-cons HasKeys (record { lower = lower; upper = upper; claim = ids is }) [] lt (All-nil HasKeys);
}

pub ids_hold : (roll : List Item) (lower upper : Item) (is : List Id) → is ≡ ids_of (part roll lower upper) → All (IsTrueOf roll) (closed_from lower (listed upper is ∷ []))
ids_hold roll lower upper is e = All-cons (IsTrueOf roll) (record { lower = lower; upper = upper; claim = ids is }) [] (subst (λ (x : List Id). SameIds is x) e (λ i. (λ h. h, λ h. h))) (All-nil (IsTrueOf roll))

-- the ids between the places of two bounds are those between the bounds
pub ids_between : (roll : List Item) (lower upper : Item) (lo hi : ℕ) (is : List Id) → IsRoll roll → is ≡ ids_of (slice_range roll lo hi) → lo ≡ count_below roll lower
    → hi ≡ count_below roll upper → place lower < place upper → is ≡ ids_of (part roll lower upper)
ids_between roll lower upper lo hi is rises listed_is low high lt =
    listed_is ∙ ap (λ (xs : List Item). ids_of xs) (sym (piece_is roll lo hi lower upper rises.ascending (sym low) (sym high) (omega (arith, lt))))
