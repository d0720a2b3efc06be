-- One place more in the places of ids, and what they tell once all ids have theirs.
use Rattle.std.proofs.Common.{◌≡◌, ◌<◌, ◌≤◌, ◌+◌, ℕ, Bool, true, false, cond, refl, List, length, get_or, Option, Some, None, sym, ap, ◌∙◌, subst, arith}
use Rattle.std.specs.Prelude.{Contains, IfSome, MatchOption, slice_get}
use Rattle.std.specs.BTreeMap.{BTreeMap, get}
use Rattle.std.proofs.lemmas.Bool.{false≢true}
use Rattle.std.proofs.lemmas.Option.{get_or_from_slice_get}
use mathlib.Core.Logic.{dite}
use native.Mathlib.Decide.{ℕ_discrete}
use Rattle.item_key.specs.declared.Id.{Id}
use Rattle.sharing.specs.Offers.{id_cmp, is_id}
use Rattle.sharing.proofs.Orders.{same_id, id_itself}
use Rattle.mirror_core.specs.IdPlaces.{ArePlacesOf}

module _ (ids : List Id) where
  -- each place is one of its id
  abbrev pub Right : BTreeMap Id ℕ → Type 0
  Right places = (id : Id) → IfSome (get id_cmp places id) (λ j. slice_get ids j ≡ Some id)

  -- an id without one isn't among the first
  abbrev pub Whole : ℕ → BTreeMap Id ℕ → Type 0
  Whole k places = (id : Id) → get id_cmp places id ≡ None → (j : ℕ) → j < k → get_or ids j id ≡ id → ⊥

  module _ (k : ℕ) (x : Id) (at : slice_get ids k ≡ Some x) where
    right_at : (b : Bool) (id : Id) (old : Option ℕ) → is_id x id ≡ b → IfSome old (λ j. slice_get ids j ≡ Some id) → IfSome (cond b (Some k) old) (λ j. slice_get ids j ≡ Some id)
    right_at true id old e h = at ∙ ap (λ (z : Id). Some z) (same_id x id e)
    right_at false id old e h = h

    whole_at : (b : Bool) (id : Id) (old : Option ℕ) → is_id x id ≡ b → ((old ≡ None) → (j : ℕ) → j < k → get_or ids j id ≡ id → ⊥) → cond b (Some k) old ≡ None → (j : ℕ) → j < k + 1 → get_or ids j id ≡ id → ⊥
    whole_at true id old e h none j low is = absurd cc
    whole_at false id old e h none j low is = dite (ℕ_discrete j k)
        (λ same. (let one : x ≡ id = sym (get_or_from_slice_get ids k x id at) ∙ (ap (λ (n : ℕ). get_or ids n id) (sym same) ∙ is) in
        false≢true (sym e ∙ (ap (λ (z : Id). is_id z id) one ∙ id_itself id))))
        (λ other. h none j (omega (arith, low, other)) is)

    pub right_more : (old new : BTreeMap Id ℕ) → ((q : Id) → get id_cmp new q ≡ cond (is_id x q) (Some k) (get id_cmp old q)) → Right old → Right new
    right_more old new put h id = subst (λ (o : Option ℕ). IfSome o (λ j. slice_get ids j ≡ Some id)) (sym (put id)) (right_at (is_id x id) id (get id_cmp old id) refl (h id))

    pub whole_more : (old new : BTreeMap Id ℕ) → ((q : Id) → get id_cmp new q ≡ cond (is_id x q) (Some k) (get id_cmp old q)) → Whole k old → Whole (k + 1) new
    whole_more old new put h id none = whole_at (is_id x id) id (get id_cmp old id) refl (h id) (sym (put id) ∙ none)

  pub places_of_all : (k : ℕ) (places : BTreeMap Id ℕ) → length ids ≤ k → Right places → Whole k places → ArePlacesOf ids places
  places_of_all k places all right whole id = go (get id_cmp places id) refl
    where
      go : (o : Option ℕ) → get id_cmp places id ≡ o → MatchOption o (Contains ids id → ⊥) (λ j. slice_get ids j ≡ Some id)
      go None e = λ c. whole id e c.0 (omega (arith, c.1, all)) c.2
      go (Some j) e = subst (λ (o : Option ℕ). IfSome o (λ j. slice_get ids j ≡ Some id)) e (right id)
