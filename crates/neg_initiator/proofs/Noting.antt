-- Ids that are noted one after another.
use Rattle.std.proofs.Common.{◌≡◌, ℕ, ◌+◌, ◌<◌, ◌⊎◌, ◌↔◌, IsTrue, inl, inr, Bool, true, false, List, [], ◌∷◌, length, take, drop, get_or, refl, sym, subst}
use Rattle.std.specs.Prelude.{Contains}
use Rattle.std.specs.Cmp.{IsTotalOrder}
use Rattle.std.specs.declared.cmp.Ordering.{Ordering}
use Rattle.std.specs.declared.cmp.Ordering.TheVariants.{Less, Equal}
use Rattle.std.specs.List.Sorted.{IsStrictlySortedBy}
use Rattle.std.proofs.lemmas.Cmp.{tied_itself}
use Rattle.std.proofs.lemmas.List.{take-append-drop}
use Rattle.std.proofs.lemmas.List.Elements.{All-contains, All-from_recursion, Contains-append_left}
use Rattle.neg_codec.proofs.Stretches.{contains_none}
use Rattle.item_key.specs.declared.Id.{Id}
use Rattle.neg_initiator.specs.Listed.{Distinct}
use Rattle.neg_initiator.specs.Notes.{NotesOne, Notes}
use Rattle.neg_initiator.proofs.Keys.{seen_gives, seen_keeps, seen_there}

no_less : (o : Ordering) → o ≡ Less → o ≡ Equal → ⊥
no_less o a b = cc

-- what is in order is distinct
pub sorted_distinct : {X : Type 0} {R : X → X → Ordering} → IsTotalOrder R → (xs : List X) → IsStrictlySortedBy R xs → Distinct xs
unfolding IsStrictlySortedBy
sorted_distinct o [] h = tt
sorted_distinct {R = R} o (x ∷ xs) h =
    (λ c. no_less (R x x) (All-contains (λ y. R x y ≡ Less) xs x (All-from_recursion (λ y. R x y ≡ Less) xs h.0) c) (tied_itself o x), sorted_distinct o xs h.1)

pub not_there : (b : Bool) (P : Type 0) → (IsTrue b ↔ P) → b ≡ false → P → ⊥
not_there b P h e p = let is = h.1 p in no_true b is e
  where
    no_true : (b : Bool) → IsTrue b → b ≡ false → ⊥
    no_true b is e = let t : b ≡ true = is in cc

pub notes_put : (others : List Id) (id : Id) (old new : List Id) → ((i : Id) → Contains new i ↔ (Contains old i ⊎ (i ≡ id))) → (Contains others id → ⊥) → NotesOne others id old new
notes_put others id old new put lacks = record {
  kept = λ i h. (put i).1 (inl h);
  news = λ i h. elim ((put i).0 h) [
    | inl o ↦ inl o
    | inr e ↦ inr (e, λ c. lacks (subst (λ (x : Id). Contains others x) e c))
  ];
  noted = λ h. (put id).1 (inr refl);
}

pub notes_none : (others old : List Id) → Notes others [] old old
notes_none others old = record { kept = λ i h. h; news = λ i h. inl h; noted = λ i h. absurd (contains_none i h) }

whole : (xs : List Id) (n : ℕ) (i : Id) → Contains (take n xs) i → Contains xs i
whole xs n i h = subst (λ (t : List Id). Contains t i) (take-append-drop n xs) (Contains-append_left (take n xs) (drop n xs) i h)

pub there : (xs : List Id) (n : ℕ) (d : Id) → n < length xs → Contains xs (get_or xs n d)
there xs n d lt = whole xs (n + 1) (get_or xs n d) (seen_there xs n d lt)

pub notes_more : (others xs : List Id) (n : ℕ) (d : Id) (old now new : List Id) → n < length xs → Notes others (take n xs) old now → NotesOne others (get_or xs n d) now new → Notes others (take (n + 1) xs) old new
notes_more others xs n d old now new lt was one = record {
  kept = λ i h. one.kept i (was.kept i h);
  news = λ i h. elim (one.news i h) [
    | inl h' ↦ elim (was.news i h') [ inl o ↦ inl o | inr s ↦ inr (seen_keeps xs n d i lt s.0, s.1) ]
    | inr e ↦ inr (subst (λ (x : Id). Contains (take (n + 1) xs) x) (sym e.0) (seen_there xs n d lt), e.1)
  ];
  noted = λ i h lacks. elim (seen_gives xs n d i lt h) [
    | inl before ↦ one.kept i (was.noted i before lacks)
    | inr e ↦ subst (λ (x : Id). Contains new x) (sym e) (one.noted (λ c. lacks (subst (λ (x : Id). Contains others x) (sym e) c)))
  ];
}

-- others that have the same ids
pub notes_same : (others same seen old new : List Id) → ((i : Id) → Contains others i ↔ Contains same i) → Notes others seen old new → Notes same seen old new
notes_same others same seen old new e n = record {
  kept = n.kept;
  news = λ i h. elim (n.news i h) [ inl o ↦ inl o | inr s ↦ inr (s.0, λ c. s.1 ((e i).1 c)) ];
  noted = λ i h lacks. n.noted i h (λ c. lacks ((e i).0 c));
}
