-- Sets of ids, as the lists of their keys.
use Rattle.std.proofs.Common.{◌≡◌, ◌+◌, ◌<◌, length, take, get_or, ◌⊎◌, inl, inr, ℕ, List, [], ◌∷◌, refl, sym, ap, subst, ◌∙◌, true, is_eq}
use Rattle.std.specs.Prelude.{Contains, ◌↔◌}
use Rattle.std.specs.declared.cmp.Ordering.{Ordering}
use Rattle.std.specs.declared.cmp.Ordering.TheVariants.{Less, Equal, Greater}
use Rattle.std.specs.Ordering.{match_ordering}
use Rattle.std.specs.Cmp.{IsTotalOrder}
use Rattle.std.specs.BTreeSet.{BTreeSet, IsFromIterResult, insert_key}
use Rattle.std.proofs.lemmas.List.{take_more}
use Rattle.std.proofs.lemmas.List.Elements.{Contains-append_left, Contains-append_right, Contains-append_cases}
use Rattle.std.proofs.lemmas.Cmp.{nat_list_cmp_total, on_total, eq_by_cmp_equiv}
use Rattle.std.proofs.lemmas.Map.Views.{btree_set_contains_iff, Contains-from_any, list_any-from_Contains}
use Rattle.std.proofs.lemmas.Map.Lookups.{CmpEqualImpliesEq, exact_bytes}
use Rattle.neg_codec.proofs.Stretches.{contains_head, contains_tail, contains_cases, contains_none}
use Rattle.item_key.specs.declared.Id.{Id}
use Rattle.neg_initiator.specs.Ids.{id_cmp}

pub id_total : IsTotalOrder id_cmp
id_total = on_total (λ (i : Id). i.0) nat_list_cmp_total

pub id_exact : CmpEqualImpliesEq id_cmp
id_exact a b e = ap (λ (bytes : List ℕ). bytes_id bytes) (exact_bytes a.0 b.0 e)
  where
    bytes_id : List ℕ → Id
    bytes_id bytes = record { 0 = bytes }

pub put_gives : (ks : List Id) (k i : Id) → Contains (insert_key id_cmp ks k) i → Contains ks i ⊎ (i ≡ k)
put_gives [] k i h = elim (contains_cases k [] i h) [ inl e ↦ inr (sym e) | inr n ↦ absurd (contains_none i n) ]
put_gives (x ∷ xs) k i h = go (id_cmp k x) h (λ (g : Contains (insert_key id_cmp xs k) i). put_gives xs k i g)
  where
    go : (o : Ordering) → Contains (match_ordering o (k ∷ x ∷ xs) (x ∷ xs) (x ∷ insert_key id_cmp xs k)) i → (Contains (insert_key id_cmp xs k) i → Contains xs i ⊎ (i ≡ k)) → Contains (x ∷ xs) i ⊎ (i ≡ k)
    go Less h' again = elim (contains_cases k (x ∷ xs) i h') [ inl e ↦ inr (sym e) | inr r ↦ inl r ]
    go Equal h' again = inl h'
    go Greater h' again = elim (contains_cases x (insert_key id_cmp xs k) i h') [
      | inl e ↦ inl (subst (λ (y : Id). Contains (x ∷ xs) y) e (contains_head x xs))
      | inr r ↦ elim (again r) [ inl old ↦ inl (contains_tail x xs i old) | inr e ↦ inr e ]
    ]

pub put_keeps : (ks : List Id) (k i : Id) → Contains ks i → Contains (insert_key id_cmp ks k) i
put_keeps [] k i h = absurd (contains_none i h)
put_keeps (x ∷ xs) k i h = go (id_cmp k x) (λ (g : Contains xs i). put_keeps xs k i g)
  where
    go : (o : Ordering) → (Contains xs i → Contains (insert_key id_cmp xs k) i) → Contains (match_ordering o (k ∷ x ∷ xs) (x ∷ xs) (x ∷ insert_key id_cmp xs k)) i
    go Less again = contains_tail k (x ∷ xs) i h
    go Equal again = h
    go Greater again = elim (contains_cases x xs i h) [
      | inl e ↦ subst (λ (y : Id). Contains (x ∷ insert_key id_cmp xs k) y) e (contains_head x (insert_key id_cmp xs k))
      | inr r ↦ contains_tail x (insert_key id_cmp xs k) i (again r)
    ]

pub put_there : (ks : List Id) (k : Id) → Contains (insert_key id_cmp ks k) k
put_there [] k = contains_head k []
put_there (x ∷ xs) k = go (id_cmp k x) refl (put_there xs k)
  where
    go : (o : Ordering) → id_cmp k x ≡ o → Contains (insert_key id_cmp xs k) k → Contains (match_ordering o (k ∷ x ∷ xs) (x ∷ xs) (x ∷ insert_key id_cmp xs k)) k
    go Less is again = contains_head k (x ∷ xs)
    go Equal is again = subst (λ (y : Id). Contains (x ∷ xs) y) (sym (id_exact k x is)) (contains_head x xs)
    go Greater is again = contains_tail x (insert_key id_cmp xs k) k again

-- one element more of a list
pub seen_gives : {X : Type 0} → (xs : List X) (n : ℕ) (d x : X) → n < length xs → Contains (take (n + 1) xs) x → Contains (take n xs) x ⊎ (x ≡ get_or xs n d)
seen_gives {X} xs n d x lt h = elim (Contains-append_cases (take n xs) (get_or xs n d ∷ []) x (subst (λ (t : List X). Contains t x) (take_more xs n d lt) h)) [
  | inl old ↦ inl old
  | inr new ↦ elim (contains_cases (get_or xs n d) [] x new) [ inl e ↦ inr (sym e) | inr n' ↦ absurd (contains_none x n') ]
]

pub seen_keeps : {X : Type 0} → (xs : List X) (n : ℕ) (d x : X) → n < length xs → Contains (take n xs) x → Contains (take (n + 1) xs) x
seen_keeps {X} xs n d x lt h = subst (λ (t : List X). Contains t x) (sym (take_more xs n d lt)) (Contains-append_left (take n xs) (get_or xs n d ∷ []) x h)

pub seen_there : {X : Type 0} → (xs : List X) (n : ℕ) (d : X) → n < length xs → Contains (take (n + 1) xs) (get_or xs n d)
seen_there {X} xs n d lt = subst (λ (t : List X). Contains t (get_or xs n d)) (sym (take_more xs n d lt)) (Contains-append_right (take n xs) (get_or xs n d ∷ []) (get_or xs n d) (contains_head (get_or xs n d) []))

equal_of : (o : Ordering) → is_eq o ≡ true → o ≡ Equal
equal_of Less e = cc
equal_of Equal e = refl
equal_of Greater e = cc

-- a set made of a list has its ids
pub made_of : (ids : List Id) (s : BTreeSet Id) → IsFromIterResult id_cmp ids s → (i : Id) → Contains s.keys i ↔ Contains ids i
made_of ids s from i = (
  λ h. Contains-from_any (λ x y e. id_exact x y (equal_of (id_cmp x y) e)) i ids (sym (from.0 i) ∙ (btree_set_contains_iff id_total id_exact s i).1 h),
  λ h. (btree_set_contains_iff id_total id_exact s i).0 (from.0 i ∙ list_any-from_Contains (eq_by_cmp_equiv id_total) i ids h),
)
