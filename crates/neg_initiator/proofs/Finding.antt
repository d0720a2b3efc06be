-- What is found in one stretch of a reply.
use Rattle.std.proofs.Common.{◌≡◌, ℕ, ◌++◌, ◌<◌, inl, inr, List, [], ◌∷◌, refl, sym, subst}
use Rattle.std.specs.Prelude.{Contains}
use Rattle.std.proofs.lemmas.List.Elements.{Contains-append_left, Contains-append_right, Contains-append_cases}
use Rattle.neg_codec.proofs.Stretches.{contains_head, contains_cases, contains_none}
use Rattle.item_key.specs.declared.Id.{Id}
use Rattle.item_key.specs.declared.Item.{Item}
use Rattle.item_key.specs.Keys.{place}
use Rattle.neg_codec.specs.Ranges.{Claim, print, ids, Span}
use Rattle.neg_print.specs.Print.{print_of}
use Rattle.item_roll.specs.Parts.{part, ids_of}
use Rattle.item_roll.specs.Truth.{Says, IsTrueOf}
use Rattle.neg_draft.specs.Coverage.{begun_at}
use Rattle.neg_initiator.specs.Notes.{Notes}
use Rattle.neg_initiator.specs.Settling.{Findings, AccountsFor, Finds}

abbrev pub listed_to : Item → List Id → Span
listed_to upper is = record { upper = upper; claim = ids is }

pub finds_ids : (a : List Item) (lower upper : Item) (is own : List Id) (old new : Findings) → place lower < place upper → own ≡ ids_of (part a lower upper)
    → Notes own is old.need new.need → Notes is own old.have new.have → new.trusted ≡ old.trusted → Finds a lower (listed_to upper is) old new
finds_ids a lower upper is own old new keys e n h t = record {
  need_kept = n.kept;
  have_kept = h.kept;
  trusted_kept = λ x k. subst (λ (xs : List (Item × Item)). Contains xs x) (sym t) k;
  need_new = λ i k. elim (n.news i k) [
    | inl o ↦ inl o
    | inr s ↦ inr (is, refl, s.0, (λ c. s.1 (subst (λ (xs : List Id). Contains xs i) (sym e) c)), keys)
  ];
  have_new = λ i k. elim (h.news i k) [
    | inl o ↦ inl o
    | inr s ↦ inr (is, refl, subst (λ (xs : List Id). Contains xs i) e s.0, s.1, keys)
  ];
  trusted_new = λ x k. inl (subst (λ (xs : List (Item × Item)). Contains xs x) t k);
}

holds_at : (a : List Item) (lower : Item) (r : Span) (p : List ℕ) → r.claim ≡ print p → p ≡ print_of (ids_of (part a lower r.upper)) → IsTrueOf a (begun_at lower r)
holds_at a lower r p claims own = subst (λ (c : Claim). Says c (part a lower r.upper)) (sym claims) own

pub finds_print : (a : List Item) (lower : Item) (r : Span) (p : List ℕ) (old new : Findings) → place lower < place r.upper → r.claim ≡ print p → p ≡ print_of (ids_of (part a lower r.upper))
    → new.need ≡ old.need → new.have ≡ old.have → new.trusted ≡ old.trusted ++ (lower, r.upper) ∷ [] → Finds a lower r old new
finds_print a lower r p old new keys claims own n h t = record {
  need_kept = λ i k. subst (λ (xs : List Id). Contains xs i) (sym n) k;
  have_kept = λ i k. subst (λ (xs : List Id). Contains xs i) (sym h) k;
  trusted_kept = λ x k. subst (λ (xs : List (Item × Item)). Contains xs x) (sym t) (Contains-append_left old.trusted ((lower, r.upper) ∷ []) x k);
  need_new = λ i k. inl (subst (λ (xs : List Id). Contains xs i) n k);
  have_new = λ i k. inl (subst (λ (xs : List Id). Contains xs i) h k);
  trusted_new = λ x k. elim (Contains-append_cases old.trusted ((lower, r.upper) ∷ []) x (subst (λ (xs : List (Item × Item)). Contains xs x) t k)) [
    | inl o ↦ inl o
    | inr s ↦ elim (contains_cases (lower, r.upper) [] x s) [
      | inl e ↦ inr ((p, claims), holds_at a lower r p claims own, e, keys)
      | inr none ↦ absurd (contains_none x none)
    ]
  ];
}

pub accounts_print : (a : List Item) (lower : Item) (r : Span) (p : List ℕ) (f : Findings) (before : List (Item × Item)) → r.claim ≡ print p → p ≡ print_of (ids_of (part a lower r.upper))
    → f.trusted ≡ before ++ (lower, r.upper) ∷ [] → AccountsFor a f lower r.upper r.claim
accounts_print a lower r p f before claims own t =
    subst (λ (c : Claim). AccountsFor a f lower r.upper c) (sym claims)
    (own, subst (λ (xs : List (Item × Item)). Contains xs (lower, r.upper)) (sym t) (Contains-append_right before ((lower, r.upper) ∷ []) (lower, r.upper) (contains_head (lower, r.upper) [])))
