-- Tags that are looked up by their keys.
use Rattle.std.proofs.Common.{◌≡◌, ℕ, zero, suc, None, Bool, true, false, ◌&&◌, ◌||◌, nat_eq, List, [], ◌∷◌, map, refl, sym, ap, ap₂, ◌∙◌, arith}
use Rattle.std.specs.Prelude.{bytes_eq, slice_index_or}
use Rattle.std.specs.List.{list_any, slice_get}
use Rattle.std.proofs.lemmas.Bool.Decides.{nat_tests}
use Rattle.nostr_filter.specs.declared.conditions.TagCondition.{TagCondition}
use Rattle.nostr_filter.specs.Matching.{tag_meets, tags_meet}
use Rattle.nostr_filter.specs.Members.{has_text}
use Rattle.nostr_filter.specs.TagOrders.{key_of, keys_of}

-- ---- some of a list

never : {X : Type 0} (xs : List X) → list_any (λ x. false) xs ≡ false
never [] = refl
never (x ∷ xs) = never xs

same_any : {X : Type 0} (p q : X → Bool) (xs : List X) → ((x : X) → p x ≡ q x) → list_any p xs ≡ list_any q xs
same_any p q [] e = refl
same_any p q (x ∷ xs) e = ap₂ (λ a b. a || b) (e x) (same_any p q xs e)

any_map : {X Y : Type 0} (p : Y → Bool) (f : X → Y) (xs : List X) → list_any p (map f xs) ≡ list_any (λ x. p (f x)) xs
any_map p f [] = refl
any_map p f (x ∷ xs) = ap (λ b. p (f x) || b) (any_map p f xs)

or_four : (a b c d : Bool) → ((a || b) || (c || d)) ≡ ((a || c) || (b || d))
or_four true b c d = refl
or_four false true true d = refl
or_four false true false d = refl
or_four false false true d = refl
or_four false false false d = refl

any_or : {X : Type 0} (p q : X → Bool) (xs : List X) → list_any (λ x. p x || q x) xs ≡ (list_any p xs || list_any q xs)
any_or p q [] = refl
any_or p q (x ∷ xs) = ap (λ b. (p x || q x) || b) (any_or p q xs) ∙ or_four (p x) (q x) (list_any p xs) (list_any q xs)

any_both : {X Y : Type 0} (f : X → Y → Bool) (xs : List X) (ys : List Y) → list_any (λ x. list_any (λ y. f x y) ys) xs ≡ list_any (λ y. list_any (λ x. f x y) xs) ys
any_both f [] ys = sym (never ys)
any_both f (x ∷ xs) ys =
    ap (λ b. list_any (λ y. f x y) ys || b) (any_both f xs ys)
    ∙ sym (any_or (λ y. f x y) (λ y. list_any (λ z. f z y) xs) ys)

any_under : {X : Type 0} (b : Bool) (p : X → Bool) (xs : List X) → list_any (λ x. b && p x) xs ≡ (b && list_any p xs)
any_under true p xs = refl
any_under false p xs = never xs

-- ---- keys

-- past the last tag stands no key
pub no_key : (tags : List (List (List ℕ))) (place : ℕ) → slice_get tags place ≡ None → slice_index_or (keys_of tags) place [] ≡ []
no_key [] place missing = refl
no_key (t ∷ tags) zero missing = cc
no_key (t ∷ tags) (suc place) missing = no_key tags place missing

nat_eq_sym : (a b : ℕ) → nat_eq a b ≡ nat_eq b a
nat_eq_sym a b = grind (arith, nat_tests)

bytes_eq_sym : (a b : List ℕ) → bytes_eq a b ≡ bytes_eq b a
bytes_eq_sym [] [] = refl
bytes_eq_sym [] (y ∷ b) = refl
bytes_eq_sym (x ∷ a) [] = refl
bytes_eq_sym (x ∷ a) (y ∷ b) = ap₂ (λ p q. p && q) (nat_eq_sym x y) (bytes_eq_sym a b)

longer : (b h : Bool) → ((b && false) && h) ≡ false
longer true h = refl
longer false h = refl

alone : (b h : Bool) → ((b && true) && h) ≡ (b && h)
alone true h = refl
alone false h = refl

key_meets : (c : TagCondition) (t : List (List ℕ)) → tag_meets c t ≡ list_any (λ v. bytes_eq (key_of t) (c.letter ∷ v)) c.values
key_meets c [] = sym (never c.values)
key_meets c ([] ∷ []) = sym (never c.values)
key_meets c ((x ∷ []) ∷ []) = sym (never c.values)
key_meets c ((x ∷ y ∷ ys) ∷ []) = sym (never c.values)
key_meets c ([] ∷ value ∷ more) = sym (never c.values)
key_meets c ((x ∷ []) ∷ value ∷ more) =
    alone (nat_eq x c.letter) (has_text c.values value)
    ∙ ap (λ b. nat_eq x c.letter && b) (same_any (λ v. bytes_eq v value) (λ v. bytes_eq value v) c.values (λ v. bytes_eq_sym v value))
    ∙ sym (any_under (nat_eq x c.letter) (λ v. bytes_eq value v) c.values)
key_meets c ((x ∷ y ∷ ys) ∷ value ∷ more) = longer (nat_eq x c.letter) (has_text c.values value) ∙ sym (never c.values)

-- some tag meets the condition just where one of its values is behind its letter in some key
pub tags_found : (tags : List (List (List ℕ))) (c : TagCondition) → tags_meet tags c ≡ list_any (λ v. has_text (keys_of tags) (c.letter ∷ v)) c.values
tags_found tags c =
    same_any (tag_meets c) (λ t. list_any (λ v. bytes_eq (key_of t) (c.letter ∷ v)) c.values) tags (key_meets c)
    ∙ any_both (λ t v. bytes_eq (key_of t) (c.letter ∷ v)) tags c.values
    ∙ same_any (λ v. list_any (λ t. bytes_eq (key_of t) (c.letter ∷ v)) tags) (λ v. has_text (keys_of tags) (c.letter ∷ v)) c.values
    (λ v. sym (any_map (λ k. bytes_eq k (c.letter ∷ v)) key_of tags))
