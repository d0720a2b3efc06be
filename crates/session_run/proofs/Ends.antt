-- Lists with each element's place.
use Rattle.std.proofs.Common.{◌≡◌, ◌<◌, ◌≤◌, ◌+◌, ◌++◌, ◌∷◌, [], ◌∙◌, ℕ, List, sym, ap, arith, length, take, flat_map, get_or}
use Rattle.std.specs.List.{enumerate_from}
use Rattle.std.proofs.lemmas.List.{append-nil, take_more, take_all}
use Rattle.std.proofs.lemmas.List.FromFn.{length-enumerate_from, get_or-enumerate_from}
use Rattle.std.proofs.lemmas.Grind.{flat_map-append}

module _ {X : Type 0} (f : ℕ × X → List ℕ) (xs : List X) where
  pub one_more : (i : ℕ) (x : X) → i < length xs → x ≡ get_or xs i x
      → flat_map f (take (i + 1) (enumerate_from 0 xs)) ≡ flat_map f (take i (enumerate_from 0 xs)) ++ f (i, x)
  one_more i x lt is =
      let all = enumerate_from 0 xs in
      let lt' : i < length all = rw (length-enumerate_from 0 xs) lt in
      let e : 0 + i ≡ i = omega arith in
      let found : get_or all i (0, x) ≡ (i, x) = get_or-enumerate_from 0 xs i (0, x) lt ∙ ap {B = ℕ × X} (λ n. (n, get_or xs i x)) e ∙ ap {B = ℕ × X} (λ y. (i, y)) (sym is) in
      ap (λ zs. flat_map f zs) (take_more all i (0, x) lt')
      ∙ flat_map-append f (take i all) (get_or all i (0, x) ∷ [])
      ∙ ap (λ p. flat_map f (take i all) ++ flat_map f (p ∷ [])) found
      ∙ ap (λ zs. flat_map f (take i all) ++ zs) (append-nil (f (i, x)))

  pub all_taken : (n : ℕ) → length xs ≤ n → flat_map f (take n (enumerate_from 0 xs)) ≡ flat_map f (enumerate_from 0 xs)
  all_taken n le = ap (λ zs. flat_map f zs) (take_all n (enumerate_from 0 xs) (rw (length-enumerate_from 0 xs) le))
