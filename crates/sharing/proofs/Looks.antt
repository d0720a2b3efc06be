-- What stands beside an id, in pairs whose ids are in order.
use Rattle.std.proofs.Common.{◌≡◌, ℕ, ◌+◌, ◌==◌, true, cond, List, [], ◌∷◌, map, Some, get_or, refl, sym, ap, ◌∙◌, subst, arith, inl, inr}
use Rattle.std.specs.Prelude.{unwrap_or, count_by}
use Rattle.std.specs.declared.cmp.Ordering.TheVariants.{Less}
use Rattle.std.specs.List.{All}
use Rattle.std.proofs.lemmas.Bool.{false≢true, or_cases, eqb-true}
use Rattle.std.proofs.lemmas.List.Elements.{All-head, All-tail, All-cons, All-nil}
use Rattle.std.proofs.lemmas.List.Sums.{sum_by-cons}
use Rattle.item_key.specs.declared.Id.{Id}
use Rattle.sharing.specs.Sharing.{is_among, load, taken}
use Rattle.sharing.specs.Offers.{id_cmp, Ascend, beside, relay_in}
use Rattle.sharing.proofs.Orders.{id_itself, id_apart, head_sorted, tail_sorted, All-unmap}

-- what each of a list passes, a member passes
pub among_each : (P : ℕ → Type 0) (xs : List ℕ) (r : ℕ) → All P xs → is_among xs r ≡ true → P r
among_each P [] r h m = absurd (false≢true m)
among_each P (x ∷ xs) r h m =
    elim (or_cases (r == x) (is_among xs r) m) [
      | inl e ↦ subst P (sym (eqb-true r x e)) (All-head P x xs h)
      | inr e ↦ among_each P xs r (All-tail P x xs h) e
    ]

pub map_agrees : {X Y : Type 0} (f g : X → Y) (xs : List X) → All (λ x. f x ≡ g x) xs → map f xs ≡ map g xs
map_agrees f g [] h = refl
map_agrees f g (x ∷ xs) h = ap (λ y. y ∷ map f xs) (All-head (λ x. f x ≡ g x) x xs h) ∙ ap (λ ys. g x ∷ ys) (map_agrees f g xs (All-tail (λ x. f x ≡ g x) x xs h))

pub map_itself : {X : Type 0} (xs : List X) → map (λ x. x) xs ≡ xs
map_itself [] = refl
map_itself (x ∷ xs) = ap (λ ys. x ∷ ys) (map_itself xs)

pub map_twice : {X Y Z : Type 0} (f : Y → Z) (g : X → Y) (xs : List X) → map f (map g xs) ≡ map (λ x. f (g x)) xs
map_twice f g [] = refl
map_twice f g (x ∷ xs) = ap (λ ys. f (g x) ∷ ys) (map_twice f g xs)

module _ {X : Type 0} where
  -- each pair's value stands beside its id
  pub found_itself : (pairs : List (Id × X)) → Ascend (map (λ p. p.0) pairs) → All (λ p. beside pairs p.0 ≡ Some p.1) pairs
  found_itself [] h = All-nil (λ p. beside {X = X} [] p.0 ≡ Some p.1)
  found_itself (x ∷ xs) h =
      let later : All (λ (p : Id × X). id_cmp x.0 p.0 ≡ Less) xs = All-unmap (λ i. id_cmp x.0 i ≡ Less) (λ (p : Id × X). p.0) xs (head_sorted id_cmp x.0 (map (λ p. p.0) xs) h) in
      let rest : All (λ p. beside xs p.0 ≡ Some p.1) xs = found_itself xs (tail_sorted id_cmp x.0 (map (λ p. p.0) xs) h) in
      All-cons (λ p. beside (x ∷ xs) p.0 ≡ Some p.1) x xs
      (ap (λ b. cond b (Some x.1) (beside xs x.0)) (id_itself x.0))
      (λ k d lt. ap (λ b. cond b (Some x.1) (beside xs (get_or xs k d).0)) (id_apart x.0 (get_or xs k d).0 (later k d lt)) ∙ rest k d lt)

  -- looked up by their ids, pairs give themselves
  pub looked_up : (pairs : List (Id × X)) (d : X) → Ascend (map (λ p. p.0) pairs) → map (λ i. (i, unwrap_or (beside pairs i) d)) (map (λ p. p.0) pairs) ≡ pairs
  looked_up pairs d h =
      let found : All (λ p. beside pairs p.0 ≡ Some p.1) pairs = found_itself pairs h in
      map_twice (λ i. (i, unwrap_or (beside pairs i) d)) (λ (p : Id × X). p.0) pairs
      ∙ map_agrees (λ (p : Id × X). (p.0, unwrap_or (beside pairs p.0) d)) (λ (p : Id × X). p) pairs (λ k e lt. ap (λ o. ((get_or pairs k e).0, unwrap_or o d)) (found k e lt))
      ∙ map_itself pairs

-- the relay that an id is given to is the one that stands beside it
pub gives_agree : (gives : List (Id × ℕ)) → Ascend (map (λ p. p.0) gives) → All (λ g. relay_in gives g.0 ≡ g.1) gives
gives_agree gives h k d lt = let found : All (λ p. beside gives p.0 ≡ Some p.1) gives = found_itself gives h in ap (λ o. unwrap_or o 0) (found k d lt)

-- where the gives are of the offers' ids, a relay has as many ids as gives
pub taken_by_gives : (f : Id → ℕ) (offers : List (Id × List ℕ)) (gives : List (Id × ℕ)) (r : ℕ) → map (λ p. p.0) offers ≡ map (λ p. p.0) gives → All (λ g. f g.0 ≡ g.1) gives → taken f offers r ≡ count_by (λ g. g.1 == r) gives
taken_by_gives f [] [] r same agrees = refl
taken_by_gives f [] (g ∷ gs) r same agrees = absurd (cc)
taken_by_gives f (o ∷ os) [] r same agrees = absurd (cc)
taken_by_gives f (o ∷ os) (g ∷ gs) r same agrees =
    let head : o.0 ≡ g.0 = cc in
    let tail : map (λ p. p.0) os ≡ map (λ p. p.0) gs = cc in
    omega (
      arith,
      taken_by_gives f os gs r tail (All-tail (λ (g : Id × ℕ). f g.0 ≡ g.1) g gs agrees),
      sum_by-cons (λ (p : Id × List ℕ). cond (f p.0 == r) 1 0) o os,
      sum_by-cons (λ (p : Id × ℕ). cond (p.1 == r) 1 0) g gs,
      ap {B = ℕ} (λ x. cond (x == r) 1 0) (ap f head ∙ All-head (λ (g : Id × ℕ). f g.0 ≡ g.1) g gs agrees),
    )

pub load_by_gives : (base : ℕ → ℕ) (f : Id → ℕ) (offers : List (Id × List ℕ)) (gives : List (Id × ℕ)) (r : ℕ) → map (λ p. p.0) offers ≡ map (λ p. p.0) gives → All (λ g. f g.0 ≡ g.1) gives → load base f offers r ≡ base r + count_by (λ g. g.1 == r) gives
load_by_gives base f offers gives r same agrees = ap (λ n. base r + n) (taken_by_gives f offers gives r same agrees)
