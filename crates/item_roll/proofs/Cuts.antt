-- The part of a roll between two bounds is a piece of the list.
use Rattle.std.proofs.Common.{◌≡◌, ℕ, ◌-◌, ◌<◌, ◌≤◌, inl, inr, Bool, true, false, ltb, leb, ◌&&◌, List, [], ◌∷◌, length, take, drop, refl, sym, ap, ◌∙◌, arith}
use Rattle.std.specs.Prelude.{All, filter}
use Rattle.std.proofs.Math.Nat.{suc-sub-suc, sub-zero}
use Rattle.std.proofs.lemmas.Bool.{cases_lt, lt-ltb, le-ltb, le-leb, lt-leb}
use Rattle.std.proofs.lemmas.List.Elements.{All-cons, All-head, All-tail}
use Rattle.item_key.specs.declared.Item.{Item}
use Rattle.item_key.specs.Keys.{place}
use Rattle.item_roll.specs.Parts.{Ascending, is_between, part, count_below}

none_below : (b : ℕ) (xs : List Item) → All (λ y. b ≤ place y) xs → filter (λ k. ltb (place k) b) xs ≡ []
none_below b [] h = refl
none_below b (x ∷ xs) h = rw (le-ltb (place x) b (All-head (λ y. b ≤ place y) x xs h)) (none_below b xs (All-tail (λ y. b ≤ place y) x xs h))

none_between : (l u : Item) (xs : List Item) → All (λ y. place u ≤ place y) xs → filter (is_between l u) xs ≡ []
none_between l u [] h = refl
none_between l u (x ∷ xs) h =
    let out : (leb (place l) (place x) && ltb (place x) (place u)) ≡ false = rw (le-ltb (place x) (place u) (All-head (λ y. place u ≤ place y) x xs h)) (no_and (leb (place l) (place x))) in
    rw out (none_between l u xs (All-tail (λ y. place u ≤ place y) x xs h))
  where
    no_and : (b : Bool) → (b && false) ≡ false
    no_and true = refl
    no_and false = refl

above : (b : ℕ) (x : Item) (xs : List Item) → b ≤ place x → All (λ y. place x < place y) xs → All (λ y. b ≤ place y) xs
above b x xs le h = λ k d lt. omega (arith, h k d lt)

-- lower <= upper: the items between them are those from the lower's count on, up to the upper's
pub part_is : (items : List Item) (l u : Item) → Ascending items → place l ≤ place u → part items l u ≡ take (count_below items u - count_below items l) (drop (count_below items l) items)
unfolding part count_below
part_is [] l u up le = refl
part_is (x ∷ xs) l u up le = elim (cases_lt (place x) (place l)) [
  | inl low ↦
      let a : ltb (place x) (place l) ≡ true = lt-ltb _ _ low in
      let b : ltb (place x) (place u) ≡ true = lt-ltb (place x) (place u) (omega arith) in
      let c : leb (place l) (place x) ≡ false = lt-leb _ _ low in
      rw (a, b, c, suc-sub-suc) (part_is xs l u up.1 le)
  | inr in_low ↦ elim (cases_lt (place x) (place u)) [
    | inl in_high ↦
        let a : ltb (place x) (place l) ≡ false = le-ltb _ _ in_low in
        let b : ltb (place x) (place u) ≡ true = lt-ltb _ _ in_high in
        let c : leb (place l) (place x) ≡ true = le-leb _ _ in_low in
        let none = none_below (place l) xs (above (place l) x xs in_low up.0) in
        let ih = part_is xs l u up.1 le in
        rw (a, b, c, none, sub-zero) (ap (λ (t : List Item). x ∷ t) (rw (none, sub-zero) at ih))
    | inr high ↦
        let all : All (λ y. place u ≤ place y) (x ∷ xs) = All-cons (λ y. place u ≤ place y) x xs high (above (place u) x xs high up.0) in
        let hu = none_below (place u) (x ∷ xs) all in
        let lower = length (filter (λ k. ltb (place k) (place l)) (x ∷ xs)) in
        let zero_is : length (filter (λ k. ltb (place k) (place u)) (x ∷ xs)) - length (filter (λ k. ltb (place k) (place l)) (x ∷ xs)) ≡ 0 = omega (arith, ap length hu) in
        none_between l u (x ∷ xs) all ∙ sym (ap (λ (n : ℕ). take n (drop (length (filter (λ k. ltb (place k) (place l)) (x ∷ xs))) (x ∷ xs))) zero_is)
  ]
]
