-- What a group of relays has to take in any sharing.
use Rattle.std.proofs.Common.{◌≡◌, ℕ, ◌+◌, ◌-◌, ◌*◌, ◌<◌, ◌≤◌, ◌==◌, Bool, true, false, cond, ◌||◌, ◌&&◌, List, [], ◌∷◌, length, refl, ap, ◌∙◌, arith, inl, inr, ◌⊎◌}
use Rattle.std.specs.List.{All, list_all, sum_by, count_by}
use Rattle.std.proofs.lemmas.List.Sums.{sum_by-cons, sum_by-le}
use Rattle.std.proofs.lemmas.List.Elements.{All-head, All-tail}
use Rattle.std.proofs.lemmas.Bool.{false≢true, cases_lt, or_parts, or_left, or_right, and_from, eq-eqb}
use Rattle.std.proofs.Math.Nat.{mul-le-mul_left, mul_comm}
use Rattle.sharing.specs.Sharing.{is_among, IsSharing, taken, load, alone, Shows, IsGreatest, NoneSmaller}

-- a sum of sums
pub sum_by-add : {X : Type 0} (g h : X → ℕ) (xs : List X) → sum_by (λ x. g x + h x) xs ≡ sum_by g xs + sum_by h xs
sum_by-add g h [] = refl
sum_by-add g h (x ∷ xs) =
    omega (arith, sum_by-add g h xs, sum_by-cons (λ y. g y + h y) x xs, sum_by-cons g x xs, sum_by-cons h x xs)

pub sum_by-zero : {X : Type 0} (xs : List X) → sum_by (λ x. 0) xs ≡ 0
sum_by-zero [] = refl
sum_by-zero (x ∷ xs) = omega (arith, sum_by-zero xs, sum_by-cons (λ y. 0) x xs)

abbrev pub unit : Bool → ℕ
unit b = cond b 1 0

pub unit-le : (b : Bool) → unit b ≤ 1
unit-le true = omega arith
unit-le false = omega arith

pub unit_of_true : (b : Bool) → b ≡ true → unit b ≡ 1
unit_of_true b h = ap unit h

-- one of two
pub or_cases : (a b : Bool) → (a || b) ≡ true → (a ≡ true) ⊎ (b ≡ true)
or_cases true b h = inl refl
or_cases false b h = inr h

pub and_left : (a b : Bool) → (a && b) ≡ true → a ≡ true
and_left true b h = refl
and_left false b h = h

pub and_right : (a b : Bool) → (a && b) ≡ true → b ≡ true
and_right true b h = h
and_right false b h = absurd (false≢true h)

pub true_or_false : (b : Bool) → (b ≡ true) ⊎ (b ≡ false)
true_or_false true = inl refl
true_or_false false = inr refl

-- a relay of the group is counted there
pub counted : (r : ℕ) (group : List ℕ) → is_among group r ≡ true → 1 ≤ count_by (λ x. r == x) group
counted r [] h = absurd (false≢true h)
counted r (x ∷ xs) h =
    elim (or_cases (r == x) (is_among xs r) h) [
      | inl e ↦ omega (arith, sum_by-cons (λ y. unit (r == y)) x xs, unit_of_true (r == x) e)
      | inr e ↦ omega (arith, sum_by-cons (λ y. unit (r == y)) x xs, counted r xs e)
    ]

-- what is among a list has what all of the list have
pub among_all : (p : ℕ → Bool) (rs : List ℕ) (r : ℕ) → ((a b : ℕ) → (a == b) ≡ true → a ≡ b) → list_all p rs ≡ true → is_among rs r ≡ true → p r ≡ true
among_all p [] r same all one = absurd (false≢true one)
among_all p (x ∷ xs) r same all one =
    elim (or_cases (r == x) (is_among xs r) one) [
      | inl e ↦ ap p (same r x e) ∙ and_left (p x) (list_all p xs) all
      | inr e ↦ among_all p xs r same (and_right (p x) (list_all p xs) all) e
    ]

pub eqb_same : (a b : ℕ) → (a == b) ≡ true → a ≡ b
eqb_same a b h = grind arith

module _ {A : Type 0} where
  -- the loads of a group, with one more offer
  pub loads-cons : (f : A → ℕ) (p : A × List ℕ) (offers : List (A × List ℕ)) (group : List ℕ) →
      sum_by (taken f (p ∷ offers)) group ≡ count_by (λ r. f p.0 == r) group + sum_by (taken f offers) group
  loads-cons f p offers [] = refl
  loads-cons f p offers (r ∷ rs) =
      omega (arith, loads-cons f p offers rs, sum_by-cons (taken f (p ∷ offers)) r rs, sum_by-cons (λ r. unit (f p.0 == r)) r rs, sum_by-cons (taken f offers) r rs, sum_by-cons (λ q. unit (f q.0 == r)) p offers)

  -- a sharing takes to the group all ids that are offered there alone
  pub alone-le-loads : (f : A → ℕ) (offers : List (A × List ℕ)) (group : List ℕ) → IsSharing f offers → alone group offers ≤ sum_by (taken f offers) group
  alone-le-loads f [] group h = omega arith
  alone-le-loads f (p ∷ offers) group h =
      let head : is_among p.1 (f p.0) ≡ true = All-head (λ p. is_among p.1 (f p.0) ≡ true) p offers h in
      let rest : alone group offers ≤ sum_by (taken f offers) group = alone-le-loads f offers group (All-tail (λ p. is_among p.1 (f p.0) ≡ true) p offers h) in
      let here : unit (list_all (is_among group) p.1) ≤ count_by (λ r. f p.0 == r) group =
      elim (true_or_false (list_all (is_among group) p.1)) [
        | inl e ↦ omega (arith, unit_of_true (list_all (is_among group) p.1) e, counted (f p.0) group (among_all (is_among group) p.1 (f p.0) eqb_same e head))
        | inr e ↦ omega (arith, ap unit e)
      ] in
      omega (arith, loads-cons f p offers group, sum_by-cons (λ q. unit (list_all (is_among group) q.1)) p offers)

  -- the same with what they begin with
  pub alone_over_base : (base : ℕ → ℕ) (f : A → ℕ) (offers : List (A × List ℕ)) (group : List ℕ) (most : ℕ) → IsSharing f offers → ((r : ℕ) → base r + taken f offers r ≤ most) → sum_by base group + alone group offers ≤ length group * most
  alone_over_base base f offers group most share each =
      omega (arith, alone-le-loads f offers group share, sum_by-add base (taken f offers) group, sum_by-le (λ r. base r + taken f offers r) most group (λ k d h. each _))

pub least_of_group : (size held least most : ℕ) → (least - 1) * size < held → held ≤ size * most → least ≤ most
least_of_group size held least most more fits =
    elim (cases_lt most least) [
      | inl lt ↦
          (let le : most ≤ least - 1 = omega arith in
          absurd (omega (arith, mul-le-mul_left size le, mul_comm size (least - 1))))
      | inr ge ↦ ge
    ]

pub count_absent : (r : ℕ) (group : List ℕ) → is_among group r ≡ false → count_by (λ x. r == x) group ≡ 0
count_absent r [] h = refl
count_absent r (x ∷ xs) h =
    let parts : ((r == x) ≡ false) × (is_among xs r ≡ false) = or_parts (r == x) (is_among xs r) h in
    omega (arith, sum_by-cons (λ y. unit (r == y)) x xs, ap unit parts.0, count_absent r xs parts.1)

-- no relay twice
abbrev pub NoneTwice : List ℕ → Type 0
NoneTwice [] = Unit {0}
NoneTwice (x ∷ xs) = (is_among xs x ≡ false) × NoneTwice xs

pub count_once : (r : ℕ) (group : List ℕ) → NoneTwice group → count_by (λ x. r == x) group ≤ 1
count_once r [] h = omega arith
count_once r (x ∷ xs) h =
    elim (true_or_false (r == x)) [
      | inl e ↦
          (let absent : is_among xs r ≡ false = ap (is_among xs) (eqb_same r x e) ∙ h.0 in
          omega (arith, sum_by-cons (λ y. unit (r == y)) x xs, ap unit e, count_absent r xs absent))
      | inr e ↦ omega (arith, sum_by-cons (λ y. unit (r == y)) x xs, ap unit e, count_once r xs h.1)
    ]

-- all of a list pass a test that each member passes
pub all_from_among : (test : ℕ → Bool) (rs : List ℕ) → ((r : ℕ) → is_among rs r ≡ true → test r ≡ true) → list_all test rs ≡ true
all_from_among test [] h = refl
all_from_among test (x ∷ xs) h =
    and_from (test x) (list_all test xs) (h x (or_left (x == x) (is_among xs x) (eq-eqb x x refl))) (all_from_among test xs (λ r m. h r (or_right (r == x) (is_among xs r) m)))

-- an id that is taken into the group is offered there alone
abbrev pub KeepsWithin : {A : Type 0} → List ℕ → (A → ℕ) → List (A × List ℕ) → Type 0
KeepsWithin group f offers = All (λ p. is_among group (f p.0) ≡ true → (r : ℕ) → is_among p.1 r ≡ true → is_among group r ≡ true) offers

pub loads-le-alone : {A : Type 0} (f : A → ℕ) (offers : List (A × List ℕ)) (group : List ℕ) → NoneTwice group → KeepsWithin group f offers → sum_by (taken f offers) group ≤ alone group offers
loads-le-alone f [] group once keeps = omega (arith, sum_by-zero group)
loads-le-alone {A} f (p ∷ offers) group once keeps =
    let P : A × List ℕ → Type 0 = λ p. is_among group (f p.0) ≡ true → (r : ℕ) → is_among p.1 r ≡ true → is_among group r ≡ true in
    let rest : sum_by (taken f offers) group ≤ alone group offers = loads-le-alone f offers group once (All-tail P p offers keeps) in
    let here : count_by (λ r. f p.0 == r) group ≤ unit (list_all (is_among group) p.1) =
    elim (true_or_false (is_among group (f p.0))) [
      | inl e ↦ omega (arith, count_once (f p.0) group once, unit_of_true (list_all (is_among group) p.1) (all_from_among (is_among group) p.1 (All-head P p offers keeps e)))
      | inr e ↦ omega (arith, count_absent (f p.0) group e)
    ] in
    omega (arith, loads-cons f p offers group, sum_by-cons (λ q. unit (list_all (is_among group) q.1)) p offers)

-- each of a group has low or more
pub sum_from_below : (g : ℕ → ℕ) (low : ℕ) (group : List ℕ) → ((r : ℕ) → is_among group r ≡ true → low ≤ g r) → low * length group ≤ sum_by g group
sum_from_below g low [] h = omega arith
sum_from_below g low (x ∷ xs) h =
    omega (arith, sum_by-cons g x xs, h x (or_left (x == x) (is_among xs x) (eq-eqb x x refl)), sum_from_below g low xs (λ r m. h r (or_right (r == x) (is_among xs r) m)))

-- and one has more
pub sum_over : (g : ℕ → ℕ) (low : ℕ) (group : List ℕ) (one : ℕ) → ((r : ℕ) → is_among group r ≡ true → low ≤ g r) → is_among group one ≡ true → low < g one → low * length group < sum_by g group
sum_over g low [] one h m more = absurd (false≢true m)
sum_over g low (x ∷ xs) one h m more =
    let rest : (r : ℕ) → is_among xs r ≡ true → low ≤ g r = λ r m. h r (or_right (r == x) (is_among xs r) m) in
    elim (or_cases (one == x) (is_among xs one) m) [
      | inl e ↦ omega (arith, sum_by-cons g x xs, ap g (eqb_same one x e), sum_from_below g low xs rest)
      | inr e ↦ omega (arith, sum_by-cons g x xs, h x (or_left (x == x) (is_among xs x) (eq-eqb x x refl)), sum_over g low xs one rest e more)
    ]

some_among : (group : List ℕ) (r : ℕ) → is_among group r ≡ true → 0 < length group
some_among [] r h = absurd (false≢true h)
some_among (x ∷ xs) r h = omega arith

-- a group that moves do not leave, whose relays have almost as much as the busiest one in it, shows that number
pub shows_from_closed : {A : Type 0} (base : ℕ → ℕ) (f : A → ℕ) (offers : List (A × List ℕ)) (group : List ℕ) (most one : ℕ) → NoneTwice group → KeepsWithin group f offers →
    ((r : ℕ) → is_among group r ≡ true → most ≤ load base f offers r + 1) → 0 < most → is_among group one ≡ true → load base f offers one ≡ most → Shows base group offers most
shows_from_closed base f offers group most one once keeps high some m e =
    inr (
      some_among group one m,
      omega (
        arith,
        loads-le-alone f offers group once keeps,
        sum_by-add base (taken f offers) group,
        sum_over (load base f offers) (most - 1) group one (λ r m. omega (arith, high r m)) m (omega (arith, e)),
      ),
    )

-- no sharing has a busiest load below what a group shows
pub none_smaller : {A : Type 0} (base : ℕ → ℕ) (offers : List (A × List ℕ)) (group : List ℕ) (least : ℕ) → Shows base group offers least → NoneSmaller base offers least
none_smaller base offers group least shows g most share greatest =
    elim shows [
      | inl none ↦ omega arith
      | inr more ↦ least_of_group (length group) (sum_by base group + alone group offers) least most more.1 (alone_over_base base g offers group most share greatest.0)
    ]

pub no_base : (base : ℕ → ℕ) (group : List ℕ) → ((r : ℕ) → base r ≡ 0) → sum_by base group ≡ 0
no_base base [] none = refl
no_base base (x ∷ xs) none = omega (arith, no_base base xs none, sum_by-cons base x xs, none x)

pub same_greatest : (loads others : ℕ → ℕ) (most : ℕ) → ((r : ℕ) → loads r ≡ others r) → IsGreatest loads most → IsGreatest others most
same_greatest loads others most same greatest = (λ r. omega (arith, same r, greatest.0 r), (greatest.1.0, omega (arith, same greatest.1.0, greatest.1.1)))
