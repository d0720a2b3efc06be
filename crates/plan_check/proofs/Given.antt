-- What gives say of offers.
use Rattle.std.proofs.Common.{◌≡◌, ℕ, zero, suc, ◌+◌, ◌<◌, ◌≤◌, ◌==◌, ◌&&◌, Bool, true, false, cond, List, [], ◌∷◌, ◌++◌, length, map, take, get_or, Option, Some, None, refl, ap, sym, ◌∙◌, arith, inl, inr}
use Rattle.std.specs.Prelude.{count_by, sum_by, unwrap_or}
use Rattle.std.specs.Map.{lookup}
use Rattle.std.specs.Global.{Vec}
use Rattle.std.specs.Ordering.{nat_cmp}
use Rattle.std.specs.declared.cmp.Ordering.TheVariants.{Less}
use Rattle.std.specs.List.{All, list_all}
use Rattle.std.specs.List.Sorted.{IsStrictlySortedBy}
use Rattle.std.proofs.lemmas.Bool.{ne_eqb, eq-eqb, cases_Bool}
use Rattle.std.proofs.lemmas.List.Elements.{All-nil, All-cons, All-head, All-tail}
use Rattle.std.proofs.lemmas.List.Sums.{sum_by-cons, count_by_more_yes, count_by_more_no}
use Rattle.item_key.specs.declared.Id.{Id}
use Rattle.sharing.specs.declared.TheConstants.{RELAYS, MOST_BASE}
use Rattle.sharing.specs.Sharing.{is_among, alone}
use Rattle.sharing.specs.Bases.{base_in}
use Rattle.sharing.proofs.Orders.{All-unmap, head_sorted, tail_sorted, lt_from_less}
use Rattle.plan_check.specs.File.{IsBase, pairs_of}
use Rattle.plan_check.specs.Verdict.{given_count}

pub sum_same : (f g : ℕ → ℕ) → ((r : ℕ) → f r ≡ g r) → (rs : List ℕ) → sum_by f rs ≡ sum_by g rs
sum_same f g same [] = refl
sum_same f g same (r ∷ rs) = omega (arith, sum_by-cons f r rs, sum_by-cons g r rs, same r, sum_same f g same rs)

pub none_given : (gives : List (Id × ℕ)) (r : ℕ) → All (λ g. g.1 < RELAYS) gives → RELAYS ≤ r → 0 ≡ given_count gives r
none_given [] r h le = refl
none_given (g ∷ gs) r h le =
    let head : g.1 < RELAYS = All-head (λ (g : Id × ℕ). g.1 < RELAYS) g gs h in
    omega (arith, none_given gs r (All-tail (λ (g : Id × ℕ). g.1 < RELAYS) g gs h) le, sum_by-cons (λ (g : Id × ℕ). cond (g.1 == r) 1 0) g gs, ap {B = ℕ} (λ b. cond b 1 0) (ne_eqb g.1 r (λ e. absurd (omega arith))))

-- ---- what relays begin with
-- a relay above those of pairs in order stands in none of them
none_behind : (bases : List (ℕ × ℕ)) (r : ℕ) → All (λ b. b.0 < r) bases → lookup (λ x. r == x) bases ≡ None
none_behind [] r h = refl
none_behind (b ∷ bs) r h =
    ap (λ t. cond t (Some b.1) (lookup (λ x. r == x) bs)) (ne_eqb r b.0 (λ e. absurd (let lt : b.0 < r = All-head (λ (b : ℕ × ℕ). b.0 < r) b bs h in omega arith))) ∙ none_behind bs r (All-tail (λ (b : ℕ × ℕ). b.0 < r) b bs h)

abbrev or_some : Option ℕ → Option ℕ → Option ℕ
or_some None other = other
or_some (Some n) other = Some n

-- one pair more
lookup_push : (bases : List (ℕ × ℕ)) (b : ℕ × ℕ) (r : ℕ) → lookup (λ x. r == x) (bases ++ b ∷ []) ≡ or_some (lookup (λ x. r == x) bases) (cond (r == b.0) (Some b.1) None)
lookup_push [] b r = refl
lookup_push (a ∷ more) b r = elim (cases_Bool (r == a.0)) [
  | inl t ↦ ap (λ x. cond x (Some a.1) (lookup (λ x. r == x) (more ++ b ∷ []))) t ∙ sym (ap (λ x. or_some (cond x (Some a.1) (lookup (λ x. r == x) more)) (cond (r == b.0) (Some b.1) None)) t)
  | inr f ↦ ap (λ x. cond x (Some a.1) (lookup (λ x. r == x) (more ++ b ∷ []))) f ∙ lookup_push more b r ∙ sym (ap (λ x. or_some (cond x (Some a.1) (lookup (λ x. r == x) more)) (cond (r == b.0) (Some b.1) None)) f)
]

pub base_here : (bases : List (ℕ × ℕ)) (b : ℕ × ℕ) (r : ℕ) → All (λ a. a.0 < b.0) bases → r ≡ b.0 → base_in (bases ++ b ∷ []) r ≡ b.1
base_here bases b r below is =
    ap (λ q. base_in (bases ++ b ∷ []) q) is ∙ ap (λ o. unwrap_or o 0) (lookup_push bases b b.0)
    ∙ ap (λ o. unwrap_or (or_some o (cond (b.0 == b.0) (Some b.1) None)) 0) (none_behind bases b.0 below)
    ∙ ap (λ t. unwrap_or (cond t (Some b.1) None) 0) (eq-eqb b.0 b.0 refl)

no_more : (o : Option ℕ) → unwrap_or (or_some o None) 0 ≡ unwrap_or o 0
no_more None = refl
no_more (Some n) = refl

pub base_elsewhere : (bases : List (ℕ × ℕ)) (b : ℕ × ℕ) (r : ℕ) → (r ≡ b.0 → ⊥) → base_in (bases ++ b ∷ []) r ≡ base_in bases r
base_elsewhere bases b r other =
    ap (λ o. unwrap_or o 0) (lookup_push bases b r) ∙ ap (λ t. unwrap_or (or_some (lookup (λ x. r == x) bases) (cond t (Some b.1) None)) 0) (ne_eqb r b.0 other)
    ∙ no_more (lookup (λ x. r == x) bases)

-- those in front of a pair have lower relays
pub front_below : (bases : List (ℕ × ℕ)) (i : ℕ) (d : ℕ × ℕ) → IsStrictlySortedBy nat_cmp (map (λ b. b.0) bases) → i < length bases → All (λ a. a.0 < (get_or bases i d).0) (take i bases)
front_below [] i d sorted lt = absurd (omega arith)
front_below (b ∷ bs) zero d sorted lt = All-nil (λ (a : ℕ × ℕ). a.0 < b.0)
front_below (b ∷ bs) (suc i) d sorted lt =
    let first : ℕ × ℕ → ℕ = λ b. b.0 in
    let less : All (λ (a : ℕ × ℕ). nat_cmp b.0 a.0 ≡ Less) bs = All-unmap (λ y. nat_cmp b.0 y ≡ Less) first bs (head_sorted nat_cmp b.0 (map first bs) sorted) in
    All-cons (λ (a : ℕ × ℕ). a.0 < (get_or bs i d).0) b (take i bs) (lt_from_less b.0 _ (less i d (omega arith)))
    (front_below bs i d (tail_sorted nat_cmp b.0 (map first bs) sorted) (omega arith))

-- a relay's base is one that a pair has, or none
pub base_le : (bases : List (ℕ × ℕ)) (r : ℕ) → All IsBase bases → base_in bases r ≤ MOST_BASE
base_le [] r h = omega arith
base_le (b ∷ bs) r h = elim (cases_Bool (r == b.0)) [
  | inl t ↦ omega (arith, ap (λ x. unwrap_or (cond x (Some b.1) (lookup (λ x. r == x) bs)) 0) t, (All-head IsBase b bs h).small)
  | inr f ↦ omega (arith, ap (λ x. unwrap_or (cond x (Some b.1) (lookup (λ x. r == x) bs)) 0) f, base_le bs r (All-tail IsBase b bs h))
]

pub no_base : (bases : List (ℕ × ℕ)) (r : ℕ) → All IsBase bases → RELAYS ≤ r → base_in bases r ≡ 0
no_base [] r h le = refl
no_base (b ∷ bs) r h le =
    ap (λ t. unwrap_or (cond t (Some b.1) (lookup (λ x. r == x) bs)) 0) (ne_eqb r b.0 (λ e. absurd (omega (arith, (All-head IsBase b bs h).relay)))) ∙ no_base bs r (All-tail IsBase b bs h) le

-- tests that agree
pub all_same : {X : Type 0} (p q : X → Bool) → ((x : X) → p x ≡ q x) → (xs : List X) → list_all p xs ≡ list_all q xs
all_same p q same [] = refl
all_same p q same (x ∷ xs) = ap (λ b. b && list_all p xs) (same x) ∙ ap (λ b. q x && b) (all_same p q same xs)

count_by-mapped : {X Y : Type 0} (p : Y → Bool) (f : X → Y) (xs : List X) → count_by p (map f xs) ≡ count_by (λ x. p (f x)) xs
count_by-mapped p f [] = refl
count_by-mapped {X} {Y} p f (x ∷ xs) =
    sum_by-cons (λ (y : Y). cond (p y) 1 0) (f x) (map f xs) ∙ ap (λ n. cond (p (f x)) 1 0 + n) (count_by-mapped p f xs) ∙ sym (sum_by-cons (λ (x : X). cond (p (f x)) 1 0) x xs)

-- one offer more
abbrev pub is_alone : List ℕ → Id × Vec ℕ → Bool
is_alone group o = list_all (is_among group) o.1.items

alone_is : (group : List ℕ) (offers : List (Id × Vec ℕ)) → alone group (pairs_of offers) ≡ count_by (is_alone group) offers
alone_is group offers = count_by-mapped (λ (p : Id × List ℕ). list_all (is_among group) p.1) (λ (o : Id × Vec ℕ). (o.0, o.1.items)) offers

pub alone_more : (group : List ℕ) (offers : List (Id × Vec ℕ)) (i : ℕ) (o : Id × Vec ℕ) → i < length offers → o ≡ get_or offers i o → list_all (is_among group) o.1.items ≡ true
    → alone group (pairs_of (take (i + 1) offers)) ≡ alone group (pairs_of (take i offers)) + 1
alone_more group offers i o lt is all =
    alone_is group (take (i + 1) offers) ∙ count_by_more_yes (is_alone group) offers i o lt (ap (is_alone group) (sym is) ∙ all) ∙ ap (λ n. n + 1) (sym (alone_is group (take i offers)))

pub alone_same : (group : List ℕ) (offers : List (Id × Vec ℕ)) (i : ℕ) (o : Id × Vec ℕ) → i < length offers → o ≡ get_or offers i o → list_all (is_among group) o.1.items ≡ false
    → alone group (pairs_of (take (i + 1) offers)) ≡ alone group (pairs_of (take i offers))
alone_same group offers i o lt is other =
    alone_is group (take (i + 1) offers) ∙ count_by_more_no (is_alone group) offers i o lt (ap (is_alone group) (sym is) ∙ other) ∙ sym (alone_is group (take i offers))
