-- Membership in a set of relays, by its bits.
use Rattle.std.proofs.Common.{append-nil, ◌≡◌, ℕ, ◌+◌, ◌-◌, ◌*◌, ◌%◌, ◌^◌, ◌<◌, ◌≤◌, ◌==◌, Bool, true, false, ◌||◌, ◌&&◌, cond, zero, suc, List, [], ◌∷◌, ◌++◌, subst, refl, sym, ap, ◌∙◌, arith, inl, inr, bit_or, bit_and, count_ones, length, min, max, not}
use Rattle.std.specs.Int.{bit_at, bit_not, w128}
use Rattle.std.proofs.Math.Pow.{pow-lt}
use Rattle.std.proofs.lemmas.Nat.{pow-add}
use Rattle.std.proofs.Math.Nat.{mod-eq_of_lt}
use Rattle.std.proofs.lemmas.Nat.{and_le_l, ones_cat, ones_le_self, zero_from_ones, mod-pow-add, mod_below, pow_pos}
use Rattle.sharing.specs.declared.TheConstants.{RELAYS}
use Rattle.std.proofs.lemmas.List.{length-append}
use Rattle.std.proofs.lemmas.Bool.{false≢true, cases_lt, cases_eq, cases_Bool, eq-eqb, ne_eqb, false_from_ne_true, or_left, or_right, and_right, and_parts}
use Rattle.std.proofs.lemmas.Nat.Bits.{bit_at_or, bit_at_and, bit_at_not, bit_at-lt, bit_at-zero, bit_at-pow_same, bit_at-pow_other, bit_at_cat_low, bit_at_cat_high}
use Rattle.std.specs.declared.cmp.Ordering.{Ordering}
use Rattle.std.specs.declared.cmp.Ordering.TheVariants.{Less, Equal, Greater}
use Rattle.std.specs.Ordering.{nat_cmp, match_ordering}
use Rattle.std.specs.List.{All}
use Rattle.std.specs.List.Sorted.{IsStrictlySortedBy}
use Rattle.std.proofs.lemmas.List.Elements.{All-weaker, All-push, All-nil, All-cons}
use Rattle.sharing.specs.Sharing.{is_among}
use Rattle.sharing.specs.Offers.{AreRelays}
use Rattle.sharing.proofs.Orders.{sorted_push, less_from, same_sorted, among_head}
use Rattle.offer_table.specs.Relays.{those, members, bits_of, number, IsFirst}
use Rattle.offer_table.specs.RelayBits.{if_passes, among_those, those_among, bits_of-members, fits}
use Rattle.offer_table.proofs.Cuts.{sorted_cons}

and_true : (b : Bool) → (b && true) ≡ b
and_true true = refl
and_true false = refl

sorted_one : (r : ℕ) → IsStrictlySortedBy nat_cmp (r ∷ [])
unfolding IsStrictlySortedBy
sorted_one r = (tt, tt)

-- below n the members are those that pass
pub among_those_is : (p : ℕ → Bool) (n r : ℕ) → r < n → is_among (those p n) r ≡ p r
among_those_is p n r lt =
    elim (cases_Bool (p r)) [
      | inl e ↦ those_among p n r lt e ∙ sym e
      | inr e ↦ false_from_ne_true (is_among (those p n) r) (λ h. false≢true (sym e ∙ (among_those p n r h).1)) ∙ sym e
    ]

pub none_past : (p : ℕ → Bool) (n r : ℕ) → n ≤ r → is_among (those p n) r ≡ false
none_past p n r le = false_from_ne_true (is_among (those p n) r) (λ h. let lt : r < n = (among_those p n r h).0 in omega arith)

max_bit : (x y : ℕ) → x < 2 → y < 2 → (max x y == 1) ≡ ((x == 1) || (y == 1))
max_bit x y hx hy =
    elim (cases_eq x 1) [
      | inl e ↦ eq-eqb (max x y) 1 (omega arith) ∙ sym (or_left (x == 1) (y == 1) (eq-eqb x 1 e))
      | inr ne ↦ (let z : max x y ≡ y = omega arith in ap (λ k. k == 1) z ∙ sym (ap (λ b. b || (y == 1)) (ne_eqb x 1 ne)))
    ]

sorted_none : {K : Type 0} (c : K → K → Ordering) → IsStrictlySortedBy c []
unfolding IsStrictlySortedBy
sorted_none c = tt

-- in order, each below n
abbrev pub AreBelow : List ℕ → ℕ → Type 0
AreBelow xs n = IsStrictlySortedBy nat_cmp xs × All (λ x. x < n) xs

those_last : (b : Bool) (xs : List ℕ) (n : ℕ) → AreBelow xs n → AreBelow (xs ++ cond b (n ∷ []) []) (suc n)
those_last true xs n h = (sorted_push nat_cmp xs n h.0 (All-weaker (λ x. x < n) (λ x. nat_cmp x n ≡ Less) (λ x lt. less_from x n lt) xs h.1), All-push (λ x. x < suc n) xs n (All-weaker (λ x. x < n) (λ x. x < suc n) (λ x lt. omega arith) xs h.1) (omega arith))
those_last false xs n h = subst (λ ys. AreBelow ys (suc n)) (sym (append-nil xs)) (h.0, All-weaker (λ x. x < n) (λ x. x < suc n) (λ x lt. omega arith) xs h.1)

pub below_those : (p : ℕ → Bool) (n : ℕ) → AreBelow (those p n) n
unfolding those
below_those p zero = (sorted_none nat_cmp, All-nil (λ x. x < zero))
below_those p (suc n) = those_last (p n) (those p n) n (below_those p n)

-- the members are relays, in order
pub relays_members : (bits : ℕ) → AreRelays (members bits)
relays_members bits = let h : AreBelow (members bits) RELAYS = below_those (λ r. bit_at bits r == 1) RELAYS in record { ascend = h.0; small = h.1 }

-- below RELAYS the members are the bits that are set
among_members : (bits r : ℕ) → r < RELAYS → is_among (members bits) r ≡ (bit_at bits r == 1)
among_members bits r lt = among_those_is (λ r. bit_at bits r == 1) RELAYS r lt

pub none_beyond : (bits r : ℕ) → RELAYS ≤ r → is_among (members bits) r ≡ false
none_beyond bits r ge = none_past (λ r. bit_at bits r == 1) RELAYS r ge

-- a member of two words stands in one of them
pub among_low : (high low r : ℕ) → r < 128 → is_among (members (number high low)) r ≡ (bit_at low r == 1)
among_low high low r lt = among_members (number high low) r (omega arith) ∙ ap (λ b. b == 1) (bit_at_cat_low high 128 low r lt)

pub among_high : (high low r : ℕ) → low < 2 ^ 128 → 128 ≤ r → r < RELAYS → is_among (members (number high low)) r ≡ (bit_at high (r - 128) == 1)
among_high high low r l ge lt = among_members (number high low) r lt ∙ ap (λ b. b == 1) (bit_at_cat_high high 128 low r l ge)

-- what is so of two words is so of their members
module _ (op : ℕ → ℕ → ℕ) (f : Bool → Bool → Bool) (law : (a b i : ℕ) → b < 2 ^ 128 → i < 128 → (bit_at (op a b) i == 1) ≡ f (bit_at a i == 1) (bit_at b i == 1)) (none : f false false ≡ false) where
  pub word_by_word : (h l k m r : ℕ) → l < 2 ^ 128 → k < 2 ^ 128 → m < 2 ^ 128 → op l m < 2 ^ 128 → is_among (members (number (op h k) (op l m))) r ≡ f (is_among (members (number h l)) r) (is_among (members (number k m)) r)
  word_by_word h l k m r low high low' small =
      elim (cases_lt r 128) [
        | inl lt ↦ among_low (op h k) (op l m) r lt ∙ law l m r low' lt ∙ sym (ap (λ x. f x (is_among (members (number k m)) r)) (among_low h l r lt) ∙ ap (f (bit_at l r == 1)) (among_low k m r lt))
        | inr ge ↦ elim (cases_lt r RELAYS) [
          | inl lt ↦
              among_high (op h k) (op l m) r small ge lt ∙ law h k (r - 128) high (omega arith)
              ∙ sym (ap (λ x. f x (is_among (members (number k m)) r)) (among_high h l r low ge lt) ∙ ap (f (bit_at h (r - 128) == 1)) (among_high k m r low' ge lt))
          | inr past ↦
              none_beyond (number (op h k) (op l m)) r past
              ∙ sym (ap (λ x. f x (is_among (members (number k m)) r)) (none_beyond (number h l) r past) ∙ ap (f false) (none_beyond (number k m) r past) ∙ none)
        ]
      ]

pub or_law : (a b i : ℕ) → b < 2 ^ 128 → i < 128 → (bit_at (bit_or a b) i == 1) ≡ ((bit_at a i == 1) || (bit_at b i == 1))
or_law a b i small lt = ap (λ k. k == 1) (bit_at_or a b i) ∙ max_bit (bit_at a i) (bit_at b i) (bit_at-lt a i) (bit_at-lt b i)

min_bit : (x y : ℕ) → x < 2 → y < 2 → (min x (1 - y) == 1) ≡ ((x == 1) && not (y == 1))
min_bit x y hx hy =
    elim (cases_eq y 1) [
      | inl e ↦ ne_eqb (min x (1 - y)) 1 (λ h. absurd (omega arith)) ∙ sym (and_right (x == 1) (not (y == 1)) (ap not (eq-eqb y 1 e)))
      | inr ne ↦ (let same : min x (1 - y) ≡ x = omega arith in ap (λ k. k == 1) same ∙ sym (ap (λ b. (x == 1) && not b) (ne_eqb y 1 ne) ∙ and_true (x == 1)))
    ]

pub minus_law : (a b i : ℕ) → b < 2 ^ 128 → i < 128 → (bit_at (bit_and a (bit_not w128 b)) i == 1) ≡ ((bit_at a i == 1) && not (bit_at b i == 1))
minus_law a b i small lt =
    ap (λ k. k == 1) (bit_at_and a (bit_not w128 b) i ∙ ap (min (bit_at a i)) (bit_at_not w128 b i small lt)) ∙ min_bit (bit_at a i) (bit_at b i) (bit_at-lt a i) (bit_at-lt b i)

pub minus_lt : (a b : ℕ) → a < 2 ^ 128 → bit_and a (bit_not w128 b) < 2 ^ 128
minus_lt a b lt = omega (arith, and_le_l a (bit_not w128 b))

-- the members of a power
pub one_member : (k : ℕ) → k < RELAYS → members (2 ^ k) ≡ k ∷ []
one_member k lt =
    same_sorted (members (2 ^ k)) (k ∷ []) (relays_members (2 ^ k)).ascend (sorted_one k) (λ r. elim (cases_eq r k) [
      | inl e ↦ ap (is_among (members (2 ^ k))) e ∙ among_members (2 ^ k) k lt ∙ eq-eqb (bit_at (2 ^ k) k) 1 (bit_at-pow_same k) ∙ sym (ap (λ b. b || false) (eq-eqb r k e))
      | inr ne ↦ elim (cases_lt r RELAYS) [
        | inl small ↦ among_members (2 ^ k) r small ∙ ap (λ b. b == 1) (bit_at-pow_other k r ne) ∙ sym (ap (λ b. b || false) (ne_eqb r k ne))
        | inr past ↦ none_beyond (2 ^ k) r past ∙ sym (ap (λ b. b || false) (ne_eqb r k ne))
      ]
    ])

-- a number has no members just where it is 0
pub none_of_zero : (bits : ℕ) → bits ≡ 0 → members bits ≡ []
unfolding those
none_of_zero bits e = let none : members 0 ≡ [] = refl in ap members e ∙ none

pub zero_of_none : (bits : ℕ) → bits < 2 ^ 256 → members bits ≡ [] → bits ≡ 0
zero_of_none bits small e = sym (bits_of-members bits small) ∙ ap bits_of e

-- the words of a power
pub low_power : (k : ℕ) → k < 128 → number 0 (1 * 2 ^ k % 2 ^ 128) ≡ 2 ^ k
low_power k lt = let small : 1 * 2 ^ k < 2 ^ 128 = omega (arith, pow-lt {i = k} {j = 128} lt) in omega (arith, mod-eq_of_lt small)

pub high_power : (k : ℕ) → 128 ≤ k → k < RELAYS → number (1 * 2 ^ (k - 128) % 2 ^ 128) 0 ≡ 2 ^ k
high_power k ge lt =
    let small : 1 * 2 ^ (k - 128) < 2 ^ 128 = omega (arith, pow-lt {i = k - 128} {j = 128} (omega arith)) in
    let whole : 2 ^ k ≡ 2 ^ (k - 128) * 2 ^ 128 = ap (λ j. 2 ^ j) (let sum : k ≡ (k - 128) + 128 = omega arith in sum) ∙ pow-add 2 (k - 128) 128 in
    omega (arith, mod-eq_of_lt small, whole)

-- the first member and the others
pub first_member : (s others : List ℕ) (k : ℕ) → IsFirst s k → AreRelays others → ((r : ℕ) → is_among others r ≡ (is_among s r && not (is_among (k ∷ []) r))) → s ≡ k ∷ others
first_member s others k first relays less =
    same_sorted s (k ∷ others) first.ordered.ascend
    (sorted_cons nat_cmp k others (behind others (λ r m. m)) relays.ascend)
    (λ r. elim (cases_eq r k) [
      | inl e ↦ ap (is_among s) e ∙ first.member ∙ sym (or_left (r == k) (is_among others r) (eq-eqb r k e))
      | inr ne ↦ sym (ap (λ b. b || is_among others r) (ne_eqb r k ne) ∙ less r ∙ ap (λ b. is_among s r && not (b || false)) (ne_eqb r k ne) ∙ and_true (is_among s r))
    ])
  where
    above : (r : ℕ) → is_among others r ≡ true → nat_cmp k r ≡ Less
    above r m =
        let parts : (is_among s r ≡ true) × (not (is_among (k ∷ []) r) ≡ true) = and_parts (is_among s r) (not (is_among (k ∷ []) r)) (sym (less r) ∙ m) in
        elim (cases_lt k r) [
          | inl more ↦ less_from k r more
          | inr le ↦ elim (cases_eq r k) [
            | inl e ↦ absurd (false≢true (sym (ap (λ b. not (b || false)) (eq-eqb r k e)) ∙ parts.1))
            | inr ne ↦ absurd (false≢true (sym (first.below r (omega arith)) ∙ parts.0))
          ]
        ]

    behind : (xs : List ℕ) → ((r : ℕ) → is_among xs r ≡ true → is_among others r ≡ true) → All (λ y. nat_cmp k y ≡ Less) xs
    behind [] h = All-nil (λ y. nat_cmp k y ≡ Less)
    behind (x ∷ xs) h = All-cons (λ y. nat_cmp k y ≡ Less) x xs (above x (h x (among_head x xs))) (behind xs (λ r m. h r (or_right (r == x) (is_among xs r) m)))

-- the lowest bit of two words
pub first_low : (high low k : ℕ) → k < 128 → bit_at low k ≡ 1 → ((i : ℕ) → i < k → bit_at low i ≡ 0) → IsFirst (members (number high low)) k
first_low high low k lt set below = record {
  small = omega arith;
  member = among_low high low k lt ∙ eq-eqb (bit_at low k) 1 set;
  below = λ i less. among_low high low i (omega arith) ∙ ap (λ b. b == 1) (below i less);
  ordered = relays_members (number high low);
}

pub first_high : (high low k : ℕ) → low ≡ 0 → k < 128 → bit_at high k ≡ 1 → ((i : ℕ) → i < k → bit_at high i ≡ 0) → IsFirst (members (number high low)) (k + 128)
first_high high low k none lt set below = record {
  small = omega arith;
  member = among_high high low (k + 128) (omega (arith, none)) (omega arith) (omega arith) ∙ eq-eqb (bit_at high (k + 128 - 128)) 1 (let same : k + 128 - 128 ≡ k = omega arith in ap (bit_at high) same ∙ set);
  below = λ i less. elim (cases_lt i 128) [
    | inl small ↦ among_low high low i small ∙ ap (λ b. b == 1) (ap (λ n. bit_at n i) none ∙ bit_at-zero i)
    | inr ge ↦ among_high high low i (omega (arith, none)) ge (omega arith) ∙ ap (λ b. b == 1) (below (i - 128) (omega arith))
  ];
  ordered = relays_members (number high low);
}

pub unequal : (o x : Ordering) → (o ≡ Equal → ⊥) → o ≡ match_ordering o Less x Greater
unequal Less x h = refl
unequal Equal x h = absurd (h refl)
unequal Greater x h = refl

-- two words are ordered as one number
pub words_cmp : (h l k m : ℕ) → l < 2 ^ 128 → m < 2 ^ 128 → match_ordering (nat_cmp h k) Less (nat_cmp l m) Greater ≡ nat_cmp (number h l) (number k m)
words_cmp h l k m low low' =
    elim (cases_lt h k) [
      | inl lt ↦ ap (λ o. match_ordering o Less (nat_cmp l m) Greater) (less_from h k lt) ∙ sym (less_from (number h l) (number k m) (omega arith))
      | inr ge ↦ elim (cases_lt k h) [
        | inl lt ↦ ap (λ o. match_ordering o Less (nat_cmp l m) Greater) (more_from h k lt) ∙ sym (more_from (number h l) (number k m) (omega arith))
        | inr le ↦
            (let same : h ≡ k = omega arith in
            ap (λ o. match_ordering o Less (nat_cmp l m) Greater) (equal_from h k same)
            ∙ elim (cases_lt l m) [
              | inl lt ↦ less_from l m lt ∙ sym (less_from (number h l) (number k m) (omega arith))
              | inr ge ↦ elim (cases_lt m l) [
                | inl lt ↦ more_from l m lt ∙ sym (more_from (number h l) (number k m) (omega arith))
                | inr le ↦ equal_from l m (omega arith) ∙ sym (equal_from (number h l) (number k m) (omega arith))
              ]
            ])
      ]
    ]
  where
    more_from : (a b : ℕ) → b < a → nat_cmp a b ≡ Greater
    more_from a b lt = grind arith

    equal_from : (a b : ℕ) → a ≡ b → nat_cmp a b ≡ Equal
    equal_from a b e = grind arith

pub compared : (h l k m : ℕ) (a b : List ℕ) → (h < 2 ^ 128) × (l < 2 ^ 128) → (k < 2 ^ 128) × (m < 2 ^ 128) → members (number h l) ≡ a → members (number k m) ≡ b → match_ordering (nat_cmp h k) Less (nat_cmp l m) Greater ≡ nat_cmp (bits_of a) (bits_of b)
compared h l k m a b first second e g =
    words_cmp h l k m first.1 second.1
    ∙ ap (λ n. nat_cmp n (number k m)) (sym (bits_of-members (number h l) (fits h l first.0 first.1)) ∙ ap bits_of e)
    ∙ ap (nat_cmp (bits_of a)) (sym (bits_of-members (number k m) (fits k m second.0 second.1)) ∙ ap bits_of g)

-- a bit as a list of one number or none
ones_bit : (b n : ℕ) → b < 2 → length (if_passes (b == 1) n) ≡ count_ones b
ones_bit b n lt =
    elim (cases_eq b 1) [
      | inl e ↦ ap (λ t. length (if_passes t n)) (eq-eqb b 1 e) ∙ sym (ap count_ones e ∙ one)
      | inr ne ↦ ap (λ t. length (if_passes t n)) (ne_eqb b 1 ne) ∙ omega (arith, ones_le_self b)
    ]
  where
    one : count_ones 1 ≡ 1
    one = elim (cases_eq (count_ones 1) 0) [ inl e ↦ absurd (omega (arith, zero_from_ones 1 e)) | inr ne ↦ omega (arith, ones_le_self 1) ]

-- there are as many members as bits that are set
ones_below : (bits n : ℕ) → length (those (λ r. bit_at bits r == 1) n) ≡ count_ones (bits % 2 ^ n)
unfolding those
ones_below bits zero = omega (arith, ones_le_self (bits % 1))
ones_below bits (suc n) =
    let next : 1 + n ≡ suc n = omega arith in
    let low : ℕ = bits % 2 ^ n in
    let parts : bits % 2 ^ suc n ≡ bit_at bits n * 2 ^ n + low = sym (ap (λ k. bits % 2 ^ k) next) ∙ mod-pow-add bits 1 n in
    length-append (those (λ r. bit_at bits r == 1) n) (if_passes (bit_at bits n == 1) n)
    ∙ omega (arith, ones_below bits n, ones_bit (bit_at bits n) n (bit_at-lt bits n), ap count_ones parts, ones_cat n (bit_at bits n) low (mod_below bits (2 ^ n) (pow_pos n)))

pub ones_members : (high low : ℕ) → high < 2 ^ 128 → low < 2 ^ 128 → count_ones high + count_ones low ≡ length (members (number high low))
ones_members high low h l = sym (ones_below (number high low) RELAYS ∙ ap count_ones (mod-eq_of_lt (fits high low h l)) ∙ ones_cat 128 high low l)
