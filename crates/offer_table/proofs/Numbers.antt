-- Sets of relays with equal numbers are equal.
use Rattle.std.proofs.Common.{◌≡◌, ℕ, zero, suc, ◌+◌, ◌^◌, ◌<◌, ◌≤◌, Bool, true, false, cond, List, ◌++◌, refl, sym, ap, ◌∙◌, arith, inl, inr}
use Rattle.std.proofs.lemmas.Bool.{cases_lt, cases_Bool, false_from_ne_true}
use Rattle.std.proofs.lemmas.List.Sums.{sum_by-append}
use Rattle.sharing.specs.declared.TheConstants.{RELAYS}
use Rattle.sharing.specs.Sharing.{is_among}
use Rattle.sharing.specs.Offers.{AreRelays}
use Rattle.sharing.proofs.Orders.{same_sorted}
use Rattle.sharing.proofs.Looks.{among_each}
use Rattle.offer_table.specs.Relays.{those, bits_of}
use Rattle.offer_table.specs.RelayBits.{if_passes}
use Rattle.offer_table.proofs.Words.{among_those_is, none_past, below_those}

last_bit : (b : Bool) (n : ℕ) → bits_of (if_passes b n) ≡ cond b (2 ^ n) 0
last_bit true n = omega arith
last_bit false n = refl

bits_more : (p : ℕ → Bool) (n : ℕ) → bits_of (those p (suc n)) ≡ bits_of (those p n) + cond (p n) (2 ^ n) 0
unfolding those
bits_more p n = sum_by-append (λ r. 2 ^ r) (those p n) (if_passes (p n) n) ∙ ap {B = ℕ} (λ k. bits_of (those p n) + k) (last_bit (p n) n)

twice : (n : ℕ) → 2 ^ suc n ≡ 2 ^ n + 2 ^ n
twice n = omega arith

bits_below : (p : ℕ → Bool) (n : ℕ) → bits_of (those p n) < 2 ^ n
unfolding those
bits_below p zero = omega arith
bits_below p (suc n) =
    elim (cases_Bool (p n)) [
      | inl t ↦ omega (arith, bits_below p n, bits_more p n, twice n, ap {B = ℕ} (λ b. cond b (2 ^ n) 0) t)
      | inr f ↦ omega (arith, bits_below p n, bits_more p n, twice n, ap {B = ℕ} (λ b. cond b (2 ^ n) 0) f)
    ]

same_last : (x y : Bool) (a b k : ℕ) → a < k → b < k → a + cond x k 0 ≡ b + cond y k 0 → (a ≡ b) × (x ≡ y)
same_last true true a b k lt le e = (omega arith, refl)
same_last true false a b k lt le e = absurd (omega arith)
same_last false true a b k lt le e = absurd (omega arith)
same_last false false a b k lt le e = (omega arith, refl)

same_those : (p q : ℕ → Bool) (n : ℕ) → bits_of (those p n) ≡ bits_of (those q n) → those p n ≡ those q n
unfolding those
same_those p q zero e = refl
same_those p q (suc n) e =
    let parts : (bits_of (those p n) ≡ bits_of (those q n)) × (p n ≡ q n) = same_last (p n) (q n) (bits_of (those p n)) (bits_of (those q n)) (2 ^ n) (bits_below p n) (bits_below q n) (sym (bits_more p n) ∙ e ∙ bits_more q n) in
    ap (λ xs. xs ++ if_passes (p n) n) (same_those p q n parts.0) ∙ ap (λ b. those q n ++ if_passes b n) parts.1

none_large : (s : List ℕ) (r : ℕ) → AreRelays s → RELAYS ≤ r → is_among s r ≡ false
none_large s r h ge = false_from_ne_true (is_among s r) (λ t. let lt : r < RELAYS = among_each (λ x. x < RELAYS) s r h.small t in absurd (omega arith))

-- a set of relays is the relays that are among it
those_of : (s : List ℕ) → AreRelays s → s ≡ those (is_among s) RELAYS
those_of s h =
    same_sorted s (those (is_among s) RELAYS) h.ascend (below_those (is_among s) RELAYS).0 (λ r.
    elim (cases_lt r RELAYS) [
      | inl lt ↦ sym (among_those_is (is_among s) RELAYS r lt)
      | inr ge ↦ none_large s r h ge ∙ sym (none_past (is_among s) RELAYS r ge)
    ])

pub same_set : (a b : List ℕ) → AreRelays a → AreRelays b → bits_of a ≡ bits_of b → a ≡ b
same_set a b h g e =
    those_of a h ∙ same_those (is_among a) (is_among b) RELAYS (ap bits_of (sym (those_of a h)) ∙ e ∙ ap bits_of (those_of b g)) ∙ sym (those_of b g)
