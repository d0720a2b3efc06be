-- Numbers in decimal, set into a line.
use Rattle.std.proofs.Common.{◌≡◌, ℕ, zero, suc, ◌+◌, ◌/◌, ◌%◌, ◌^◌, ◌<◌, ◌≤◌, List, [], ◌∷◌, ◌++◌, length, take, drop, get_or, set, decimal, ap, sym, ◌∙◌, append_assoc, add-one, arith}
use Rattle.std.proofs.lemmas.List.{append-nil, take_more, drop-set}
use Rattle.std.proofs.lemmas.List.Concat.{flat_map-append}
use Rattle.std.proofs.lemmas.Fmt.{decimal_digit, decimal_step, length-decimal-le}
use Rattle.std.proofs.Math.Nat.{pow-suc}
use Rattle.std.proofs.lemmas.Map.Views.{length-le_from_below}
use Rattle.sharing.specs.declared.TheConstants.{RELAYS}
use Rattle.sharing.specs.Offers.{AreRelays}
use Rattle.plan_check.specs.PlanText.{number_text, relays_text}

-- the last digit is set in front of the others
pub digit_set : (buffer digits : List ℕ) (at n : ℕ) → at < length buffer → 10 ≤ n → n < 2 ^ 64 → digits ≡ decimal n ++ drop (at + 1) buffer → digits ≡ decimal (n / 10) ++ drop at (set buffer at (48 + n % 10))
digit_set buffer digits at n lt large small e =
    e ∙ ap (λ t. t ++ drop (at + 1) buffer) (decimal_step n large small) ∙ append_assoc (decimal (n / 10)) ((48 + n % 10) ∷ []) (drop (at + 1) buffer)
    ∙ ap (λ t. decimal (n / 10) ++ t) (sym (drop-set buffer at (48 + n % 10) lt))

pub first_set : (buffer digits : List ℕ) (at n : ℕ) → at < length buffer → n < 10 → digits ≡ decimal n ++ drop (at + 1) buffer → drop at (set buffer at (48 + n)) ≡ digits
first_set buffer digits at n lt small e = drop-set buffer at (48 + n) lt ∙ ap (λ t. t ++ drop (at + 1) buffer) (sym (decimal_digit n small)) ∙ sym e

-- fewer digits are left
pub digit_less : (n at : ℕ) → n < 10 ^ (at + 1) → n / 10 < 10 ^ at
digit_less n at h = let more : n < 10 ^ (suc at) = rw add-one at h in omega (arith, more, pow-suc 10 at)

pub some_place : (n at : ℕ) → 10 ≤ n → n < 10 ^ (at + 1) → 0 < at
some_place n zero large h = absurd (omega arith)
some_place n (suc at) large h = omega arith

pub relay_room : (r : ℕ) → r < RELAYS → length (number_text r) ≤ 4
relay_room r small = let d = length-decimal-le 3 r (omega arith) (omega arith) (omega arith) in omega (arith, d)

pub load_room : (n : ℕ) → n < 2 ^ 64 → length (number_text n) ≤ 21
load_room n small = let d = length-decimal-le 20 n (omega arith) (omega arith) small in omega (arith, d)

-- one relay more
pub relays_more : (relays : List ℕ) (i : ℕ) (start before after : List ℕ) → i < length relays → before ≡ start ++ relays_text (take i relays) → after ≡ before ++ number_text (get_or relays i 0)
    → after ≡ start ++ relays_text (take (i + 1) relays)
relays_more relays i start before after lt e k =
    let r : ℕ = get_or relays i 0 in
    let grown : relays_text (take (i + 1) relays) ≡ relays_text (take i relays) ++ number_text r =
    ap relays_text (take_more relays i 0 lt) ∙ flat_map-append number_text (take i relays) (r ∷ []) ∙ ap (λ t. relays_text (take i relays) ++ t) (append-nil (number_text r)) in
    k ∙ ap (λ t. t ++ number_text r) e ∙ append_assoc start (relays_text (take i relays)) (number_text r) ∙ ap (λ t. start ++ t) (sym grown)

-- relays are few
pub few_relays : (relays : List ℕ) → AreRelays relays → length relays ≤ RELAYS
few_relays relays are = length-le_from_below RELAYS relays are.ascend are.small
