-- What loads begin with, one behind another.
use Rattle.std.proofs.Common.{◌≡◌, ◌≢◌, ◌+◌, ◌<◌, ◌≤◌, ◌∙◌, ⊎_elim, ℕ, List, length, sym, subst, arith}
use Rattle.std.proofs.lemmas.Bool.{cases_eq, cases_lt}
use Rattle.std.proofs.lemmas.List.{get_or_past}
use Rattle.sharing.specs.declared.TheConstants.{RELAYS, MOST_BASE}
use Rattle.sharing.specs.Bases.{base_of}
use Rattle.session_run.specs.Rounds.{BeginAt}

-- the loads of the first n relays were given
pub record IsBegun (loads bases : List ℕ) (n : ℕ) : Type 0 where
  pub begun : (r : ℕ) → r < n → r < RELAYS → base_of loads r ≤ MOST_BASE → base_of bases r ≡ base_of loads r
  pub rest : (r : ℕ) → n ≤ r → base_of bases r ≡ 0

pub begin_more : (loads old new : List ℕ) (n : ℕ) → (n < RELAYS → base_of loads n ≤ MOST_BASE → base_of new n ≡ base_of loads n)
    → ((r : ℕ) → r ≢ n → base_of new r ≡ base_of old r) → IsBegun loads old n → IsBegun loads new (n + 1)
begin_more loads old new n here others before = record {
  begun = λ r below relay small. ⊎_elim
      (λ (e : r ≡ n). subst (λ k. base_of new k ≡ base_of loads k) (sym e) (here (subst (λ k. k < RELAYS) e relay) (subst (λ k. base_of loads k ≤ MOST_BASE) e small)))
      (λ (other : r ≡ n → ⊥). others r other ∙ before.begun r (omega (arith, other)) relay small)
      (cases_eq r n);
  rest = λ r above. others r (λ e. absurd (omega (arith, e))) ∙ before.rest r (omega arith);
}

pub all_begun : (loads bases : List ℕ) (n : ℕ) → length loads ≤ n → IsBegun loads bases n → BeginAt loads bases
all_begun loads bases n all begun r relay small = ⊎_elim
    (λ (lt : r < n). begun.begun r lt relay small)
    (λ (le : n ≤ r). begun.rest r le ∙ sym (get_or_past loads r 0 (omega arith)))
    (cases_lt r n)
