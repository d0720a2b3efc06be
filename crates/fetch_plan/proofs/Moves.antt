-- The squares of loads fall where some move from a larger one to a smaller.
use Rattle.std.proofs.Common.{◌≡◌, ◌≢◌, ℕ, ◌+◌, ◌-◌, ◌*◌, ◌<◌, ◌≤◌, List, length, get_or, set, sym, ap, subst, arith}
use Rattle.std.proofs.Math.Nat.{mul-le-mul_left}
use Rattle.std.proofs.lemmas.List.{get_or-set_other, length-set}
use Rattle.std.proofs.lemmas.List.Sums.{sum_by-set}
use Rattle.fetch_plan.specs.Chains.{squares}

square_move : (x y d : ℕ) → 0 < d → y + 2 * d ≤ x → (x - d) * (x - d) + (y + d) * (y + d) < x * x + y * y
square_move x y d some le =
    let e : ℕ = x - (y + 2 * d) in
    let is : x ≡ y + 2 * d + e = omega arith in
    let left : x - d ≡ y + d + e = omega arith in
    let one : 1 ≤ d = omega arith in
    let more : d * 1 ≤ d * d = mul-le-mul_left d one in
    subst (λ z. z * z + (y + d) * (y + d) < x * x + y * y) (sym left)
    (subst (λ z. (y + d + e) * (y + d + e) + (y + d) * (y + d) < z * z + y * y) (sym is) (omega (arith, more)))

module _ (counts : List ℕ) (from to some : ℕ) (inside : from < length counts) (inside' : to < length counts) (more : 0 < some) (gap : get_or counts to 0 + 2 * some ≤ get_or counts from 0) where
  abbrev pub once : List ℕ
  once = set counts from (get_or counts from 0 - some)

  abbrev pub twice : List ℕ
  twice = set once to (get_or once to 0 + some)

  pub squares_fall : squares twice < squares counts
  squares_fall =
      let apart : to ≢ from = λ e. absurd (omega (arith, gap, ap (λ r. get_or counts r 0) e)) in
      let same : get_or once to 0 ≡ get_or counts to 0 = get_or-set_other counts from to (get_or counts from 0 - some) 0 apart in
      let fits : to < length once = omega (arith, length-set counts from (get_or counts from 0 - some)) in
      omega (
        arith,
        sum_by-set (λ x. x * x) counts from (get_or counts from 0 - some) 0 inside,
        sum_by-set (λ x. x * x) once to (get_or once to 0 + some) 0 fits,
        ap {B = ℕ} (λ x. x * x) same,
        ap {B = ℕ} (λ x. (x + some) * (x + some)) same,
        square_move (get_or counts from 0) (get_or counts to 0) some more gap,
      )
