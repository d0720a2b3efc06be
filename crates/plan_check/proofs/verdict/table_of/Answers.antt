use Rattle.std.proofs.Common.{◌≡◌, ℕ, false, refl, get_or, replicate, arith, inl, inr}
use Rattle.std.proofs.lemmas.List.{get_or-replicate, get_or_past, length-replicate}
use Rattle.std.proofs.lemmas.Bool.{cases_lt}
use Rattle.plan_check.proofs.verdict.table_of.Goals as goal

none_yet : (r : ℕ) → get_or (replicate 256 false) r false ≡ false
none_yet r = elim (cases_lt r 256) [
  | inl lt ↦ get_or-replicate 256 r false false lt
  | inr ge ↦ get_or_past (replicate 256 false) r false (omega (arith, length-replicate 256 false))
]

pub loop-relay-init : goal.loop-relay-init
loop-relay-init c = record { len = refl; table = none_yet }
