use Rattle.std.proofs.Common.{◌∙◌, ◌<◌, sym, subst}
use Rattle.std.proofs.lemmas.Bool.Decides.{nat_tests}
use Rattle.std.proofs.Common.{arith, ℕ}
use Rattle.std.specs.Prelude.{IsTrue, nat_lt}
use Rattle.newest.proofs.Parts.{time_of, early_from}
use Rattle.newest.proofs.rests.is_too_early.Goals as goal

less : (a b : ℕ) → IsTrue (nat_lt a b) → a < b
less a b test = grind (arith, nat_tests)

pub returns-in-Some : goal.returns-in-Some
returns-in-Some c ps up early =
    early_from c.args.filter.now c.in-Some.since c.args.entry.now ps c.in-Some.is
    (subst (λ t. t < c.in-Some.since) (c.time.ensures ∙ sym (time_of c.args.entry.now)) (less c.time.result c.in-Some.since early)) up.0
