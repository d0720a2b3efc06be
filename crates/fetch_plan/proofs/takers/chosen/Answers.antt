use Rattle.std.proofs.Common.{◌≡◌, ◌<◌, ◌==◌, ℕ, List, ◌∷◌, true, length, sym, ap, ◌∙◌, refl, arith}
use Rattle.std.proofs.lemmas.Bool.{or_left, eq-eqb}
use Rattle.sharing.specs.declared.TheConstants.{RELAYS}
use Rattle.sharing.specs.Sharing.{is_among}
use Rattle.sharing.proofs.Looks.{among_each}
use Rattle.fetch_plan.proofs.takers.chosen.Goals as goal

first_member : (relays others : List ℕ) (x : ℕ) → relays ≡ x ∷ others → is_among relays x ≡ true
first_member relays others x is = ap (λ rs. is_among rs x) is ∙ or_left (x == x) (is_among others x) (eq-eqb x x refl)

pub returns-then-has-clause-small : goal.returns-then-has-clause-small
returns-then-has-clause-small c = among_each (λ r. r < RELAYS) c.args.relays c.args.suggested c.has.ensures.relays.small (sym c.has.ensures.value ∙ c.if-has.true)

pub returns-clause-member : goal.returns-clause-member
returns-clause-member c = first_member c.args.relays _ c.in-Some.first c.in-Some.ensures

pub returns-clause-small : goal.returns-clause-small
returns-clause-small c = among_each (λ r. r < RELAYS) c.args.relays c.in-Some.first c.has.ensures.relays.small (first_member c.args.relays _ c.in-Some.first c.in-Some.ensures)

pub unreachable-requires : goal.unreachable-requires
unreachable-requires c = omega (arith, ap length c.in-None.ensures, c.requires)
