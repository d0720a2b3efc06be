use Rattle.std.proofs.Common.{◌≡◌, take, take_all, ap, ◌∙◌, arith, inl, inr}
use Rattle.std.proofs.lemmas.List.{get_or_past}
use Rattle.std.proofs.lemmas.Bool.{cases_lt}
use Rattle.sharing.specs.declared.TheConstants.{RELAYS}
use Rattle.plan_check.specs.Verdict.{given_load}
use Rattle.plan_check.proofs.Given.{base_le, no_base, none_given}
use Rattle.plan_check.proofs.verdict.loads_of.Goals as goal

pub loop-give-init : goal.loop-give-init
loop-give-init c = record {
  len = c.bases_of-loads.ensures.length;
  loads = λ r lt. omega (arith, c.bases_of-loads.ensures.loads r);
  small = λ r lt. omega (arith, c.bases_of-loads.ensures.loads r, base_le c.args.bases.now r c.requires.bases.each);
}

pub returns-clause-loads : goal.returns-clause-loads
returns-clause-loads c = λ r.
    let inv = c.loop-give.invariant in
    let gives = c.args.gives.now in
    let all : take c.loop-give.give-index gives ≡ gives = take_all c.loop-give.give-index gives (omega arith) in
    elim (cases_lt r RELAYS) [
      | inl lt ↦ inv.loads r lt ∙ ap (λ gs. given_load c.args.bases.now gs r) all
      | inr ge ↦ omega (arith, get_or_past c.loop-give.loads r 0 (omega (arith, inv.len, ge)), no_base c.args.bases.now r c.requires.bases.each ge, none_given gives r c.requires.relays ge)
    ]
