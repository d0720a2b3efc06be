use Rattle.std.proofs.Common.{◌≡◌, ◌++◌, ◌∷◌, [], ℕ, sym, ap}
use Rattle.std.proofs.lemmas.List.Elements.{All-push}
use Rattle.plan_check.specs.TextLines.{ended}
use Rattle.plan_check.specs.File.{IsBase}
use Rattle.plan_check.specs.PlanText.{base_line}
use Rattle.plan_check.proofs.KindLemmas.{more_lines, no_line, other_line}
use Rattle.plan_check.proofs.reading.take_bases.Goals as goal

pub loop-line-preserved : goal.loop-line-preserved
loop-line-preserved c =
    let bases = c.loop-line.bases.items in
    let base = c.in-Some-parse_base.base in
    let line = λ (x : ℕ × ℕ). ended (base_line x) in
    let pushed : c.push.new.self.items ≡ bases ++ base ∷ [] = c.in_ok-push.ensures.items in
    record {
      lines = rw pushed (more_lines line bases base c.in-Some.line.now _ _ _ c.loop-line.invariant.lines c.in-Some.ensures.lines (ap ended (sym c.in-Some-parse_base.ensures.found)));
      bases = rw pushed (All-push IsBase bases base c.loop-line.invariant.bases c.in-Some-parse_base.ensures.base);
    }

pub returns-in_default-parse_base-clause-all : goal.returns-in_default-parse_base-clause-all
returns-in_default-parse_base-clause-all c = other_line base_line IsBase c.in-Some.line.now _ _ c.in-Some.ensures.lines c.in_default-parse_base.ensures.none

pub returns-clause-all : goal.returns-clause-all
returns-clause-all c = no_line base_line IsBase _ c.in_default.ensures.none
