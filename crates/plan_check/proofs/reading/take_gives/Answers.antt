use Rattle.std.proofs.Common.{◌≡◌, ◌++◌, ◌∷◌, [], ℕ, true, map, None, sym, ap, subst, ◌∙◌}
use Rattle.std.specs.List.{All}
use Rattle.std.proofs.lemmas.List.Elements.{All-nil, All-push}
use Rattle.item_key.specs.declared.Id.{Id}
use Rattle.sharing.specs.Offers.{Ascend, id_cmp}
use Rattle.plan_check.specs.TextLines.{lines_of, ended}
use Rattle.plan_check.specs.PlanText.{give_line, IsGive}
use Rattle.plan_check.proofs.FormLemmas.{given}
use Rattle.plan_check.proofs.KindLemmas.{more_lines}
use Rattle.plan_check.proofs.Runs.{last_from, last_push}
use Rattle.plan_check.proofs.Taken.{no_ids, behind_push}
use Rattle.plan_check.proofs.reading.take_gives.Goals as goal

abbrev id_of : Id × ℕ → Id
id_of g = g.0

pub loop-line-init : goal.loop-line-init
loop-line-init c =
    let none = sym c.new-gives.ensures.items in
    record {
      lines = ap (λ gs. map given gs ++ lines_of c.args.text.now) none;
      form = subst (All IsGive) none (All-nil IsGive);
      ascend = subst (λ gs. Ascend (map id_of gs)) none no_ids;
      last = ap (last_from id_of None) none;
    }

pub loop-line-preserved : goal.loop-line-preserved
loop-line-preserved c =
    let inv = c.loop-line.invariant in
    let gives = c.loop-line.gives.items in
    let give = c.in-Some-parse_give.give in
    let line = λ (x : Id × ℕ). ended (give_line x) in
    let pushed : c.push.new.self.items ≡ gives ++ give ∷ [] = c.in_ok-push.ensures.items in
    record {
      lines = rw pushed (more_lines line gives give c.in-Some.line.now _ _ _ inv.lines c.in-Some.ensures.lines (ap ended (sym c.in-Some-parse_give.ensures.found)));
      form = rw pushed (All-push IsGive gives give inv.form c.in-Some-parse_give.ensures.give);
      ascend = rw pushed (behind_push id_of gives give c.loop-line.before inv.ascend inv.last (sym c.comes_behind.ensures ∙ c.if-not-comes_behind.false));
      last = rw pushed (sym (last_push id_cmp id_of (λ _. true) None gives give));
    }
