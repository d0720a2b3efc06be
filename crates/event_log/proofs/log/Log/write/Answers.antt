use Rattle.std.proofs.Common.{◌≡◌, ◌+◌, ◌≤◌, false, List, length, arith, refl, sym, subst, ap, ◌∙◌}
use Rattle.nostr_event.specs.EventView.{EventView}
use Rattle.event_log.specs.Media.{Goes, Anyhow}
use Rattle.event_log.specs.Logs.{HasText, HasTorn, TakesLines, TakesBegun}
use mathlib.Core.List.{IsPrefix}
use Rattle.event_list.proofs.Prefixes.{prefix_self}
use Rattle.event_log.proofs.Logging.{no_ok, on_err, anyhow, goes_none, has_text, has_torn, begun_lines, lines_begun, more_again, begins_as, begins_from}
use Rattle.event_log.proofs.log.Log.write.Goals as goal

pub invariant_of-self : goal.invariant_of-self
invariant_of-self g c =
    let old = c.self.inside.front in
    let new = c.args.front.now in
    let whole : c.self.inside.is_torn ≡ false = ap (λ l. l.torn) c.self.view_is ∙ c.requires.whole in
    let longer : length old ≤ length new = omega (arith, c.if-len.false, c.len.ensures, c.len-2.ensures) in
    let taken = subst (λ (es : List EventView). Goes (TakesBegun es c.len-start.result) (g.M.Medium.held c.self.inside.medium) (g.M.Medium.held c.write_from.new.medium)) c.requires.events c.in_err-count.ensures in
    (c.self.invariant.0, begun_lines old new _ _ _ _ _ _ (c.compare-2.ensures longer) c.len-start.ensures _ whole taken c.self.invariant.1)

pub invariant_of-self-in_default : goal.invariant_of-self-in_default
invariant_of-self-in_default g c =
    let old = c.self.inside.front in
    let new = c.args.front.now in
    let whole : c.self.inside.is_torn ≡ false = ap (λ l. l.torn) c.self.view_is ∙ c.requires.whole in
    let longer : length old ≤ length new = omega (arith, c.if-len.false, c.len.ensures, c.len-2.ensures) in
    let taken = subst (λ (es : List EventView). Goes (TakesLines es c.len-start.result c.in_ok-count.count) (g.M.Medium.held c.self.inside.medium) (g.M.Medium.held c.write_from.new.medium)) c.requires.events c.in_ok-count.ensures in
    (c.self.invariant.0, begun_lines old new _ _ _ _ _ _ (c.compare-2.ensures longer) c.len-start.ensures _ whole (lines_begun _ _ _ _ _ taken) c.self.invariant.1)

pub invariant_of-self-2 : goal.invariant_of-self-2
invariant_of-self-2 g c =
    let old = c.self.inside.front in
    let new = c.args.front.now in
    let whole : c.self.inside.is_torn ≡ false = ap (λ l. l.torn) c.self.view_is ∙ c.requires.whole in
    let longer : length old ≤ length new = omega (arith, c.if-len.false, c.len.ensures, c.len-2.ensures) in
    let sum : c.in-Some.len ≡ c.self.inside.len + c.in_ok-count.count = c.in-Some.ensures.1 in
    let taken = subst (λ (es : List EventView). Goes (TakesLines es c.len-start.result c.in_ok-count.count) (g.M.Medium.held c.self.inside.medium) (g.M.Medium.held c.write_from.new.medium)) c.requires.events c.in_ok-count.ensures in
    more_again old new c.again.result _ _ _ _ _ _ _ _ c.again.ensures c.self.invariant.0 (c.compare-2.ensures longer) c.len-start.ensures sum _ whole taken c.self.invariant.1

pub returns-then-len : goal.returns-then-len
returns-then-len g c =
    let whole : c.self.inside.is_torn ≡ false = ap (λ l. l.torn) c.self.view_is ∙ c.requires.whole in
    let begins = c.compare.ensures (omega (arith, c.if-len.true, c.len.ensures, c.len-2.ensures)) in
    record {
      whole = c.requires.whole;
      all = begins_as _ _ _ begins (sym (ap (λ l. l.events) c.self.view_is));
      grows = prefix_self _;
      same = (refl, refl);
      known = goes_none Anyhow (λ _. tt) _;
      torn = tt;
      text = rw (← c.self.view_is) (has_text _ _ _ _ _ _ _ whole (goes_none Anyhow (λ _. tt) _) c.self.invariant.1);
    }

pub returns-in_err-count : goal.returns-in_err-count
returns-in_err-count g c =
    let old = c.self.inside.front in
    let new = c.args.front.now in
    let whole : c.self.inside.is_torn ≡ false = ap (λ l. l.torn) c.self.view_is ∙ c.requires.whole in
    let longer : length old ≤ length new = omega (arith, c.if-len.false, c.len.ensures, c.len-2.ensures) in
    let before = g.M.Medium.held c.args.self.now.medium in
    let after = g.M.Medium.held c.write_from.new.medium in
    let taken = subst (λ (es : List EventView). Goes (TakesBegun es c.len-start.result) (g.M.Medium.held c.self.inside.medium) (g.M.Medium.held c.write_from.new.medium)) c.requires.events c.in_err-count.ensures in
    let known : Goes Anyhow before after = rw (← c.self.view_is) (anyhow (TakesBegun new c.len-start.result) _ _ taken) in
    let held = begun_lines old new _ _ _ _ _ _ (c.compare-2.ensures longer) c.len-start.ensures _ whole taken c.self.invariant.1 in
    let failed = c.from_residual.ensures.0 in
    record {
      whole = no_ok c.from_residual.result _ failed;
      all = no_ok c.from_residual.result (λ _. IsPrefix new old) failed;
      grows = begins_as _ _ _ (prefix_self _) (ap (λ l. l.events) c.self.view_is);
      same = (ap (λ l. l.safe) c.self.view_is, ap (λ l. l.eager) c.self.view_is);
      known = known;
      torn = on_err c.from_residual.result (Goes (HasTorn old) before after) (has_torn _ _ _ _ _ _ _ known held);
      text = no_ok c.from_residual.result (λ _. Goes (HasText old) before after) failed;
    }

pub returns-in_default : goal.returns-in_default
returns-in_default g c =
    let old = c.self.inside.front in
    let new = c.args.front.now in
    let whole : c.self.inside.is_torn ≡ false = ap (λ l. l.torn) c.self.view_is ∙ c.requires.whole in
    let longer : length old ≤ length new = omega (arith, c.if-len.false, c.len.ensures, c.len-2.ensures) in
    let before = g.M.Medium.held c.args.self.now.medium in
    let after = g.M.Medium.held c.write_from.new.medium in
    let taken = subst (λ (es : List EventView). Goes (TakesLines es c.len-start.result c.in_ok-count.count) (g.M.Medium.held c.self.inside.medium) (g.M.Medium.held c.write_from.new.medium)) c.requires.events c.in_ok-count.ensures in
    let known : Goes Anyhow before after = rw (← c.self.view_is) (anyhow (TakesLines new c.len-start.result c.in_ok-count.count) _ _ taken) in
    let held = begun_lines old new _ _ _ _ _ _ (c.compare-2.ensures longer) c.len-start.ensures _ whole (lines_begun _ _ _ _ _ taken) c.self.invariant.1 in
    record {
      whole = tt;
      all = tt;
      grows = begins_as _ _ _ (prefix_self _) (ap (λ l. l.events) c.self.view_is);
      same = (ap (λ l. l.safe) c.self.view_is, ap (λ l. l.eager) c.self.view_is);
      known = known;
      torn = has_torn _ _ _ _ _ _ _ known held;
      text = tt;
    }

pub returns : goal.returns
returns g c =
    let old = c.self.inside.front in
    let new = c.args.front.now in
    let whole : c.self.inside.is_torn ≡ false = ap (λ l. l.torn) c.self.view_is ∙ c.requires.whole in
    let longer : length old ≤ length new = omega (arith, c.if-len.false, c.len.ensures, c.len-2.ensures) in
    let before = g.M.Medium.held c.args.self.now.medium in
    let after = g.M.Medium.held c.write_from.new.medium in
    let taken = subst (λ (es : List EventView). Goes (TakesLines es c.len-start.result c.in_ok-count.count) (g.M.Medium.held c.self.inside.medium) (g.M.Medium.held c.write_from.new.medium)) c.requires.events c.in_ok-count.ensures in
    let known : Goes Anyhow before after = rw (← c.self.view_is) (anyhow (TakesLines new c.len-start.result c.in_ok-count.count) _ _ taken) in
    let sum : c.in-Some.len ≡ c.self.inside.len + c.in_ok-count.count = c.in-Some.ensures.1 in
    let held = more_again old new c.again.result _ _ _ _ _ _ _ _ c.again.ensures c.self.invariant.0 (c.compare-2.ensures longer) c.len-start.ensures sum _ whole taken c.self.invariant.1 in
    record {
      whole = refl;
      all = begins_as _ _ _ (prefix_self _) c.again.ensures;
      grows = begins_from _ _ _ (ap (λ l. l.events) c.self.view_is) (begins_as _ _ _ (c.compare-2.ensures longer) c.again.ensures);
      same = (ap (λ l. l.safe) c.self.view_is, ap (λ l. l.eager) c.self.view_is);
      known = known;
      torn = tt;
      text = has_text _ _ _ _ _ _ _ refl known held.1;
    }
