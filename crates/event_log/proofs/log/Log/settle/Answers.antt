use Rattle.std.proofs.Common.{◌≡◌, false, ap, ◌∙◌, arith}
use Rattle.event_list.proofs.Prefixes.{prefix_self, prefix_whole}
use Rattle.event_log.specs.Media.{Goes, Anyhow, Stays, Syncs}
use Rattle.event_log.specs.Logs.{HasText, HasTorn, Lasts}
use Rattle.event_log.proofs.Logging.{no_ok, on_err, anyhow, any_after, has_text, has_torn, lasts, sync_again, back_again, begins_as}
use Rattle.event_log.proofs.log.Log.settle.Goals as goal

pub invariant_of-self : goal.invariant_of-self
invariant_of-self g c =
    let whole : c.self.inside.is_torn ≡ false = ap (λ l. l.torn) c.self.view_is ∙ c.in_ok-mend.ensures.mended in
    sync_again _ _ _ _ _ _ _ _ c.again.ensures whole c.in-Ok.ensures c.self.invariant.1

pub invariant_of-self-in-Err : goal.invariant_of-self-in-Err
invariant_of-self-in-Err g c = back_again _ _ _ _ _ _ _ _ c.again-in-Err.ensures c.self.invariant.0 c.in-Err.ensures c.self.invariant.1

pub returns-in_err-mend : goal.returns-in_err-mend
returns-in_err-mend g c =
    let failed = c.from_residual.ensures.0 in
    let was = c.in_err-mend.ensures in
    let old = g.M.Medium.held c.args.self.now.medium in
    let new = g.M.Medium.held c.mend.new.self.medium in
    record {
      lasts = no_ok c.from_residual.result (λ _. Goes (Lasts c.mend.new.self.events) old new) failed;
      text = no_ok c.from_residual.result (λ _. Goes (HasText c.mend.new.self.events) old new) failed;
      events = no_ok c.from_residual.result _ failed;
      torn = on_err c.from_residual.result (Goes (HasTorn c.mend.new.self.events) old new) was.torn;
      left = on_err c.from_residual.result _ (begins_as _ _ _ was.begins was.same.0);
      safe = begins_as _ _ _ (prefix_self _) was.same.1;
      eager = was.same.2;
    }

pub returns-then-len : goal.returns-then-len
returns-then-len g c =
    let was = c.in_ok-mend.ensures in
    let whole : c.self.inside.is_torn ≡ false = ap (λ l. l.torn) c.self.view_is ∙ was.mended in
    let known : Goes Anyhow (g.M.Medium.held c.args.self.now.medium) (g.M.Medium.held c.self.inside.medium) = rw (ap (λ l. l.medium) c.self.view_is) was.known in
    let all : c.self.inside.safe ≡ c.self.inside.front = prefix_whole _ _ c.self.invariant.0 (omega (arith, c.if-len.true, c.len.ensures, c.len-2.ensures)) in
    record {
      lasts = rw (← c.self.view_is) (lasts _ _ _ _ _ _ _ all known c.self.invariant.1);
      text = rw (← c.self.view_is) (has_text _ _ _ _ _ _ _ whole known c.self.invariant.1);
      events = was.same.0;
      torn = tt;
      left = tt;
      safe = begins_as _ _ _ (prefix_self _) was.same.1;
      eager = was.same.2;
    }

pub returns-in-Ok : goal.returns-in-Ok
returns-in-Ok g c =
    let was = c.in_ok-mend.ensures in
    let whole : c.self.inside.is_torn ≡ false = ap (λ l. l.torn) c.self.view_is ∙ was.mended in
    let mended : Goes Anyhow (g.M.Medium.held c.args.self.now.medium) (g.M.Medium.held c.self.inside.medium) = rw (ap (λ l. l.medium) c.self.view_is) was.known in
    let known : Goes Anyhow (g.M.Medium.held c.args.self.now.medium) (g.M.Medium.held c.sync-synced.new.self) = any_after _ _ _ mended (anyhow Syncs _ _ c.in-Ok.ensures) in
    let now = sync_again _ _ _ _ _ _ _ _ c.again.ensures whole c.in-Ok.ensures c.self.invariant.1 in
    let same : c.self.inside.front ≡ c.args.self.now.events = ap (λ l. l.events) c.self.view_is ∙ was.same.0 in
    record {
      lasts = lasts _ _ _ _ _ _ _ c.again.ensures known now.1;
      text = has_text _ _ _ _ _ _ _ whole known now.1;
      events = same;
      torn = tt;
      left = tt;
      safe = begins_as _ _ _ was.begins (c.again.ensures ∙ same);
      eager = ap (λ l. l.eager) c.self.view_is ∙ was.same.2;
    }

pub returns-in-Err : goal.returns-in-Err
returns-in-Err g c =
    let was = c.in_ok-mend.ensures in
    let mended : Goes Anyhow (g.M.Medium.held c.args.self.now.medium) (g.M.Medium.held c.self.inside.medium) = rw (ap (λ l. l.medium) c.self.view_is) was.known in
    let known : Goes Anyhow (g.M.Medium.held c.args.self.now.medium) (g.M.Medium.held c.sync-synced.new.self) = any_after _ _ _ mended (anyhow Stays _ _ c.in-Err.ensures) in
    let now = back_again _ _ _ _ _ _ _ _ c.again-in-Err.ensures c.self.invariant.0 c.in-Err.ensures c.self.invariant.1 in
    let same : c.self.inside.safe ≡ c.args.self.now.safe = ap (λ l. l.safe) c.self.view_is ∙ was.same.1 in
    record {
      lasts = tt;
      text = tt;
      events = tt;
      torn = has_torn _ _ _ _ _ _ _ known now.1;
      left = begins_as _ _ _ (prefix_self _) (c.again-in-Err.ensures ∙ same);
      safe = begins_as _ _ _ (prefix_self _) same;
      eager = ap (λ l. l.eager) c.self.view_is ∙ was.same.2;
    }
