use Rattle.std.proofs.Common.{◌≡◌, true, refl, sym, ap, ◌∙◌}
use mathlib.Core.List.{IsPrefix}
use Rattle.std.proofs.lemmas.Bool.{false≢true}
use Rattle.event_list.proofs.Prefixes.{prefix_self}
use Rattle.event_log.specs.Media.{Goes, Anyhow}
use Rattle.event_log.specs.Logs.{HasText, HasTorn, Lasts}
use Rattle.event_log.proofs.Logging.{no_ok, on_err, any_after, text_after, torn_after, lasts_after, begins_as, begins_from, begins_grown}
use Rattle.event_log.proofs.log.Log.append.Goals as goal
use Rattle.event_log.proofs.log.Log.append.Goals.{then-self+in_ok-settle, else-self}

pub returns-in_err-mend : goal.returns-in_err-mend
returns-in_err-mend g c =
    let failed = c.from_residual.ensures.0 in
    let was = c.in_err-mend.ensures in
    let old = g.M.Medium.held c.args.self.now.medium in
    let new = g.M.Medium.held c.mend.new.self.medium in
    record {
      kept = no_ok c.from_residual.result _ failed;
      grows = no_ok c.from_residual.result _ failed;
      text = no_ok c.from_residual.result _ failed;
      lasts = no_ok c.from_residual.result _ failed;
      torn = on_err c.from_residual.result (Goes (HasTorn c.mend.new.self.events) old new) was.torn;
      left = begins_as _ _ _ was.begins was.same.0;
      safe = begins_as _ _ _ (prefix_self _) was.same.1;
      eager = was.same.2;
      reader = prefix_self _;
    }

pub returns-in_default : goal.returns-in_default
returns-in_default g c =
    let was = c.in_ok-mend.ensures in
    record {
      kept = tt;
      grows = tt;
      text = tt;
      lasts = tt;
      torn = was.torn;
      left = begins_as _ _ _ was.begins was.same.0;
      safe = begins_as _ _ _ (prefix_self _) was.same.1;
      eager = was.same.2;
      reader = c.all.ensures.kept;
    }

pub returns-in_err-write : goal.returns-in_err-write
returns-in_err-write g c =
    let failed = c.from_residual-in_err-write.ensures.0 in
    let was = c.in_ok-mend.ensures in
    let wrote = c.in_err-write.ensures in
    record {
      kept = no_ok c.from_residual-in_err-write.result _ failed;
      grows = no_ok c.from_residual-in_err-write.result _ failed;
      text = no_ok c.from_residual-in_err-write.result _ failed;
      lasts = no_ok c.from_residual-in_err-write.result _ failed;
      torn = on_err c.from_residual-in_err-write.result _ (torn_after _ _ _ _ was.known wrote.torn);
      left = begins_grown _ _ _ _ was.begins was.same.0 wrote.grows;
      safe = begins_as _ _ _ (prefix_self _) (wrote.same.0 ∙ was.same.1);
      eager = wrote.same.1 ∙ was.same.2;
      reader = c.all.ensures.kept;
    }

pub returns-in_err-settle : goal.returns-in_err-settle
returns-in_err-settle g c =
    let failed = c.from_residual-in_err-settle.ensures.0 in
    let was = c.in_ok-mend.ensures in
    let wrote = c.in_ok-write.ensures in
    let settled = c.in_err-settle.ensures in
    record {
      kept = no_ok c.from_residual-in_err-settle.result _ failed;
      grows = no_ok c.from_residual-in_err-settle.result _ failed;
      text = no_ok c.from_residual-in_err-settle.result _ failed;
      lasts = no_ok c.from_residual-in_err-settle.result _ failed;
      torn = on_err c.from_residual-in_err-settle.result _ (torn_after _ _ _ _ (any_after _ _ _ was.known wrote.known) settled.torn);
      left = begins_from _ _ _ (wrote.same.0 ∙ was.same.1) settled.left;
      safe = begins_from _ _ _ (wrote.same.0 ∙ was.same.1) settled.safe;
      eager = settled.eager ∙ wrote.same.1 ∙ was.same.2;
      reader = c.all.ensures.kept;
    }

pub returns : goal.returns
returns g c =
    let was = c.in_ok-mend.ensures in
    let wrote = c.in_ok-write.ensures in
    let old = c.args.self.now in
    let mid = c.write.new.self in
    let now = c.if-self.self in
    let known : Goes Anyhow (g.M.Medium.held old.medium) (g.M.Medium.held mid.medium) = any_after _ _ _ was.known wrote.known in
    let joined : (now.events ≡ mid.events) × Goes (HasText now.events) (g.M.Medium.held old.medium) (g.M.Medium.held now.medium)
    × (old.eager ≡ true → Goes (Lasts now.events) (g.M.Medium.held old.medium) (g.M.Medium.held now.medium)) × IsPrefix mid.safe now.safe × (now.eager ≡ mid.eager) =
    elim c.if-self.branch [
      | then-self+in_ok-settle w ↦
          rw w.self-is (
            w.in_ok-settle.ensures.events,
            text_after _ _ _ _ known w.in_ok-settle.ensures.text,
            λ _. lasts_after _ _ _ _ known w.in_ok-settle.ensures.lasts,
            w.in_ok-settle.ensures.safe,
            w.in_ok-settle.ensures.eager,
          )
      | else-self w ↦
          rw w.self-is (
            refl,
            text_after _ _ _ _ was.known wrote.text,
            λ eager. absurd (false≢true (sym w.if-self.false ∙ ap (λ l. l.eager) c.self.view_is ∙ wrote.same.1 ∙ was.same.2 ∙ eager)),
            prefix_self _,
            refl,
          )
    ] in
    let same : c.new.result ≡ now.events = c.new.ensures ∙ c.again.ensures ∙ ap (λ l. l.events) c.self-2.view_is in
    let grows : IsPrefix old.events now.events = begins_as _ _ _ (begins_from _ _ _ was.same.0 wrote.grows) joined.0 in
    rw same (record {
      kept = (refl, begins_as _ _ _ (begins_from _ _ _ c.front.ensures wrote.all) joined.0);
      grows = grows;
      text = joined.1;
      lasts = joined.2;
      torn = tt;
      left = begins_grown _ _ _ _ was.begins refl grows;
      safe = begins_from _ _ _ (wrote.same.0 ∙ was.same.1) joined.3;
      eager = joined.4 ∙ wrote.same.1 ∙ was.same.2;
      reader = c.all.ensures.kept;
    })
