use Rattle.std.proofs.Common.{rules, ◌≡◌, ℕ, List, length, subst, arith}
use Rattle.std.proofs.lemmas.Result.{on_ok_weaker}
use Rattle.mirror_run.specs.Reconciled.{TellsRolls}
use Rattle.mirror_run.proofs.SessionLemmas.{printed}
use Rattle.mirror_run.proofs.recon.run_recon.Goals as goal

pub returns-clause-ok : goal.returns-clause-ok
returns-clause-ok g c =
    let count : c.len.result ≡ length c.in_ok-peer.outcome.trusted.items = omega (arith, c.len.ensures, c.in_ok-peer.outcome.trusted.ok.0) in
    let same : c.deref.result.now ≡ c.in_ok-bytes.bytes.items = search rules in
    on_ok_weaker c.write_recon.result
    (printed c.args.limit (g.R.Read.remaining c.args.reader.now) (g.W.Write.contents c.args.writer.now) (g.W.Write.contents c.write_recon.new.writer) _ c.in_ok-peer.ensures.ok.0 c.in_ok-peer.ensures.ok.1
    c.in_ok-peer.peer.log c.pairs.result.now c.in_ok-peer.outcome c.len.result c.in_ok-bytes.ensures.ok
    (subst (λ (t : List ℕ). TellsRolls t c.in_ok-peer.ensures.ok.0 c.in_ok-peer.ensures.ok.1) same c.in_ok-peer.ensures.ok.2) c.in_ok-peer.ensures.ok.3 c.pairs.ensures count)
    c.write_recon.ensures.ok
