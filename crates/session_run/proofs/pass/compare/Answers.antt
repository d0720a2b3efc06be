use Rattle.session_run.proofs.pass.compare.Goals as goal

pub returns : goal.returns
returns g c = c.compare_over.ensures _ (rw c.in_ok-snapshot.ensures.events at c.in_ok-snapshot.ensures.items)
