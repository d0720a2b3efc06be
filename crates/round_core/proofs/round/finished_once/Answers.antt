use Rattle.round_core.proofs.Finishes.{finished_first, placed_before}
use Rattle.round_core.proofs.round.finished_once.Goals as goal

pub returns-clause-once : goal.returns-clause-once
returns-clause-once c lanes plans before after w i k legal t = finished_first lanes plans before after w i legal k t

pub returns-clause-placed : goal.returns-clause-placed
returns-clause-placed c lanes plans before after w i legal = placed_before lanes plans before after w i legal
