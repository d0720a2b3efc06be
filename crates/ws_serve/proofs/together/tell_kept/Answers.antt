use Rattle.std.proofs.Common.{inl, refl}
use Rattle.ws_serve.proofs.Answering.{refused_says}
use Rattle.ws_serve.proofs.Placing.{refused_may}
use Rattle.ws_serve.proofs.together.tell_kept.Goals as goal

pub returns-in-Some-clause-says : goal.returns-in-Some-clause-says
returns-in-Some-clause-says g c = refused_says c.acknowledge.result c.args.placed.now.id _ _ _ _ refl (inl (c.args.placed.now.fresh, refl)) c.acknowledge.ensures.says

pub returns-in-Some-clause-failed : goal.returns-in-Some-clause-failed
returns-in-Some-clause-failed g c = refused_may c.acknowledge.result c.args.placed.now.id _ _ _ _ refl (inl (c.args.placed.now.fresh, refl)) c.acknowledge.ensures.failed
