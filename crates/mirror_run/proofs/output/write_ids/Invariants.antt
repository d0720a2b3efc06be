use Rattle.std.proofs.Common.{[], ◌∷◌, map}
use Rattle.std.specs.List.{flat_map}
use Rattle.mirror_run.specs.Waiting.{Sends}
use Rattle.std.specs.Map.Iter.{deref}
use Rattle.mirror_run.specs.ReconText.{message_text}
use Rattle.mirror_run.proofs.output.write_ids.Given as goal

abbrev pub invariant-loop-id : goal.invariant-loop-id
invariant-loop-id g l =
    Sends (g.W.Write.contents l.initial.out) l.initial.wait.items (g.W.Write.contents l.out) l.wait.items
    (flat_map (λ id. message_text (l.sign ∷ []) id.0) (map deref l.yielded))
