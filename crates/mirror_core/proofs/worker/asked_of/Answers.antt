use Rattle.std.proofs.Common.{◌≡◌, ◌<◌, ℕ, List, length, get_or, Option, Some, sym, subst}
use Rattle.std.specs.Prelude.{Contains, IfSome}
use Rattle.std.specs.Arc.{arc_value}
use Rattle.std.specs.declared.sync.Arc.{Arc as AnArc}
use Rattle.std.specs.declared.alloc.Global.{Global as AGlobal}
use Rattle.std.proofs.lemmas.List.Elements.{All-push, Contains-get_or}
use Rattle.item_key.specs.declared.Id.{Id}
use Rattle.nostr_event.specs.EventView.{EventView}
use Rattle.event_source.specs.Fetching.{IsGiven, IsAsked}
use Rattle.mirror_core.proofs.worker.asked_of.Goals.{in-Some+in_ok-push, in_default}
use Rattle.mirror_core.proofs.worker.asked_of.Goals as goal

asked_one : (ids : List Id) (k : ℕ) (d : Id) (given : List (AnArc EventView AGlobal)) (o : Option (AnArc EventView AGlobal)) (e : AnArc EventView AGlobal)
    → k < length ids → o ≡ Some e → IfSome o (λ event. IsGiven (get_or ids k d) given (arc_value event)) → IsAsked ids given (arc_value e)
asked_one ids k d given o e lt is h =
    let one = subst (λ (x : Option (AnArc EventView AGlobal)). IfSome x (λ event. IsGiven (get_or ids k d) given (arc_value event))) is h in
    (subst (Contains ids) (sym one.0) (Contains-get_or ids k d lt), one.1)

pub loop-id-preserved : goal.loop-id-preserved
loop-id-preserved c = elim c.match-branch-3.branch [
  | in-Some+in_ok-push w ↦
      let asked = asked_one c.args.ids.now c.loop-id.id-index _ c.args.given.now _ w.in-Some.event c.loop-id-test.true w.in-Some.is c.in_ok-event.ensures in
      rw w.asked-is (rw w.in_ok-push.ensures.items (All-push (λ event. IsAsked c.args.ids.now c.args.given.now (arc_value event)) c.loop-id.asked.items w.in-Some.event c.loop-id.invariant asked))
  | in_default w ↦ rw w.asked-is c.loop-id.invariant
]
