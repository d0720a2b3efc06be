use Rattle.std.proofs.Common.{arith, ap, sym, append_assoc, ◌∙◌, ◌++◌, ◌∷◌, [], take, length, length-append}
use Rattle.std.specs.Arc.{arc_value}
use Rattle.std.proofs.lemmas.List.{take_all, length-take-le}
use Rattle.event_list.proofs.Chunked.{took_more}
use Rattle.event_list.proofs.list.put_all.Goals as goal

pub push-requires : goal.push-requires
push-requires c =
    let before = c.args.events.now in
    let few = c.args.few.now in
    omega (arith, ap length c.loop-i.invariant, length-append before (take c.loop-i.i few), length-append before few, length-take-le c.loop-i.i few (omega (arith, c.loop-i.auto.i-end, c.len-i-end.ensures)), c.loop-i-test.true, c.len-i-end.ensures, c.requires)

pub loop-i-preserved : goal.loop-i-preserved
loop-i-preserved c =
    let before = c.args.events.now in
    let few = c.args.few.now in
    let e = arc_value c.get.result.now in
    c.in_ok-push.ensures.ok ∙ ap (λ xs. xs ++ e ∷ []) c.loop-i.invariant ∙ append_assoc before (take c.loop-i.i few) (e ∷ [])
    ∙ ap (λ xs. before ++ xs) (sym (took_more few c.loop-i.i e c.get.ensures))

pub returns-clause-ok : goal.returns-clause-ok
returns-clause-ok c = c.loop-i.invariant ∙ ap (λ xs. c.args.events.now ++ xs) (take_all c.loop-i.i c.args.few.now (omega (arith, c.loop-i-test.false, c.len-i-end.ensures)))
