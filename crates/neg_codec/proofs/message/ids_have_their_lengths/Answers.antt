use Rattle.std.proofs.Common.{List, subst}
use Rattle.std.specs.Prelude.{All}
use Rattle.std.proofs.lemmas.List.{take_all}
use Rattle.std.proofs.lemmas.List.Elements.{All-more}
use Rattle.item_key.specs.declared.Id.{Id}
use Rattle.item_key.specs.Keys.{IsId}
use Rattle.neg_codec.proofs.message.ids_have_their_lengths.Goals as goal

pub loop-id-preserved : goal.loop-id-preserved
loop-id-preserved c = All-more IsId c.args.list.now c.loop-id.id-index _ c.loop-id-test.true c.loop-id.invariant c.as_bytes.ensures.whole

pub returns : goal.returns
returns c = subst (λ (x : List Id). All IsId x) (take_all c.loop-id.id-index c.args.list.now c.loop-id-test.false) c.loop-id.invariant
