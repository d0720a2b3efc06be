use Rattle.std.proofs.Common.{take}
use Rattle.std.specs.Prelude.{All}
use Rattle.item_key.specs.Keys.{IsId}
use Rattle.neg_codec.proofs.message.ids_have_their_lengths.Given as goal

abbrev pub invariant-loop-id : goal.invariant-loop-id
invariant-loop-id l = All IsId (take l.id-index l.list)
