-- The bounds of a trusted stretch.
use Rattle.neg_codec.specs.declared.Bound.{Bound}
use Rattle.item_key.specs.declared.Item.{Item}
use Rattle.item_key.specs.declared.key.Key.{Key}
use Rattle.neg_codec.specs.Ranges.{edge_of}

abbrev pub pair_of : Key × Bound → Item × Item
pair_of t = (t.0, edge_of t.1)
