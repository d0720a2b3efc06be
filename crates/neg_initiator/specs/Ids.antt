-- The order of ids in a set: by their bytes.
use Rattle.std.specs.declared.cmp.Ordering.{Ordering}
use Rattle.std.specs.Ordering.{nat_cmp}
use Rattle.std.specs.Cmp.Lexicographic.{slice_cmp}
use Rattle.item_key.specs.declared.Id.{Id}

abbrev pub id_cmp : Id → Id → Ordering
id_cmp a b = slice_cmp nat_cmp a.0 b.0
