-- Which range of a list keeps it from being a message.
use Rattle.std.specs.Prelude.{ℕ, ◌+◌, List, [], ◌∷◌, Option, Some, None, nat_lt, if◌then◌else◌}
use Rattle.item_key.specs.declared.Item.{Item}
use Rattle.neg_codec.specs.declared.CodecFault.{CodecFault}
use Rattle.neg_codec.specs.declared.CodecFault.TheVariants as fault
use Rattle.item_key.specs.Keys.{place, endless, least}
use Rattle.neg_codec.specs.Ranges.{Span}

-- of the ranges from index i on, the first whose bound is below the one before, or follows infinity
abbrev pub misplaced_from : ℕ → Item → List Span → Option CodecFault
misplaced_from i before [] = None
misplaced_from i before (r ∷ rs) =
    if nat_lt (place r.upper) (place before)
    then Some (fault.Descending i)
    else (if nat_lt before.time endless then misplaced_from (i + 1) r.upper rs else Some (fault.AfterInfinity i))

unfoldable pub first_misplaced : List Span → Option CodecFault
first_misplaced rs = misplaced_from 0 least rs
