use Rattle.std.proofs.Common.{List, ◌++◌, ◌≤◌, map, length}
use Rattle.json.specs.Token.{Token}
use Rattle.serde_json.specs.Data.{Data}
use Rattle.event_text.specs.Tokens.{Gives, tag_data}
use Rattle.event_text.proofs.tags.each_tag_in.Given as goal

abbrev pub invariant-tags : goal.invariant-tags
invariant-tags l =
    ((more : List Data) (rest : List Token) → Gives l.depth l.reader more rest → Gives l.depth l.initial.reader (map tag_data l.tags ++ more) rest)
    × (length l.reader ≤ length l.initial.reader)

abbrev pub decreases-tags : goal.decreases-tags
decreases-tags l = length l.reader
