use Rattle.std.proofs.Common.{List, ◌++◌, ◌≤◌, map, length}
use Rattle.json.specs.Token.{Token}
use Rattle.serde_json.specs.Data.{Data, string}
use Rattle.event_text.specs.Tokens.{Gives}
use Rattle.event_text.proofs.tags.texts_in.Given as goal

abbrev pub invariant-texts : goal.invariant-texts
invariant-texts l =
    ((more : List Data) (rest : List Token) → Gives l.depth l.reader more rest → Gives l.depth l.initial.reader (map string (map (λ t. t.now) l.texts.items) ++ more) rest)
    × (length l.reader ≤ length l.initial.reader)

abbrev pub decreases-texts : goal.decreases-texts
decreases-texts l = length l.reader
