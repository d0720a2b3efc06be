use Rattle.std.proofs.Common.{List, ◌++◌, length}
use Rattle.json.specs.Token.{Token}
use Rattle.serde_json.specs.Data.{Data}
use Rattle.nostr_wire.specs.Stream.{Gives, GivesNone, Stand}
use Rattle.nostr_wire.proofs.streaming.filters_in.Given as goal

abbrev pub invariant-elements : goal.invariant-elements
invariant-elements l =
    (ds : List Data) × Stand l.most l.few ds × ((more : List Data) (rest : List Token) → Gives l.reader more rest → Gives l.initial.reader (ds ++ more) rest) × (GivesNone l.reader → GivesNone l.initial.reader)

abbrev pub decreases-elements : goal.decreases-elements
decreases-elements l = length l.reader
