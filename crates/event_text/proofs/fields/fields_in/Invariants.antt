use Rattle.std.proofs.Common.{List, ◌≤◌, length}
use Rattle.json.specs.Token.{Token}
use Rattle.serde_json.specs.Data.{Members, no_members}
use Rattle.event_text.specs.Tokens.{GivesMembers}
use Rattle.event_text.specs.Fields.{Hold}
use Rattle.event_text.proofs.fields.fields_in.Given as goal

abbrev pub invariant-fields : goal.invariant-fields
invariant-fields l =
    (found : Members) × Hold found l.fields
    × ((all : Members) (rest : List Token) → GivesMembers l.depth l.reader found all rest → GivesMembers l.depth l.initial.reader no_members all rest)
    × (length l.reader ≤ length l.initial.reader)

abbrev pub decreases-fields : goal.decreases-fields
decreases-fields l = length l.reader
