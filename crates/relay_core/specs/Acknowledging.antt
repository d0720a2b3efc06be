-- Which messages tell a client that its event is kept.
use Rattle.std.specs.Prelude.{◌≡◌, Bool, false, List, ◌∷◌}
use Rattle.std.specs.List.{AllByRecursion}
use Rattle.nostr_wire.specs.Elements.{Said, flag, id}
use Rattle.nostr_wire.specs.Forms.{Form}

-- the flag behind an id
abbrev pub flag_in : List Said → Bool
flag_in (id i ∷ flag b ∷ more) = b
flag_in said = false

-- an OK with true: of all messages OK alone has an id and a flag
abbrev pub acknowledges : Form → Bool
acknowledges m = flag_in m.said

-- none of them is an OK with true
abbrev pub AcknowledgeNone : List Form → Type 0
AcknowledgeNone messages = AllByRecursion (λ (m : Form). acknowledges m ≡ false) messages
