-- What is told, byte by byte.
use Rattle.std.specs.Prelude.{ℕ, List, ◌++◌, codes, decimal, Option}
use Rattle.std.specs.Io.KnownBytes.{Appends}
use Rattle.pass_run.specs.declared.roster.News.{News}
use Rattle.pass_run.specs.declared.roster.News.TheVariants.{Stands, LeftOut}
use Rattle.pass_run.specs.declared.roster.State.{State}
use Rattle.pass_run.specs.declared.roster.State.TheVariants.{Unknown, Level, Failed}
use Rattle.pass_run.specs.declared.tally.Tally.{Tally}

-- what became of ids
unfoldable pub tally_text : Tally → List ℕ
tally_text t = codes "need " ++ decimal t.need ++ codes " given " ++ decimal t.given ++ codes " missed " ++ decimal t.missed ++ codes " left " ++ decimal t.left

-- a pass's number, and how many relays are level of how many
unfoldable pub head_text : ℕ → ℕ → ℕ → List ℕ
head_text pass level relays = codes "pass " ++ decimal pass ++ codes " relays " ++ decimal level ++ codes "/" ++ decimal relays

-- what a pass came to: its number, how many relays are level of how many, what became of the ids of all its slices, and how many
-- milliseconds it took
abbrev pub pass_text : ℕ → ℕ → ℕ → Tally → ℕ → List ℕ
pass_text pass level relays t millis =
    head_text pass level relays ++ codes " " ++ tally_text t ++ codes " ms " ++ decimal millis

abbrev pub state_text : State → List ℕ
state_text Unknown = codes " unknown"
state_text Level = codes " level"
state_text (Failed n) = codes " failed " ++ decimal n

-- what is new of a relay
abbrev pub news_text : ℕ → News → List ℕ
news_text relay (Stands s) = codes "relay " ++ decimal relay ++ state_text s
news_text relay (LeftOut second n) = codes "relay " ++ decimal relay ++ codes " left out " ++ decimal second ++ codes " failed " ++ decimal n

-- a line, with a time in front
abbrev pub line_of : List ℕ → List ℕ → List ℕ
line_of stamp text = stamp ++ codes " " ++ text ++ codes "\n"

-- the text is told in a line, with some time in front
abbrev pub IsStamped : Option (List ℕ) → Option (List ℕ) → List ℕ → Type 0
IsStamped old new text = (stamp : List ℕ) × Appends old new (line_of stamp text)
