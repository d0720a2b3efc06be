-- What a link keeps of its stream.
use Rattle.std.specs.Prelude.{◌≡◌, ℕ, List, [], ◌∷◌, Bool, Option, None, Some}
use Rattle.neg_session.specs.Exchange.{Exchange}
use Rattle.event_source.specs.Fetching.{Fetching}
use Rattle.nostr_filter.specs.declared.filter.Filter.{Filter}
use Rattle.wire.specs.Line.{Line, Talk, talk_of}
use Rattle.ws_link.specs.Fetched.{AreFetched}
use Rattle.ws_link.specs.Spoken.{IsClient, Spoken}
use mathlib.Core.List.{IsPrefix}

-- the filter that was noted
abbrev pub noted : List (Filter × Bool) → Option Filter
noted [] = None
noted (x ∷ xs) = Some x.0

-- what opens the session, if it is still to be opened
abbrev pub left_of : Option Filter → List Exchange → Option Filter
left_of opens [] = opens
left_of opens (e ∷ es) = None

module _ {S : Type 0} where
  -- what the wire's stream gave, or what was kept of one that is let go
  abbrev pub given_by : Option (Line S) → List ℕ → List ℕ
  given_by None kept = kept
  given_by (Some wire) kept = wire.given

  abbrev pub taken_by : Option (Line S) → List ℕ → List ℕ
  taken_by None kept = kept
  taken_by (Some wire) kept = wire.taken

  -- The log was spoken up to where the wire stands; or up to some moment of a stream that is let go.
  abbrev pub Stands : Option Filter → List Exchange → Option Filter → Option (Line S) → List ℕ → List ℕ → Type 0
  Stands opens log left (Some wire) given taken =
      (first : Talk) × IsClient first × Spoken opens first log (talk_of wire) × (left ≡ left_of opens log)
  Stands opens log left None given taken =
      (first : Talk) × (last : Talk) × IsClient first × Spoken opens first log last × IsPrefix last.given given × IsPrefix last.taken taken

  -- The same of fetches.
  abbrev pub StandsFetched : List Fetching → Option (Line S) → List ℕ → List ℕ → Type 0
  StandsFetched log (Some wire) given taken = (first : Talk) × IsClient first × AreFetched first log (talk_of wire)
  StandsFetched log None given taken =
      (first : Talk) × (last : Talk) × IsClient first × AreFetched first log last × IsPrefix last.given given × IsPrefix last.taken taken
