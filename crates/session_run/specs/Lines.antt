-- What the job prints, byte by byte.
use Rattle.std.specs.Prelude.{ℕ, List, ◌++◌, codes, decimal, flat_map, length, Result, Ok, Err}
use Rattle.std.specs.List.{enumerate_from}
use Rattle.neg_session.specs.declared.fault.SessionFault.{SessionFault}
use Rattle.neg_session.specs.Faults.{number_of}
use Rattle.fetch_plan.specs.Plan.{Planned}
use Rattle.mirror_core.specs.declared.end.End.{End}
use Rattle.mirror_core.specs.declared.end.End.TheVariants.{Finished, Failed}
use Rattle.session_run.specs.declared.fetching.Counts.{Counts}

-- how many ids are needed of a relay, or what failed
abbrev pub needed_text : Result ℕ SessionFault → List ℕ
needed_text (Ok need) = codes " need " ++ decimal need
needed_text (Err fault) = codes " failed " ++ decimal (number_of fault)

abbrev pub session_text : ℕ → Result ℕ SessionFault → List ℕ
session_text relay needed = codes "relay " ++ decimal relay ++ needed_text needed

abbrev pub needed_of : End → Result ℕ SessionFault
needed_of (Finished o) = Ok (length o.need.keys)
needed_of (Failed e) = Err e

-- the line of a relay's session
abbrev pub end_line : ℕ → End → List ℕ
end_line relay end = session_text relay (needed_of end) ++ codes "\n"

-- the lines of all sessions, in the order of the relays
abbrev pub ends_text : List End → List ℕ
ends_text ends = flat_map (λ p. end_line p.0 p.1) (enumerate_from 0 ends)

abbrev pub group_line : List ℕ → List ℕ
group_line relays = codes "group" ++ flat_map (λ r. codes " " ++ decimal r) relays ++ codes "\n"

-- a name and a number
abbrev pub number_line : List ℕ → ℕ → List ℕ
number_line name n = name ++ codes " " ++ decimal n ++ codes "\n"

-- a plan's busiest load, and its group
abbrev pub plan_text : Planned → List ℕ
plan_text plan = number_line (codes "least") plan.least_max ++ group_line plan.group

-- a later round
abbrev pub round_text : ℕ → Planned → List ℕ
round_text round plan = number_line (codes "round") round ++ plan_text plan

-- what became of the ids
abbrev pub counts_text : Counts → List ℕ
counts_text c = number_line (codes "given") c.given ++ number_line (codes "missed") c.missed ++ number_line (codes "left") c.left
