-- Which job the words name, what it writes, and how the program ends.
use Rattle.std.specs.Prelude.{◌≡◌, ◌≢◌, ◌⊎◌, ℕ, Bool, true, false, List, [], ◌∷◌, ◌++◌, codes, Option, Result, Ok, Err, IfSome, string_bytes}
use Rattle.mirror_run.specs.declared.refusal.Refusal.{Refusal}
use Rattle.mirror_run.specs.declared.refusal.Refusal.TheVariants.{Write, Memory as NoMemory}
use Rattle.mirror_run.specs.Reconciled.{IsPrinted, IsReconRefusal}
use Rattle.mirror_run.specs.RefusalText.{refusal_text}
use Rattle.store_run.specs.declared.refusal.Refusal.{Refusal as ServiceRefusal}
use Rattle.store_run.specs.RefusalText.{refusal_text as service_text}
use Rattle.plan_run.specs.Jobs.{IsPlanWritten, IsPlanRefusal, IsLeastWritten, IsCheckRefusal}
use Rattle.clap.specs.Words.{Text, fault_of, subcommand_of}
use Rattle.mirror_words.specs.declared.words.Words.{Words}
use Rattle.mirror_words.specs.declared.words.Words.TheVariants.{Recon, Plan, Check, Serve, Sync, Mirror}
use Rattle.mirror_words.specs.declared.usage.WordsFault.{WordsFault}
use Rattle.mirror_words.specs.declared.usage.WordsFault.TheVariants as fault
use Rattle.mirror_app.specs.declared.jobs.End.{End}
use Rattle.mirror_app.specs.declared.jobs.End.TheVariants.{Done, Refused, Usage, Stopped, Short}
use Rattle.mirror_app.specs.declared.jobs.Went.{Went}
use Rattle.mirror_app.specs.declared.jobs.Went.TheVariants.{Ended, Left}
use Rattle.mirror_words.specs.CommandLine.{nostr_mirror, IsAccepted, IsNamed, IsWithin, Tells}

-- the words name the job
pub record Names (words : List Text) (job : Words) : Type 0 where
  pub accepted : IsAccepted words
  pub named : IsNamed words job
  pub within : IsWithin job
  pub told : Tells (subcommand_of nostr_mirror words) job

-- the job reads its input from standard input
abbrev pub IsOfText : Words → Type 0
IsOfText (Serve path) = ⊥
IsOfText (Sync path progress strict) = ⊥
IsOfText (Mirror path progress) = ⊥
IsOfText job = Unit {0}

-- what the job writes of its input
abbrev pub IsDoneBy : Words → List ℕ → Option (List ℕ) → Option (List ℕ) → Type 0
IsDoneBy (Recon limit) input old new = IsPrinted limit input old new
IsDoneBy Plan input old new = IsPlanWritten input old new
IsDoneBy Check input old new = IsLeastWritten input old new
IsDoneBy (Serve path) input old new = ⊥
IsDoneBy (Sync path progress strict) input old new = ⊥
IsDoneBy (Mirror path progress) input old new = ⊥

-- why the job refuses its input
abbrev pub IsRefusedBy : Words → List ℕ → Refusal → Type 0
IsRefusedBy (Recon limit) input e = IsReconRefusal limit input e
IsRefusedBy Plan input e = IsPlanRefusal input e
IsRefusedBy Check input e = IsCheckRefusal input e
IsRefusedBy (Serve path) input e = ⊥
IsRefusedBy (Sync path progress strict) input e = ⊥
IsRefusedBy (Mirror path progress) input e = ⊥

-- The end of the program: the job that the words name was done, or refused its input, where that is known; or the words
-- name none.
abbrev pub EndsAs : List Text → Option (List ℕ) → Option (List ℕ) → Option (List ℕ) → End → Type 0
EndsAs words input old new Done = (job : Words) × Names words job × IfSome input (λ text. IsDoneBy job text old new)
EndsAs words input old new (Refused e) =
    (e ≡ NoMemory) ⊎ ((job : Words) × Names words job × IfSome input (λ text. IsRefusedBy job text e))
EndsAs words input old new (Usage text) = fault_of nostr_mirror words ≢ []
EndsAs words input old new (Stopped e) = ⊥
EndsAs words input old new Short = ⊥

-- How the program goes: it ends, or the words name a job that isn't done on standard input.
abbrev pub RunsAs : List Text → Option (List ℕ) → Option (List ℕ) → Option (List ℕ) → Went → Type 0
RunsAs words input old new (Ended e) = EndsAs words input old new e
RunsAs words input old new (Left job) = Names words job × ¬ IsOfText job

-- only these leave the output other than it was
abbrev pub MayHaveWritten : Went → Type 0
MayHaveWritten (Ended Done) = Unit {0}
MayHaveWritten (Ended (Refused e)) = e ≡ Write
MayHaveWritten (Ended (Usage text)) = ⊥
MayHaveWritten (Ended (Stopped e)) = ⊥
MayHaveWritten (Ended Short) = ⊥
MayHaveWritten (Left job) = ⊥

-- the end of a job
abbrev pub ending : Result (Unit {0}) Refusal → End
ending (Ok done) = Done
ending (Err e) = Refused e

-- the end of `serve`, `sync` or `mirror`
abbrev pub settled : Result (Unit {0}) ServiceRefusal → Bool → End
settled (Ok done) false = Done
settled (Ok done) true = Short
settled (Err e) short = Stopped e

-- the end of `mirror`, which tells whether a relay failed or an id is left
abbrev pub levelled : Result Bool ServiceRefusal → End
levelled (Ok false) = Done
levelled (Ok true) = Short
levelled (Err e) = Stopped e

-- the exit status
abbrev pub status_of : End → ℕ
status_of Done = 0
status_of (Refused e) = 1
status_of (Usage text) = 2
status_of (Stopped e) = 1
status_of Short = 3

-- what stands on standard error
abbrev pub end_text : End → List ℕ
end_text Done = []
end_text (Refused e) = codes "refused: " ++ refusal_text e ++ 10 ∷ []
end_text (Usage text) = string_bytes text
end_text (Stopped e) = codes "refused: " ++ service_text e ++ 10 ∷ []
end_text Short = []

abbrev pub end_of : WordsFault → End
end_of (fault.Usage text) = Usage text
end_of fault.Memory = Refused NoMemory
