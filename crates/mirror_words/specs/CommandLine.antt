-- The words that the program takes.
use Rattle.std.specs.Prelude.{◌≡◌, ◌≢◌, ◌≤◌, ℕ, Bool, true, false, List, [], codes, Option, Some, None, option_map, option_and_then}
use Rattle.std.specs.Str.Parse.{digits_value, without_leading_plus}
use Rattle.clap.specs.Words.{App, IsUnsignedIn, Row, Rule, Text, new_app, new_rule, first_of, one_of, with_rule, with_subcommand, subcommand_of, fault_of}
use Rattle.clap.specs.declared.builder.action.ArgAction.TheVariants.{SetTrue}
use Rattle.clap.specs.declared.builder.value_parser.ValueParser.TheVariants as parser
use Rattle.mirror_words.specs.declared.words.Words.{Words}
use Rattle.mirror_words.specs.declared.words.Words.TheVariants.{Recon, Plan, Check, Serve, Sync, Mirror}
use Rattle.mirror_words.specs.declared.usage.WordsFault.{WordsFault}
use Rattle.mirror_words.specs.declared.usage.WordsFault.TheVariants.{Usage, Memory}

-- `--limit N`, a number from 4,096 to 1,048,576
abbrev pub limit_rule : Rule
limit_rule = record (new_rule (codes "limit")) { long = Some (codes "limit"); value_names = 1; parser = Some (parser.Unsigned 4096 1048576) }

abbrev pub recon : App
recon = with_rule (new_app (codes "recon")) limit_rule

abbrev pub plan : App
plan = new_app (codes "plan")

abbrev pub check : App
check = new_app (codes "check")

-- the path of the settings, which has to be there
abbrev pub settings_rule : Rule
settings_rule = record (new_rule (codes "SETTINGS")) { required = true }

-- `--progress`
abbrev pub progress_rule : Rule
progress_rule = record (new_rule (codes "progress")) { long = Some (codes "progress"); action = Some SetTrue }

-- `--strict`
abbrev pub strict_rule : Rule
strict_rule = record (new_rule (codes "strict")) { long = Some (codes "strict"); action = Some SetTrue }

abbrev pub serve : App
serve = with_rule (new_app (codes "serve")) settings_rule

abbrev pub sync : App
sync = with_rule (with_rule (with_rule (new_app (codes "sync")) settings_rule) progress_rule) strict_rule

abbrev pub mirror : App
mirror = with_rule (with_rule (new_app (codes "mirror")) settings_rule) progress_rule

abbrev pub wants_subcommand : App → App
wants_subcommand a = record a { top = record a.top { subcommand_required = true } }

abbrev pub tells_version : App → App
tells_version a = record a { top = record a.top { has_version = true } }

-- the program without its subcommands, which tells its version
abbrev pub program : App
program = wants_subcommand (tells_version (new_app (codes "nostr-mirror")))

-- the program with the jobs of texts that it reads from standard input
abbrev pub reads_texts : App
reads_texts = with_subcommand (with_subcommand (with_subcommand program recon.top) plan.top) check.top

-- one of the subcommands has to be named, and no other word
abbrev pub nostr_mirror : App
nostr_mirror = with_subcommand (with_subcommand (with_subcommand reads_texts serve.top) sync.top) mirror.top

-- the name of the subcommand
abbrev pub name_of : Words → Text
name_of (Recon limit) = codes "recon"
name_of Plan = codes "plan"
name_of Check = codes "check"
name_of (Serve path) = codes "serve"
name_of (Sync path progress strict) = codes "sync"
name_of (Mirror path progress) = codes "mirror"

-- the limit of a session's messages is in its range
abbrev pub IsWithin : Words → Type 0
IsWithin (Recon limit) = (4096 ≤ limit) × (limit ≤ 1048576)
IsWithin job = Unit {0}

-- the text of `--limit` among what was found for a subcommand
abbrev pub limit_text : Option (Text × List Row) → Option Text
limit_text found = option_and_then (λ s. one_of (codes "limit") s.1) found

-- the limit is the number that the text spells, where that is in its range, and 60,000 where there is no text
abbrev pub IsLimitOf : Option Text → ℕ → Type 0
IsLimitOf None limit = limit ≡ 60000
IsLimitOf (Some text) limit = IsUnsignedIn 4096 1048576 text → limit ≡ digits_value 10 (without_leading_plus text)

-- the path is the text of SETTINGS; clap takes no words without it
abbrev pub IsPathOf : Option Text → Text → Type 0
IsPathOf None path = path ≡ []
IsPathOf (Some text) path = path ≡ text

abbrev pub path_text : Option (Text × List Row) → Option Text
path_text found = option_and_then (λ s. first_of (codes "SETTINGS") s.1) found

-- whether an option such as `--progress` is there: clap keeps `true` or `false` for it
abbrev pub IsFlagOf : Option Text → Bool → Type 0
IsFlagOf text flag = (text ≡ None → flag ≡ false) × (text ≡ Some (codes "true") → flag ≡ true) × (text ≡ Some (codes "false") → flag ≡ false)

abbrev pub progress_text : Option (Text × List Row) → Option Text
progress_text found = option_and_then (λ s. one_of (codes "progress") s.1) found

abbrev pub strict_text : Option (Text × List Row) → Option Text
strict_text found = option_and_then (λ s. one_of (codes "strict") s.1) found

-- what the job is told is what was found
abbrev pub Tells : Option (Text × List Row) → Words → Type 0
Tells found (Recon limit) = IsLimitOf (limit_text found) limit
Tells found (Serve path) = IsPathOf (path_text found) path
Tells found (Sync path progress strict) = IsPathOf (path_text found) path × IsFlagOf (progress_text found) progress × IsFlagOf (strict_text found) strict
Tells found (Mirror path progress) = IsPathOf (path_text found) path × IsFlagOf (progress_text found) progress
Tells found job = Unit {0}

-- the name of a job
abbrev pub IsJob : Option Text → Type 0
IsJob name = (job : Words) × (name ≡ Some (name_of job))

-- the subcommand that clap finds in the words is this one
abbrev pub IsNamed : List Text → Words → Type 0
IsNamed words job = option_map (λ s. s.0) (subcommand_of nostr_mirror words) ≡ Some (name_of job)

abbrev pub IsUsage : WordsFault → Type 0
IsUsage (Usage text) = Unit {0}
IsUsage Memory = ⊥

-- clap takes the words
abbrev pub IsAccepted : List Text → Type 0
IsAccepted words = fault_of nostr_mirror words ≡ []

-- a fault other than want of memory comes only where clap doesn't
abbrev pub IsDue : List Text → WordsFault → Type 0
IsDue words (Usage text) = fault_of nostr_mirror words ≢ []
IsDue words Memory = Unit {0}
