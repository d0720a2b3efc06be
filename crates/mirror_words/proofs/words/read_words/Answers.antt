use Rattle.std.proofs.Common.{◌≡◌, List, [], true, map, refl, ap, sym, ◌∙◌, string_bytes}
use Rattle.std.proofs.lemmas.Result.{err_from_is_err_and}
use Rattle.clap.specs.Words.{App, app_of, is_simple_and_free, fault_of}
use Rattle.std.specs.Prelude.{option_map, Box}
use Rattle.std.specs.Box.{box_value}
use Rattle.std.proofs.Common.{Option, None, Some}
use Rattle.clap.specs.Simple.{subcommand_rows}
use Rattle.clap.specs.Words.{subcommand_name_of, subcommand_of, HasMatchesOf, Text, is_simple}
use Rattle.clap.specs.declared.parser.matches.ArgMatches.{ArgMatches}
use Rattle.clap.specs.declared.parser.matches.ArgMatches.TheViews.{out-ArgMatches, out-SubCommand}
use Rattle.clap.specs.declared.parser.matches.SubCommand.{SubCommand}
use Rattle.clap.proofs.OnLiterals.{clap_on_literals}
use Rattle.mirror_words.specs.CommandLine.{nostr_mirror, IsJob}
use Rattle.mirror_words.proofs.Subcommands.{named_job}
use Rattle.mirror_words.proofs.words.read_words.Goals as goal

is_plain : is_simple_and_free nostr_mirror ≡ true
unfolding clap_on_literals
is_plain = refl

simple : is_simple nostr_mirror ≡ true
unfolding clap_on_literals
simple = refl

pub returns-in_err-command-clause-refused : goal.returns-in_err-command-clause-refused
returns-in_err-command-clause-refused c =
    let p = err_from_is_err_and c.from_residual.result c.from_residual.ensures.1 in rw (p.1, p.2) tt

pub returns-clause-accepted : goal.returns-clause-accepted
returns-clause-accepted c =
    let app = c.in_ok-command.ensures in
    let taken = c.in-Ok.ensures.kinds (ap is_simple_and_free app ∙ is_plain) in
    ap (λ (a : App). fault_of a (map string_bytes c.args.words.now)) (sym app) ∙ taken

-- the name of a subcommand is that of its matches
module _ {Z : Type 0} where
  name_in : (o : Option (Box SubCommand Z)) → option_map (λ s. s.0) (subcommand_rows o) ≡ option_map (λ b. (out-SubCommand (box_value b)).name.now) o
  name_in None = refl
  name_in (Some b) = refl

-- matches of words that were taken
module _ (app : App) (words : List Text) (m : ArgMatches) (is : app ≡ nostr_mirror) (taken : fault_of nostr_mirror words ≡ []) (found : HasMatchesOf app words m) where
  same_name : subcommand_name_of m ≡ option_map (λ s. s.0) (subcommand_of nostr_mirror words)
  same_name =
      sym (name_in (out-ArgMatches m).subcommand)
      ∙ ap (option_map (λ s. s.0)) ((found (ap is_simple is ∙ simple)).1)
      ∙ ap (λ (a : App). option_map (λ s. s.0) (subcommand_of a words)) is

  has_job : IsJob (subcommand_name_of m)
  has_job = let j = named_job words taken in (j.0, same_name ∙ j.1)

pub job_of-requires : goal.job_of-requires
job_of-requires c =
    let app = c.in_ok-command.ensures in
    let words : List Text = map string_bytes c.args.words.now in
    let taken = ap (λ (a : App). fault_of a words) (sym app) ∙ c.in-Ok.ensures.kinds (ap is_simple_and_free app ∙ is_plain) in
    has_job (app_of c.in_ok-command.command) words c.in-Ok.matches app taken c.in-Ok.ensures.matches

pub returns-clause-named : goal.returns-clause-named
returns-clause-named c =
    let app = c.in_ok-command.ensures in
    let words : List Text = map string_bytes c.args.words.now in
    let taken = ap (λ (a : App). fault_of a words) (sym app) ∙ c.in-Ok.ensures.kinds (ap is_simple_and_free app ∙ is_plain) in
    sym (same_name (app_of c.in_ok-command.command) words c.in-Ok.matches app taken c.in-Ok.ensures.matches) ∙ c.in_ok-job.ensures.name

pub returns-in_err-job-clause-refused : goal.returns-in_err-job-clause-refused
returns-in_err-job-clause-refused c =
    let p = err_from_is_err_and c.from_residual-in_err-job.result c.from_residual-in_err-job.ensures.1 in rw (p.1, p.2) tt
