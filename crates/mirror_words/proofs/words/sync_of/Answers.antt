use Rattle.std.proofs.Common.{◌≡◌, ◌∙◌, List, Option, None, Some, codes, ap, subst}
use Rattle.std.specs.Prelude.{option_map}
use Rattle.clap.specs.Words.{Row, Text, first_of, found_of, one_of, rows_of, subcommand_rows_of}
use Rattle.clap.proofs.WalkLemmas.{one_text-rows}
use Rattle.mirror_words.specs.CommandLine.{IsPathOf, path_text, progress_text, strict_text}
use Rattle.mirror_words.proofs.words.sync_of.Goals as goal

path_in : (found : Option (Text × List Row)) (rows : List Row) → option_map (λ p. p.1) found ≡ Some rows → first_of (codes "SETTINGS") rows ≡ path_text found
path_in None rows e = cc
path_in (Some p) rows e = let same : rows ≡ p.1 = cc in ap (first_of (codes "SETTINGS")) same

progress_in : (found : Option (Text × List Row)) (rows : List Row) → option_map (λ p. p.1) found ≡ Some rows → one_of (codes "progress") rows ≡ progress_text found
progress_in None rows e = cc
progress_in (Some p) rows e = let same : rows ≡ p.1 = cc in ap (one_of (codes "progress")) same

strict_in : (found : Option (Text × List Row)) (rows : List Row) → option_map (λ p. p.1) found ≡ Some rows → one_of (codes "strict") rows ≡ strict_text found
strict_in None rows e = cc
strict_in (Some p) rows e = let same : rows ≡ p.1 = cc in ap (one_of (codes "strict")) same

pub returns-clause-exact : goal.returns-clause-exact
returns-clause-exact c =
    let found = subcommand_rows_of c.args.matches.now in
    let rows = rows_of (found_of c.in-Some.sync.now) in
    let flag = one_text-rows (found_of c.in-Some.sync.now) (codes "progress") ∙ progress_in found rows c.in-Some.ensures.rows in
    let other = one_text-rows (found_of c.in-Some.sync.now) (codes "strict") ∙ strict_in found rows c.in-Some.ensures.rows in (
      subst (λ (t : Option Text). IsPathOf t c.in_ok-path-in-Some.path) (path_in found rows c.in-Some.ensures.rows) c.in_ok-path-in-Some.ensures,
      ((λ n. c.get_flag-progress.ensures.none (flag ∙ n)), (λ n. c.get_flag-progress.ensures.value (flag ∙ n)), (λ n. c.get_flag-progress.ensures.other (flag ∙ n))),
      ((λ n. c.get_flag-strict.ensures.none (other ∙ n)), (λ n. c.get_flag-strict.ensures.value (other ∙ n)), (λ n. c.get_flag-strict.ensures.other (other ∙ n))),
    )
