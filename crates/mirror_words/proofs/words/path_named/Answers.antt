use Rattle.std.proofs.Common.{◌∙◌, Option, codes, subst}
use Rattle.clap.specs.Words.{Text, found_of}
use Rattle.clap.proofs.WalkLemmas.{first_value-rows}
use Rattle.mirror_words.specs.CommandLine.{IsPathOf}
use Rattle.mirror_words.proofs.words.path_named.Goals as goal

pub returns-in_ok-from_str-in-Some : goal.returns-in_ok-from_str-in-Some
returns-in_ok-from_str-in-Some c =
    let e = c.in-Some.ensures ∙ first_value-rows (found_of c.args.matches.now) (codes "SETTINGS") in
    subst (λ (t : Option Text). IsPathOf t c.new.result) e (c.new.ensures ∙ c.in_ok-from_str-in-Some.ensures.ok)

pub returns-in-None : goal.returns-in-None
returns-in-None c =
    let e = c.in-None.ensures ∙ first_value-rows (found_of c.args.matches.now) (codes "SETTINGS") in
    subst (λ (t : Option Text). IsPathOf t c.new-in-None-2.result) e (c.new-in-None-2.ensures ∙ c.new-in-None.ensures.bytes)
