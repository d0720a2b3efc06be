use Rattle.std.proofs.Common.{◌≡◌, ◌≢◌, ◌-◌, ◌∷◌, ◌++◌, ℕ, List, [], Some, None, length, take, lit<, ap, ◌∙◌}
use Rattle.std.proofs.lemmas.Str.Pattern.{strip_prefix_char, ends_char}
use Rattle.mirror_settings.proofs.url.is_bracketed.Goals as goal

pub returns-in-Some : goal.returns-in-Some
returns-in-Some c =
    let rest = c.in-Some.rest.now in
    let is : c.args.host.now ≡ 91 ∷ rest = strip_prefix_char 91 c.args.host.now (Some c.in-Some.rest) c.in-Some.ensures.cases (lit< tt) in
    let ends = ends_char 93 rest c.ends_with.result c.ends_with.ensures.cases (lit< tt) in (
      λ yes. (take (length rest - 1) rest, is ∙ ap (λ s. 91 ∷ s) (ends.0 yes)),
      λ b. (let tail : rest ≡ b.0 ++ 93 ∷ [] = cc (is, b.1) in ends.1 b.0 tail),
    )

pub returns-in-None : goal.returns-in-None
returns-in-None c =
    let none : (rest : List ℕ) → c.args.host.now ≢ 91 ∷ rest = strip_prefix_char 91 c.args.host.now None c.in-None.ensures.cases (lit< tt) in
    (λ e. absurd (cc), λ b. absurd (none (b.0 ++ 93 ∷ []) b.1))
