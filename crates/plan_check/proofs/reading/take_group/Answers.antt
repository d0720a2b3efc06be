use Rattle.std.proofs.Common.{◌≡◌, ◌∷◌, [], ℕ, length, Result, Ok, Err, Option, Some, None, Vec, ap, ◌∙◌, arith}
use Rattle.std.specs.Prelude.{IfOk, IfSome}
use Rattle.std.proofs.lemmas.Bool.Decides.{nat_tests}
use Rattle.std.specs.Global.{Global}
use Rattle.plan_check.specs.TextLines.{lines_of, ended}
use Rattle.plan_check.specs.PlanText.{group_line}
use Rattle.plan_check.proofs.LineLemmas.{no_lines}
use Rattle.plan_check.proofs.reading.take_group.Goals as goal

inside : {X E : Type 0} (P Q : X → Type 0) → ((x : X) → P x → Q x) → (r : Result (Option X) E) → IfOk r (λ o. IfSome o P) → IfOk r (λ o. IfSome o Q)
inside P Q f (Ok (Some x)) h = f x h
inside P Q f (Ok None) h = tt
inside P Q f (Err e) h = tt

pub returns-clause-lines : goal.returns-clause-lines
returns-clause-lines c =
    let none : length c.in-Some.rest.now ≡ 0 = grind (arith, nat_tests) in
    inside (λ (g : Vec ℕ Global). c.in-Some.line.now ≡ group_line g.items) (λ (g : Vec ℕ Global). lines_of c.args.text.now ≡ ended (group_line g.items) ∷ [])
    (λ g e. c.in-Some.ensures.lines ∙ ap (λ l. ended l ∷ lines_of c.in-Some.rest.now) e ∙ ap (λ t. ended (group_line g.items) ∷ t) (no_lines c.in-Some.rest.now none))
    c.parse_group.result c.parse_group.ensures.found
