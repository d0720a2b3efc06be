use Rattle.std.proofs.Common.{◌+◌, ◌-◌, ◌^◌, ◌∙◌, min, cond, ap}
use Rattle.slices.proofs.Covering.{ended_stands}
use Rattle.slices.proofs.course.Slices.end.Goals as goal

pub invariant_of-self : goal.invariant_of-self
invariant_of-self c =
    let was = c.self.inside in
    rw (c.behind-self-inside.ensures, c.and-self-inside.ensures)
    (ended_stands c.args.how (record { since = was.since; until = was.until; next = was.next; bound = was.bound; gone = was.gone.items }) c.in-Some.slice was.taken was.given_up _ _ c.in-Some.is c.self.invariant
    (c.one_more-self-inside.ensures ∙ ap (λ b. min (was.taken + cond b 1 0) (2 ^ 64 - 1)) c.is_taken.ensures)
    (c.one_more-self-inside-2.ensures ∙ ap (λ b. min (was.given_up + cond b 1 0) (2 ^ 64 - 1)) c.is_given_up.ensures))
