use Rattle.std.proofs.Common.{◌≡◌, ◌<◌, [], ◌∷◌, length, take, drop, arith, take_all, add-one, suc, inl, inr, refl}
use Rattle.std.proofs.lemmas.List.{drop_all}
use Rattle.std.proofs.lemmas.Bool.Decides.{nat_tests}
use Rattle.mirror_run.proofs.LineLemmas.{lines_of-cut, lines_of-whole, parts_at}
use Rattle.mirror_run.specs.Lines.{lines_of}
use Rattle.mirror_run.proofs.lines.cut_line.Goals as goal

pub returns-in_default-clause-lines : goal.returns-in_default-clause-lines
returns-in_default-clause-lines c =
    let text = c.args.text.now in
    let some : 0 < length text = grind (arith, nat_tests) in
    let one : lines_of text ≡ text ∷ [] = lines_of-whole text some (λ k within feed. c.in_default.ensures k (omega arith) within feed) in
    rw (c.split_at.ensures.front, c.split_at.ensures.back, take_all (length text) text (omega arith), drop_all (length text) text (omega arith)) one

pub returns-clause-lines : goal.returns-clause-lines
returns-clause-lines c =
    let text = c.args.text.now in
    let h = c.in-Some.ensures in
    let one : lines_of text ≡ take c.in-Some.at text ∷ lines_of (drop (suc c.in-Some.at) text) =
    lines_of-cut text c.in-Some.at h.0.high (λ k below feed. h.0.before k (omega arith) below feed) h.1 in
    rw (c.split_at-2.ensures.back, add-one) one

pub returns-in_default-clause-parts : goal.returns-in_default-clause-parts
returns-in_default-clause-parts c =
    let text = c.args.text.now in
    rw (c.split_at.ensures.front, c.split_at.ensures.back, take_all (length text) text (omega arith), drop_all (length text) text (omega arith)) (inr (refl, refl))

pub returns-clause-parts : goal.returns-clause-parts
returns-clause-parts c =
    let text = c.args.text.now in
    let h = c.in-Some.ensures in
    rw (c.split_at-2.ensures.back, add-one) (inl (parts_at text c.in-Some.at h.0.high h.1))
