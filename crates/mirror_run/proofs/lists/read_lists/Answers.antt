use Rattle.std.proofs.Common.{◌≡◌, ◌+◌, ◌<◌, ◌++◌, ◌∷◌, length, map, inr, refl, ap, ◌∙◌, arith}
use Rattle.std.proofs.lemmas.Bool.Decides.{nat_tests}
use Rattle.mirror_run.specs.Lines.{lines_of}
use Rattle.mirror_run.specs.ItemLists.{item_line, mine_line, theirs_line}
use Rattle.mirror_run.proofs.LineLemmas.{some_lines}
use Rattle.mirror_run.proofs.FormLemmas.{wrong_at_mine, wrong_at_theirs, wrong_at_end}
use Rattle.mirror_run.proofs.lists.read_lists.Goals as goal

pub returns-in_default-clause-err : goal.returns-in_default-clause-err
returns-in_default-clause-err c = inr (1, refl, wrong_at_mine (lines_of c.args.text.now) c.in_default.ensures.none)

pub returns-in_default-skip_word-clause-err : goal.returns-in_default-skip_word-clause-err
returns-in_default-skip_word-clause-err c =
    let lines : lines_of c.args.text.now ≡ mine_line ∷ (map item_line c.in_ok-mine.mine.items ++ lines_of c.in_ok-mine.rest.now) =
    c.in-Some.ensures.found ∙ ap (λ t. mine_line ∷ t) c.in_ok-mine.ensures.lines in
    inr (
      c.len.result + 2,
      refl,
      wrong_at_theirs c.in_ok-mine.mine.items (lines_of c.in_ok-mine.rest.now) (lines_of c.args.text.now) (c.len.result + 2) lines
          (omega (arith, c.len.ensures, c.in_ok-mine.mine.ok.0)) c.in_ok-mine.ensures.items c.in_ok-mine.ensures.all c.in_default-skip_word.ensures.none,
    )

pub returns-then-not-is_empty-clause-err : goal.returns-then-not-is_empty-clause-err
returns-then-not-is_empty-clause-err c =
    let mine = c.in_ok-mine.mine.items in
    let theirs = c.in_ok-theirs.theirs.items in
    let rest = c.in_ok-theirs.rest.now in
    let n = c.len-then-not-is_empty.result + c.len-then-not-is_empty-2.result + 3 in
    let second : lines_of c.in_ok-mine.rest.now ≡ theirs_line ∷ (map item_line theirs ++ lines_of rest) =
    c.in-Some-skip_word.ensures.found ∙ ap (λ t. theirs_line ∷ t) c.in_ok-theirs.ensures.lines in
    let lines : lines_of c.args.text.now ≡ mine_line ∷ (map item_line mine ++ theirs_line ∷ (map item_line theirs ++ lines_of rest)) =
    c.in-Some.ensures.found ∙ ap (λ t. mine_line ∷ t) (c.in_ok-mine.ensures.lines ∙ ap (λ t. map item_line mine ++ t) second) in
    let some : 0 < length rest = grind (arith, nat_tests) in
    inr (
      n,
      refl,
      wrong_at_end mine theirs (lines_of rest) (lines_of c.args.text.now) n lines
          (omega (arith, c.len-then-not-is_empty.ensures, c.len-then-not-is_empty-2.ensures, c.in_ok-mine.mine.ok.0, c.in_ok-theirs.theirs.ok.0))
          c.in_ok-mine.ensures.items c.in_ok-theirs.ensures.items c.in_ok-theirs.ensures.all (some_lines rest some),
    )
