use Rattle.std.proofs.Common.{◌≡◌, ◌+◌, ◌∷◌, ◌++◌, [], Err, append-nil, ap, arith, drop, refl, rules, subst, sym, take, ◌∙◌}
use Rattle.std.proofs.lemmas.List.{drop-drop, take-append-drop}
use Rattle.mirror_run.specs.Lines.{lines_of}
use Rattle.event_file.specs.Lines.{LinesTell, WrongBehind}
use Rattle.event_file.proofs.Told.{told_more, wrong_more}
use Rattle.event_file.proofs.reading.insert_lines.Goals as goal

pub loop-line-preserved : goal.loop-line-preserved
loop-line-preserved g c =
    let lines = lines_of c.args.text.now in
    let n = c.loop-line.number in
    let k = c.in-Ok.lines in
    let cut : c.in-Some.line.now ∷ lines_of c.in-Some.after.now ≡ drop n lines = sym c.in-Some.ensures.lines ∙ c.loop-line.invariant.left in
    record {
      told = told_more (n + k) n k lines c.args.desk.now c.loop-line.desk c.insert_next.new.desk refl c.loop-line.invariant.told
          (subst (λ ls. LinesTell (take k ls) c.loop-line.desk c.insert_next.new.desk) cut c.in-Ok.ensures.told);
      left = c.in-Ok.ensures.left ∙ ap (drop k) cut ∙ drop-drop k n lines;
      within = omega (arith, c.loop-line.invariant.within, c.in-Ok.ensures.shorter, c.in-Some.ensures.shorter);
    }

pub returns-in-Err-Line-clause-wrong : goal.returns-in-Err-Line-clause-wrong
returns-in-Err-Line-clause-wrong g c at is =
    let most = g.J.Naming.most in
    let lines = lines_of c.args.text.now in
    let n = c.loop-line.number in
    let cut : c.in-Some.line.now ∷ lines_of c.in-Some.after.now ≡ drop n lines = sym c.in-Some.ensures.lines ∙ c.loop-line.invariant.left in
    let here = c.insert_next.ensures.wrong c.in-Err-Line.line (c.in-Err-Line.is ∙ ap Err c.in-Err-Line.field-0-is) in
    let number : at ≡ n + c.in-Err-Line.line = search rules in (
      n + here.0,
      omega (arith, number, here.1),
      wrong_more most (n + here.0) n here.0 lines c.args.desk.now c.loop-line.desk c.insert_next.new.desk refl c.loop-line.invariant.told
          (subst (λ ls. WrongBehind most here.0 ls c.loop-line.desk c.insert_next.new.desk) cut here.2),
    )

pub returns-clause-told : goal.returns-clause-told
returns-clause-told g c =
    let lines = lines_of c.args.text.now in
    let n = c.loop-line.number in
    let none : lines_of c.loop-line.rest.now ≡ [] = search rules in
    let all : take n lines ≡ lines = sym (append-nil (take n lines)) ∙ ap (λ ls. take n lines ++ ls) (sym none ∙ c.loop-line.invariant.left) ∙ take-append-drop n lines in
    subst (λ ls. LinesTell ls c.args.desk.now c.loop-line.desk) all c.loop-line.invariant.told
