use Rattle.std.proofs.Common.{◌≡◌, ◌+◌, ◌≤◌, ℕ, List, Err, ap, arith, drop, length, map, refl, rules, subst, sym, take, ◌∙◌}
use Rattle.std.specs.Arc.{arc_value}
use Rattle.std.proofs.lemmas.List.{length-drop, length-map}
use Rattle.mirror_run.specs.Lines.{lines_of}
use Rattle.event_file.specs.Lines.{HoldEvents, LinesTell, WrongBehind}
use Rattle.event_file.proofs.Told.{WereTaken, taken_wrong, taken_all, taken_told, told_more, told_behind, wrong_more}
use Rattle.event_file.proofs.ahead.insert_ahead.Goals as goal

pub returns-then-taken-len-clause-wrong : goal.returns-then-taken-len-clause-wrong
returns-then-taken-len-clause-wrong g c n is =
    let events = c.ahead.inside.events.items in
    let taken = subst (λ es. WereTaken g.J.Naming.most c.in-Ok.taken (map arc_value es) c.args.desk.now c.load.new.self) c.deref.ensures.value
    (record { list = c.in-Ok.ensures.list; ends = c.in-Ok.ensures.ends }) in
    let number : n ≡ c.in-Ok.taken + 1 = search rules in
    (c.in-Ok.taken, number, rw (← c.ahead.view_is) (taken_wrong _ _ _ _ _ _ _ c.ahead.invariant.hold taken (omega (arith, length-map events arc_value, c.if-taken-len.true, c.len.ensures))))

pub overflow_add-result-in-Err-Line : goal.overflow_add-result-in-Err-Line
overflow_add-result-in-Err-Line g c =
    let events = c.ahead.inside.events.items in
    let taken = subst (λ es. WereTaken g.J.Naming.most c.in-Ok.taken (map arc_value es) c.args.desk.now c.load.new.self) c.deref.ensures.value
    (record { list = c.in-Ok.ensures.list; ends = c.in-Ok.ensures.ends }) in
    let all = taken_all _ _ _ _ _ taken (omega (arith, length-map events arc_value, c.if-taken-len.false, c.len.ensures)) in
    let within = c.insert_lines.ensures.within c.in-Err-Line.line (c.in-Err-Line.is ∙ ap Err c.in-Err-Line.field-0-is) in
    omega (arith, all, length-map events arc_value, within, c.ahead.invariant.within, c.ahead.invariant.inside, ap length c.split_at.ensures.back, length-drop c.ahead.inside.rest c.ahead.inside.text.items)

pub returns-in-Ok-insert_lines-clause-told : goal.returns-in-Ok-insert_lines-clause-told
returns-in-Ok-insert_lines-clause-told g c =
    let events = c.ahead.inside.events.items in
    let taken = subst (λ es. WereTaken g.J.Naming.most c.in-Ok.taken (map arc_value es) c.args.desk.now c.load.new.self) c.deref.ensures.value
    (record { list = c.in-Ok.ensures.list; ends = c.in-Ok.ensures.ends }) in
    let both = taken_told _ _ _ _ _ _ _ (subst (λ (t : List ℕ). HoldEvents (lines_of c.ahead.inside.text.items) (map arc_value events) (lines_of t)) (sym (c.split_at.ensures.back ∙ ap (drop c.ahead.inside.rest) c.as_slice.ensures.value)) c.ahead.invariant.hold) taken (omega (arith, length-map events arc_value, c.if-taken-len.false, c.len.ensures)) in
    rw (← c.ahead.view_is) (told_behind _ _ _ _ _ _ both.1 both.0 c.in-Ok-insert_lines.ensures.told)

pub returns-in-Err-Line-clause-wrong : goal.returns-in-Err-Line-clause-wrong
returns-in-Err-Line-clause-wrong g c n is =
    let most = g.J.Naming.most in
    let events = c.ahead.inside.events.items in
    let taken = subst (λ es. WereTaken g.J.Naming.most c.in-Ok.taken (map arc_value es) c.args.desk.now c.load.new.self) c.deref.ensures.value
    (record { list = c.in-Ok.ensures.list; ends = c.in-Ok.ensures.ends }) in
    let both = taken_told _ _ _ _ _ _ _ (subst (λ (t : List ℕ). HoldEvents (lines_of c.ahead.inside.text.items) (map arc_value events) (lines_of t)) (sym (c.split_at.ensures.back ∙ ap (drop c.ahead.inside.rest) c.as_slice.ensures.value)) c.ahead.invariant.hold) taken (omega (arith, length-map events arc_value, c.if-taken-len.false, c.len.ensures)) in
    let here = c.insert_lines.ensures.wrong c.in-Err-Line.line (c.in-Err-Line.is ∙ ap Err c.in-Err-Line.field-0-is) in
    let number : n ≡ c.in-Ok.taken + c.in-Err-Line.line = search rules in
    let lines = lines_of c.ahead.inside.text.items in (
      c.in-Ok.taken + here.0,
      omega (arith, number, here.1),
      rw (← c.ahead.view_is)
          (wrong_more most (c.in-Ok.taken + here.0) c.in-Ok.taken here.0 lines c.args.desk.now c.load.new.self c.insert_lines.new.desk refl both.0
          (subst (λ ls. WrongBehind most here.0 ls c.load.new.self c.insert_lines.new.desk) both.1 here.2)),
    )

pub returns-in-Err-Memory-clause-memory : goal.returns-in-Err-Memory-clause-memory
returns-in-Err-Memory-clause-memory g c is =
    let events = c.ahead.inside.events.items in
    let taken = subst (λ es. WereTaken g.J.Naming.most c.in-Ok.taken (map arc_value es) c.args.desk.now c.load.new.self) c.deref.ensures.value
    (record { list = c.in-Ok.ensures.list; ends = c.in-Ok.ensures.ends }) in
    let both = taken_told _ _ _ _ _ _ _ (subst (λ (t : List ℕ). HoldEvents (lines_of c.ahead.inside.text.items) (map arc_value events) (lines_of t)) (sym (c.split_at.ensures.back ∙ ap (drop c.ahead.inside.rest) c.as_slice.ensures.value)) c.ahead.invariant.hold) taken (omega (arith, length-map events arc_value, c.if-taken-len.false, c.len.ensures)) in
    let here = c.insert_lines.ensures.memory (c.in-Err-Memory.is ∙ ap Err c.in-Err-Memory.field-0-is) in
    let lines = lines_of c.ahead.inside.text.items in (
      c.in-Ok.taken + here.0,
      rw (← c.ahead.view_is)
          (told_more (c.in-Ok.taken + here.0) c.in-Ok.taken here.0 lines c.args.desk.now c.load.new.self c.insert_lines.new.desk refl both.0
          (subst (λ ls. LinesTell (take here.0 ls) c.load.new.self c.insert_lines.new.desk) both.1 here.1)),
    )
