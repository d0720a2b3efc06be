use Rattle.std.proofs.Common.{◌≡◌, ◌≢◌, ◌+◌, [], ◌∷◌, map, inl, Err, ap, refl, subst, rules, arith, ◌∙◌}
use Rattle.std.specs.Arc.{arc_value}
use Rattle.std.proofs.lemmas.List.{length-map}
use Rattle.mirror_run.specs.Lines.{lines_of}
use Rattle.event_file.proofs.Told.{WereTaken, taken_wrong, taken_all, taken_told}
use Rattle.event_file.proofs.reading.insert_next.Goals as goal

pub returns-in-Err-Wrong-clause-wrong : goal.returns-in-Err-Wrong-clause-wrong
returns-in-Err-Wrong-clause-wrong g c n is =
    let some : c.args.line.now ≢ [] = search rules in
    let number : n ≡ 0 + 1 = search rules in
    (0, number, ((some, inl (c.event_of.ensures.none (c.in-Err-Wrong.is ∙ ap Err c.in-Err-Wrong.field-0-is))), refl))

pub returns-then-taken-len-clause-wrong : goal.returns-then-taken-len-clause-wrong
returns-then-taken-len-clause-wrong g c n is =
    let some : c.args.line.now ≢ [] = search rules in
    let events = c.in-Ok-next_events.events.items in
    let held = c.in-Ok-next_events.ensures.hold (c.args.line.now ∷ lines_of c.args.rest.now) (some, c.in-Ok.ensures.event, refl) in
    let taken = subst (λ es. WereTaken g.J.Naming.most c.in-Ok-insert_all.taken (map arc_value es) c.args.desk.now c.insert_all.new.self) c.deref.ensures.value
    (record { list = c.in-Ok-insert_all.ensures.list; ends = c.in-Ok-insert_all.ensures.ends }) in
    let number : n ≡ c.in-Ok-insert_all.taken + 1 = search rules in
    (c.in-Ok-insert_all.taken, number, taken_wrong _ _ _ _ _ _ _ held taken (omega (arith, length-map events arc_value, c.if-taken-len.true, c.len.ensures)))

pub returns-clause-told : goal.returns-clause-told
returns-clause-told g c =
    let some : c.args.line.now ≢ [] = search rules in
    let events = c.in-Ok-next_events.events.items in
    let held = c.in-Ok-next_events.ensures.hold (c.args.line.now ∷ lines_of c.args.rest.now) (some, c.in-Ok.ensures.event, refl) in
    let taken = subst (λ es. WereTaken g.J.Naming.most c.in-Ok-insert_all.taken (map arc_value es) c.args.desk.now c.insert_all.new.self) c.deref.ensures.value
    (record { list = c.in-Ok-insert_all.ensures.list; ends = c.in-Ok-insert_all.ensures.ends }) in
    (taken_told _ _ _ _ _ _ _ held taken (omega (arith, length-map events arc_value, c.if-taken-len.false, c.len.ensures))).0

pub returns-clause-left : goal.returns-clause-left
returns-clause-left g c =
    let some : c.args.line.now ≢ [] = search rules in
    let events = c.in-Ok-next_events.events.items in
    let held = c.in-Ok-next_events.ensures.hold (c.args.line.now ∷ lines_of c.args.rest.now) (some, c.in-Ok.ensures.event, refl) in
    let taken = subst (λ es. WereTaken g.J.Naming.most c.in-Ok-insert_all.taken (map arc_value es) c.args.desk.now c.insert_all.new.self) c.deref.ensures.value
    (record { list = c.in-Ok-insert_all.ensures.list; ends = c.in-Ok-insert_all.ensures.ends }) in
    (taken_told _ _ _ _ _ _ _ held taken (omega (arith, length-map events arc_value, c.if-taken-len.false, c.len.ensures))).1

pub returns-clause-shorter : goal.returns-clause-shorter
returns-clause-shorter g c =
    let events = c.in-Ok-next_events.events.items in
    let taken = subst (λ es. WereTaken g.J.Naming.most c.in-Ok-insert_all.taken (map arc_value es) c.args.desk.now c.insert_all.new.self) c.deref.ensures.value
    (record { list = c.in-Ok-insert_all.ensures.list; ends = c.in-Ok-insert_all.ensures.ends }) in
    let all = taken_all _ _ _ _ _ taken (omega (arith, length-map events arc_value, c.if-taken-len.false, c.len.ensures)) in
    (omega (arith, all, length-map events arc_value, c.in-Ok-next_events.ensures.shorter), omega (arith, c.in-Ok-next_events.ensures.shorter, c.in-Ok-next_events.ensures.some))
