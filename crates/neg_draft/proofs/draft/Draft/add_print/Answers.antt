use Rattle.std.proofs.Common.{rules, ◌≡◌, ◌+◌, ◌≤◌, inr, Ok, subst, arith, length, [], ◌∷◌}
use Rattle.std.proofs.lemmas.Result.{on_ok_weaker}
use Rattle.neg_codec.specs.Ranges.{print, IsEdge, edge_of}
use Rattle.neg_codec.specs.Encoding.{text_of}
use Rattle.neg_codec.proofs.Lengths.{print_len}
use Rattle.neg_draft.specs.Coverage.{told_more}
use Rattle.neg_draft.proofs.Telling.{before_most, may_be_cut, whole_fits}
use Rattle.neg_draft.proofs.draft.Draft.add_print.Goals as goal

pub returns-in_default : goal.returns-in_default
returns-in_default c =
    on_ok_weaker c.add_last.result
    (λ h. inr (may_be_cut c.args.roll.now c.args.self.now (edge_of c.args.upper) (Ok c.add_last.new.self) (subst IsEdge c.end-lower.ensures.end c.edge.ensures.edge) c.requires.finite (omega (arith, c.requires.ahead))
    (omega (arith, c.in_default.ensures.none, before_most c.args.self.now)) h)) c.add_last.ensures

pub returns-then-room-lt-PRINT_BYTES : goal.returns-then-room-lt-PRINT_BYTES
returns-then-room-lt-PRINT_BYTES c =
    on_ok_weaker c.add_last-then-room-lt-PRINT_BYTES.result
    (λ h. inr (may_be_cut c.args.roll.now c.args.self.now (edge_of c.args.upper) (Ok c.add_last-then-room-lt-PRINT_BYTES.new.self) (subst IsEdge c.end-lower.ensures.end c.edge.ensures.edge) c.requires.finite (omega (arith, c.requires.ahead))
    (omega (arith, c.in-Some.ensures.some, c.if-room-lt-PRINT_BYTES.true, before_most c.args.self.now)) h)) c.add_last-then-room-lt-PRINT_BYTES.ensures

room : (c : goal.After-add-arg-1) → length (text_of (told_more c.args.self.now (edge_of c.args.upper) (record { upper = edge_of c.args.upper; claim = print c.args.print } ∷ [])).spans) + 64 ≤ c.args.self.now.limit
room c =
    let len : length c.args.print ≡ 16 = search rules in
    whole_fits c.args.self.now (edge_of c.args.upper) (record { upper = edge_of c.args.upper; claim = print c.args.print }) 16 c.end-lower.ensures.draft (subst IsEdge c.end-lower.ensures.end c.edge.ensures.edge)
    c.edge-2.ensures.edge (omega (arith, print_len c.args.print, len)) (omega (arith, c.in-Some.ensures.some, c.if-room-lt-PRINT_BYTES.false))

pub add-requires-clause-fits : goal.add-requires-clause-fits
add-requires-clause-fits c = omega (arith, room c)

pub add-requires-clause-room : goal.add-requires-clause-room
add-requires-clause-room c = λ less. room c
