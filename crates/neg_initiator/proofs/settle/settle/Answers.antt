use Rattle.std.proofs.Common.{◌==◌, ◌∙◌, List, map, length, refl, ap, arith}
use Rattle.neg_codec.specs.Ranges.{edge_of}
use Rattle.neg_codec.specs.declared.Range.{Range}
use Rattle.neg_initiator.specs.Findings.{findings_of}
use Rattle.neg_initiator.specs.Lookups.{ids_in}
use Rattle.neg_initiator.specs.Pairs.{pair_of}
use Rattle.neg_initiator.specs.Settling.{Findings}
use Rattle.neg_initiator.proofs.Stepping.{walked, same_read}
use Rattle.neg_initiator.proofs.Taking.{taken_from, open_of, left_of, too_many, spans_gone}
use Rattle.neg_initiator.proofs.settle.settle.Goals as goal

pub returns-clause-taken : goal.returns-clause-taken
returns-clause-taken c =
    let mid : Findings = record { need = ids_in c.tidy.new.found.need; have = ids_in c.tidy.new.found.have; trusted = map pair_of c.walk.new.found.trusted.items } in
    let new : Findings = record { need = ids_in c.tidy.new.found.need; have = ids_in c.tidy.new.found.have; trusted = map pair_of c.trust_skipped.new.trusted.items } in
    let read = same_read c.args.limit c.args.roll.now c.args.answered.now (findings_of c.args.found.now) (findings_of c.walk.new.found) mid.need mid.have (edge_of c.in_ok-draft.until) c.in_ok-draft.draft c.in_ok-tidy.ensures.need c.in_ok-tidy.ensures.have c.in_ok-draft.ensures.read in
    let w = walked c.args.limit c.args.roll.now c.args.asked.now c.args.answered.now (edge_of c.in_ok-draft.until) (findings_of c.args.found.now) mid new c.in_ok-draft.draft c.in_ok-draft.ensures.draft read c.in_ok-trust_skipped.ensures refl refl in
    let taken = taken_from c.args.limit c.args.roll.now c.args.asked.now c.args.answered.now c.in_ok-draft.draft.spans (edge_of c.in_ok-draft.until) (findings_of c.args.found.now) mid new c.args.found.now.most c.requires.enough c.requires.roll c.requires.ascends read.ascends c.requires.truth
    read.found c.in_ok-trust_skipped.ensures refl refl c.in_ok-draft.ensures.draft.ascends c.in_ok-draft.ensures.draft.none_empty c.in_ok-draft.ensures.draft.skips_joined w in
    rw (c.into_message-next.ensures.value, c.tidy.ensures.kept.0, c.tidy.ensures.kept.1, c.walk.ensures.most) taken

pub returns-clause-leaves_open : goal.returns-clause-leaves_open
returns-clause-leaves_open c = rw c.into_message-next.ensures.value (open_of c.in_ok-draft.draft c.in_ok-draft.ensures.draft)

pub returns-clause-due : goal.returns-clause-due
returns-clause-due c =
    rw c.into_message-next.ensures.value (left_of c.args.limit c.args.roll.now c.args.answered.now (findings_of c.args.found.now) (findings_of c.walk.new.found) (edge_of c.in_ok-draft.until) c.in_ok-draft.draft c.in_ok-draft.ensures.read)

pub returns-then-len-found-clause-full : goal.returns-then-len-found-clause-full
returns-then-len-found-clause-full c = λ _.
    let most = c.tidy.ensures.kept.1 ∙ c.walk.ensures.most in
    too_many c.args.roll.now c.args.answered.now (findings_of c.args.found.now) (findings_of c.walk.new.found) (ids_in c.tidy.new.found.need) c.args.found.now.most c.in_ok-draft.ensures.read.found c.in_ok-tidy.ensures.need
    (omega (arith, most, c.len-2.ensures, c.if-len-found.true)) (λ more. c.in_ok-tidy.ensures.once (omega (arith, most, more)))

pub returns-clause-sets : goal.returns-clause-sets
returns-clause-sets c = λ none. c.in_ok-tidy.ensures.sets (let gone = spans_gone c.ranges-2.result.now c.into_message-next.result c.ranges-2.ensures.value none in c.is_empty.ensures ∙ ap (λ (rs : List Range). length rs == 0) gone)
