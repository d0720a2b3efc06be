use Rattle.std.proofs.Common.{◌≡◌, ◌<◌, ℕ, List, [], length, arith, sym, ◌∙◌, subst}
use Rattle.std.proofs.lemmas.Result.{err_from_is_err_and}
use Rattle.std.proofs.lemmas.Bool.{eqb-true, eqb-false}
use Rattle.std.proofs.lemmas.List.{nil_from_length}
use Rattle.item_key.specs.Keys.{least}
use Rattle.neg_codec.specs.Ranges.{edge_of}
use Rattle.neg_codec.specs.Reading.{ranges_at}
use Rattle.neg_codec.proofs.Loop.{Scans, scan_begins, scan_goes_on, scan_ends, scan_done}
use Rattle.neg_codec.proofs.message.scan_ranges.Goals as goal

pub loop-rest-init : goal.loop-rest-init
loop-rest-init c = rw c.lowest-lower.ensures (scan_begins c.args.total least c.args.bytes.now)

pub returns-in_err-rest-clause-fault : goal.returns-in_err-rest-clause-fault
returns-in_err-rest-clause-fault c =
    let p = err_from_is_err_and c.from_residual.result c.from_residual.ensures.1 in
    let some : 0 < length c.loop-rest.rest.now = omega (arith, eqb-false (length c.loop-rest.rest.now) 0 (sym c.is_empty.ensures ∙ c.loop-rest-test.true)) in
    rw (p.1, p.2) (scan_ends c.in_err-rest.field-0.0 c.args.total (edge_of c.loop-rest.lower) c.loop-rest.rest.now _ some c.in_err-rest.ensures.fault c.loop-rest.invariant)

pub loop-rest-preserved : goal.loop-rest-preserved
loop-rest-preserved c =
    scan_goes_on c.args.total (edge_of c.loop-rest.lower) c.loop-rest.rest.now _ (record { upper = edge_of c.skip_range.new.lower; claim = c.in_ok-rest.ensures.found.0 }) c.in_ok-rest.rest.now c.in_ok-rest.ensures.shorter c.in_ok-rest.ensures.found.1 c.loop-rest.invariant

pub returns-clause-found : goal.returns-clause-found
returns-clause-found c =
    let none : c.loop-rest.rest.now ≡ [] = nil_from_length c.loop-rest.rest.now (eqb-true (length c.loop-rest.rest.now) 0 (sym c.is_empty.ensures ∙ c.loop-rest-test.false)) in
    scan_done c.args.total (edge_of c.loop-rest.lower) _
    (subst (λ (rest : List ℕ). Scans c.args.total (edge_of c.loop-rest.lower) rest (ranges_at (length c.args.bytes.now) c.args.total least c.args.bytes.now)) none c.loop-rest.invariant)
