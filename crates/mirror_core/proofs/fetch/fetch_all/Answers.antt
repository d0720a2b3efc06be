use Rattle.std.proofs.Common.{◌≡◌, List, length, sym, ap, ◌∙◌, subst, arith}
use Rattle.std.specs.Prelude.{All, IfErr, Result, Ok, Err}
use Rattle.claim_board.specs.Rules.{named}
use Rattle.claim_board.specs.Views.{LaneView}
use Rattle.mirror_core.specs.Three.{AllThree}
use Rattle.mirror_core.specs.Six.{AllSix}
use Rattle.mirror_core.specs.Working.{IsUnused}
use Rattle.mirror_core.specs.Closing.{AllBack, behind}
use Rattle.mirror_core.specs.Fetched.{EachEnds, Fetches, logs_gained}
use Rattle.mirror_core.specs.declared.worker.Stop.{Stop}
use Rattle.mirror_core.proofs.Six.{six_lengths, written}
use Rattle.mirror_core.proofs.Ended.{all_new, Works, back_of, fetches_of, each_ends, asked_of, none_asked}
use denote.Exit.{no}
use denote.Param.{param}
use denote.Param.Send.{param_send, param_sync, arg_send, arg_sync}
use Rattle.event_store.proofs.Crossing.{locked_desk_sync}
use Rattle.mirror_core.proofs.worker.Stop.TheSendSync as stop
use Rattle.mirror_core.proofs.fetch.fetch_all.Goals as goal

pub run_workers-requires-send-E : goal.run_workers-requires-send-E
run_workers-requires-send-E g c κs within = param_send 3 _ (arg_send _ no _ (stop.the_send (param 1 g.row.J) g.J.Naming))

pub run_workers-requires-sync-H : goal.run_workers-requires-sync-H
run_workers-requires-sync-H g c κs within = param_sync 4 _ (arg_sync _ no _ (locked_desk_sync (param 1 g.row.J) g.J.Naming (param 2 g.row.D) c.type_bounds.send-D))

pub run_workers-requires-clause-unused : goal.run_workers-requires-clause-unused
run_workers-requires-clause-unused g c κs within =
    subst (All (λ (l : LaneView). (l.board ≡ c.args.board.board) × IsUnused l.own)) (sym (c.deref_mut.ensures.value ∙ c.requires.lanes)) (all_new c.args.board.board 0 c.args.board.lanes)

pub close_all-requires : goal.close_all-requires
close_all-requires g c =
    let R = Works {J = g.row.J.Denot} c.args.board.cells g.S.Source.log g.S.Source.faults g.S.Source.becomes c.args.board.board in
    let six = subst (λ (z : List LaneView). AllSix R z c.run_workers.new.lanes c.args.sources.now c.run_workers.new.sources c.deref_mut-2.result.now c.run_workers.new.stops) (c.deref_mut.ensures.value ∙ c.requires.lanes) c.run_workers.ensures in
    let long = (six_lengths R _ _ _ _ _ _ six).0 in
    let lanes = ap length c.requires.lanes in
    subst (AllBack c.args.board.board) (sym (written c.args.lanes.len c.args.lanes.items c.run_workers.new.lanes (omega (arith, long, lanes, c.args.lanes.ok.0))))
    (back_of c.args.board.cells g.S.Source.log g.S.Source.faults g.S.Source.becomes c.args.board.board (named 0 c.args.board.lanes) c.run_workers.new.lanes c.args.sources.now c.run_workers.new.sources c.deref_mut-2.result.now c.run_workers.new.stops six)

pub returns-in-Some-clause-cells : goal.returns-in-Some-clause-cells
returns-in-Some-clause-cells g c =
    let R = Works {J = g.row.J.Denot} c.args.board.cells g.S.Source.log g.S.Source.faults g.S.Source.becomes c.args.board.board in
    let six = subst (λ (z : List LaneView). AllSix R z c.run_workers.new.lanes c.args.sources.now c.run_workers.new.sources c.deref_mut-2.result.now c.run_workers.new.stops) (c.deref_mut.ensures.value ∙ c.requires.lanes) c.run_workers.ensures in
    let long = six_lengths R _ _ _ _ _ _ six in
    let long0 = long.0 in
    let long1 = long.1 in
    let lanes = ap length c.requires.lanes in
    let stops = ap length c.deref_mut-2.ensures.value in
    let here = written c.args.lanes.len c.args.lanes.items c.run_workers.new.lanes (omega (arith, long0, lanes, c.args.lanes.ok.0)) in
    let there = written c.in_ok-stops.stops.len c.in_ok-stops.stops.items c.run_workers.new.stops (omega (arith, long1, stops, c.in_ok-stops.stops.ok.0)) in
    let told = c.in-Some.ensures in
    subst (λ (z : List (Stop g.row.J.Denot)). EachEnds c.args.board.cells c.args.board.lanes (logs_gained g.S.Source.log c.args.sources.now c.run_workers.new.sources) z c.in-Some.cells.items) (sym there)
    (each_ends c.args.board.cells g.S.Source.log g.S.Source.faults g.S.Source.becomes c.args.board.board c.args.board.lanes c.run_workers.new.lanes c.args.sources.now c.run_workers.new.sources c.deref_mut-2.result.now c.run_workers.new.stops told.0 c.in-Some.cells.items six (told.1 ∙ ap behind here) told.2)

pub returns-in-Some-clause-sources : goal.returns-in-Some-clause-sources
returns-in-Some-clause-sources g c =
    let R = Works {J = g.row.J.Denot} c.args.board.cells g.S.Source.log g.S.Source.faults g.S.Source.becomes c.args.board.board in
    let six = c.run_workers.ensures in
    let long = six_lengths R c.deref_mut.result.now c.run_workers.new.lanes c.args.sources.now c.run_workers.new.sources c.deref_mut-2.result.now c.run_workers.new.stops six in
    let long1 = long.1 in
    let stops = ap length c.deref_mut-2.ensures.value in
    let there = written c.in_ok-stops.stops.len c.in_ok-stops.stops.items c.run_workers.new.stops (omega (arith, long1, stops, c.in_ok-stops.stops.ok.0)) in
    subst (λ (z : List (Stop g.row.J.Denot)). AllThree (λ s t stop. Fetches (g.S.Source.log s) (g.S.Source.log t) (g.S.Source.faults s) (g.S.Source.faults t) stop × g.S.Source.becomes s t) c.args.sources.now c.run_workers.new.sources z) (sym there)
    (fetches_of c.args.board.cells g.S.Source.log g.S.Source.faults g.S.Source.becomes c.args.board.board c.deref_mut.result.now c.run_workers.new.lanes c.args.sources.now c.run_workers.new.sources c.deref_mut-2.result.now c.run_workers.new.stops six)

pub returns-in-Some-clause-asked : goal.returns-in-Some-clause-asked
returns-in-Some-clause-asked g c =
    let R = Works {J = g.row.J.Denot} c.args.board.cells g.S.Source.log g.S.Source.faults g.S.Source.becomes c.args.board.board in
    let six = subst (λ (z : List LaneView). AllSix R z c.run_workers.new.lanes c.args.sources.now c.run_workers.new.sources c.deref_mut-2.result.now c.run_workers.new.stops) (c.deref_mut.ensures.value ∙ c.requires.lanes) c.run_workers.ensures in
    asked_of c.args.board.cells g.S.Source.log g.S.Source.faults g.S.Source.becomes c.args.board.board c.args.board.lanes c.run_workers.new.lanes c.args.sources.now c.run_workers.new.sources c.deref_mut-2.result.now c.run_workers.new.stops six

pub returns-then-len-eq0-clause-asked_too : goal.returns-then-len-eq0-clause-asked_too
returns-then-len-eq0-clause-asked_too g c = none_asked c.args.board.cells c.args.board.lanes g.S.Source.log c.args.sources.now

pub returns-then-len-sources-clause-asked_too : goal.returns-then-len-sources-clause-asked_too
returns-then-len-sources-clause-asked_too g c = none_asked c.args.board.cells c.args.board.lanes g.S.Source.log c.args.sources.now

refused_so : {X E P : Type 0} (r : Result X E) → P → IfErr r (λ _. P)
refused_so (Ok x) p = tt
refused_so (Err e) p = p

pub returns-in_err-stops-clause-asked_too : goal.returns-in_err-stops-clause-asked_too
returns-in_err-stops-clause-asked_too g c = refused_so c.from_residual.result (none_asked c.args.board.cells c.args.board.lanes g.S.Source.log c.args.sources.now)

pub returns-in-None-clause-asked_too : goal.returns-in-None-clause-asked_too
returns-in-None-clause-asked_too g c =
    let R = Works {J = g.row.J.Denot} c.args.board.cells g.S.Source.log g.S.Source.faults g.S.Source.becomes c.args.board.board in
    let six = subst (λ (z : List LaneView). AllSix R z c.run_workers.new.lanes c.args.sources.now c.run_workers.new.sources c.deref_mut-2.result.now c.run_workers.new.stops) (c.deref_mut.ensures.value ∙ c.requires.lanes) c.run_workers.ensures in
    asked_of c.args.board.cells g.S.Source.log g.S.Source.faults g.S.Source.becomes c.args.board.board c.args.board.lanes c.run_workers.new.lanes c.args.sources.now c.run_workers.new.sources c.deref_mut-2.result.now c.run_workers.new.stops six
