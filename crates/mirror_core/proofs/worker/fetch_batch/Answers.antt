use Rattle.std.proofs.Common.{◌≡◌, ℕ, List, Result, Ok, Err, refl, sym, ap, subst, inl, inr, arith}
use Rattle.std.specs.Prelude.{false, Contains, vec_len}
use Rattle.std.proofs.lemmas.List.{nil_from_length}
use Rattle.std.proofs.lemmas.Bool.{eqb-true}
use Rattle.event_source.specs.Fetching.{ids_of}
use Rattle.event_source.specs.declared.source.SourceFault.{SourceFault}
use Rattle.mirror_core.proofs.Batches.{holds_none, cells_within, batched_clear}
use Rattle.mirror_core.proofs.Logs.{logs_one, logs_none, told_by}
use Rattle.event_store.specs.declared.desk.InsertFault.{InsertFault}
use Rattle.event_store.specs.declared.desk.InsertFault.TheVariants as refused
use Rattle.mirror_core.specs.declared.worker.Stop.{Stop}
use Rattle.mirror_core.specs.declared.worker.Stop.TheVariants as ended
use Rattle.mirror_core.specs.Working.{is_through, stop_of}
use Rattle.mirror_core.proofs.worker.fetch_batch.Goals as goal

-- a batch that was settled stops no worker
no_stop : {J : Type 0} (s : Stop J) → ◌≡◌ {A = Result (Unit {0}) (Stop J)} (Ok tt) (Err s) → ⊥
no_stop s h = cc

-- a refused insert is no end of the cells, and no fault of the source
not_through : {J : Type 0} (f : InsertFault J) (s : Stop J) → s ≡ stop_of f → is_through s ≡ false
not_through (refused.Full filled) s is = rw is refl
not_through refused.Memory s is = rw is refl

not_source : {J : Type 0} (f : InsertFault J) (s : Stop J) (e : SourceFault) → s ≡ stop_of f → ◌≡◌ {A = Result (Unit {0}) (Stop J)} (Err s) (Err (ended.Source e)) → ⊥
not_source (refused.Full filled) s e is h = cc
not_source refused.Memory s e is h = cc

-- the source's fault is the one that is told
source_is : {J : Type 0} (f e : SourceFault) → ◌≡◌ {A = Result (Unit {0}) (Stop J)} (Err (ended.Source f)) (Err (ended.Source e)) → f ≡ e
source_is f e h = cc

pub returns-then-is_empty-clause-batched : goal.returns-then-is_empty-clause-batched
returns-then-is_empty-clause-batched g c =
    let zero = eqb-true (vec_len c.args.batch.now.cells) 0 (sym c.if-is_empty.ensures) in
    let none = nil_from_length c.args.batch.now.cells.items (omega (arith, zero, c.args.batch.now.cells.ok.0)) in
    batched_clear c.args.board.now.cells c.args.batch.now.next _ c.args.batch.now.ids.items c.args.lane.now.own none c.requires.batched

pub returns-then-is_empty-clause-held : goal.returns-then-is_empty-clause-held
returns-then-is_empty-clause-held g c =
    let zero = eqb-true (vec_len c.args.batch.now.cells) 0 (sym c.if-is_empty.ensures) in
    let none = nil_from_length c.args.batch.now.cells.items (omega (arith, zero, c.args.batch.now.cells.ok.0)) in
    holds_none c.args.lane.now.own (batched_clear c.args.board.now.cells c.args.batch.now.next _ c.args.batch.now.ids.items c.args.lane.now.own none c.requires.batched).holds

pub returns-in-Ok-settle-clause-log : goal.returns-in-Ok-settle-clause-log
returns-in-Ok-settle-clause-log g c =
    let settles = c.settle.ensures.settles in
    logs_one c.args.board.now.cells c.args.batch.now.ids.items (ids_of c.in-Ok.given.items) c.args.lane.now.own c.settle.new.lane.own _ _ (rw (← c.deref.ensures.value) c.in-Ok.ensures.ok.0) c.requires.few c.settle.ensures.same.relay (rw (← c.deref-in-Ok.ensures.value) settles)

pub returns-in-Ok-clause-log : goal.returns-in-Ok-clause-log
returns-in-Ok-clause-log g c =
    let settles = c.settle.ensures.settles in
    logs_one c.args.board.now.cells c.args.batch.now.ids.items (ids_of c.in-Ok.given.items) c.args.lane.now.own c.settle.new.lane.own _ _ (rw (← c.deref.ensures.value) c.in-Ok.ensures.ok.0) c.requires.few c.settle.ensures.same.relay (rw (← c.deref-in-Ok.ensures.value) settles)

pub release_from-requires-clause-within : goal.release_from-requires-clause-within
release_from-requires-clause-within g c =
    let value = c.deref-in-Err.ensures.value in
    λ i h. cells_within _ _ _ _ _ c.requires.batched i (subst (λ (z : List ℕ). Contains z i) value h)

pub returns-clause-log : goal.returns-clause-log
returns-clause-log g c = logs_none c.args.board.now.cells c.args.lane.now.own c.release_from.new.lane.own _ _ c.in-Err.ensures.err c.release_from.ensures.same.relay c.release_from.ensures.ended

pub returns-then-is_empty-clause-asked : goal.returns-then-is_empty-clause-asked
returns-then-is_empty-clause-asked g c = inl refl

pub returns-in-Ok-settle-clause-asked : goal.returns-in-Ok-settle-clause-asked
returns-in-Ok-settle-clause-asked g c = inr (ids_of c.in-Ok.given.items, rw (← c.deref.ensures.value) c.in-Ok.ensures.ok.0)

pub returns-in-Ok-clause-asked : goal.returns-in-Ok-clause-asked
returns-in-Ok-clause-asked g c = inr (ids_of c.in-Ok.given.items, rw (← c.deref.ensures.value) c.in-Ok.ensures.ok.0)

pub returns-clause-asked : goal.returns-clause-asked
returns-clause-asked g c = inl c.in-Err.ensures.err

pub returns-clause-told : goal.returns-clause-told
returns-clause-told g c = told_by _ c.in-Err.fault _ _ refl (λ e. c.in-Err.ensures.memory (ap (λ z. Err z) e))

pub returns-then-is_empty-clause-same : goal.returns-then-is_empty-clause-same
returns-then-is_empty-clause-same g c = record {
  board = refl;
  others = refl;
  lane = refl;
  relay = refl;
}

pub returns-then-is_empty-clause-log : goal.returns-then-is_empty-clause-log
returns-then-is_empty-clause-log g c = logs_none c.args.board.now.cells c.args.lane.now.own c.args.lane.now.own _ _ refl refl refl

pub returns-then-is_empty-clause-failed : goal.returns-then-is_empty-clause-failed
returns-then-is_empty-clause-failed g c = λ e. absurd (no_stop _ e)

pub returns-in-Ok-settle-clause-same : goal.returns-in-Ok-settle-clause-same
returns-in-Ok-settle-clause-same g c = c.settle.ensures.same

pub returns-in-Ok-settle-clause-batched : goal.returns-in-Ok-settle-clause-batched
returns-in-Ok-settle-clause-batched g c = c.in-Ok-settle.ensures.batched

pub returns-in-Ok-settle-clause-faults : goal.returns-in-Ok-settle-clause-faults
returns-in-Ok-settle-clause-faults g c = c.in-Ok.ensures.ok.1

pub returns-in-Ok-settle-clause-held : goal.returns-in-Ok-settle-clause-held
returns-in-Ok-settle-clause-held g c = c.settle.ensures.held

pub returns-in-Ok-settle-clause-failed : goal.returns-in-Ok-settle-clause-failed
returns-in-Ok-settle-clause-failed g c = λ e. absurd (no_stop _ e)

pub returns-in-Ok-settle-clause-becomes : goal.returns-in-Ok-settle-clause-becomes
returns-in-Ok-settle-clause-becomes g c = c.fetch.ensures.becomes

pub returns-in-Ok-clause-same : goal.returns-in-Ok-clause-same
returns-in-Ok-clause-same g c = c.settle.ensures.same

pub returns-in-Ok-clause-held : goal.returns-in-Ok-clause-held
returns-in-Ok-clause-held g c = c.settle.ensures.held

pub returns-in-Ok-clause-stop : goal.returns-in-Ok-clause-stop
returns-in-Ok-clause-stop g c = not_through c.in-Err-settle.fault c.from.result c.from.ensures

pub returns-in-Ok-clause-failed : goal.returns-in-Ok-clause-failed
returns-in-Ok-clause-failed g c = λ e. absurd (not_source c.in-Err-settle.fault c.from.result _ c.from.ensures e)

pub returns-in-Ok-clause-told : goal.returns-in-Ok-clause-told
returns-in-Ok-clause-told g c = λ rose. absurd (omega (arith, rose, c.in-Ok.ensures.ok.1))

pub returns-in-Ok-clause-becomes : goal.returns-in-Ok-clause-becomes
returns-in-Ok-clause-becomes g c = c.fetch.ensures.becomes

pub returns-clause-same : goal.returns-clause-same
returns-clause-same g c = c.release_from.ensures.same

pub returns-clause-held : goal.returns-clause-held
returns-clause-held g c = c.release_from.ensures.held

pub returns-clause-stop : goal.returns-clause-stop
returns-clause-stop g c = refl

pub returns-clause-failed : goal.returns-clause-failed
returns-clause-failed g c = λ e. c.in-Err.ensures.failed (ap (λ z. Err z) (source_is c.in-Err.fault _ e))

pub returns-clause-becomes : goal.returns-clause-becomes
returns-clause-becomes g c = c.fetch.ensures.becomes
