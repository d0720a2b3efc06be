use Rattle.std.proofs.Common.{◌≡◌, ◌==◌, ℕ, Bool, true, false, length, Result, Ok, Err, refl, subst}
use Rattle.std.specs.Prelude.{IsErrAnd}
use Rattle.std.proofs.lemmas.Result.{IfOk-from_err}
use Rattle.mirror_core.specs.Tables.{IsTableOf}
use Rattle.mirror_core.specs.Faults.{fault_of}
use Rattle.mirror_core.specs.declared.fault.PartFault.{PartFault}
use Rattle.mirror_core.specs.declared.fault.PartFault.TheVariants as part
use Rattle.mirror_core.specs.declared.fault.SyncFault.{SyncFault}
use Rattle.mirror_core.specs.declared.fault.SyncFault.TheVariants.{NoRelay, TooMany, TableFull, Memory}
use Rattle.mirror_core.specs.declared.round.Synced.{Synced}
use Rattle.mirror_core.proofs.Headline.{to_headline, to_plain}
use Rattle.mirror_core.proofs.round.sync_plan.Goals as goal

-- a part's fault is told as the table's being full only where it is that
told_full : (r : Result Synced SyncFault) (f : PartFault) → IsErrAnd r (λ e. e ≡ fault_of f) → r ≡ Err TableFull → f ≡ part.TableFull
told_full (Ok x) f h e = absurd h
told_full (Err e) part.TableFull h t = refl
told_full (Err e) part.Memory h t = cc

-- and never as there being no relay, or too many
part_none : (r : Result Synced SyncFault) (f : PartFault) → IsErrAnd r (λ e. e ≡ fault_of f) → r ≡ Err NoRelay → ⊥
part_none (Ok x) f h e = absurd h
part_none (Err e) part.TableFull h t = cc
part_none (Err e) part.Memory h t = cc

part_many : (r : Result Synced SyncFault) (f : PartFault) → IsErrAnd r (λ e. e ≡ fault_of f) → r ≡ Err TooMany → ⊥
part_many (Ok x) f h e = absurd h
part_many (Err e) part.TableFull h t = cc
part_many (Err e) part.Memory h t = cc

-- want of memory is told as that alone
memory_alone : (r : Result Synced SyncFault) (f : SyncFault) → IsErrAnd r (λ e. e ≡ Memory) → r ≡ Err f → f ≡ Memory
memory_alone (Ok x) f h e = absurd h
memory_alone (Err e) f h t = cc

-- what was planned is no fault
no_fault : (x : Synced) (f : SyncFault) → ◌≡◌ {A = Result Synced SyncFault} (Ok x) (Err f) → ⊥
no_fault x f h = cc

-- where there are relays, there are some
some_relay : (b : Bool) (n : ℕ) → b ≡ (n == 0) → b ≡ false → n ≡ 0 → ⊥
some_relay b n is some zero = let one : (n == 0) ≡ true = rw zero refl in cc

pub returns-clause-headline : goal.returns-clause-headline
returns-clause-headline g c =
    rw (← c.roll.ensures) (to_headline g.P.Peer.log g.P.Peer.faults g.P.Peer.becomes c.roll.result.now c.args.limits.now c.args.peers.now c.run_sessions.new.peers c.in_ok-part.part.ends.items c.in_ok-part.part.table c.args.bases.now c.in_ok-plan.plan c.in_ok-part.ensures.ran
    (subst (λ n. IsTableOf n c.in_ok-part.part.ends.items c.in_ok-part.part.table) c.in_ok-part.ensures.first c.in_ok-part.ensures.table)
    c.in_ok-plan.ensures.planned c.in_ok-plan.ensures.least)

pub returns-clause-plain : goal.returns-clause-plain
returns-clause-plain g c =
    rw (← c.roll.ensures) (to_plain g.P.Peer.log g.P.Peer.faults g.P.Peer.becomes c.roll.result.now c.args.limits.now c.args.peers.now c.run_sessions.new.peers c.in_ok-part.part.ends.items c.in_ok-part.part.table c.args.bases.now c.in_ok-plan.plan c.in_ok-part.ensures.ran
    (subst (λ n. IsTableOf n c.in_ok-part.part.ends.items c.in_ok-part.part.table) c.in_ok-part.ensures.first c.in_ok-part.ensures.table)
    c.in_ok-plan.ensures.planned c.in_ok-plan.ensures.least
    (c.loads_without_bases.ensures.load, c.loads_without_bases.ensures.shows, c.loads_without_bases.ensures.least))

pub returns-in_err-part-clause-ran : goal.returns-in_err-part-clause-ran
returns-in_err-part-clause-ran g c = IfOk-from_err c.from_residual.result _ c.from_residual.ensures.0

pub returns-in_err-part-clause-table : goal.returns-in_err-part-clause-table
returns-in_err-part-clause-table g c = IfOk-from_err c.from_residual.result _ c.from_residual.ensures.0

pub returns-in_err-part-clause-headline : goal.returns-in_err-part-clause-headline
returns-in_err-part-clause-headline g c = IfOk-from_err c.from_residual.result _ c.from_residual.ensures.0

pub returns-in_err-part-clause-plain : goal.returns-in_err-part-clause-plain
returns-in_err-part-clause-plain g c = IfOk-from_err c.from_residual.result _ c.from_residual.ensures.0

pub returns-in_err-part-clause-planned : goal.returns-in_err-part-clause-planned
returns-in_err-part-clause-planned g c = IfOk-from_err c.from_residual.result _ c.from_residual.ensures.0

pub returns-in_err-part-clause-full : goal.returns-in_err-part-clause-full
returns-in_err-part-clause-full g c =
    let stopped = c.in_err-part.ensures.stopped in
    λ e. (stopped.ends, rw (← c.roll.ensures) stopped.ran, stopped.too_many (told_full c.from_residual.result c.in_err-part.field-0.0 c.from_residual.ensures.1 e))

pub returns-in_err-part-clause-memory : goal.returns-in_err-part-clause-memory
returns-in_err-part-clause-memory g c =
    let stopped = c.in_err-part.ensures.stopped in
    λ e. (stopped.ends, rw (← c.roll.ensures) stopped.ran)

pub returns-in_err-part-clause-none : goal.returns-in_err-part-clause-none
returns-in_err-part-clause-none g c = λ e. absurd (part_none c.from_residual.result c.in_err-part.field-0.0 c.from_residual.ensures.1 e)

pub returns-in_err-part-clause-many : goal.returns-in_err-part-clause-many
returns-in_err-part-clause-many g c = λ e. absurd (part_many c.from_residual.result c.in_err-part.field-0.0 c.from_residual.ensures.1 e)

pub returns-in_err-plan-clause-ran : goal.returns-in_err-plan-clause-ran
returns-in_err-plan-clause-ran g c = IfOk-from_err c.from_residual-in_err-plan.result _ c.from_residual-in_err-plan.ensures.0

pub returns-in_err-plan-clause-table : goal.returns-in_err-plan-clause-table
returns-in_err-plan-clause-table g c = IfOk-from_err c.from_residual-in_err-plan.result _ c.from_residual-in_err-plan.ensures.0

pub returns-in_err-plan-clause-headline : goal.returns-in_err-plan-clause-headline
returns-in_err-plan-clause-headline g c = IfOk-from_err c.from_residual-in_err-plan.result _ c.from_residual-in_err-plan.ensures.0

pub returns-in_err-plan-clause-plain : goal.returns-in_err-plan-clause-plain
returns-in_err-plan-clause-plain g c = IfOk-from_err c.from_residual-in_err-plan.result _ c.from_residual-in_err-plan.ensures.0

pub returns-in_err-plan-clause-planned : goal.returns-in_err-plan-clause-planned
returns-in_err-plan-clause-planned g c = IfOk-from_err c.from_residual-in_err-plan.result _ c.from_residual-in_err-plan.ensures.0

pub returns-in_err-plan-clause-full : goal.returns-in_err-plan-clause-full
returns-in_err-plan-clause-full g c =
    λ e. let none : TableFull ≡ Memory = memory_alone c.from_residual-in_err-plan.result TableFull c.from_residual-in_err-plan.ensures.1 e in absurd (cc)

pub returns-in_err-plan-clause-memory : goal.returns-in_err-plan-clause-memory
returns-in_err-plan-clause-memory g c = λ e. (c.in_ok-part.part.ends.items, rw (← c.roll.ensures) c.in_ok-part.ensures.ran)

pub returns-in_err-plan-clause-none : goal.returns-in_err-plan-clause-none
returns-in_err-plan-clause-none g c =
    λ e. let none : NoRelay ≡ Memory = memory_alone c.from_residual-in_err-plan.result NoRelay c.from_residual-in_err-plan.ensures.1 e in absurd (cc)

pub returns-in_err-plan-clause-many : goal.returns-in_err-plan-clause-many
returns-in_err-plan-clause-many g c =
    λ e. let none : TooMany ≡ Memory = memory_alone c.from_residual-in_err-plan.result TooMany c.from_residual-in_err-plan.ensures.1 e in absurd (cc)

pub returns-in_err-part-clause-is_none : goal.returns-in_err-part-clause-is_none
returns-in_err-part-clause-is_none g c = λ zero. absurd (some_relay c.is_empty.result (length c.args.peers.now) c.is_empty.ensures c.if-is_empty.false zero)

pub returns-in_err-plan-clause-is_none : goal.returns-in_err-plan-clause-is_none
returns-in_err-plan-clause-is_none g c = λ zero. absurd (some_relay c.is_empty.result (length c.args.peers.now) c.is_empty.ensures c.if-is_empty.false zero)

pub returns-clause-is_none : goal.returns-clause-is_none
returns-clause-is_none g c = λ zero. absurd (some_relay c.is_empty.result (length c.args.peers.now) c.is_empty.ensures c.if-is_empty.false zero)

pub returns-clause-ran : goal.returns-clause-ran
returns-clause-ran g c = rw (← c.roll.ensures) c.in_ok-part.ensures.ran

pub returns-clause-table : goal.returns-clause-table
returns-clause-table g c = subst (λ n. IsTableOf n c.in_ok-part.part.ends.items c.in_ok-part.part.table) c.in_ok-part.ensures.first c.in_ok-part.ensures.table

pub returns-clause-planned : goal.returns-clause-planned
returns-clause-planned g c = c.in_ok-plan.ensures.planned

pub returns-clause-full : goal.returns-clause-full
returns-clause-full g c = λ e. absurd (no_fault _ TableFull e)

pub returns-clause-memory : goal.returns-clause-memory
returns-clause-memory g c = λ e. absurd (no_fault _ Memory e)

pub returns-clause-none : goal.returns-clause-none
returns-clause-none g c = λ e. absurd (no_fault _ NoRelay e)

pub returns-clause-many : goal.returns-clause-many
returns-clause-many g c = λ e. absurd (no_fault _ TooMany e)
