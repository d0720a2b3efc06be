-- What a lane ended, by what its source's log gained.
use Rattle.std.proofs.Common.{◌≡◌, ◌⊎◌, ℕ, ◌<◌, ◌≤◌, List, [], ◌∷◌, ◌++◌, length, Some, sym, refl, ap, ◌∙◌, subst, ⊎_elim, true, append_assoc, arith}
use Rattle.std.specs.Prelude.{Contains, slice_get}
use Rattle.std.proofs.lemmas.List.{append-nil}
use Rattle.std.proofs.lemmas.List.Elements.{Contains-push, Contains-append_left, Contains-append_cases}
use Rattle.std.proofs.Math.Seq.{drop-append_seam}
use Rattle.item_key.specs.declared.Id.{Id}
use Rattle.fetch_plan.specs.declared.cell.Cell.{Cell}
use Rattle.fetch_plan.specs.declared.cell.Cell.TheVariants.{Done, Missed}
use Rattle.claim_board.specs.declared.records.LaneRecord.{LaneRecord}
use Rattle.claim_board.specs.Views.{LaneView}
use Rattle.claim_board.proofs.Words.{in_cases}
use Rattle.event_source.specs.declared.source.SourceFault.{SourceFault}
use Rattle.event_source.specs.declared.source.SourceFault.TheVariants.{Failed, Memory}
use Rattle.event_source.specs.Fetching.{Fetching, fetching, fetched, WasGiven, WasMissed}
use Rattle.mirror_core.specs.declared.worker.Stop.{Stop}
use Rattle.mirror_core.specs.declared.worker.Stop.TheVariants.{Source}
use Rattle.mirror_core.specs.Batches.{Batched, SameLane, Settles}
use Rattle.mirror_core.specs.Working.{is_through, IsUnused, EndedByFetches, Logs, Worked}
use Rattle.mirror_core.proofs.Batches.{none_of}
use Rattle.mirror_core.proofs.Asked.{Asked, asked_all}

-- a longer log tells of no less
given_more : (log more : List Fetching) (id : Id) → WasGiven log id → WasGiven (log ++ more) id
given_more log more id w = (w.0, Contains-append_left log more w.0 w.1, w.2, w.3)

missed_more : (log more : List Fetching) (id : Id) → WasMissed log id → WasMissed (log ++ more) id
missed_more log more id w = (w.0, Contains-append_left log more w.0 w.1, w.2, w.3)

none_asked : (g : Fetching) → Contains {X = Fetching} [] g → length g.asked ≤ 100
none_asked g c = absurd (none_of {X = Fetching} [] g refl c)

one_asked : (asked given : List Id) → length asked ≤ 100 → (g : Fetching) → Contains (fetching asked given ∷ []) g → length g.asked ≤ 100
one_asked asked given few g c = ⊎_elim (λ (z : fetching asked given ≡ g). subst (λ (x : Fetching). length x.asked ≤ 100) z few) (λ (z : Contains {X = Fetching} [] g). none_asked g z) (in_cases (fetching asked given) [] g c)

-- a batch was fetched and settled
pub logs_one : (cells : List (Id × ℕ)) (asked given : List Id) (e f : LaneRecord) (before after : List Fetching) → after ≡ before ++ fetching asked given ∷ [] → length asked ≤ 100 → f.relay ≡ e.relay → Settles cells asked given e f → Logs cells e f before after
logs_one cells asked given e f before after is few same s = record {
  gained = fetching asked given ∷ [];
  appended = is;
  few = one_asked asked given few;
  ends = λ log h. record {
    done = λ i z. ⊎_elim
        (λ (k : Contains e.ended (i, Done)). let t = h.done i k in (t.0, t.1 ∙ ap (λ (r : ℕ). Some (t.0, r)) (sym same), given_more log (fetching asked given ∷ []) t.0 t.2))
        (λ (k : (id : Id) × (slice_get cells i ≡ Some (id, f.relay)) × Contains asked id × Contains given id). (k.0, k.1, (fetching asked given, Contains-push log (fetching asked given), k.2, k.3)))
        (s.done i z);
    missed = λ i z. ⊎_elim
        (λ (k : Contains e.ended (i, Missed)). let t = h.missed i k in (t.0, t.1 ∙ ap (λ (r : ℕ). Some (t.0, r)) (sym same), missed_more log (fetching asked given ∷ []) t.0 t.2))
        (λ (k : (id : Id) × (slice_get cells i ≡ Some (id, f.relay)) × Contains asked id × (Contains given id → ⊥)). (k.0, k.1, (fetching asked given, Contains-push log (fetching asked given), k.2, k.3)))
        (s.missed i z);
  };
}

-- nothing was fetched, and nothing ended
pub logs_none : (cells : List (Id × ℕ)) (e f : LaneRecord) (before after : List Fetching) → after ≡ before → f.relay ≡ e.relay → f.ended ≡ e.ended → Logs cells e f before after
logs_none cells e f before after is same none = record {
  gained = [];
  appended = is ∙ sym (append-nil before);
  few = none_asked;
  ends = λ log h. record {
    done = λ i z. let t = h.done i (subst (λ (x : List (ℕ × Cell)). Contains x (i, Done)) none z) in (t.0, t.1 ∙ ap (λ (r : ℕ). Some (t.0, r)) (sym same), given_more log [] t.0 t.2);
    missed = λ i z. let t = h.missed i (subst (λ (x : List (ℕ × Cell)). Contains x (i, Missed)) none z) in (t.0, t.1 ∙ ap (λ (r : ℕ). Some (t.0, r)) (sym same), missed_more log [] t.0 t.2);
  };
}

pub logs_then : (cells : List (Id × ℕ)) (e f g : LaneRecord) (a b c : List Fetching) → Logs cells e f a b → Logs cells f g b c → Logs cells e g a c
logs_then cells e f g a b c h k = record {
  gained = h.gained ++ k.gained;
  appended = k.appended ∙ (ap (λ (z : List Fetching). z ++ k.gained) h.appended ∙ append_assoc a h.gained k.gained);
  few = λ x z. ⊎_elim (h.few x) (k.few x) (Contains-append_cases h.gained k.gained x z);
  ends = λ log z. subst (λ (x : List Fetching). EndedByFetches cells x g) (append_assoc log h.gained k.gained) (k.ends (log ++ h.gained) (h.ends log z));
}

-- what a worker did, from its lane's beginning on
pub worked : {J : Type 0} (cells : List (Id × ℕ)) (old new : LaneView) (before after : List Fetching) (faults faults' : ℕ) (stop : Stop J) (next : ℕ) → IsUnused old.own → SameLane old new → new.own.held ≡ [] → Logs cells old.own new.own before after
    → (is_through stop ≡ true → Batched cells next [] [] new.own × (length cells ≤ next)) → (stop ≡ Source Failed → faults < faults') → (faults < faults' → stop ≡ Source Failed) → (asked : ℕ) → Asked cells new.own.relay asked before after → Worked cells old new before after faults faults' stop
worked cells old new before after faults faults' stop next unused same held logs through failed told asked so_far =
    let gained : fetched before after ≡ logs.gained = ap (fetched before) logs.appended ∙ drop-append_seam before logs.gained in
    let none : EndedByFetches cells [] old.own = record {
      done = λ i z. absurd (none_of old.own.ended (i, Done) unused.ended z);
      missed = λ i z. absurd (none_of old.own.ended (i, Missed) unused.ended z);
    } in
    record {
      same = same;
      held = held;
      appended = logs.appended ∙ ap (λ (z : List Fetching). before ++ z) (sym gained);
      few = subst (λ (z : List Fetching). (g : Fetching) → Contains z g → length g.asked ≤ 100) (sym gained) logs.few;
      asked = asked_all cells new.own.relay asked before after so_far;
      ends = subst (λ (z : List Fetching). EndedByFetches cells z new.own) (sym gained) (logs.ends [] none);
      won = λ t i z. ⊎_elim (λ (x : Contains new.own.ended (i, Done) ⊎ Contains new.own.ended (i, Missed)). x) (λ (x : Contains {X = ℕ} [] i). absurd (none_of {X = ℕ} [] i refl x)) ((through t).0.won i z);
      seen = λ t i low mine. (through t).0.seen i (let m = (through t).1 in omega (arith, low, m)) mine;
      failed = failed;
      told = told;
    }

-- where the count of failures rose, the source failed
pub told_by : {J : Type 0} (stop : Stop J) (f : SourceFault) (m n : ℕ) → stop ≡ Source f → (f ≡ Memory → n ≡ m) → m < n → stop ≡ Source Failed
told_by stop Failed m n is same rose = is
told_by stop Memory m n is same rose = let e = same refl in absurd (omega (arith, rose, e))
