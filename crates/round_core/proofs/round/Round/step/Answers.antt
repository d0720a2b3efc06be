use Rattle.std.proofs.Common.{◌≡◌, ◌++◌, ◌∷◌, [], List, ℕ, Ok, Err, sym, subst}
use Rattle.std.specs.Prelude.{IfOk, Result}
use Rattle.std.specs.declared.alloc.AllocError.{AllocError}
use Rattle.round_core.specs.declared.events.RoundEvent.{RoundEvent}
use Rattle.round_core.specs.declared.events.Touch.{Touch}
use Rattle.round_core.specs.declared.events.Touch.TheVariants.{Claim, Finish, Miss, Release}
use Rattle.round_core.specs.declared.events.Answer.{Answer}
use Rattle.round_core.specs.History.{History}
use Rattle.round_core.specs.Legal.{Legal}
use Rattle.round_core.specs.Left.{State, Leaves, answer_in, cells_then}
use Rattle.round_core.proofs.Touches.{event_of, leaves_touch}
use Rattle.round_core.proofs.Left.{leaves_report, leaves_insert, leaves_legal}
use Rattle.round_core.proofs.Plans.{leaves_seal, leaves_again}
use Rattle.round_core.proofs.round.Round.step.Goals as goal

steps : (lanes : List ℕ) (old new : State) (e : RoundEvent) (result : Result Answer AllocError) → ((h : History) → Leaves lanes h old → IfOk result (λ a. Leaves lanes (h ++ (e, a) ∷ []) new)) → IfOk result (λ a. (h : History) → Leaves lanes h old → Leaves lanes (h ++ (e, a) ∷ []) new)
steps lanes old new e (Ok a) f = f
steps lanes old new e (Err x) f = tt

legals : (lanes : List ℕ) (old new : State) (e : RoundEvent) (result : Result Answer AllocError) → IfOk result (λ a. (h : History) → Leaves lanes h old → Leaves lanes (h ++ (e, a) ∷ []) new) → IfOk result (λ a. (h : History) → Leaves lanes h old → Legal lanes (h ++ (e, a) ∷ []))
legals lanes old new e (Ok a) f = λ h l. leaves_legal lanes (h ++ (e, a) ∷ []) new (f h l)
legals lanes old new e (Err x) f = tt

pub returns-in-Report-clause-leaves : goal.returns-in-Report-clause-leaves
returns-in-Report-clause-leaves c =
    let old : State = c.args.self.now in
    subst (λ (e : RoundEvent). IfOk c.report.result (λ a. (h : History) → Leaves old.lanes h old → Leaves old.lanes (h ++ (e, a) ∷ []) c.report.new.self)) (sym c.in-Report.is)
    (steps old.lanes old c.report.new.self _ c.report.result (λ h l. leaves_report old.lanes h old _ _ c.report.result c.report.new.self l c.report.ensures))

pub returns-in-Report-clause-legal : goal.returns-in-Report-clause-legal
returns-in-Report-clause-legal c = legals c.args.self.now.lanes c.args.self.now c.report.new.self c.args.event.now c.report.result (returns-in-Report-clause-leaves c)

pub returns-in-Seal-clause-leaves : goal.returns-in-Seal-clause-leaves
returns-in-Seal-clause-leaves c =
    let old : State = c.args.self.now in
    subst (λ (e : RoundEvent). IfOk c.seal.result (λ a. (h : History) → Leaves old.lanes h old → Leaves old.lanes (h ++ (e, a) ∷ []) c.seal.new.self)) (sym c.in-Seal.is)
    (steps old.lanes old c.seal.new.self _ c.seal.result (λ h l. leaves_seal old.lanes h old _ c.seal.result c.seal.new.self l c.seal.ensures))

pub returns-in-Seal-clause-legal : goal.returns-in-Seal-clause-legal
returns-in-Seal-clause-legal c = legals c.args.self.now.lanes c.args.self.now c.seal.new.self c.args.event.now c.seal.result (returns-in-Seal-clause-leaves c)

pub returns-in-Again-clause-leaves : goal.returns-in-Again-clause-leaves
returns-in-Again-clause-leaves c =
    let old : State = c.args.self.now in
    subst (λ (e : RoundEvent). IfOk c.again.result (λ a. (h : History) → Leaves old.lanes h old → Leaves old.lanes (h ++ (e, a) ∷ []) c.again.new.self)) (sym c.in-Again.is)
    (steps old.lanes old c.again.new.self _ c.again.result (λ h l. leaves_again old.lanes h old _ c.again.result c.again.new.self l c.again.ensures))

pub returns-in-Again-clause-legal : goal.returns-in-Again-clause-legal
returns-in-Again-clause-legal c = legals c.args.self.now.lanes c.args.self.now c.again.new.self c.args.event.now c.again.result (returns-in-Again-clause-leaves c)

pub returns-in-Insert-clause-leaves : goal.returns-in-Insert-clause-leaves
returns-in-Insert-clause-leaves c =
    let old : State = c.args.self.now in
    subst (λ (e : RoundEvent). IfOk c.insert.result (λ a. (h : History) → Leaves old.lanes h old → Leaves old.lanes (h ++ (e, a) ∷ []) c.insert.new.self)) (sym c.in-Insert.is)
    (steps old.lanes old c.insert.new.self _ c.insert.result (λ h l. leaves_insert old.lanes h old _ c.insert.result c.insert.new.self l c.insert.ensures))

pub returns-in-Insert-clause-legal : goal.returns-in-Insert-clause-legal
returns-in-Insert-clause-legal c = legals c.args.self.now.lanes c.args.self.now c.insert.new.self c.args.event.now c.insert.result (returns-in-Insert-clause-leaves c)

touched : (old new : State) (e : RoundEvent) (a : Answer) (t : Touch) (w i : ℕ) → e ≡ event_of t w i → a ≡ answer_in old.plan old.lanes old.cells old.placed t w i → new ≡ record old { cells = cells_then old.cells t w i a } → (h : History) → Leaves old.lanes h old → Leaves old.lanes (h ++ (e, a) ∷ []) new
touched old new e a t w i is said after h l =
    subst (λ (e : RoundEvent). Leaves old.lanes (h ++ (e, a) ∷ []) new) (sym is)
    (subst (Leaves old.lanes (h ++ (event_of t w i, a) ∷ [])) (sym after) (leaves_touch old.lanes h t w i old a l said))

pub returns-in-Claim-clause-leaves : goal.returns-in-Claim-clause-leaves
returns-in-Claim-clause-leaves c = touched c.args.self.now c.touch.new.self c.args.event.now c.touch.result Claim _ _ c.in-Claim.is c.touch.ensures.answer c.touch.ensures.after

pub returns-in-Claim-clause-legal : goal.returns-in-Claim-clause-legal
returns-in-Claim-clause-legal c = λ h l. leaves_legal c.args.self.now.lanes (h ++ (c.args.event.now, c.touch.result) ∷ []) c.touch.new.self (returns-in-Claim-clause-leaves c h l)

pub returns-in-Finish-clause-leaves : goal.returns-in-Finish-clause-leaves
returns-in-Finish-clause-leaves c = touched c.args.self.now c.touch-in-Finish.new.self c.args.event.now c.touch-in-Finish.result Finish _ _ c.in-Finish.is c.touch-in-Finish.ensures.answer c.touch-in-Finish.ensures.after

pub returns-in-Finish-clause-legal : goal.returns-in-Finish-clause-legal
returns-in-Finish-clause-legal c = λ h l. leaves_legal c.args.self.now.lanes (h ++ (c.args.event.now, c.touch-in-Finish.result) ∷ []) c.touch-in-Finish.new.self (returns-in-Finish-clause-leaves c h l)

pub returns-in-Miss-clause-leaves : goal.returns-in-Miss-clause-leaves
returns-in-Miss-clause-leaves c = touched c.args.self.now c.touch-in-Miss.new.self c.args.event.now c.touch-in-Miss.result Miss _ _ c.in-Miss.is c.touch-in-Miss.ensures.answer c.touch-in-Miss.ensures.after

pub returns-in-Miss-clause-legal : goal.returns-in-Miss-clause-legal
returns-in-Miss-clause-legal c = λ h l. leaves_legal c.args.self.now.lanes (h ++ (c.args.event.now, c.touch-in-Miss.result) ∷ []) c.touch-in-Miss.new.self (returns-in-Miss-clause-leaves c h l)

pub returns-in-Release-clause-leaves : goal.returns-in-Release-clause-leaves
returns-in-Release-clause-leaves c = touched c.args.self.now c.touch-in-Release.new.self c.args.event.now c.touch-in-Release.result Release _ _ c.in-Release.is c.touch-in-Release.ensures.answer c.touch-in-Release.ensures.after

pub returns-in-Release-clause-legal : goal.returns-in-Release-clause-legal
returns-in-Release-clause-legal c = λ h l. leaves_legal c.args.self.now.lanes (h ++ (c.args.event.now, c.touch-in-Release.result) ∷ []) c.touch-in-Release.new.self (returns-in-Release-clause-leaves c h l)
