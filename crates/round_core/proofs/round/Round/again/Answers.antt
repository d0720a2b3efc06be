use Rattle.std.proofs.Common.{◌≡◌, ◌-◌, false, ℕ, List, ◌++◌, get_or, length, drop, replicate, sym, ap, ◌∙◌, subst, Ok, Some}
use Rattle.item_key.specs.declared.Id.{Id}
use Rattle.offer_table.specs.Table.{Table}
use Rattle.fetch_plan.specs.LeftOut.{gone_of}
use Rattle.fetch_plan.specs.declared.cell.Cell.{Cell}
use Rattle.fetch_plan.specs.declared.cell.Cell.TheVariants.{Free}
use Rattle.round_core.specs.declared.events.Answer.TheVariants.{Sealed}
use Rattle.round_core.specs.Legal.{is_held, IsLowestHeld}
use Rattle.round_core.specs.Left.{State, AgainTo, AreWithout, PlansWithout, gone_at_last}
use Rattle.round_core.proofs.Parts.{from_whole, again_none, again_busy, again_failed, again_made}
use Rattle.round_core.proofs.round.Round.again.Goals as goal

pub returns-in-None : goal.returns-in-None
returns-in-None c = again_none c.args.self.now c.args.bases.now (sym (ap (λ (s : State). s.plan) c.self.view_is) ∙ c.in-None.is)

pub returns-in-Some-lowest_held : goal.returns-in-Some-lowest_held
returns-in-Some-lowest_held c =
    let held = subst (λ (cs : List Cell). IsLowestHeld (λ k. get_or cs k Free) c.in-Some-lowest_held.cell) (c.deref.ensures.value ∙ ap (λ (s : State). s.cells) c.self.view_is) c.in-Some-lowest_held.ensures in
    again_busy c.args.self.now c.args.bases.now c.in-Some.last c.in-Some-lowest_held.cell (sym (ap (λ (s : State). s.plan) c.self.view_is) ∙ c.in-Some.is) held

pub returns-in_err-gone : goal.returns-in_err-gone
returns-in_err-gone c = again_failed c.args.self.now c.args.bases.now c.in-Some.last c.from_residual.result (sym (ap (λ (s : State). s.plan) c.self.view_is) ∙ c.in-Some.is) c.from_residual.ensures.0

pub returns-in_err-made : goal.returns-in_err-made
returns-in_err-made c =
    again_failed c.args.self.now c.args.bases.now c.in-Some.last c.from_residual-in_err-made.result (sym (ap (λ (s : State). s.plan) c.self.view_is) ∙ c.in-Some.is) c.from_residual-in_err-made.ensures.0

pub returns-in_err-cells : goal.returns-in_err-cells
returns-in_err-cells c =
    again_failed c.args.self.now c.args.bases.now c.in-Some.last c.from_residual-in_err-cells.result (sym (ap (λ (s : State). s.plan) c.self.view_is) ∙ c.in-Some.is) c.from_residual-in_err-cells.ensures.0

pub returns-in_err-leave_out : goal.returns-in_err-leave_out
returns-in_err-leave_out c =
    let inside : State = record { lanes = c.self.inside.lanes.items; table = c.self.inside.table; plan = c.self.inside.plan; cells = c.self.inside.cells.items; placed = c.self.inside.placed.keys } in
    let result = c.from_residual-in_err-leave_out.result in
    let failed = again_failed inside c.args.bases.now c.in-Some.last result c.in-Some.is c.from_residual-in_err-leave_out.ensures.0 in
    let kept = subst (λ (t : Table). AgainTo inside c.args.bases.now result (record inside { table = t })) (sym c.in_err-leave_out.ensures.err) failed in
    subst (λ (s : State). AgainTo s c.args.bases.now result (record inside { table = c.leave_out.new.self })) c.self.view_is kept

pub returns : goal.returns
returns c =
    let inside : State = record { lanes = c.self.inside.lanes.items; table = c.self.inside.table; plan = c.self.inside.plan; cells = c.self.inside.cells.items; placed = c.self.inside.placed.keys } in
    let last = c.in-Some.last in
    let made = c.in_ok-made.made in
    let gone = c.in_ok-gone.gone.items in
    let table = c.leave_out.new.self in
    let free = subst (λ (cs : List Cell). (k : ℕ) → is_held (get_or cs k Free) ≡ false) c.deref.ensures.value c.in_default.ensures in
    let long : c.len.result ≡ length inside.cells = c.len.ensures ∙ sym c.deref-2.ensures.len ∙ ap length c.deref-2.ensures.value in
    let left : gone ≡ gone_at_last inside.table.offers last.gives inside.cells =
    c.in_ok-gone.ensures.gone ∙ ap (gone_of inside.table.offers last.gives) (from_whole (c.len.result - c.len-2.result) c.deref-2.result.now)
    ∙ ap (λ (cs : List Cell). gone_of inside.table.offers last.gives (drop (c.len.result - c.len-2.result) cs)) c.deref-2.ensures.value
    ∙ ap (λ (n : ℕ). gone_of inside.table.offers last.gives (drop (n - c.len-2.result) inside.cells)) long
    ∙ ap (λ (n : ℕ). gone_of inside.table.offers last.gives (drop (length inside.cells - n) inside.cells)) c.len-2.ensures.value in
    let planned = subst (λ (g : List (Id × List ℕ)). PlansWithout c.args.bases.now inside.table.offers g made) c.deref-3.ensures.value c.in_ok-made.ensures in
    let more = c.in_ok-cells.ensures ∙ ap (λ (cs : List Cell). cs ++ replicate c.len-3.result Free) c.deref-4.ensures.value ∙ ap (λ (n : ℕ). inside.cells ++ replicate n Free) c.len-3.ensures.value in
    let without = subst (λ (g : List (Id × List ℕ)). AreWithout inside.table.offers g table.offers) c.deref-5.ensures.value c.in_ok-leave_out.ensures.offers in
    let done = again_made inside c.args.bases.now last made gone c.least_max-least_max.result table c.in_ok-cells.cells.items c.in-Some.is
    free left c.len-2.ensures.plan.ascend planned c.least_max-least_max.ensures more without c.in_ok-leave_out.ensures.reported c.in_ok-leave_out.ensures.table in
    subst (λ (s : State). AgainTo s c.args.bases.now (Ok (Sealed c.least_max-least_max.result)) (record inside { table = table; plan = Some made; cells = c.in_ok-cells.cells.items })) c.self.view_is done
