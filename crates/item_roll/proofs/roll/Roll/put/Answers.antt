use Rattle.std.proofs.Common.{List, length, ◌≤◌, ◌<◌, sym, subst, arith}
use Rattle.std.specs.Prelude.{OnOk, OnErr, Ok, Err, Result}
use Rattle.std.proofs.lemmas.List.Edits.{length-insert}
use Rattle.item_key.specs.declared.Item.{Item}
use Rattle.item_roll.specs.Parts.{IsRoll}
use Rattle.item_roll.specs.Gaps.{IsGap}
use Rattle.item_roll.proofs.Inserts.{inserted_roll}
use Rattle.item_roll.proofs.roll.Roll.put.Goals as goal

either : {X E A B C : Type 0} → (r : Result X E) → OnOk r A → OnErr r B → (A → C) → (B → C) → C
either (Ok x) a b f h = f a
either (Err e) a b f h = h b

abbrev Small : List Item → Type 0
Small xs = IsRoll xs × length xs ≤ 1000000

pub invariant_of-self-2 : goal.invariant_of-self-2
invariant_of-self-2 c =
    let gap = subst (λ (xs : List Item). IsGap xs c.args.item c.args.place) (sym c.self.view_is) c.requires.gap in
    let few = subst (λ (xs : List Item). length xs < 1000000) (sym c.self.view_is) c.requires.few in
    let roll = inserted_roll c.self.inside.groups c.args.place c.args.item c.self.invariant.0 c.requires.key gap in
    let len = length-insert c.self.inside.groups c.args.place c.args.item gap.within in
    either c.insert.result c.insert.ensures.ok c.insert.ensures.err
    (λ e. subst Small (sym e) (roll, omega (arith, len, few)))
    (λ e. subst Small (sym e) c.self.invariant)
