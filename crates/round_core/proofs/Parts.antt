-- The parts of a round, before and after.
use Rattle.std.proofs.Common.{◌≡◌, ℕ, ◌-◌, ◌++◌, List, length, length-drop, take, drop, arith, replicate, map, get_or, sym, ap, subst, refl, inl, inr, Ok, Err, Some, None, Option, false}
use Rattle.std.specs.Prelude.{is_some, IsErr, MatchOption, Result}
use Rattle.std.proofs.lemmas.List.{take_all}
use Rattle.std.specs.declared.alloc.AllocError.{AllocError}
use Rattle.sharing.specs.Bases.{base_of}
use Rattle.item_key.specs.declared.Id.{Id}
use Rattle.sharing.specs.Offers.{Ascend}
use Rattle.sharing.specs.Sharing.{NoneSmaller}
use Rattle.offer_table.specs.Table.{Table, IsTable}
use Rattle.fetch_plan.specs.Plan.{Planned, IsPlanOf}
use Rattle.fetch_plan.specs.declared.cell.Cell.{Cell}
use Rattle.fetch_plan.specs.declared.cell.Cell.TheVariants.{Free}
use Rattle.round_core.specs.declared.events.Answer.{Answer}
use Rattle.round_core.specs.declared.events.Answer.TheVariants.{Sealed, Refused}
use Rattle.round_core.specs.declared.events.Refusal.TheVariants as why
use Rattle.round_core.specs.Legal.{is_held, IsLowestHeld}
use Rattle.round_core.specs.Left.{State, Plans, SealsTo, gone_at_last, AreWithout, PlansWithout, Replans, AgainTo}

pub no_plan : (o : Option Planned) → is_some o ≡ false → o ≡ None
no_plan None h = refl
no_plan (Some p) h = absurd (cc)

pub seal_made : (old : State) (bases : List ℕ) (p : Planned) (n : ℕ) (cells : List Cell) → old.plan ≡ None → IsPlanOf bases old.table.offers p → NoneSmaller (base_of bases) old.table.offers p.least_max → n ≡ p.least_max → cells ≡ old.cells ++ replicate (length p.gives) Free →
    SealsTo old bases (Ok (Sealed n)) (record old { plan = Some p; cells = cells })
seal_made old bases p n cells none planned least e free =
    let new : State = record old { plan = Some p; cells = cells } in
    let r : Result Answer AllocError = Ok (Sealed n) in
    let made : Plans bases old.table.offers old old.table (Sealed n) new = record { plan = p; planned = planned; least = least; answer = ap Sealed e; after = ap (λ cs. record old { plan = Some p; cells = cs }) free } in
    subst (λ (o : Option Planned). MatchOption o (Plans bases old.table.offers old old.table (Sealed n) new) (λ _. (r ≡ Ok (Refused why.Sealed)) × (new ≡ old))) (sym none) made

-- what is said of a value, where it is known
with_some : {X : Type 0} (P : Type 0) (Q : X → Type 0) (o : Option X) (x : X) → o ≡ Some x → Q x → MatchOption o P Q
with_some P Q o x is q = subst (λ o. MatchOption o P Q) (sym is) q

-- all from a place to the end
pub from_whole : (n : ℕ) (cells : List Cell) → take (length cells - n) (drop n cells) ≡ drop n cells
from_whole n cells = take_all (length cells - n) (drop n cells) (omega (arith, length-drop n cells))

-- another plan is asked for before the seal
pub again_none : (old : State) (bases : List ℕ) → old.plan ≡ None → AgainTo old bases (Ok (Refused why.NotSealed)) old
again_none old bases none = rw none (refl, refl)

-- a lane holds a cell still
pub again_busy : (old : State) (bases : List ℕ) (last : Planned) (i : ℕ) → old.plan ≡ Some last → IsLowestHeld (λ k. get_or old.cells k Free) i → AgainTo old bases (Ok (Refused (why.Busy i))) old
again_busy old bases last i is held = with_some _ _ old.plan last is (inl (i, held, refl, refl))

-- memory runs out
pub again_failed : (old : State) (bases : List ℕ) (last : Planned) (result : Result Answer AllocError) → old.plan ≡ Some last → IsErr result → AgainTo old bases result old
again_failed old bases last (Ok a) is err = absurd (cc err)
again_failed old bases last (Err e) is err = with_some _ _ old.plan last is refl

-- another plan is made, of the offers that the last one's cells leave
pub again_made : (old : State) (bases : List ℕ) (last p : Planned) (gone : List (Id × List ℕ)) (n : ℕ) (table : Table) (cells : List Cell) → old.plan ≡ Some last →
    ((k : ℕ) → is_held (get_or old.cells k Free) ≡ false) → gone ≡ gone_at_last old.table.offers last.gives old.cells → Ascend (map (λ g. g.0) last.gives) → PlansWithout bases old.table.offers gone p → n ≡ p.least_max →
    cells ≡ old.cells ++ replicate (length p.gives) Free → AreWithout old.table.offers gone table.offers → table.reported ≡ old.table.reported → IsTable table →
    AgainTo old bases (Ok (Sealed n)) (record old { table = table; plan = Some p; cells = cells })
again_made old bases last p gone n table cells is free gone_is ascend planned e more left reported ok =
    let new : State = record old { table = table; plan = Some p; cells = cells } in
    let made : Replans bases old last (Sealed n) new = record {
      plan = p;
      ascend = ascend;
      planned = subst (λ g. PlansWithout bases old.table.offers g p) gone_is planned;
      table = table;
      table_ok = ok;
      left = subst (λ g. AreWithout old.table.offers g table.offers) gone_is left;
      reported = reported;
      answer = ap Sealed e;
      after = ap (λ cs. record old { table = table; plan = Some p; cells = cs }) more;
    } in
    with_some _ _ old.plan last is (inr (free, made))
