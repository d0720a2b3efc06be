use Rattle.std.proofs.Common.{◌<◌, length, ℕ, ◌+◌, List, [], ◌∷◌, sym, ap, ◌∙◌, arith, subst, get_or, length-append}
use Rattle.std.specs.Slots.{slots_items}
use Rattle.fetch_plan.specs.declared.cell.Cell.{Cell}
use Rattle.fetch_plan.specs.declared.cell.Cell.TheVariants.{Free}
use Rattle.claim_board.specs.Rules.{relays}
use Rattle.claim_board.specs.Views.{LaneView, all_of, ClosedAs}
use Rattle.claim_board.proofs.Lanes.{idle_view}
use Rattle.claim_board.proofs.Closing.{settles, or_at, told_more, honest}
use Rattle.claim_board.proofs.board.Board.close.Goals as goal

pub cell_of-requires : goal.cell_of-requires
cell_of-requires g c =
    let last = c.loop-i.invariant.last in
    let idle = idle_view c.lane.inside.seat.me _ _ c.args.lane c.lane.invariant (ap (λ (z : LaneView). all_of z) c.lane.view_is) c.requires.nothing in
    (settles (relays c.args.self.cells) c.args.self.lanes last.0 c.args.lane _ _ last.2 idle c.loop-i.i c.word.result (or_at (slots_items c.close_with-closed.result.words) (c.loop-i.i + 1) c.word.result c.word.ensures)).0

pub loop-i-preserved : goal.loop-i-preserved
loop-i-preserved g c =
    let old = c.loop-i.invariant in
    let idle = idle_view c.lane.inside.seat.me _ _ c.args.lane c.lane.invariant (ap (λ (z : LaneView). all_of z) c.lane.view_is) c.requires.nothing in
    let t = settles (relays c.args.self.cells) c.args.self.lanes old.last.0 c.args.lane _ _ old.last.2 idle c.loop-i.i c.word.result (or_at (slots_items c.close_with-closed.result.words) (c.loop-i.i + 1) c.word.result c.word.ensures) in
    let items = c.push_reserved.ensures.items in
    record {
      last = old.last;
      full = old.full;
      wide = old.wide;
      none = old.none;
      same = old.same;
      room = let k = c.push_reserved.ensures.capacity in let r = old.room in omega arith;
      upto = let u = old.upto in let t = length-append c.loop-i.cells.items (c.cell_of.result ∷ []) in ap length items ∙ omega (arith, u, t);
      told = subst (λ (z : List Cell). (k : ℕ) → k < c.loop-i.i + 1 → ClosedAs (length c.args.self.lanes) c.args.lane k (get_or z k Free)) (sym items)
          (told_more (ClosedAs (length c.args.self.lanes) c.args.lane) _ _ c.loop-i.i old.upto old.told (subst (λ (z : Cell). ClosedAs (length c.args.self.lanes) c.args.lane c.loop-i.i z) (sym c.cell_of.ensures) t.1));
    }

pub returns-clause-honest : goal.returns-clause-honest
returns-clause-honest g c = let last = c.loop-i.invariant.last in honest c.args.self.cells c.args.self.lanes last.0 c.args.lane _ _ last.2
