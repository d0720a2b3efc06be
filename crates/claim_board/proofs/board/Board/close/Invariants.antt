use Rattle.std.proofs.Common.{◌≡◌, ◌<◌, ◌≤◌, ◌+◌, ℕ, List, length, get_or}
use Rattle.std.specs.Slots.{slots_items, slots_len, IsFull}
use Rattle.atomic_table.specs.Table.{Final, Seen}
use Rattle.fetch_plan.specs.declared.cell.Cell.TheVariants.{Free}
use Rattle.claim_board.specs.Rules.{relays, Kept}
use Rattle.claim_board.specs.Views.{all_of, ClosedAs}
use Rattle.claim_board.proofs.board.Board.close.Given as goal

abbrev pub invariant-loop-i : goal.invariant-loop-i
invariant-loop-i g l = record {
  last : (id : ℕ) × (xs : List ℕ) × Final (Seen (Kept (relays l.fn.self.cells) l.fn.self.lanes) id (all_of l.fn.lane)) (slots_items l.closed.words) xs;
  full : IsFull l.closed.words;
  wide : slots_len l.closed.words ≡ length l.fn.self.cells + 1;
  none : slots_len l.closed.slots ≡ 0;
  same : l.layout.cells.items ≡ l.fn.self.cells;
  room : length l.fn.self.cells ≤ l.cells.cap;
  upto : length l.cells.items ≡ l.i;
  told : (k : ℕ) → k < l.i → ClosedAs (length l.fn.self.lanes) l.fn.lane k (get_or l.cells.items k Free);
}
