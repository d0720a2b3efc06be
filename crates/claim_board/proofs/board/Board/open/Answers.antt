use Rattle.std.proofs.Common.{◌≡◌, length, ℕ, List, ap, ◌∙◌, arith, get_or}
use lib.ListN.{length-map}
use Rattle.item_key.specs.declared.Id.{Id}
use Rattle.claim_board.specs.declared.records.Layout.{Layout}
use Rattle.claim_board.proofs.Cuts.{starts}
use Rattle.claim_board.proofs.Deals.{all_zero}
use Rattle.claim_board.proofs.board.Board.open.Goals as goal

pub of_words-requires : goal.of_words-requires
of_words-requires g c =
    let value = c.of-about.ensures in
    let cells : c.of-about.result.value.cells.items ≡ c.args.plan.now.gives = ap (λ (z : Layout). z.cells.items) value ∙ c.in_ok-cells_of.ensures.cells in
    let lanes : c.of-about.result.value.lanes.items ≡ c.args.lanes.now = ap (λ (z : Layout). z.lanes.items) value ∙ c.in_ok-copied.ensures in
    let zeros = c.in_ok-words.ensures.items_if_clones_equal (λ y e. e) in
    let count = c.in_ok-words.ensures.len in
    let wide = length-map c.of-about.result.value.cells.items (λ (x : Id × ℕ). x.1) in
    let few = c.requires in
    starts _ _ _ (omega (arith, wide, count, c.as_slice.ensures.len, ap length cells)) (omega (arith, few, ap length lanes))
    (λ i. ap (λ (z : List ℕ). get_or z i 0) (c.as_slice.ensures.value ∙ zeros) ∙ all_zero _ i)
