use Rattle.std.proofs.Common.{ℕ, List, sym, ap, ◌∙◌, get_or}
use Rattle.std.proofs.lemmas.List.{get_or-map}
use Rattle.item_key.specs.declared.Id.{Id}
use Rattle.claim_board.specs.Views.{BoardView}
use Rattle.claim_board.proofs.board.Board.cell.Goals as goal

pub returns-clause-relay : goal.returns-clause-relay
returns-clause-relay g c =
    let cell = c.index.result.now in
    get_or-map (λ (x : Id × ℕ). x.1) c.args.self.now.cells c.args.i cell 0 c.requires
    ∙ (ap (λ (z : List (Id × ℕ)). (get_or z c.args.i cell).1) (sym (ap (λ (b : BoardView). b.cells) c.self.view_is)) ∙ ap (λ (x : Id × ℕ). x.1) (sym c.index.ensures))
