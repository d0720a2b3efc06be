use Rattle.std.proofs.Common.{List, subst, sym, ◌∙◌, arith}
use Rattle.std.specs.List.{All}
use Rattle.std.proofs.lemmas.Result.{IfOk-weaker}
use Rattle.item_key.specs.declared.Item.{Item}
use Rattle.neg_codec.specs.Ranges.{Span, Ascends, edge_of}
use Rattle.item_roll.specs.Closed.{closed_from, Reaches}
use Rattle.item_roll.specs.Truth.{IsTrueOf}
use Rattle.item_roll.proofs.Truths.{prints_told, ids_told, prints_reach, ids_reach, split_listed, split_printed}
use Rattle.item_roll.proofs.roll.Roll.split.Goals as goal

-- ranges that are true from a lower bound on
abbrev TrueFrom : List Item → Item → List Span → Type 0
TrueFrom items lower ranges = All (IsTrueOf items) (closed_from lower ranges) × Ascends lower ranges

pub returns-then-hi-lo-lt-LISTED_BELOW-clause-exact : goal.returns-then-hi-lo-lt-LISTED_BELOW-clause-exact
returns-then-hi-lo-lt-LISTED_BELOW-clause-exact c =
    IfOk-weaker c.told_by_ids.result _ _ (λ v e. e ∙ sym (split_listed c.args.self.now c.args.lo c.args.hi (edge_of c.args.upper.now) c.if-hi-lo-lt-LISTED_BELOW.true)) c.told_by_ids.ensures

pub returns-then-hi-lo-lt-LISTED_BELOW-clause-holds : goal.returns-then-hi-lo-lt-LISTED_BELOW-clause-holds
returns-then-hi-lo-lt-LISTED_BELOW-clause-holds c =
    IfOk-weaker c.told_by_ids.result _ _
    (λ v e lower key low le. subst (λ (ranges : List Span). TrueFrom c.args.self.now lower ranges) (sym e)
    (ids_told c.args.self.now c.args.lo c.args.hi lower (edge_of c.args.upper.now) c.items_rise.ensures c.requires.upper key low le))
    c.told_by_ids.ensures

pub returns-then-hi-lo-lt-LISTED_BELOW-clause-last : goal.returns-then-hi-lo-lt-LISTED_BELOW-clause-last
returns-then-hi-lo-lt-LISTED_BELOW-clause-last c =
    IfOk-weaker c.told_by_ids.result _ _ (λ v e. subst (Reaches (edge_of c.args.upper.now)) (sym e) (ids_reach c.args.self.now c.args.lo c.args.hi (edge_of c.args.upper.now))) c.told_by_ids.ensures

pub returns-else-hi-lo-lt-LISTED_BELOW-clause-exact : goal.returns-else-hi-lo-lt-LISTED_BELOW-clause-exact
returns-else-hi-lo-lt-LISTED_BELOW-clause-exact c =
    IfOk-weaker c.told_by_prints.result _ _ (λ v e. e ∙ sym (split_printed c.args.self.now c.args.lo c.args.hi (edge_of c.args.upper.now) c.if-hi-lo-lt-LISTED_BELOW.false)) c.told_by_prints.ensures

pub returns-else-hi-lo-lt-LISTED_BELOW-clause-holds : goal.returns-else-hi-lo-lt-LISTED_BELOW-clause-holds
returns-else-hi-lo-lt-LISTED_BELOW-clause-holds c =
    IfOk-weaker c.told_by_prints.result _ _
    (λ v e lower key low le. subst (λ (ranges : List Span). TrueFrom c.args.self.now lower ranges) (sym e)
    (prints_told 15 c.args.self.now c.args.lo c.args.hi lower (edge_of c.args.upper.now) c.items_rise.ensures c.requires.piece.1 (omega (arith, c.requires.piece.0)) c.requires.upper key low le))
    c.told_by_prints.ensures

pub returns-else-hi-lo-lt-LISTED_BELOW-clause-last : goal.returns-else-hi-lo-lt-LISTED_BELOW-clause-last
returns-else-hi-lo-lt-LISTED_BELOW-clause-last c =
    IfOk-weaker c.told_by_prints.result _ _ (λ v e. subst (Reaches (edge_of c.args.upper.now)) (sym e) (prints_reach 15 c.args.self.now c.args.lo c.args.hi (edge_of c.args.upper.now))) c.told_by_prints.ensures
