use Rattle.std.proofs.Common.{◌≡◌, ◌<◌, inl, inr, subst, arith, [], ◌∷◌}
use Rattle.std.specs.Prelude.{IfOk}
use Rattle.std.proofs.lemmas.Result.{IfOk-weaker}
use Rattle.item_key.specs.Keys.{place, infinity}
use Rattle.neg_codec.specs.Ranges.{IsEdge, edge_of}
use Rattle.neg_draft.specs.Coverage.{told_more, Cut, Told}
use Rattle.neg_draft.proofs.Covering.{edge_low}
use Rattle.neg_draft.proofs.Owning.{count_up}
use Rattle.neg_draft.proofs.Telling.{before_most, end_key, may_be_cut}
use Rattle.neg_draft.proofs.Listing.{listed_part, listed_whole}
use Rattle.neg_draft.proofs.draft.Draft.tell_ids_at.Goals as goal

pub room-requires : goal.room-requires
room-requires c = omega (arith, c.requires.ahead, edge_low (edge_of c.args.upper) c.edge-2.ensures.edge)

pub close-requires : goal.close-requires
close-requires c = omega (arith, c.requires.ahead, edge_low (edge_of c.args.upper) c.edge-2.ensures.edge)

closed : (c : goal.After-close) → IfOk c.close.result (Cut c.args.roll.now c.args.self (edge_of c.args.upper))
closed c =
    may_be_cut c.args.roll.now c.args.self (edge_of c.args.upper) c.close.result (subst IsEdge c.end-lower.ensures.end c.edge.ensures.edge)
    (omega (arith, c.requires.ahead, edge_low (edge_of c.args.upper) c.edge-2.ensures.edge)) (omega (arith, c.requires.ahead))
    (omega (arith, c.in_default.ensures.none, before_most c.args.self)) c.close.ensures

pub returns-in_default-clause-told : goal.returns-in_default-clause-told
returns-in_default-clause-told c = IfOk-weaker c.close.result (Cut c.args.roll.now c.args.self (edge_of c.args.upper)) (Told c.args.roll.now c.args.self (edge_of c.args.upper)) (λ d h. inr h) (closed c)

pub returns-in_default-clause-exact : goal.returns-in_default-clause-exact
returns-in_default-clause-exact c = IfOk-weaker c.close.result (Cut c.args.roll.now c.args.self (edge_of c.args.upper)) _ (λ d h. inr h) (closed c)

pub overflow_sub-hi : goal.overflow_sub-hi
overflow_sub-hi c =
    let up = count_up c.args.roll.now c.args.self.end (edge_of c.args.upper) (omega (arith, c.requires.ahead)) in
    omega (arith, c.requires.lower, c.requires.upper, up)

pub returns-clause-told : goal.returns-clause-told
returns-clause-told c =
    let fin : place c.args.self.end < place infinity = omega (arith, c.requires.ahead, edge_low (edge_of c.args.upper) c.edge-2.ensures.edge) in
    let key = end_key c.args.self (subst IsEdge c.end-lower.ensures.end c.edge.ensures.edge) fin in
    IfOk-weaker c.list_ids.result (λ d. d ≡ told_more c.args.self (edge_of c.args.upper) (listed_part c.args.roll.now c.args.self.end (edge_of c.args.upper) ∷ [])) (Told c.args.roll.now c.args.self (edge_of c.args.upper))
    (λ d e. inl (listed_whole c.args.roll.now c.args.self d (edge_of c.args.upper) fin c.requires.ahead key e)) c.list_ids.ensures
