use Rattle.std.proofs.Common.{◌≡◌, ◌+◌, ◌-◌, ◌≤◌, List, sym, subst, arith, length, [], ◌∷◌}
use Rattle.std.specs.Prelude.{IfOk}
use Rattle.item_key.specs.declared.Id.{Id}
use Rattle.neg_codec.specs.Ranges.{ids, IsEdge, edge_of}
use Rattle.neg_codec.specs.Encoding.{text_of}
use Rattle.item_roll.specs.Parts.{part, ids_of}
use Rattle.item_roll.proofs.Truths.{piece_is}
use Rattle.neg_draft.specs.Coverage.{told_more}
use Rattle.neg_draft.proofs.Owning.{count_up, edge_key, listed, tells_ids, ids_between}
use Rattle.neg_draft.proofs.Listing.{ids_count, listed_fits}
use Rattle.neg_draft.proofs.draft.Draft.list_ids.Goals as goal

pub ids-requires : goal.ids-requires
ids-requires c =
    let up = count_up c.args.roll.now c.args.self.end (edge_of c.args.upper) (omega (arith, c.requires.ahead)) in
    (omega (arith, c.requires.lower, c.requires.upper, up), c.requires.within)

-- the ids between the two places are those between the bounds
same : (c : goal.In_ok-ids) → c.in_ok-ids.ids.items ≡ ids_of (part c.args.roll.now c.args.self.end (edge_of c.args.upper))
same c = ids_between c.args.roll.now c.args.self.end (edge_of c.args.upper) c.args.lo c.args.hi c.in_ok-ids.ids.items c.len.ensures.roll c.in_ok-ids.ensures c.requires.lower c.requires.upper c.requires.ahead

pub tell-requires-clause-tells : goal.tell-requires-clause-tells
tell-requires-clause-tells c =
    let edge : IsEdge c.args.self.end = subst IsEdge c.end.ensures.end c.edge.ensures.edge in
    let key = edge_key c.args.self.end (edge_of c.args.upper) edge c.edge-2.ensures.edge c.requires.ahead in
    tells_ids c.args.self.end (edge_of c.args.upper) c.in_ok-ids.ids.items key c.requires.ahead

room : (c : goal.In_ok-ids) → length (text_of (told_more c.args.self (edge_of c.args.upper) (listed (edge_of c.args.upper) c.in_ok-ids.ids.items ∷ [])).spans) + 64 ≤ c.args.self.limit
room c =
    let edge : IsEdge c.args.self.end = subst IsEdge c.end.ensures.end c.edge.ensures.edge in
    let up = count_up c.args.roll.now c.args.self.end (edge_of c.args.upper) (omega (arith, c.requires.ahead)) in
    let piece = piece_is c.args.roll.now c.args.lo c.args.hi c.args.self.end (edge_of c.args.upper) c.len.ensures.roll.ascending (sym c.requires.lower) (sym c.requires.upper) (omega (arith, c.requires.ahead)) in
    let count = ids_count c.args.roll.now c.args.self.end (edge_of c.args.upper) c.args.lo c.args.hi piece c.requires.within (omega (arith, up, c.requires.lower, c.requires.upper)) in
    let fits = listed_fits c.args.roll.now c.args.self (edge_of c.args.upper) (c.args.hi - c.args.lo) c.end.ensures.draft edge c.edge-2.ensures.edge c.len.ensures.roll.keys
    (omega (arith, c.requires.within, c.len.ensures.value, c.len.ensures.most)) count (omega (arith, c.requires.fits)) in
    subst (λ (is : List Id). length (text_of (told_more c.args.self (edge_of c.args.upper) (listed (edge_of c.args.upper) is ∷ [])).spans) + 64 ≤ c.args.self.limit) (sym (same c)) fits

pub tell-requires-clause-fits : goal.tell-requires-clause-fits
tell-requires-clause-fits c = omega (arith, room c)

pub tell-requires-clause-room : goal.tell-requires-clause-room
tell-requires-clause-room c = λ less. room c

pub returns : goal.returns
returns c = subst (λ (is : List Id). IfOk c.tell.result (λ d. d ≡ told_more c.args.self (edge_of c.args.upper) (record { upper = edge_of c.args.upper; claim = ids is } ∷ [])))
    (ids_between c.args.roll.now c.args.self.end (edge_of c.args.upper) c.args.lo c.args.hi c.in_ok-ids.ids.items c.len.ensures.roll c.in_ok-ids.ensures c.requires.lower c.requires.upper c.requires.ahead)
    c.tell.ensures
