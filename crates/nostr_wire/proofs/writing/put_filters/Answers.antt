use Rattle.std.proofs.Common.{◌≡◌, ◌+◌, ◌++◌, ◌∙◌, [], ◌∷◌, map, take, sym, ap, subst, arith, append_assoc}
use Rattle.std.proofs.lemmas.List.{map-append, take_more}
use Rattle.serde_json.specs.View.{view}
use Rattle.nostr_wire.specs.Elements.{Says, filter, data_of}
use Rattle.nostr_wire.proofs.Several.{AreSaid, said_more, data_more}
use Rattle.nostr_wire.proofs.writing.put_filters.Goals as goal

pub loop-filter-preserved : goal.loop-filter-preserved
loop-filter-preserved c =
    let fs = c.args.filters.now in
    let i = c.loop-filter.filter-index in
    let f = c.filter-item.result in
    let v = c.in_ok-write.field-0 in
    let old = c.loop-filter.values.items in
    let front = map view c.args.values.now.items in
    let whole : take (i + 1) fs ≡ take i fs ++ f ∷ [] = take_more fs i f (omega arith) ∙ ap (λ g. take i fs ++ g ∷ []) (sym c.filter-item.is) in
    let items : c.push.new.self.items ≡ old ++ v ∷ [] = c.in_ok-push.ensures.items in
    let same = c.in_ok-write.ensures.value in
    let written = data_more (take i fs) f (view v) same ∙ ap (λ l. map data_of (map filter l)) (sym whole) in
    record {
      values = ap (map view) items ∙ map-append view old (v ∷ []) ∙ ap (λ l. l ++ view v ∷ []) c.loop-filter.invariant.values
          ∙ append_assoc front (map data_of (map filter (take i fs))) (view v ∷ []) ∙ ap (λ l. front ++ l) written;
      says = subst AreSaid (sym whole) (said_more (take i fs) f c.loop-filter.invariant.says (subst (λ d. Says d (filter f)) same c.in_ok-write.ensures.reads_back));
    }
