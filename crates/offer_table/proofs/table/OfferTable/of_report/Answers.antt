use Rattle.std.proofs.Common.{◌≡◌, ◌<◌, ◌≤◌, ◌++◌, ◌∷◌, [], ℕ, List, map, length, sym, ap, ◌∙◌, subst, arith}
use Rattle.std.specs.Map.Iter.{deref}
use Rattle.sharing.specs.declared.TheConstants.{MOST_IDS}
use Rattle.offer_table.specs.Table.{Table, IsTable}
use Rattle.std.proofs.lemmas.Map.Iter.{iter_end}
use Rattle.std.proofs.lemmas.List.{map-append}
use Rattle.item_key.specs.declared.Id.{Id}
use Rattle.sharing.specs.Offers.{AreRelays, Ascend}
use Rattle.offer_table.proofs.Tables.{each_with, ids-each_with, All-each_with, length-each_with}
use Rattle.offer_table.proofs.table.OfferTable.of_report.Goals as goal

pub loop-id-preserved : goal.loop-id-preserved
loop-id-preserved c =
    let k : Id = c.in-Some.id.now in
    c.in_ok-push.ensures.items
    ∙ ap (λ es. es ++ (k, c.one-relays.result) ∷ []) c.loop-id.invariant
    ∙ sym (map-append (λ i. (i, c.one-relays.result)) (map deref c.loop-id.yielded) (k ∷ []))
    ∙ ap (each_with c.one-relays.result) (sym (map-append deref c.loop-id.yielded (c.in-Some.id ∷ [])))

pub loop-id-init : goal.loop-id-init
loop-id-init c = c.in_ok-offers.ensures.items

whole : (relays : List ℕ) (relay : ℕ) (ids : List Id) (offers : List (Id × List ℕ)) → AreRelays relays → relays ≡ relay ∷ [] → Ascend ids → length ids ≤ MOST_IDS → offers ≡ each_with relays ids → IsTable (record { reported = relays; offers = offers })
whole relays relay ids offers ordered one ascend few e =
    subst (λ os. IsTable (record { reported = relays; offers = os })) (sym e) (record {
      offers_ok = record {
        ascend = subst Ascend (sym (ids-each_with relays ids)) ascend;
        relays = All-each_with AreRelays relays ids ordered;
        some = All-each_with (λ rs. 0 < length rs) relays ids (omega (arith, ap length one));
      };
      few = omega (arith, length-each_with relays ids);
    })

pub of_guess-requires : goal.of_guess-requires
of_guess-requires c =
    let start = c.into_iter-id-iterator.ensures.into_iter_gives in
    let end = iter_end deref c.args.need.now.keys c.loop-id.yielded c.into_iter-id-iterator.result c.loop-id.id-iterator c.next.new.self c.next.result start.0 c.loop-id.yielded_by c.in-None.is c.next.ensures.steps in
    whole c.one-relays.result c.args.relay c.args.need.now.keys c.loop-id.offers.items c.one-relays.ensures.relays c.one-relays.ensures.value
    start.4 (omega (arith, c.if-len-gt-MOST_IDS.false, c.len.ensures.len)) (c.loop-id.invariant ∙ ap (each_with c.one-relays.result) end.0)

pub returns-clause-reported : goal.returns-clause-reported
returns-clause-reported c =
    ap (λ (t : Table). t.reported) c.in_ok-of_guess.ensures ∙ c.one-relays.ensures.value

pub returns-clause-offers : goal.returns-clause-offers
returns-clause-offers c =
    let start = c.into_iter-id-iterator.ensures.into_iter_gives in
    let end = iter_end deref c.args.need.now.keys c.loop-id.yielded c.into_iter-id-iterator.result c.loop-id.id-iterator c.next.new.self c.next.result start.0 c.loop-id.yielded_by c.in-None.is c.next.ensures.steps in
    ap (λ (t : Table). t.offers) c.in_ok-of_guess.ensures
    ∙ c.loop-id.invariant ∙ ap (each_with c.one-relays.result) end.0
    ∙ ap (λ rs. each_with rs c.args.need.now.keys) c.one-relays.ensures.value
