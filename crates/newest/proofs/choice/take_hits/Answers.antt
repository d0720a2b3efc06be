use Rattle.std.proofs.Common.{◌≡◌, ◌∙◌, ◌∷◌, ◌++◌, ◌<◌, [], length, length-append, get_or, map, take, sym, ap, subst, arith}
use Rattle.std.specs.Prelude.{All, set}
use Rattle.std.proofs.lemmas.List.{length-map, map-append, map-set}
use Rattle.std.proofs.lemmas.List.Elements.{All-set}
use Rattle.nostr_filter.specs.Choice.{newest_first, in_order}
use Rattle.newest.specs.Newest.{rank, joined, hits, AreApart, NoneBefore, IsNewestFirst, BeginsMatched}
use Rattle.newest.proofs.Lists.{head_moved, apart_rest, apart_fewer, count_set}
use Rattle.newest.proofs.Chosen.{taken}
use Rattle.newest.proofs.choice.take_hits.Goals as goal

pub loop-rests-preserved : goal.loop-rests-preserved
loop-rests-preserved c =
    let e = c.in-Some.head.first.now in
    let i = c.in-Some.head.at in
    let r = c.in-Some.head.rest.now in
    let q = c.from_match.result.now in
    let old = c.loop-rests.invariant in
    let lists = map (λ r. r.now) c.loop-rests.rests.items in
    let cut : get_or lists i [] ≡ e ∷ r = subst (λ xs. get_or (map (λ r. r.now) xs) i [] ≡ e ∷ r) c.as_slice.ensures.value c.in-Some.ensures.cut in
    let within : i < length lists = omega (arith, subst (λ xs. i < length xs) c.as_slice.ensures.value c.in-Some.ensures.within, length-map c.loop-rests.rests.items (λ r. r.now)) in
    let first : NoneBefore (rank e) (joined lists) = subst (λ xs. NoneBefore (rank e) (joined (map (λ r. r.now) xs))) c.as_slice.ensures.value c.in-Some.ensures.first in
    let new : map (λ r. r.now) (set c.loop-rests.rests.items i c.from_match.result) ≡ set lists i q = map-set (λ r. r.now) c.loop-rests.rests.items i c.from_match.result in
    let pushed : c.push.new.self.items ≡ c.loop-rests.found.items ++ c.in-Some.head.first ∷ [] = c.in_ok-push.ensures.items in
    let put : map (λ e. rank e.now) c.push.new.self.items ≡ map (λ e. rank e.now) c.loop-rests.found.items ++ rank e ∷ [] =
    ap (map (λ e. rank e.now)) pushed ∙ map-append (λ e. rank e.now) c.loop-rests.found.items (c.in-Some.head.first ∷ []) in
    record {
      few = omega (arith, ap length pushed, length-append c.loop-rests.found.items (c.in-Some.head.first ∷ []), c.loop-rests-test.true, c.len.ensures);
      sorted = subst (All IsNewestFirst) (sym new) (All-set IsNewestFirst lists i q c.from_match.ensures.rest.sorted old.sorted);
      begins = subst (All (BeginsMatched c.args.filter.now)) (sym new) (All-set (BeginsMatched c.args.filter.now) lists i q c.from_match.ensures.begins old.begins);
      apart = λ apart.
          subst (λ ls. AreApart (joined ls)) (sym new)
          (apart_fewer (joined (set lists i r)) (joined (set lists i q)) (λ n. count_set n lists i q r (c.from_match.ensures.rest.part n))
          (apart_rest (joined lists) (joined (set lists i r)) e (head_moved lists i e r within cut) (old.apart apart)));
      rest = λ apart.
          subst (λ ls. take c.args.most (map (λ e. rank e.now) c.push.new.self.items ++ in_order newest_first (hits c.args.filter.now (joined ls))) ≡ take c.args.most (in_order newest_first (hits c.args.filter.now (joined (map (λ r. r.now) c.args.lists.items))))) (sym new)
          (subst (λ xs. take c.args.most (xs ++ in_order newest_first (hits c.args.filter.now (joined (set lists i q)))) ≡ take c.args.most (in_order newest_first (hits c.args.filter.now (joined (map (λ r. r.now) c.args.lists.items))))) (sym put)
          (taken c.args.filter.now lists i c.args.most e r q (map (λ e. rank e.now) c.loop-rests.found.items) (take c.args.most (in_order newest_first (hits c.args.filter.now (joined (map (λ r. r.now) c.args.lists.items))))) within cut first old.begins (old.apart apart) c.from_match.ensures.rest.hits (old.rest apart)));
    }
