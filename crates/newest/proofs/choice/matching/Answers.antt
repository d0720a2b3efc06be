use Rattle.std.proofs.Common.{◌≡◌, ◌∙◌, ◌∷◌, ◌++◌, ◌≤◌, ◌+◌, [], List, length, map, take, sym, ap, subst, arith}
use Rattle.std.specs.Prelude.{All}
use Rattle.std.specs.Arc.{arc_value}
use Rattle.std.proofs.lemmas.List.{map-append}
use Rattle.std.proofs.lemmas.List.Elements.{All-push}
use Rattle.newest.specs.Newest.{joined, hits, placed_at, IsNewestFirst, BeginsMatched}
use Rattle.newest.proofs.Lists.{joined_push, joined_more, hits_append, count_append}
use Rattle.newest.proofs.choice.matching.Goals as goal

pub loop-run-preserved : goal.loop-run-preserved
loop-run-preserved c =
    let f = c.args.filter.now in
    let old = c.loop-run.invariant in
    let lists = map (λ r. r.now) c.loop-run.rests.items in
    let last = c.args.last.now in
    let runs = joined (map arc_value (take c.loop-run.run-index c.args.runs.now)) in
    let rest = c.first_match-in-loop-run.result.now in
    let run = c.deref.result.now in
    let left = c.first_match-in-loop-run.ensures in
    let new : map (λ r. r.now) c.push-in-loop-run.new.self.items ≡ lists ++ rest ∷ [] = ap (map (λ r. r.now)) c.in_ok-push-2.ensures.items ∙ map-append (λ r. r.now) c.loop-run.rests.items (c.first_match-in-loop-run.result ∷ []) in
    let more : joined (map arc_value (take (c.loop-run.run-index + 1) c.args.runs.now)) ≡ runs ++ run =
    joined_more arc_value c.args.runs.now c.loop-run.run-index c.run-item.result run c.loop-run-test.true (ap arc_value (sym c.run-item.is) ∙ sym c.deref.ensures) in
    let all : last ++ joined (map arc_value (take (c.loop-run.run-index + 1) c.args.runs.now)) ≡ (last ++ runs) ++ run = ap (λ xs. last ++ xs) more ∙ sym (Rattle.std.proofs.Common.append_assoc last runs run) in
    let whole : joined (map (λ r. r.now) c.push-in-loop-run.new.self.items) ≡ joined lists ++ rest = ap joined new ∙ joined_push lists rest in
    record {
      hits =
          ap (hits f) whole ∙ hits_append f (joined lists) rest ∙ (λ i. old.hits i ++ left.rest.hits i) ∙ sym (hits_append f (last ++ runs) run) ∙ ap (hits f) (sym all);
      part = λ n. omega (arith, ap (placed_at n) whole, count_append n (joined lists) rest, old.part n, left.rest.part n, count_append n (last ++ runs) run, ap (placed_at n) all);
      sorted = subst (All IsNewestFirst) (sym new) (All-push IsNewestFirst lists rest old.sorted left.rest.sorted);
      begins = subst (All (BeginsMatched f)) (sym new) (All-push (BeginsMatched f) lists rest old.begins left.begins);
    }
