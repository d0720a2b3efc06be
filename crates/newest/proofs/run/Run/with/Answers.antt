use Rattle.std.proofs.Common.{◌≡◌, ◌∙◌, ◌++◌, ◌∷◌, ◌-◌, [], false, List, length, take, drop, rules, sym, ap, subst, arith, append_assoc}
use Rattle.std.specs.Prelude.{IsPermutation}
use Rattle.std.proofs.lemmas.List.{take-append-drop, take_all, length-drop}
use Rattle.std.proofs.lemmas.List.Sorted.{IsPermutation-sym, IsPermutation-middle}
use Rattle.newest.specs.Newest.{IsNewestFirst}
use Rattle.newest.proofs.Ranks.{sorted_with, sorted_take, sorted_drop}
use Rattle.newest.proofs.run.Run.with.Goals as goal

rest_all : {X : Type 0} (i : Rattle.std.proofs.Common.ℕ) (xs : List X) → take (length xs - i) (drop i xs) ≡ drop i xs
rest_all i xs = take_all (length xs - i) (drop i xs) (omega (arith, length-drop i xs))

whole : (c : goal.In_ok-share_entries-2) → c.share_entries-2.new.all.items ≡ take c.place_for-at.result c.as_slice-entries.result.now ++ c.args.entry ∷ drop c.place_for-at.result c.as_slice-entries.result.now
whole c =
    let at = c.place_for-at.result in
    let entries = c.as_slice-entries.result.now in
    let first : c.share_entries.new.all.items ≡ take at entries = search rules in
    let pushed : c.push.new.self.items ≡ c.share_entries.new.all.items ++ c.args.entry ∷ [] = search rules in
    c.in_ok-share_entries-2.ensures ∙ ap (λ xs. c.push.new.self.items ++ xs) (rest_all at entries) ∙ ap (λ xs. xs ++ drop at entries) (pushed ∙ ap (λ xs. xs ++ c.args.entry ∷ []) first)
    ∙ append_assoc (take at entries) (c.args.entry ∷ []) (drop at entries)

pub invariant_of-result : goal.invariant_of-result
invariant_of-result c =
    let at = c.place_for-at.result in
    let entries = c.as_slice-entries.result.now in
    let up : IsNewestFirst entries = subst IsNewestFirst (sym c.as_slice-entries.ensures.value) c.self.invariant in
    subst IsNewestFirst (sym (whole c))
    (sorted_with c.args.entry (take at entries) (drop at entries) (sorted_take at entries up) (sorted_drop at entries up) c.place_for-at.ensures.front c.place_for-at.ensures.behind)

pub returns : goal.returns
returns c =
    let at = c.place_for-at.result in
    let entries = c.as_slice-entries.result.now in
    subst (IsPermutation (c.args.entry ∷ c.args.self.now)) (sym (whole c))
    (subst (λ xs. IsPermutation (c.args.entry ∷ xs) (take at entries ++ c.args.entry ∷ drop at entries)) (take-append-drop at entries ∙ c.as_slice-entries.ensures.value ∙ c.self.view_is)
    (IsPermutation-sym (take at entries ++ c.args.entry ∷ drop at entries) (c.args.entry ∷ (take at entries ++ drop at entries)) (IsPermutation-middle (take at entries) c.args.entry (drop at entries))))
