use Rattle.std.proofs.Common.{◌≡◌, ◌<◌, ◌+◌, ◌++◌, ◌∷◌, [], ℕ, List, true, length, sym, ap, ◌∙◌, arith, subst, below_more}
use Rattle.std.proofs.Math.ListN.{get_or-append}
use Rattle.std.proofs.lemmas.List.{get_or_push, length_push}
use Rattle.sharing.specs.declared.TheConstants.{RELAYS}
use Rattle.sharing.specs.Sharing.{is_among}
use Rattle.fetch_plan.specs.Takers.{at, offered}
use Rattle.fetch_plan.proofs.Readers.{offered_is}
use Rattle.fetch_plan.proofs.takers.choose.Goals as goal

-- a fact of each place and of the one behind them
each_push : (P : ℕ → ℕ → Type 0) (xs : List ℕ) (x n : ℕ) → length xs ≡ n → ((k : ℕ) → k < n → P k (at xs k)) → P n x → (k : ℕ) → k < n + 1 → P k (at (xs ++ x ∷ []) k)
each_push P xs x n e old new =
    below_more _ _ (λ k lt. subst (P k) (sym (get_or-append xs (x ∷ []) 0 k (omega arith))) (old k lt)) (subst (P n) (sym (get_or_push xs x 0 n e)) new)

pub loop-place-preserved : goal.loop-place-preserved
loop-place-preserved c =
    let offers = c.args.offers.now in
    let n : ℕ = c.loop-place.place in
    let inv = c.loop-place.invariant in
    let o = c.index-offers-place in
    let x = c.chosen.result in
    let by : is_among (offered offers n) x ≡ true = ap (λ xs. is_among xs x) (offered_is offers n o.result o.result c.loop-place-test.true o.is) ∙ c.chosen.ensures.member in
    rw c.in_ok-push.ensures.items (record {
      long = omega (arith, length_push c.loop-place.takers.items x, inv.long);
      offer = each_push (λ k r. is_among (offered offers k) r ≡ true) c.loop-place.takers.items x n inv.long inv.offer by;
      small = each_push (λ _ r. r < RELAYS) c.loop-place.takers.items x n inv.long inv.small c.chosen.ensures.small;
    })
