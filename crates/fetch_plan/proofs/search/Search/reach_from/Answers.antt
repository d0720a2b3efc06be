use Rattle.std.proofs.Common.{◌≡◌, ◌<◌, ℕ, List, true, arith, refl, sym, ap, ◌∙◌, get_or}
use Rattle.std.proofs.lemmas.Bool.{false≢true}
use Rattle.sharing.specs.declared.TheConstants.{RELAYS}
use Rattle.sharing.specs.Sharing.{is_among}
use Rattle.sharing.proofs.Looks.{among_each}
use Rattle.fetch_plan.specs.Chains.{set_at}
use Rattle.fetch_plan.proofs.Readers.{set_is}
use Rattle.fetch_plan.proofs.Reached.{reach_later, reaching_pass, reaching_step}
use Rattle.fetch_plan.proofs.search.Search.reach_from.Goals as goal
use Rattle.fetch_plan.proofs.search.Search.reach_from.Goals.{then-has+then-not-has, else-has, else-has-via-then-has+else-not-has, else-has-via-else-has}

pub loop-other-preserved : goal.loop-other-preserved
loop-other-preserved c =
    let other : ℕ = c.loop-other.other in
    let set : List ℕ = set_at c.args.beyond.now c.args.relay in
    let same : set ≡ c.index-beyond-from.result = set_is c.args.beyond.now c.args.relay c.index-beyond-from.result c.index-beyond-from.result (omega (arith, c.requires.small, c.requires.long)) (c.index-beyond-from.is ∙ ap (λ x. get_or c.args.beyond.now x c.index-beyond-from.result) c.from.ensures) in
    let value : c.has.result ≡ is_among set other = c.has.ensures.value ∙ ap (λ xs. is_among xs other) (sym same) in
    let tiny : (s : ℕ) → is_among set s ≡ true → s < RELAYS = λ s m. among_each (λ r. r < RELAYS) c.index-beyond-from.result s c.has.ensures.relays.small (ap (λ xs. is_among xs s) (sym same) ∙ m) in
    elim c.if-has.branch [
      | then-has+then-not-has w ↦ rw (w.self-is, w.from-then-not-has.ensures, w.from-then-not-has-2.ensures)
          (reaching_step _ _ _ _ _ _ c.loop-other.invariant tiny _ w.with-self.ensures.relays (omega arith) (omega arith) c.requires.known refl (sym value ∙ w.if-has.true) (sym (cc)) w.with-self.ensures.member)
      | else-has w ↦ rw w.self-is (reaching_pass _ _ _ _ _ _ c.loop-other.invariant tiny
          (elim w.else-has.branch [
            | else-has-via-then-has+else-not-has v ↦ λ m. sym (cc)
            | else-has-via-else-has v ↦ λ m. absurd (false≢true (sym v.if-has.false ∙ value ∙ m))
          ]))
    ]

pub returns-clause-closed : goal.returns-clause-closed
returns-clause-closed c s m = c.loop-other.invariant.so_far s (omega (arith, c.loop-other.invariant.small (omega arith) s m)) m

pub returns-clause-reach : goal.returns-clause-reach
returns-clause-reach c loads most h = c.loop-other.invariant.reach loads most (reach_later _ loads most c.args.self.now h)
