use Rattle.std.proofs.Common.{◌≡◌, ◌<◌, ◌+◌, ◌++◌, ◌∷◌, [], ℕ, ◌∙◌, sym, ap, get_or, take, All, arith}
use Rattle.std.proofs.lemmas.List.{take_more}
use Rattle.std.proofs.lemmas.List.Elements.{All-nil, All-push, All-weaker}
use Rattle.sharing.specs.Bases.{base_in}
use Rattle.plan_run.proofs.Gathered.{none_sorted}
use Rattle.plan_run.proofs.Fronts.{bases_more, ascend_more}
use Rattle.plan_run.proofs.offers.bases_of.Goals as goal

pub loop-base-init : goal.loop-base-init
loop-base-init c = record { bases = c.none-bases.ensures.none; ascend = none_sorted; below = All-nil (λ (a : ℕ × ℕ). a.0 < 0); small = omega arith }

pub loop-base-preserved : goal.loop-base-preserved
loop-base-preserved c =
    let inv = c.loop-base.invariant in
    let pairs = c.args.pairs.now in
    let i : ℕ = c.loop-base.base-index in
    let lt : i < _ = c.loop-base-test.true in
    let b : ℕ × ℕ = get_or pairs i (0, 0) in
    let more : take (i + 1) pairs ≡ take i pairs ++ b ∷ [] = take_more pairs i (0, 0) lt in
    let relay = (c.requires i (0, 0) lt).relay in
    let below : All (λ (a : ℕ × ℕ). a.0 < b.0) (take i pairs) = All-weaker (λ (a : ℕ × ℕ). a.0 < c.loop-base.next) (λ (a : ℕ × ℕ). a.0 < b.0) (λ a lt. omega (arith, c.if-base-next.false)) (take i pairs) inv.below in
    record {
      bases = λ r. bases_more (take i pairs) b c.loop-base.bases _ below inv.bases (rw c.in-Ok.is at c.set.ensures.ok) r ∙ ap (λ bs. base_in bs r) (sym more);
      ascend = rw more (ascend_more (take i pairs) b below inv.ascend);
      below = rw more (All-push (λ (a : ℕ × ℕ). a.0 < b.0 + 1) (take i pairs) b (All-weaker (λ (a : ℕ × ℕ). a.0 < b.0) (λ (a : ℕ × ℕ). a.0 < b.0 + 1) (λ a lt. omega arith) (take i pairs) below) (omega arith));
      small = omega (arith, relay);
    }
