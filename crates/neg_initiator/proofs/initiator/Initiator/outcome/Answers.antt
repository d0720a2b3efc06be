use Rattle.std.proofs.Common.{refl}
use Rattle.neg_initiator.specs.Pairs.{pair_of}
use Rattle.neg_initiator.proofs.Once.{same_values, one_stretch}
use Rattle.neg_initiator.proofs.initiator.Initiator.outcome.Goals as goal

pub returns-clause-trusted : goal.returns-clause-trusted
returns-clause-trusted c = λ x.
    let same = same_values pair_of _ _ c.put_in_order.ensures.kept c.put_in_order.ensures.from (one_stretch _ (λ k j a b. refl) (λ k j a. refl) (λ k j b. refl) (λ k j. refl)) x in
    rw (← c.self.view_is) same
