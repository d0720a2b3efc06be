-- How a session begins and ends.
use Rattle.std.proofs.Common.{List, [], subst, arith}
use Rattle.std.specs.Prelude.{Contains, All, ◌↔◌}
use Rattle.std.proofs.lemmas.List.Elements.{All-contains}
use Rattle.neg_codec.proofs.Stretches.{some_stretch}
use Rattle.item_key.specs.declared.Id.{Id}
use Rattle.item_key.specs.declared.Item.{Item}
use Rattle.item_key.specs.Keys.{IsKey}
use Rattle.neg_codec.specs.Ranges.{Span, stretches, IsSkip}
use Rattle.neg_initiator.specs.Settled.{Needs, Has, Settled}

-- nothing is found before an ask that skips nothing
pub settled_first : (a b : List Item) (asked : List Span) → All IsKey a → All IsKey b → All (λ s. IsSkip s → ⊥) (stretches asked) → Settled a b asked [] []
settled_first a b asked keys_a keys_b none = record {
  need_right = λ k d lt. absurd (omega arith);
  have_right = λ k d lt. absurd (omega arith);
  need_whole = λ k hk lacks skipped. let s = some_stretch asked k (All-contains IsKey b k keys_b hk) in
      absurd (All-contains (λ s. IsSkip s → ⊥) (stretches asked) s.0 none s.1 (skipped s.0 s.1 s.2));
  have_whole = λ k hk lacks skipped. let s = some_stretch asked k (All-contains IsKey a k keys_a hk) in
      absurd (All-contains (λ s. IsSkip s → ⊥) (stretches asked) s.0 none s.1 (skipped s.0 s.1 s.2));
}

-- where all is skipped, what was found is all there is
pub settled_last : (a b : List Item) (asked : List Span) (need have : List Id) → All IsSkip (stretches asked) → Settled a b asked need have
    → ((i : Id) → Contains need i ↔ Needs a b i) × ((i : Id) → Contains have i ↔ Has a b i)
settled_last a b asked need have all s = (
  λ i. (λ h. All-contains (Needs a b) need i s.need_right h, λ m. subst (λ (x : Id). Contains need x) m.3 (s.need_whole m.0 m.1 m.2 (λ t ht l. All-contains IsSkip (stretches asked) t all ht))),
  λ i. (λ h. All-contains (Has a b) have i s.have_right h, λ m. subst (λ (x : Id). Contains have x) m.3 (s.have_whole m.0 m.1 m.2 (λ t ht l. All-contains IsSkip (stretches asked) t all ht))),
)
