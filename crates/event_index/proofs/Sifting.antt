-- Places that stand in two lists.
use Rattle.std.proofs.Common.{◌≡◌, ℕ, ◌+◌, ◌<◌, Bool, true, false, true≢false, List, [], ◌∷◌, ◌++◌, length, take, get_or, sym, subst, ◌∙◌, inl, inr}
use Rattle.std.specs.Prelude.{All, Contains}
use Rattle.std.proofs.lemmas.List.Elements.{Contains-append_left, Contains-push, Contains-push_cases, All-push}
use Rattle.nostr_event.specs.EventView.{EventView}
use Rattle.nostr_filter.specs.declared.filter.Filter.{Filter}
use Rattle.event_index.specs.Postings.{HoldMatching}
use Rattle.event_index.proofs.Lists.{took_more}

-- of the first places those below a limit that are noted
pub record Sifted (limit : ℕ) (there : List Bool) (places both : List ℕ) : Type 0 where
  pub below : All (λ p. p < limit) both
  pub whole : (i : ℕ) → i < limit → Contains places i → get_or there i false ≡ true → Contains both i

pub sifted_put : (limit : ℕ) (there : List Bool) (places old new : List ℕ) (k : ℕ) → k < length places → get_or places k 0 < limit → new ≡ old ++ get_or places k 0 ∷ []
    → Sifted limit there (take k places) old → Sifted limit there (take (k + 1) places) new
sifted_put limit there places old new k lt low put h =
    let place = get_or places k 0 in
    subst (λ (ps : List ℕ). Sifted limit there (take (k + 1) places) ps) (sym put) (record {
      below = All-push (λ p. p < limit) old place h.below low;
      whole = λ i in_limit listed noted. elim (Contains-push_cases (take k places) place i (subst (λ (ps : List ℕ). Contains ps i) (took_more places k 0 lt) listed)) [
        | inl first ↦ Contains-append_left old (place ∷ []) i (h.whole i in_limit first noted)
        | inr same ↦ subst (λ n. Contains (old ++ place ∷ []) n) same (Contains-push old place)
      ];
    })

pub sifted_left : (limit : ℕ) (there : List Bool) (places both : List ℕ) (k : ℕ) → k < length places → (get_or places k 0 < limit → get_or there (get_or places k 0) false ≡ false)
    → Sifted limit there (take k places) both → Sifted limit there (take (k + 1) places) both
sifted_left limit there places both k lt not_noted h = record {
  below = h.below;
  whole = λ i in_limit listed noted. elim (Contains-push_cases (take k places) (get_or places k 0) i (subst (λ (ps : List ℕ). Contains ps i) (took_more places k 0 lt) listed)) [
    | inl first ↦ h.whole i in_limit first noted
    | inr same ↦ absurd (true≢false (sym (subst (λ n. get_or there n false ≡ true) (sym same) noted) ∙ not_noted (subst (λ n. n < limit) (sym same) in_limit)))
  ];
}

pub hold_common : (f : Filter) (events : List EventView) (limit : ℕ) (places others both : List ℕ) → limit ≡ length events → HoldMatching f events places → HoldMatching f events others
    → All (λ p. p < limit) both → ((i : ℕ) → i < limit → Contains places i → Contains others i → Contains both i) → HoldMatching f events both
hold_common f events limit places others both counted first last below whole = record {
  below = subst (λ n. All (λ p. p < n) both) counted below;
  whole = λ i d lt hit. whole i (subst (λ n. i < n) (sym counted) lt) (first.whole i d lt hit) (last.whole i d lt hit);
}
