-- The order of ranks.
use Rattle.std.proofs.Common.{◌≡◌, ℕ, ◌==◌, ◌&&◌, List, bytes_eq, refl, sym, ap₂, ◌∙◌, arith}
use Rattle.std.proofs.lemmas.Bool.Decides.{nat_tests}
use Rattle.std.proofs.lemmas.Map.Text.{is_eq-slice_cmp}
use Rattle.std.specs.Cmp.{IsTotalOrder, unsigned_tied}
use Rattle.std.specs.Cmp.Lexicographic.{slice_cmp}
use Rattle.std.specs.FinSet.{nat_cmp-IsAntisymmetric, slice_cmp-IsAntisymmetric}
use Rattle.std.specs.Ordering.{nat_cmp, ordering_then, eq_by_cmp, is_eq}
use Rattle.std.specs.declared.cmp.Ordering.{Ordering}
use Rattle.std.specs.declared.cmp.Ordering.TheVariants.{Less, Equal, Greater}
use Rattle.std.proofs.lemmas.Cmp.{nat_cmp_total, nat_list_cmp_total, then_total, on_total, back_total}
use Rattle.nostr_filter.specs.declared.choice.Rank.{Rank}
use Rattle.nostr_filter.specs.Choice.{newest_first}

pub newest_first-total : IsTotalOrder newest_first
newest_first-total =
    then_total (on_total (λ (r : Rank). r.time.0) (back_total nat_cmp_total))
    (then_total (on_total (λ (r : Rank). r.id.0) nat_list_cmp_total) (on_total (λ (r : Rank). r.place) nat_cmp_total))

both_equal : (r s : Ordering) → ordering_then r s ≡ Equal → (r ≡ Equal) × (s ≡ Equal)
both_equal Less s e = cc
both_equal Equal s e = (refl, e)
both_equal Greater s e = cc

rank_by : ℕ → List ℕ → ℕ → Rank
rank_by time id place = record { time = record { 0 = time }; id = record { 0 = id }; place = place }

pub newest_first-same : (a b : Rank) → newest_first a b ≡ Equal → a ≡ b
unfolding rank_by
newest_first-same a b e =
    let outer = both_equal (nat_cmp b.time.0 a.time.0) _ e in
    let inner = both_equal (slice_cmp nat_cmp a.id.0 b.id.0) (nat_cmp a.place b.place) outer.1 in
    let time : a.time.0 ≡ b.time.0 = sym (nat_cmp-IsAntisymmetric b.time.0 a.time.0 outer.0) in
    let id : a.id.0 ≡ b.id.0 = slice_cmp-IsAntisymmetric nat_cmp-IsAntisymmetric a.id.0 b.id.0 inner.0 in
    let place : a.place ≡ b.place = nat_cmp-IsAntisymmetric a.place b.place inner.1 in
    let is : rank_by a.time.0 a.id.0 a.place ≡ rank_by b.time.0 b.id.0 b.place = cc in
    is

then_eq : (r s : Ordering) → is_eq (ordering_then r s) ≡ (is_eq r && is_eq s)
then_eq Less s = refl
then_eq Equal s = refl
then_eq Greater s = refl

eqb_turned : (x y : ℕ) → (y == x) ≡ (x == y)
eqb_turned x y = grind (arith, nat_tests)

-- ranks that are the same in each part tie
pub parts_tie : (x y : Rank) → ((x.time.0 == y.time.0) && (bytes_eq x.id.0 y.id.0 && (x.place == y.place))) ≡ eq_by_cmp newest_first x y
parts_tie x y =
    sym (then_eq (nat_cmp y.time.0 x.time.0) _
    ∙ ap₂ (λ a b. a && b) (unsigned_tied y.time.0 x.time.0 ∙ eqb_turned x.time.0 y.time.0)
    (then_eq (slice_cmp nat_cmp x.id.0 y.id.0) _ ∙ ap₂ (λ a b. a && b) (is_eq-slice_cmp x.id.0 y.id.0) (unsigned_tied x.place y.place)))
