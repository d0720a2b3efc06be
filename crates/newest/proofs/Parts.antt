-- What is left of runs of which the first entries are passed over.
use Rattle.std.proofs.Common.{◌≡◌, ℕ, zero, suc, ◌-◌, ◌<◌, ◌≤◌, ◌&&◌, ◌==◌, Bool, ltb, true, false, List, [], ◌∷◌, ◌++◌, length, get_or, take, drop, Option, None, Some, refl, sym, ap, ◌∙◌, subst, arith}
use Rattle.std.specs.Prelude.{nat_le}
use Rattle.std.specs.List.{list_any, list_all}
use Rattle.std.specs.List.Sorted.{IsPartitionedBy}
use Rattle.std.specs.Ordering.{nat_cmp, is_lt, ordering_then, MatchOrdering}
use Rattle.std.specs.declared.cmp.Ordering.{Ordering}
use Rattle.std.specs.declared.cmp.Ordering.TheVariants.{Less, Equal, Greater}
use Rattle.std.proofs.lemmas.Bool.{lt-ltb, ltb-true}
use Rattle.std.proofs.lemmas.Bool.Decides.{nat_tests}
use Rattle.std.proofs.lemmas.Cmp.{ranked}
use Rattle.std.proofs.lemmas.List.{take-append-drop, take_all, length-drop}
use Rattle.std.proofs.lemmas.List.Elements.{All-tail}
use Rattle.nostr_event.specs.EventView.{EventView}
use Rattle.nostr_filter.specs.declared.filter.Filter.{Filter}
use Rattle.nostr_filter.specs.declared.choice.Rank.{Rank}
use Rattle.nostr_filter.specs.Matching.{met, has_text, tags_meet, within_of, matches_of}
use Rattle.nostr_filter.specs.Choice.{rank_of}
use Rattle.newest.specs.Newest.{rank, comes_before, NoneBefore, IsNewestFirst, hits, placed_at, IsRest}
use Rattle.newest.proofs.Ranks.{sorted_drop, all_head, not_sooner}
use Rattle.newest.proofs.Lists.{hits_append, count_append}

pub time_of : (p : ℕ × EventView) → (rank p).time.0 ≡ p.1.draft.created_at
unfolding rank_of
time_of p = refl

-- ---- what lies outside a filter's times isn't matched

and_last : (a b : Bool) → b ≡ false → (a && b) ≡ false
and_last true b e = e
and_last false b e = refl

and_first : (a b : Bool) → a ≡ false → (a && b) ≡ false
and_first true b e = cc
and_first false b e = refl

outside : (f : Filter) (e : EventView) → within_of f e.draft.created_at ≡ false → matches_of f e ≡ false
outside f e h =
    and_first _ (list_all (tags_meet e.draft.tags) f.tags) (and_last (met (λ ids. has_text ids e.id.0) f.ids
    && met (λ authors. has_text authors e.draft.pubkey) f.authors && met (λ kinds. list_any (λ k. k == e.draft.kind) kinds) f.kinds) _ h)

until_fails : (o : Option ℕ) (u t : ℕ) → o ≡ Some u → u < t → met (λ until. nat_le t until) o ≡ false
until_fails None u t is above = cc
until_fails (Some v) u t is above = let same : v ≡ u = cc in grind (arith, nat_tests)

since_fails : (o : Option ℕ) (s t : ℕ) → o ≡ Some s → t < s → met (λ since. nat_le since t) o ≡ false
since_fails None s t is below = cc
since_fails (Some v) s t is below = let same : v ≡ s = cc in grind (arith, nat_tests)

too_late : (f : Filter) (u : ℕ) (p : ℕ × EventView) → f.until ≡ Some u → u < (rank p).time.0 → matches_of f p.1 ≡ false
unfolding rank_of
too_late f u p is above = outside f p.1 (and_last _ _ (until_fails f.until u p.1.draft.created_at is above))

too_early : (f : Filter) (s : ℕ) (p : ℕ × EventView) → f.since ≡ Some s → (rank p).time.0 < s → matches_of f p.1 ≡ false
unfolding rank_of
too_early f s p is below = outside f p.1 (and_first _ _ (since_fails f.since s p.1.draft.created_at is below))

at_head : (x y : ℕ) (o s : Ordering) → MatchOrdering o (x < y) (x ≡ y) (y < x) → is_lt (ordering_then o s) ≡ false → y ≤ x
at_head x y Less s m e = cc
at_head x y Equal s m e = omega (arith, m)
at_head x y Greater s m e = omega (arith, m)

-- what doesn't come before another is no later
no_later : (a b : Rank) → comes_before a b ≡ false → a.time.0 ≤ b.time.0
no_later a b not = at_head b.time.0 a.time.0 (nat_cmp b.time.0 a.time.0) _ (ranked b.time.0 a.time.0 _ refl) not

-- ---- the first ones are too late

pub late_parted : (u : ℕ) (ps : List (ℕ × EventView)) → IsNewestFirst ps → IsPartitionedBy (λ p. ltb u p.1.draft.created_at) ps
unfolding rank_of
late_parted u ps up i j d le lt late =
    let no = no_later (rank (get_or ps j d)) (rank (get_or ps i d)) (not_sooner ps i j d up le lt) in
    lt-ltb _ _ (omega (arith, ltb-true _ _ late, no))

pub late_front : (f : Filter) (u : ℕ) (ps : List (ℕ × EventView)) (n : ℕ) → f.until ≡ Some u → ((k : ℕ) (d : ℕ × EventView) → k < n → ltb u (get_or ps k d).1.draft.created_at ≡ true) → hits f (take n ps) ≡ []
unfolding rank_of
late_front f u ps zero is late = refl
late_front f u [] (suc n) is late = refl
late_front f u (p ∷ ps) (suc n) is late = rw (too_late f u p is (ltb-true _ _ (late 0 p (omega arith)))) (late_front f u ps n is (λ k d lt. late (suc k) d (omega (arith, lt))))

-- ---- from one on all are too early

pub early_all : (f : Filter) (s : ℕ) (ps : List (ℕ × EventView)) (q : Rank) → f.since ≡ Some s → q.time.0 < s → NoneBefore q ps → hits f ps ≡ []
early_all f s [] q is below none = refl
early_all f s (p ∷ ps) q is below none =
    let no : (rank p).time.0 ≤ q.time.0 = no_later (rank p) q (all_head (λ x. comes_before (rank x) q ≡ false) p ps none) in
    rw (too_early f s p is (omega (arith, below, no))) (early_all f s ps q is below (All-tail (λ x. comes_before (rank x) q ≡ false) p ps none))

pub early_from : (f : Filter) (s : ℕ) (p : ℕ × EventView) (ps : List (ℕ × EventView)) → f.since ≡ Some s → (rank p).time.0 < s → NoneBefore (rank p) ps → hits f (p ∷ ps) ≡ []
early_from f s p ps is below none = rw (too_early f s p is below) (early_all f s ps (rank p) is below none)

-- ---- rests

pub rest_itself : (f : Filter) (ps : List (ℕ × EventView)) → IsNewestFirst ps → IsRest f ps ps
rest_itself f ps up = record { hits = refl; sorted = up; part = λ n. omega arith }

pub rest_again : (f : Filter) (ps qs rs : List (ℕ × EventView)) → IsRest f rs qs → IsRest f qs ps → IsRest f rs ps
rest_again f ps qs rs more first = record { hits = more.hits ∙ first.hits; sorted = more.sorted; part = λ n. omega (arith, more.part n, first.part n) }

pub rest_drop : (f : Filter) (ps : List (ℕ × EventView)) (i : ℕ) → IsNewestFirst ps → hits f (take i ps) ≡ [] → IsRest f (drop i ps) ps
rest_drop f ps i up none = record {
  hits = sym (ap (hits f) (sym (take-append-drop i ps)) ∙ hits_append f (take i ps) (drop i ps) ∙ ap (λ xs. xs ++ hits f (drop i ps)) none);
  sorted = sorted_drop i ps up;
  part = λ n. omega (arith, ap (placed_at n) (take-append-drop i ps), count_append n (take i ps) (drop i ps));
}

all_left : (ps : List (ℕ × EventView)) (i : ℕ) → take (length ps - i) (drop i ps) ≡ drop i ps
all_left ps i = take_all (length ps - i) (drop i ps) (omega (arith, length-drop i ps))

pub rest_slice : (f : Filter) (ps : List (ℕ × EventView)) (i : ℕ) → IsNewestFirst ps → hits f (take i ps) ≡ [] → IsRest f (take (length ps - i) (drop i ps)) ps
rest_slice f ps i up none = subst (λ xs. IsRest f xs ps) (sym (all_left ps i)) (rest_drop f ps i up none)

pub rest_none : (f : Filter) (ps : List (ℕ × EventView)) (i : ℕ) → hits f (take i ps) ≡ [] → hits f (drop i ps) ≡ [] → IsRest f [] ps
rest_none f ps i none also = record {
  hits = sym (ap (hits f) (sym (take-append-drop i ps)) ∙ hits_append f (take i ps) (drop i ps) ∙ ap (λ xs. xs ++ hits f (drop i ps)) none ∙ also);
  sorted = tt;
  part = λ n. omega arith;
}
