-- Which events a filter chooses, from lists of which each begins with one that it matches.
use Rattle.std.proofs.Common.{◌≡◌, ℕ, zero, suc, ◌+◌, ◌<◌, ◌≤◌, ◌&&◌, ◌||◌, ◌==◌, Bool, true, false, cond, List, [], ◌∷◌, ◌++◌, length, get_or, map, take, refl, sym, ap, ◌∙◌, subst, arith, append_assoc, append-nil}
use Rattle.std.specs.Prelude.{set, All}
use Rattle.std.specs.List.{AllByRecursion, filter, enumerate_from, list_any}
use Rattle.std.specs.List.Sorted.{IsStrictlySortedBy, IsPermutation}
use Rattle.std.specs.Arc.{arc_value}
use Rattle.std.specs.Ordering.{is_lt, eq_by_cmp}
use Rattle.std.specs.declared.cmp.Ordering.{Ordering}
use Rattle.std.specs.declared.cmp.Ordering.TheVariants.{Less, Equal, Greater}
use Rattle.std.specs.declared.alloc.Global.{Global}
use Rattle.std.specs.declared.sync.Arc.{Arc}
use Rattle.std.proofs.lemmas.Bool.Decides.{nat_tests}
use Rattle.std.proofs.lemmas.List.{take_all}
use Rattle.std.proofs.lemmas.List.Elements.{All-tail}
use Rattle.std.proofs.lemmas.List.Sorted.{list_any-IsPermutation, All-permutation}
use Rattle.nostr_event.specs.EventView.{EventView}
use Rattle.nostr_filter.specs.declared.filter.Filter.{Filter}
use Rattle.nostr_filter.specs.declared.choice.Rank.{Rank}
use Rattle.nostr_filter.specs.Matching.{matches_of}
use Rattle.nostr_filter.specs.Choice.{newest_first, rank_of, in_order, matching_from, cut_of, picked}
use Rattle.nostr_filter.proofs.Orders.{one_list, in_order_sorted, any_in_order}
use Rattle.nostr_filter.proofs.Ranks.{newest_first-total, newest_first-same}
use Rattle.newest.specs.Newest.{rank, comes_before, NoneBefore, joined, hits, placed_at, AreOf, AreApart, BeginsMatched}
use Rattle.newest.proofs.Ranks.{all_head, then_less}
use Rattle.newest.proofs.Lists.{one_if, count_cons, head_moved, hits_set, one_fewer}

-- ---- ranks in order, and those behind one

or_parts : (a b : Bool) → (a || b) ≡ false → (a ≡ false) × (b ≡ false)
or_parts true b e = cc
or_parts false b e = (refl, e)

-- whether a rank doesn't stand behind another
stays : Rank → Rank → Bool
stays r q = cond (is_lt (newest_first r q)) false true

stays_not : (o : Ordering) → cond (is_lt o) false true ≡ false → o ≡ Less
stays_not Less is = refl
stays_not Equal is = cc
stays_not Greater is = cc

none_stay : (r : Rank) (rs : List Rank) → AllByRecursion (λ q. newest_first r q ≡ Less) rs → list_any (stays r) rs ≡ false
unfolding stays
none_stay r [] all = refl
none_stay r (q ∷ rs) all = rw (all.0) (none_stay r rs all.1)

all_behind : (r : Rank) (rs : List Rank) → list_any (stays r) rs ≡ false → AllByRecursion (λ q. newest_first r q ≡ Less) rs
unfolding stays
all_behind r [] none = tt
all_behind r (q ∷ rs) none = let both = or_parts (stays r q) (list_any (stays r) rs) none in (stays_not (newest_first r q) both.0, all_behind r rs both.1)

order_behind : (r : Rank) (rs : List Rank) → AllByRecursion (λ q. newest_first r q ≡ Less) rs → AllByRecursion (λ q. newest_first r q ≡ Less) (in_order newest_first rs)
order_behind r rs all =
    all_behind r (in_order newest_first rs) (any_in_order newest_first-total newest_first-same (stays r) rs ∙ none_stay r rs all)

same_place : (e p : ℕ × EventView) → rank e ≡ rank p → e.0 ≡ p.0
unfolding rank_of
same_place e p is = ap (λ (r : Rank). r.place) is

counts : (b : Bool) (n : ℕ) → one_if b + n ≡ 0 → (b ≡ false) × (n ≡ 0)
counts true n is = absurd (omega (arith, is))
counts false n is = (refl, omega (arith, is))

apart_from : (p e : ℕ × EventView) → (p.0 == e.0) ≡ false → rank e ≡ rank p → ⊥
apart_from p e other is = let same : e.0 ≡ p.0 = same_place e p is in absurd (differ p.0 e.0 other (sym same))
  where
    differ : (a b : ℕ) → (a == b) ≡ false → a ≡ b → ⊥
    differ a b not same = grind (arith, nat_tests)

-- behind one that none comes before, where none has its place
all_later : (m : ℕ × EventView → Bool) (e : ℕ × EventView) (ps : List (ℕ × EventView)) → NoneBefore (rank e) ps → placed_at e.0 ps ≡ 0
    → AllByRecursion (λ q. newest_first (rank e) q ≡ Less) (map rank (filter m ps))
all_later m e [] none count = tt
all_later m e (p ∷ ps) none count =
    let parts = counts (p.0 == e.0) (placed_at e.0 ps) (sym (count_cons e.0 p ps) ∙ count) in
    let not : comes_before (rank p) (rank e) ≡ false = all_head (λ x. comes_before (rank x) (rank e) ≡ false) p ps none in
    keep (m p) (then_less (rank e) (rank p) not (apart_from p e parts.0)) (all_later m e ps (All-tail (λ x. comes_before (rank x) (rank e) ≡ false) p ps none) parts.1)
  where
    keep : (b : Bool) → newest_first (rank e) (rank p) ≡ Less → AllByRecursion (λ q. newest_first (rank e) q ≡ Less) (map rank (filter m ps))
        → AllByRecursion (λ q. newest_first (rank e) q ≡ Less) (map rank (cond b (p ∷ filter m ps) (filter m ps)))
    keep true less rest = (less, rest)
    keep false less rest = rest

-- ---- which ranks are hits

module _ {X Y : Type 0} (k : X → Y) (p : X → Bool) (q : Y → Bool) where
  any_if : (b : Bool) (x : X) (xs : List X) → list_any q (map k (cond b (x ∷ xs) xs)) ≡ ((b && q (k x)) || list_any q (map k xs))
  any_if true x xs = refl
  any_if false x xs = refl

  any_kept : (xs : List X) → list_any q (map k (filter p xs)) ≡ list_any (λ x. p x && q (k x)) xs
  any_kept [] = refl
  any_kept (x ∷ xs) = any_if (p x) x (filter p xs) ∙ ap (λ b. (p x && q (k x)) || b) (any_kept xs)

any_shared : (test : ℕ × EventView → Bool) (n : ℕ) (events : List (Arc EventView Global))
    → list_any (λ p. test (p.0, p.1.value)) (enumerate_from n events) ≡ list_any test (enumerate_from n (map arc_value events))
any_shared test n [] = refl
any_shared test n (e ∷ events) = ap (λ b. test (n, e.value) || b) (any_shared test (n + 1) events)

hits_moved : (f : Filter) (ps qs : List (ℕ × EventView)) → IsPermutation ps qs → (q : Rank → Bool) → list_any q (hits f ps) ≡ list_any q (hits f qs)
hits_moved f ps qs moved q =
    let test : ℕ × EventView → Bool = λ p. matches_of f p.1 && q (rank p) in
    any_kept rank (λ p. matches_of f p.1) q ps ∙ list_any-IsPermutation test ps qs moved ∙ sym (any_kept rank (λ p. matches_of f p.1) q qs)

same_ranks : (f : Filter) (events : List (Arc EventView Global)) (ps : List (ℕ × EventView)) → AreOf (map arc_value events) ps → (q : Rank → Bool)
    → list_any q (in_order newest_first (matching_from 0 f events)) ≡ list_any q (hits f ps)
same_ranks f events ps of q =
    let test : ℕ × EventView → Bool = λ p. matches_of f p.1 && q (rank p) in
    any_in_order newest_first-total newest_first-same q (matching_from 0 f events)
    ∙ any_kept (λ (p : ℕ × Arc EventView Global). rank_of p.0 p.1.value) (λ p. matches_of f p.1.value) q (enumerate_from 0 events)
    ∙ any_shared test 0 events
    ∙ list_any-IsPermutation test (enumerate_from 0 (map arc_value events)) ps of
    ∙ sym (any_kept rank (λ p. matches_of f p.1) q ps)

pub picked_is : (f : Filter) (events : List (Arc EventView Global)) (ps rests : List (ℕ × EventView)) → AreOf (map arc_value events) ps → hits f rests ≡ hits f ps
    → take (cut_of f) (in_order newest_first (hits f rests)) ≡ picked events f
picked_is f events ps rests of same =
    ap (take (cut_of f))
    (one_list newest_first-total newest_first-same (in_order newest_first (hits f rests)) (in_order newest_first (matching_from 0 f events))
    (in_order_sorted newest_first-total newest_first-same (hits f rests)) (in_order_sorted newest_first-total newest_first-same (matching_from 0 f events))
    (λ r. any_in_order newest_first-total newest_first-same (eq_by_cmp newest_first r) (hits f rests) ∙ ap (list_any (eq_by_cmp newest_first r)) same
    ∙ sym (same_ranks f events ps of (eq_by_cmp newest_first r))))

-- ---- the one that comes first is taken

matched_hits : (f : Filter) (e : ℕ × EventView) (ps : List (ℕ × EventView)) → matches_of f e.1 ≡ true → hits f (e ∷ ps) ≡ rank e ∷ hits f ps
matched_hits f e ps is = rw is refl

next_chosen : (f : Filter) (e : ℕ × EventView) (ps qs : List (ℕ × EventView)) → IsPermutation ps (e ∷ qs) → matches_of f e.1 ≡ true → NoneBefore (rank e) qs → placed_at e.0 qs ≡ 0
    → in_order newest_first (hits f ps) ≡ rank e ∷ in_order newest_first (hits f qs)
unfolding IsStrictlySortedBy
next_chosen f e ps qs moved is none count =
    one_list newest_first-total newest_first-same (in_order newest_first (hits f ps)) (rank e ∷ in_order newest_first (hits f qs))
    (in_order_sorted newest_first-total newest_first-same (hits f ps))
    (order_behind (rank e) (hits f qs) (all_later (λ p. matches_of f p.1) e qs none count), in_order_sorted newest_first-total newest_first-same (hits f qs))
    (λ r. let q = eq_by_cmp newest_first r in
    any_in_order newest_first-total newest_first-same q (hits f ps) ∙ hits_moved f ps (e ∷ qs) moved q ∙ ap (list_any q) (matched_hits f e qs is)
    ∙ ap (λ b. q (rank e) || b) (sym (any_in_order newest_first-total newest_first-same q (hits f qs))))

pub taken : (f : Filter) (ls : List (List (ℕ × EventView))) (i most : ℕ) (e : ℕ × EventView) (r q : List (ℕ × EventView)) (found t : List Rank) → i < length ls → get_or ls i [] ≡ e ∷ r
    → NoneBefore (rank e) (joined ls) → All (BeginsMatched f) ls → AreApart (joined ls) → hits f q ≡ hits f r
    → take most (found ++ in_order newest_first (hits f (joined ls))) ≡ t
    → take most ((found ++ rank e ∷ []) ++ in_order newest_first (hits f (joined (set ls i q)))) ≡ t
taken f ls i most e r q found t lt is first begins apart same rest =
    let moved : IsPermutation (joined ls) (e ∷ joined (set ls i r)) = head_moved ls i e r lt is in
    let matched : matches_of f e.1 ≡ true = subst (BeginsMatched f) is (begins i [] lt) in
    let none : NoneBefore (rank e) (joined (set ls i r)) = All-tail (λ p. comes_before (rank p) (rank e) ≡ false) e (joined (set ls i r)) (behind moved) in
    let next = next_chosen f e (joined ls) (joined (set ls i r)) moved matched none (one_fewer (joined ls) (joined (set ls i r)) e moved apart) in
    ap (take most) (append_assoc found (rank e ∷ []) (in_order newest_first (hits f (joined (set ls i q))))
    ∙ ap (λ rs. found ++ rank e ∷ in_order newest_first rs) (hits_set f ls i q r same) ∙ ap (λ rs. found ++ rs) (sym next))
    ∙ rest
  where
    behind : IsPermutation (joined ls) (e ∷ joined (set ls i r)) → NoneBefore (rank e) (e ∷ joined (set ls i r))
    behind moved = All-permutation (λ p. comes_before (rank p) (rank e) ≡ false) (joined ls) (e ∷ joined (set ls i r)) moved first

pub all_taken : (xs ys : List Rank) (k : ℕ) → length xs ≡ k → take k (xs ++ ys) ≡ xs
all_taken [] ys zero is = refl
all_taken [] ys (suc k) is = absurd (omega (arith, is))
all_taken (x ∷ xs) ys zero is = absurd (omega (arith, is))
all_taken (x ∷ xs) ys (suc k) is = ap (λ rs. x ∷ rs) (all_taken xs ys k (omega (arith, is)))

pub none_left : (f : Filter) (k : ℕ) (found : List Rank) (ps : List (ℕ × EventView)) → ps ≡ [] → length found ≤ k → take k (found ++ in_order newest_first (hits f ps)) ≡ found
none_left f k found ps is few = ap (λ xs. take k (found ++ in_order newest_first (hits f xs))) is ∙ ap (take k) (append-nil found) ∙ take_all k found few
