-- Relays that chains of moves reach.
use Rattle.std.proofs.Common.{◌≡◌, ◌≢◌, ℕ, zero, suc, cond, ◌+◌, ◌<◌, ◌≤◌, ◌==◌, ◌||◌, Bool, true, false, not, List, [], length, get_or, set, replicate, refl, sym, ap, ◌∙◌, subst, arith, inl, inr, ◌⊎◌}
use Rattle.sharing.specs.declared.TheConstants.{RELAYS}
use Rattle.std.specs.List.{count_by}
use Rattle.std.proofs.lemmas.Bool.{false≢true, cases_eq, cases_lt, or_left, or_right, or_cases, eq-eqb}
use Rattle.std.proofs.lemmas.List.{get_or-set_same, get_or-set_other, length-set, get_or-replicate, get_or_past, length-replicate}
use Rattle.std.proofs.lemmas.List.Sums.{sum_by-cons}
use Rattle.sharing.specs.Sharing.{is_among}
use Rattle.sharing.specs.Offers.{AreRelays}
use Rattle.item_key.specs.declared.Id.{Id}
use Rattle.fetch_plan.specs.Takers.{at, offered}
use Rattle.fetch_plan.specs.declared.search.Search.{Search}
use Rattle.fetch_plan.specs.Chains.{set_at, LeadsBelow, IsBeyond, Begins, IsWay, AreReached, IsClosed, IsSettled}
use Rattle.fetch_plan.proofs.Readers.{set_here, set_there, one_more, small_in}

-- of no ids
pub beyond_none : (offers : List (Id × List ℕ)) (takers : List ℕ) (beyond : List (List ℕ)) → ((r s : ℕ) → is_among (set_at beyond r) s ≡ false) → IsBeyond offers takers 0 beyond
beyond_none offers takers beyond none = record { sound = λ r s m. absurd (false≢true (sym (none r s) ∙ m)); whole = λ k s lt. absurd (omega arith) }

-- one id more
pub beyond_more : (offers : List (Id × List ℕ)) (takers : List ℕ) (n : ℕ) (beyond : List (List ℕ)) (now : List ℕ) → IsBeyond offers takers n beyond → at takers n < length beyond →
    ((r : ℕ) → is_among now r ≡ (is_among (set_at beyond (at takers n)) r || is_among (offered offers n) r)) → IsBeyond offers takers (n + 1) (set beyond (at takers n) now)
beyond_more offers takers n beyond now h lt member =
    let slot : ℕ = at takers n in
    let after : List (List ℕ) = set beyond slot now in
    let here : (s : ℕ) → is_among (set_at after slot) s ≡ (is_among (set_at beyond slot) s || is_among (offered offers n) s) = λ s. ap (λ xs. is_among xs s) (set_here beyond slot now lt) ∙ member s in
    let more : (r s : ℕ) → LeadsBelow offers takers n r s → LeadsBelow offers takers (n + 1) r s = λ r s w. (w.0, omega (arith, w.1), w.2, w.3) in
    record {
      sound = λ r s m. elim (cases_eq r slot) [
        | inl e ↦ elim (or_cases (is_among (set_at beyond slot) s) (is_among (offered offers n) s) (sym (here s) ∙ ap (λ r. is_among (set_at after r) s) (sym e) ∙ m)) [
          | inl old ↦ more r s (subst (λ r. LeadsBelow offers takers n r s) (sym e) (h.sound slot s old))
          | inr new ↦ (n, omega arith, sym e, new)
        ]
        | inr ne ↦ more r s (h.sound r s (ap (λ xs. is_among xs s) (sym (set_there beyond slot now r ne)) ∙ m))
      ];
      whole = λ k s below m. elim (cases_eq k n) [
        | inl e ↦ ap (λ k. is_among (set_at after (at takers k)) s) e ∙ here s ∙ or_right (is_among (set_at beyond slot) s) (is_among (offered offers n) s) (ap (λ k. is_among (offered offers k) s) (sym e) ∙ m)
        | inr ne ↦ (let old : is_among (set_at beyond (at takers k)) s ≡ true = h.whole k s (omega arith) m in
            elim (cases_eq (at takers k) slot) [
              | inl e ↦ ap (λ r. is_among (set_at after r) s) e ∙ here s ∙ or_left (is_among (set_at beyond slot) s) (is_among (offered offers n) s) (ap (λ r. is_among (set_at beyond r) s) (sym e) ∙ old)
              | inr other ↦ ap (λ xs. is_among xs s) (set_there beyond slot now (at takers k) other) ∙ old
            ])
      ];
    }

-- a relay more, beyond one that was reached in an earlier turn
module _ (beyond : List (List ℕ)) (loads : List ℕ) (most : ℕ) (search : Search) (now : List ℕ) (relay other : ℕ) (fits : other < length search.froms) (fits' : other < length search.turns)
    (known : is_among search.reached relay ≡ true) (new : is_among search.reached other ≡ false) (earlier : at search.turns relay < search.turn) (leads : is_among (set_at beyond relay) other ≡ true)
    (member : (r : ℕ) → is_among now r ≡ ((r == other) || is_among search.reached r)) where
  abbrev pub after : Search
  after = record { reached = now; froms = set search.froms other relay; turns = set search.turns other search.turn; turn = search.turn }

  pub stays : (r : ℕ) → is_among search.reached r ≡ true → is_among now r ≡ true
  stays r m = member r ∙ or_right (r == other) (is_among search.reached r) m

  pub apart : (r : ℕ) → is_among search.reached r ≡ true → r ≢ other
  apart r m e = false≢true (sym new ∙ ap (is_among search.reached) (sym e) ∙ m)

  pub turn_kept : (r : ℕ) → is_among search.reached r ≡ true → at after.turns r ≡ at search.turns r
  turn_kept r m = get_or-set_other search.turns other r search.turn 0 (apart r m)

  way_kept : (r : ℕ) → is_among search.reached r ≡ true → IsWay beyond search r → IsWay beyond after r
  way_kept r m w =
      let same : at after.froms r ≡ at search.froms r = get_or-set_other search.froms other r relay 0 (apart r m) in
      record {
        known = ap (is_among now) same ∙ stays (at search.froms r) w.known;
        earlier = omega (arith, ap (at after.turns) same, turn_kept (at search.froms r) w.known, turn_kept r m, w.earlier);
        leads = ap (λ k. is_among (set_at beyond k) r) same ∙ w.leads;
      }

  way_new : IsWay beyond after other
  way_new =
      let same : at after.froms other ≡ relay = get_or-set_same search.froms other relay 0 fits in
      record {
        known = ap (is_among now) same ∙ stays relay known;
        earlier = omega (arith, ap (at after.turns) same, turn_kept relay known, get_or-set_same search.turns other search.turn 0 fits', earlier);
        leads = ap (λ k. is_among (set_at beyond k) other) same ∙ leads;
      }

  pub reach_more : AreRelays now → AreReached beyond loads most search → AreReached beyond loads most after
  reach_more relays h = record {
    relays = relays;
    busiest = λ r lt e. stays r (h.busiest r lt e);
    ways_ok = one_more search.reached now other member (λ r. ((at after.turns r ≡ 0) × (get_or loads r 0 ≡ most)) ⊎ IsWay beyond after r) (inr way_new)
        (λ r m. elim (h.ways_ok r m) [ inl e ↦ inl (turn_kept r m ∙ e.0, e.1) | inr w ↦ inr (way_kept r m w) ]);
    late = one_more search.reached now other member (λ r. at after.turns r ≤ search.turn) (omega (arith, get_or-set_same search.turns other search.turn 0 fits')) (λ r m. omega (arith, turn_kept r m, h.late r m));
    least = λ test begin on. one_more search.reached now other member (λ r. test r ≡ true) (on relay other (h.least test begin on relay known) leads) (h.least test begin on);
  }

-- one turn more
abbrev pub later : Search → Search
later search = record { reached = search.reached; froms = search.froms; turns = search.turns; turn = search.turn + 1 }

pub reach_later : (beyond : List (List ℕ)) (loads : List ℕ) (most : ℕ) (search : Search) → AreReached beyond loads most search → AreReached beyond loads most (later search)
reach_later beyond loads most search h = record {
  relays = h.relays;
  busiest = h.busiest;
  ways_ok = λ r m. elim (h.ways_ok r m) [ inl e ↦ inl e | inr w ↦ inr (record { known = w.known; earlier = w.earlier; leads = w.leads }) ];
  late = λ r m. omega (arith, h.late r m);
  least = h.least;
}

-- what is beyond these relays was tried
pub record Reaching (beyond : List (List ℕ)) (first : Search) (relay : ℕ) (others : List ℕ) (search : Search) (other : ℕ) : Type 0 where
  pub reach : (loads : List ℕ) (most : ℕ) → AreReached beyond loads most first → AreReached beyond loads most search
  pub stay : (r : ℕ) → is_among first.reached r ≡ true → is_among search.reached r ≡ true
  pub counted : search.turn ≡ first.turn
  pub earlier : at search.turns relay < search.turn
  pub so_far : (s : ℕ) → s < other → is_among others s ≡ true → is_among search.reached s ≡ true
  pub small : 0 < other → (s : ℕ) → is_among others s ≡ true → s < RELAYS

-- one relay more was tried, and is reached if it is beyond
below_next : (others reached : List ℕ) (other : ℕ) → ((s : ℕ) → s < other → is_among others s ≡ true → is_among reached s ≡ true) → (is_among others other ≡ true → is_among reached other ≡ true) → (s : ℕ) → s < other + 1 → is_among others s ≡ true → is_among reached s ≡ true
below_next others reached other before here s lt m =
    elim (cases_eq s other) [
      | inl e ↦ ap (is_among reached) e ∙ here (ap (is_among others) (sym e) ∙ m)
      | inr ne ↦ before s (omega arith) m
    ]

module _ (beyond : List (List ℕ)) (first : Search) (relay : ℕ) (others : List ℕ) (search : Search) (other : ℕ) (h : Reaching beyond first relay others search other) (tiny : (s : ℕ) → is_among others s ≡ true → s < RELAYS) where
  pub reaching_pass : (is_among others other ≡ true → is_among search.reached other ≡ true) → Reaching beyond first relay others search (other + 1)
  reaching_pass here = record { reach = h.reach; stay = h.stay; counted = h.counted; earlier = h.earlier; so_far = below_next others search.reached other h.so_far here; small = λ _. tiny }

  pub reaching_step : (now : List ℕ) → AreRelays now → other < length search.froms → other < length search.turns → is_among first.reached relay ≡ true → others ≡ set_at beyond relay → is_among others other ≡ true → is_among search.reached other ≡ false →
      ((r : ℕ) → is_among now r ≡ ((r == other) || is_among search.reached r)) →
      Reaching beyond first relay others (record { reached = now; froms = set search.froms other relay; turns = set search.turns other search.turn; turn = search.turn }) (other + 1)
  reaching_step now relays fits fits' known same leads new member =
      let known_now : is_among search.reached relay ≡ true = h.stay relay known in
      let along : is_among (set_at beyond relay) other ≡ true = ap (λ xs. is_among xs other) (sym same) ∙ leads in
      record {
        reach = λ loads most start. reach_more beyond loads most search now relay other fits fits' known_now new h.earlier along member relays (h.reach loads most start);
        stay = λ r m. member r ∙ or_right (r == other) (is_among search.reached r) (h.stay r m);
        counted = h.counted;
        earlier = omega (arith, h.earlier, turn_kept beyond [] 0 search now relay other fits fits' known_now new h.earlier along member relay known_now);
        so_far = below_next others now other (λ s below m. member s ∙ or_right (s == other) (is_among search.reached s) (h.so_far s below m)) (λ _. member other ∙ or_left (other == other) (is_among search.reached other) (eq-eqb other other refl));
        small = λ _. tiny;
      }

-- what is done in a search
pub record Searching (beyond : List (List ℕ)) (loads : List ℕ) (most : ℕ) (search : Search) (done : List Bool) : Type 0 where
  pub reach : AreReached beyond loads most search
  pub closed : (r s : ℕ) → get_or done r false ≡ true → is_among (set_at beyond r) s ≡ true → is_among search.reached s ≡ true
  pub high : (r : ℕ) → get_or done r false ≡ true → most ≤ get_or loads r 0 + 1
  pub counted : search.turn + count_by not done ≡ RELAYS
  pub wide : length done ≡ RELAYS

pub none_done : (n r : ℕ) → get_or (replicate n false) r false ≡ false
none_done n r =
    elim (cases_lt r n) [
      | inl lt ↦ get_or-replicate n r false false lt
      | inr ge ↦ get_or_past (replicate n false) r false (omega (arith, length-replicate n false))
    ]

count_none : (n : ℕ) → count_by not (replicate n false) ≡ n
count_none zero = refl
count_none (suc n) = omega (arith, count_none n, sum_by-cons (λ b. cond (not b) 1 0) false (replicate n false))

pub searching_none : (beyond : List (List ℕ)) (loads : List ℕ) (most : ℕ) (search : Search) → AreReached beyond loads most search → search.turn ≡ 0 → Searching beyond loads most search (replicate RELAYS false)
searching_none beyond loads most search reach start = record {
  reach = reach;
  closed = λ r s d. absurd (false≢true (sym (none_done RELAYS r) ∙ d));
  high = λ r d. absurd (false≢true (sym (none_done RELAYS r) ∙ d));
  counted = omega (arith, count_none RELAYS);
  wide = length-replicate RELAYS false;
}

-- where just the busiest are reached
pub reached_none : (beyond : List (List ℕ)) (loads : List ℕ) (most : ℕ) (search : Search) → AreRelays search.reached → ((r : ℕ) → is_among search.reached r ≡ true → get_or loads r 0 ≡ most) → Begins loads most (is_among search.reached) →
    ((r : ℕ) → at search.turns r ≡ 0) → AreReached beyond loads most search
reached_none beyond loads most search relays sound whole zeros = record {
  relays = relays;
  busiest = whole;
  ways_ok = λ r m. inl (zeros r, sound r m);
  late = λ r m. omega (arith, zeros r);
  least = λ test begin on r m. begin r (small_in search.reached r relays m) (sound r m);
}

pub no_turns : (n r : ℕ) → at (replicate {A = ℕ} n 0) r ≡ 0
no_turns n r =
    elim (cases_lt r n) [
      | inl lt ↦ get_or-replicate {A = ℕ} n r 0 0 lt
      | inr ge ↦ get_or_past (replicate {A = ℕ} n 0) r 0 (omega (arith, length-replicate {A = ℕ} n 0))
    ]

-- one relay more is done
pub searching_step : (beyond : List (List ℕ)) (loads : List ℕ) (most : ℕ) (search now : Search) (done : List Bool) (relay : ℕ) → Searching beyond loads most search done →
    relay < length done → get_or done relay false ≡ false → count_by not (set done relay true) + 1 ≡ count_by not done → most ≤ get_or loads relay 0 + 1 → now.turn ≡ search.turn + 1 →
    AreReached beyond loads most now → ((r : ℕ) → is_among search.reached r ≡ true → is_among now.reached r ≡ true) → ((s : ℕ) → is_among (set_at beyond relay) s ≡ true → is_among now.reached s ≡ true) →
    Searching beyond loads most now (set done relay true)
searching_step beyond loads most search now done relay h lt new count high more reach stay closed = record {
  reach = reach;
  closed = λ r s d m. elim (cases_eq r relay) [
    | inl e ↦ closed s (ap (λ r. is_among (set_at beyond r) s) (sym e) ∙ m)
    | inr ne ↦ stay s (h.closed r s (sym (get_or-set_other done relay r true false ne) ∙ d) m)
  ];
  high = λ r d. elim (cases_eq r relay) [
    | inl e ↦ omega (arith, high, ap (λ r. get_or loads r 0) e)
    | inr ne ↦ h.high r (sym (get_or-set_other done relay r true false ne) ∙ d)
  ];
  counted = omega (arith, h.counted, count, more);
  wide = length-set done relay true ∙ h.wide;
}

-- where all that is reached is done
pub is_closed : (beyond : List (List ℕ)) (loads : List ℕ) (most : ℕ) (search : Search) (done : List Bool) → Searching beyond loads most search done →
    ((r : ℕ) → r < RELAYS → is_among search.reached r ≡ true → get_or done r false ≡ true) → IsClosed beyond loads most search.reached
is_closed beyond loads most search done h all = record {
  closed = λ r s m among. h.closed r s (all r (small_in search.reached r h.reach.relays m) m) among;
  high = λ r m. h.high r (all r (small_in search.reached r h.reach.relays m) m);
}

-- a closed search settles the ids that it is about
pub is_settled : (offers : List (Id × List ℕ)) (takers : List ℕ) (n : ℕ) (beyond : List (List ℕ)) (loads : List ℕ) (most : ℕ) (search : Search) → n ≡ length takers → IsBeyond offers takers n beyond →
    ((r : ℕ) → r < RELAYS → get_or loads r 0 ≤ most) → (r : ℕ) × (r < RELAYS) × (get_or loads r 0 ≡ most) →
    AreReached beyond loads most search → IsClosed beyond loads most search.reached → IsSettled offers takers loads most search.reached
is_settled offers takers n beyond loads most search all h bound one reach closed = record {
  bound = bound;
  one = one;
  relays = reach.relays;
  busiest = reach.busiest;
  closed = λ k r lt m among. closed.closed (at takers k) r m (h.whole k r (omega arith) among);
  high = closed.high;
  least = λ test begin keeps. reach.least test begin
      (λ r s t among. (let w : LeadsBelow offers takers n r s = h.sound r s among in keeps w.0 s (omega (arith, w.1)) (ap test w.2 ∙ t) w.3));
}
