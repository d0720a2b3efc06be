-- From settled takers to the promises on offers.
use Rattle.std.proofs.Common.{◌≡◌, ℕ, ◌+◌, ◌<◌, ◌≤◌, ◌==◌, Bool, true, cond, List, [], ◌∷◌, length, get_or, map, refl, sym, ap, ◌∙◌, subst, arith, inl, inr, ◌⊎◌, suc}
use Rattle.sharing.specs.declared.TheConstants.{RELAYS, MOST_IDS}
use Rattle.std.specs.Prelude.{count_by}
use Rattle.std.specs.List.{All}
use Rattle.std.proofs.lemmas.Bool.{cases_lt, ne_eqb}
use Rattle.std.proofs.lemmas.List.{get_or-map, length-map, get_or_past}
use Rattle.std.proofs.lemmas.List.Sums.{sum_by-cons}
use Rattle.std.proofs.lemmas.List.Elements.{All-head, All-tail}
use Rattle.item_key.specs.declared.Id.{Id}
use Rattle.sharing.specs.Bases.{base_of, AreBases}
use Rattle.sharing.specs.Sharing.{is_among, load, IsSharing, IsGreatest}
use Rattle.sharing.specs.Offers.{Ascend, AreRelays, relay_in}
use Rattle.sharing.specs.Reached.{KeepsTo, IsLeast}
use Rattle.sharing.proofs.Counting.{shows_from_closed}
use Rattle.sharing.proofs.Looks.{gives_agree, load_by_gives}
use Rattle.sharing.proofs.Orders.{once_sorted}
use Rattle.fetch_plan.specs.Plan.{Planned, IsPlan, IsPlanOf, planned_load}
use Rattle.fetch_plan.specs.Takers.{at, offered, held, AreOffered, no_offer}
use Rattle.fetch_plan.specs.Chains.{IsSettled}
use Rattle.offer_table.specs.Table.{IsTable}
use Rattle.fetch_plan.proofs.Readers.{offered_is, small_in, no_relays}

-- a number that is no relay takes nothing
pub none_held : (takers : List ℕ) (r : ℕ) → ((k : ℕ) → k < length takers → at takers k < RELAYS) → RELAYS ≤ r → held takers r ≡ 0
none_held [] r small le = refl
none_held (x ∷ xs) r small le =
    omega (arith, sum_by-cons (λ (x : ℕ). cond (x == r) 1 0) x xs, ap {B = ℕ} (λ b. cond b 1 0) (ne_eqb x r (λ e. absurd (omega (arith, small 0 (omega arith))))), none_held xs r (λ k lt. small (suc k) (omega arith)) le)

pub held_in : (gives : List (Id × ℕ)) (r : ℕ) → held (map (λ g. g.1) gives) r ≡ count_by (λ g. g.1 == r) gives
held_in [] r = refl
held_in (g ∷ gs) r = omega (arith, held_in gs r, sum_by-cons (λ (x : ℕ). cond (x == r) 1 0) g.1 (map (λ g. g.1) gs), sum_by-cons (λ (g : Id × ℕ). cond (g.1 == r) 1 0) g gs)

module _ (bases : List ℕ) (offers : List (Id × List ℕ)) (takers : List ℕ) (gives : List (Id × ℕ)) (loads : List ℕ) (group : List ℕ) (bases_ok : AreBases bases) (ordered : Ascend (map (λ p. p.0) offers)) (offered_ok : AreOffered offers takers)
    (ids : map (λ g. g.0) gives ≡ map (λ o. o.0) offers) (taken_ok : map (λ g. g.1) gives ≡ takers) (loads_ok : (r : ℕ) → r < RELAYS → at loads r ≡ base_of bases r + held takers r) where
  abbrev pub f : Id → ℕ
  f = relay_in gives

  ascend : Ascend (map (λ g. g.0) gives)
  ascend = subst Ascend (sym ids) ordered

  long : length gives ≡ length takers
  long = sym (length-map gives (λ (g : Id × ℕ). g.1)) ∙ ap (length {A = ℕ}) taken_ok

  -- an offered id is given to its taker
  agree : (k : ℕ) (d : Id × List ℕ) → k < length offers → f (get_or offers k d).0 ≡ at takers k
  agree k d lt =
      let i : Id = (get_or offers k d).0 in
      let fits : k < length gives = omega (arith, long, offered_ok.long) in
      let id_o : get_or (map (λ o. o.0) offers) k i ≡ i = get_or-map (λ (o : Id × List ℕ). o.0) offers k d i lt in
      let id_g : get_or (map (λ g. g.0) gives) k i ≡ (get_or gives k (i, 0)).0 = get_or-map (λ (g : Id × ℕ). g.0) gives k (i, 0) i fits in
      let same : (get_or gives k (i, 0)).0 ≡ i = sym id_g ∙ ap (λ xs. get_or xs k i) ids ∙ id_o in
      let to : get_or (map (λ g. g.1) gives) k 0 ≡ (get_or gives k (i, 0)).1 = get_or-map (λ (g : Id × ℕ). g.1) gives k (i, 0) 0 fits in
      ap f (sym same) ∙ gives_agree gives ascend k (i, 0) fits ∙ sym to ∙ ap (λ xs. at xs k) taken_ok

  pub load_is : (r : ℕ) → load (base_of bases) f offers r ≡ base_of bases r + count_by (λ g. g.1 == r) gives
  load_is r = load_by_gives (base_of bases) f offers gives r (sym ids) (gives_agree gives ascend)

  held_is : (r : ℕ) → count_by (λ g. g.1 == r) gives ≡ held takers r
  held_is r = sym (held_in gives r) ∙ ap (λ xs. held xs r) taken_ok

  load_at : (r : ℕ) → r < RELAYS → load (base_of bases) f offers r ≡ at loads r
  load_at r lt = omega (arith, load_is r, held_is r, loads_ok r lt)

  load_past : (r : ℕ) → RELAYS ≤ r → load (base_of bases) f offers r ≡ 0
  load_past r le = omega (arith, load_is r, held_is r, none_held takers r offered_ok.small le, get_or_past bases r 0 (omega (arith, bases_ok.long)))

  sharing : IsSharing f offers
  sharing k d lt = ap (is_among (get_or offers k d).1) (agree k d lt) ∙ ap (λ rs. is_among rs (at takers k)) (sym (offered_is offers k (get_or offers k d) d lt refl)) ∙ offered_ok.offer k (omega (arith, offered_ok.long))

  module _ (most : ℕ) (h : IsSettled offers takers loads most group) where
    greatest : IsGreatest (load (base_of bases) f offers) most
    greatest = (
      λ r. elim (cases_lt r RELAYS) [ inl lt ↦ omega (arith, load_at r lt, h.bound r lt) | inr ge ↦ omega (arith, load_past r ge) ],
      (h.one.0, load_at h.one.0 h.one.1 ∙ h.one.2),
    )

    keeps : KeepsTo f offers (is_among group)
    keeps k d lt m r among =
        h.closed k r (omega (arith, offered_ok.long)) (ap (is_among group) (sym (agree k d lt)) ∙ m) (ap (λ rs. is_among rs r) (offered_is offers k (get_or offers k d) d lt refl) ∙ among)

    -- a test that moves by f keep is kept by moves of the takers
    kept : (test : ℕ → Bool) → KeepsTo f offers test → (k r : ℕ) → k < length takers → test (at takers k) ≡ true → is_among (offered offers k) r ≡ true → test r ≡ true
    kept test keeps k r lt t among =
        let fits : k < length offers = omega (arith, offered_ok.long) in
        keeps k no_offer fits (ap test (agree k no_offer fits) ∙ t) r (ap (λ rs. is_among rs r) (sym (offered_is offers k (get_or offers k no_offer) no_offer fits refl)) ∙ among)

    pub least_over : 0 < most → IsLeast (base_of bases) f offers most group
    least_over some = record {
      sharing = sharing;
      greatest = greatest;
      shows = shows_from_closed (base_of bases) f offers group most h.one.0 (once_sorted group h.relays.ascend) keeps (λ r m. omega (arith, h.high r m, load_at r (small_in group r h.relays m))) some (h.busiest h.one.0 h.one.1 h.one.2) (load_at h.one.0 h.one.1 ∙ h.one.2);
      reached = λ _. record {
        busiest = λ r e. elim (cases_lt r RELAYS) [ inl lt ↦ h.busiest r lt (sym (load_at r lt) ∙ e) | inr ge ↦ absurd (omega (arith, load_past r ge, e)) ];
        keeps = keeps;
        least = λ test begin on r m. h.least test (λ r lt e. begin r (load_at r lt ∙ e)) (kept test on) r m;
      };
      none = λ e. absurd (omega arith);
    }

    -- a greatest load of 0 needs no group
    pub least_none : most ≡ 0 → IsLeast (base_of bases) f offers most []
    least_none none = record {
      sharing = sharing;
      greatest = greatest;
      shows = inl none;
      reached = λ some. absurd (omega arith);
      none = λ e. refl;
    }

  pub is_plan_of : (most : ℕ) (of : List ℕ) → length offers ≤ MOST_IDS → AreRelays of → IsLeast (base_of bases) f offers most of → IsPlanOf bases offers (record { bases = bases; gives = gives; least_max = most; group = of })
  is_plan_of most of few relays least = record {
    bases_same = refl;
    ids = ids;
    loads = load_is;
    least = least;
    plan_ok = record {
      bases_ok = bases_ok;
      ascend = ascend;
      few = omega (arith, long, offered_ok.long, few);
      relays = λ k d lt. subst (λ r. r < RELAYS) (ap (λ xs. at xs k) (sym taken_ok) ∙ get_or-map (λ (g : Id × ℕ). g.1) gives k d 0 lt) (offered_ok.small k (omega (arith, long)));
      group_ok = relays;
    };
  }

none_given : (gives : List (Id × ℕ)) (r : ℕ) → All (λ g. g.1 < RELAYS) gives → RELAYS ≤ r → count_by (λ g. g.1 == r) gives ≡ 0
none_given [] r h le = refl
none_given (g ∷ gs) r h le =
    let head : g.1 < RELAYS = All-head (λ (g : Id × ℕ). g.1 < RELAYS) g gs h in
    omega (arith, none_given gs r (All-tail (λ (g : Id × ℕ). g.1 < RELAYS) g gs h) le, sum_by-cons (λ (g : Id × ℕ). cond (g.1 == r) 1 0) g gs, ap {B = ℕ} (λ b. cond b 1 0) (ne_eqb g.1 r (λ e. absurd (omega arith))))

-- a number that is no relay has no load
pub none_planned : (plan : Planned) (r : ℕ) → IsPlan plan → RELAYS ≤ r → 0 ≡ planned_load plan r
none_planned plan r h le = omega (arith, none_given plan.gives r h.relays le, get_or_past plan.bases r 0 (omega (arith, h.bases_ok.long)))

-- what is settled is a plan
pub planned : (bases : List ℕ) (offers : List (Id × List ℕ)) (takers : List ℕ) (gives : List (Id × ℕ)) (loads reached group : List ℕ) (least_max : ℕ) → AreBases bases → IsTable (record { reported = []; offers = offers }) → AreOffered offers takers →
    map (λ g. g.0) gives ≡ map (λ o. o.0) offers → map (λ g. g.1) gives ≡ takers → ((r : ℕ) → r < RELAYS → at loads r ≡ base_of bases r + held takers r) → (most : ℕ) × IsSettled offers takers loads most reached →
    ((r : ℕ) → r < RELAYS → at loads r ≤ least_max) → (r : ℕ) × (r < RELAYS) × (at loads r ≡ least_max) → ((least_max ≡ 0) × (group ≡ [])) ⊎ ((0 < least_max) × (group ≡ reached)) →
    IsPlanOf bases offers (record { bases = bases; gives = gives; least_max = least_max; group = group })
planned bases offers takers gives loads reached group least_max bases_ok table offered_ok ids taken_ok loads_ok found bound one which =
    let h : IsSettled offers takers loads found.0 reached = found.1 in
    let e : found.0 ≡ least_max = omega (arith, h.bound one.0 one.1, one.2, bound h.one.0 h.one.1, h.one.2) in
    let same : IsSettled offers takers loads least_max reached = subst (λ most. IsSettled offers takers loads most reached) e h in
    elim which [
      | inl none ↦ subst (λ g. IsPlanOf bases offers (record { bases = bases; gives = gives; least_max = least_max; group = g })) (sym none.1)
          (is_plan_of bases offers takers gives loads reached bases_ok table.offers_ok.ascend offered_ok ids taken_ok loads_ok least_max [] table.few no_relays
          (least_none bases offers takers gives loads reached bases_ok table.offers_ok.ascend offered_ok ids taken_ok loads_ok least_max same none.0))
      | inr some ↦ subst (λ g. IsPlanOf bases offers (record { bases = bases; gives = gives; least_max = least_max; group = g })) (sym some.1)
          (is_plan_of bases offers takers gives loads reached bases_ok table.offers_ok.ascend offered_ok ids taken_ok loads_ok least_max reached table.few same.relays
          (least_over bases offers takers gives loads reached bases_ok table.offers_ok.ascend offered_ok ids taken_ok loads_ok least_max same some.0))
    ]
