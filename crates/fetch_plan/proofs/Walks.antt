-- A walk back along ways, which moves one id at each.
use Rattle.std.proofs.Common.{◌≡◌, ◌≢◌, ℕ, ◌<◌, ◌==◌, true, cond, List, length, set, sym, ap, ◌∙◌, arith, inl, inr}
use Rattle.std.proofs.lemmas.List.{get_or-set_other}
use Rattle.sharing.specs.Sharing.{is_among}
use Rattle.item_key.specs.declared.Id.{Id}
use Rattle.fetch_plan.specs.Takers.{at, offered, AreOffered, IsMoved}
use Rattle.fetch_plan.specs.Chains.{LeadsBelow, IsBeyond, IsWay, AreReached}
use Rattle.fetch_plan.specs.declared.search.Search.{Search}
use Rattle.fetch_plan.proofs.Readers.{offered_kept, held_after, small_in}

-- the ways behind this relay have been walked
pub record Walking (offers : List (Id × List ℕ)) (old : List ℕ) (search : Search) (end : ℕ) (now : List ℕ) (here : ℕ) : Type 0 where
  pub known : is_among search.reached here ≡ true
  pub untouched : (k : ℕ) → at search.turns (at old k) < at search.turns here → at now k ≡ at old k
  pub moved : IsMoved old now here end
  pub kept : AreOffered offers now

-- only a busiest relay was reached from the start
pub is_busiest : (beyond : List (List ℕ)) (loads : List ℕ) (most : ℕ) (search : Search) → AreReached beyond loads most search → (r : ℕ) → is_among search.reached r ≡ true → at search.turns r ≡ 0 → at loads r ≡ most
is_busiest beyond loads most search reach r m zero = elim (reach.ways_ok r m) [ inl e ↦ e.1 | inr w ↦ absurd (omega (arith, w.earlier, zero)) ]

module _ (offers : List (Id × List ℕ)) (old : List ℕ) (beyond : List (List ℕ)) (loads : List ℕ) (most : ℕ) (search : Search) (end : ℕ) (now : List ℕ) (here : ℕ) (is_beyond : IsBeyond offers old (length old) beyond)
    (reach : AreReached beyond loads most search) (long : length now ≡ length old) (h : Walking offers old search end now here) (later : 0 < at search.turns here) where
  pub way : IsWay beyond search here
  way = elim (reach.ways_ok here h.known) [ inl e ↦ absurd (omega (arith, later, e.0)) | inr w ↦ w ]

  -- an id leads along the way
  pub leads : LeadsBelow offers now (length now) (at search.froms here) here
  leads =
      let w : LeadsBelow offers old (length old) (at search.froms here) here = is_beyond.sound (at search.froms here) here way.leads in
      (w.0, omega (arith, w.1, long), h.untouched w.0 (omega (arith, way.earlier, ap (at search.turns) w.2)) ∙ w.2, w.3)

  module _ (place : ℕ) (lt : place < length now) (giver : at now place ≡ at search.froms here) (taker : is_among (offered offers place) here ≡ true) where
    spared : (k : ℕ) → at search.turns (at old k) < at search.turns (at search.froms here) → k ≢ place
    spared k below e =
        let kept : at now k ≡ at old k = h.untouched k (omega (arith, way.earlier)) in
        omega (arith, below, ap (at search.turns) (sym kept ∙ ap (at now) e ∙ giver))

    pub walking_step : Walking offers old search end (set now place here) (at search.froms here)
    walking_step = record {
      known = way.known;
      untouched = λ k below. get_or-set_other now place k here 0 (spared k below) ∙ h.untouched k (omega (arith, way.earlier));
      moved = λ r. omega (arith, held_after now place here r lt, h.moved r, ap {B = ℕ} (λ x. cond (x == r) 1 0) giver);
      kept = offered_kept offers now place here lt taker (small_in search.reached here reach.relays h.known) h.kept;
    }
