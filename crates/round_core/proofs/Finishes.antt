-- An id is finished once at most over all plans, and only after it was placed.
use Rattle.std.proofs.Common.{◌≡◌, ℕ, zero, suc, ◌+◌, ◌-◌, ◌<◌, ◌≤◌, ◌==◌, Bool, true, false, cond, ◌||◌, ◌⊎◌, List, [], ◌∷◌, ◌++◌, length, take, drop, get_or, refl, sym, ap, ◌∙◌, subst, arith, inl, inr, Option, Some, None, append_assoc, append-nil}
use Rattle.std.specs.Prelude.{slice_get, unwrap_or, MatchBool}
use Rattle.std.proofs.lemmas.List.{take-append-drop, get_or_append_left, get_or-append_right, length-append, length-map, get_or-map}
use Rattle.std.proofs.lemmas.List.Elements.{All-get_or}
use Rattle.std.proofs.lemmas.Grind.{flat_map-append}
use Rattle.std.proofs.lemmas.Bool.{false≢true, cases_lt, cases_Bool, eqb-true, false_from_ne_true, eq-eqb, or_left}
use Rattle.item_key.specs.declared.Id.{Id}
use Rattle.sharing.specs.Sharing.{is_among}
use Rattle.sharing.specs.Offers.{is_id, relays_of, IsOffers}
use Rattle.sharing.proofs.Orders.{id_itself, id_flips}
use Rattle.fetch_plan.specs.Plan.{Planned}
use Rattle.fetch_plan.specs.declared.cell.Cell.TheVariants.{Held, Done}
use Rattle.round_core.specs.declared.events.Refusal.{Refusal}
use Rattle.round_core.specs.declared.events.Refusal.TheVariants as why
use Rattle.round_core.specs.declared.events.RoundEvent.{RoundEvent}
use Rattle.round_core.specs.declared.events.RoundEvent.TheVariants.{Report, Seal, Again, Claim, Finish, Miss, Release, Insert}
use Rattle.round_core.specs.declared.events.Touch.TheVariants as touch
use Rattle.round_core.specs.declared.events.Answer.{Answer}
use Rattle.round_core.specs.declared.events.Answer.TheVariants.{Taken, Finished, Refused}
use Rattle.round_core.specs.History.{History, seals, is_sealed, sealings, gives_of, gives_so_far, gives_before, no_give, cell_after, is_placed, finishes, has_finished, leaves_out, Stands}
use Rattle.round_core.specs.Legal.{barred_after, or_refused, is_held_by, MakesPlan, Right, legal_after}
use Rattle.fetch_plan.specs.LeftOut.{first_of}
use Rattle.round_core.proofs.Histories.{or_false, finished_push, sealings_push, legal_push, by_right}
use Rattle.round_core.proofs.Touches.{range_right, refused_seals, touch_seals}
use Rattle.fetch_plan.proofs.Gone.{found, first_all, apart}
use Rattle.round_core.proofs.Holders.{held_if, holder_is, done_cell}

-- what stands in a legal history was right, and what stands before it was legal
legal_at : (lanes : List ℕ) (plans : List Planned) (pre h after : History) (x : RoundEvent × Answer) → legal_after lanes plans pre (h ++ x ∷ after) → legal_after lanes plans pre h × Right lanes plans (pre ++ h) x.0 x.1
legal_at lanes plans pre [] after x l = (tt, subst (λ b. Right lanes plans b x.0 x.1) (sym (append-nil pre)) l.0)
legal_at lanes plans pre (y ∷ ys) after x l =
    let rest : legal_after lanes plans (pre ++ y ∷ []) ys × Right lanes plans ((pre ++ y ∷ []) ++ ys) x.0 x.1 = legal_at lanes plans (pre ++ y ∷ []) ys after x l.1 in
    ((l.0, rest.0), subst (λ b. Right lanes plans b x.0 x.1) (append_assoc pre (y ∷ []) ys) rest.1)

-- ---- the plans that were made, among all plans
made_parts : (plans : List Planned) (n : ℕ) → gives_of plans ≡ gives_of (take n plans) ++ gives_of (drop n plans)
made_parts plans n = ap gives_of (sym (take-append-drop n plans)) ∙ flat_map-append (λ (p : Planned). p.gives) (take n plans) (drop n plans)

give_made : (plans : List Planned) (n i : ℕ) → i < length (gives_of (take n plans)) → get_or (gives_of (take n plans)) i no_give ≡ get_or (gives_of plans) i no_give
give_made plans n i lt = sym (ap (λ gs. get_or gs i no_give) (made_parts plans n) ∙ get_or_append_left (gives_of (take n plans)) (gives_of (drop n plans)) no_give i lt)

take_next : {X : Type 0} (xs : List X) (n : ℕ) (x : X) → slice_get xs n ≡ Some x → take (suc n) xs ≡ take n xs ++ x ∷ []
take_next [] n x e = absurd (cc)
take_next (y ∷ ys) zero x e = ap (λ z. z ∷ []) (let s : Some y ≡ Some x = e in cc)
take_next (y ∷ ys) (suc n) x e = ap (λ zs. y ∷ zs) (take_next ys n x e)

gives_next : (plans : List Planned) (n : ℕ) (p : Planned) → slice_get plans n ≡ Some p → gives_of (take (n + 1) plans) ≡ gives_of (take n plans) ++ p.gives
gives_next plans n p e = ap (λ m. gives_of (take m plans)) (let m : n + 1 ≡ suc n = omega arith in m) ∙ ap gives_of (take_next plans n p e) ∙ flat_map-append (λ (q : Planned). q.gives) (take n plans) (p ∷ []) ∙ ap (λ gs. gives_of (take n plans) ++ gs) (append-nil p.gives)

-- ---- which answers seal
report_seals : (x y z : Bool) → seals (cond x (Refused why.Relay) (cond y (Refused why.TableFull) (cond z (Refused why.Double) Taken))) ≡ false
report_seals true y z = refl
report_seals false true z = refl
report_seals false false true = refl
report_seals false false false = refl

refused_or : (b : Bool) (r : Refusal) (a : Answer) (P : Type 0) → seals a ≡ true → MatchBool b (a ≡ Refused r) P → P
refused_or true r a P s m = absurd (false≢true (sym (ap seals m) ∙ s))
refused_or false r a P s m = m

or_refused_by : (b : Bool) (r : Refusal) (a : Answer) (P : Type 0) → seals a ≡ true → MatchBool b P (a ≡ Refused r) → P
or_refused_by true r a P s m = m
or_refused_by false r a P s m = absurd (false≢true (sym (ap seals m) ∙ s))

-- an answer Sealed makes a plan
sealed_makes : (lanes : List ℕ) (plans : List Planned) (h : History) (e : RoundEvent) (a : Answer) → Right lanes plans h e a → seals a ≡ true → (bases : List ℕ) × MakesPlan plans h bases a
sealed_makes lanes plans h (Seal bases) a right s = (bases, refused_or (is_sealed h) why.Sealed a _ s right)
sealed_makes lanes plans h (Again bases) a right s =
    elim (or_refused_by (is_sealed h) why.NotSealed a _ s right) [
      | inl b ↦ absurd (false≢true (sym (ap seals b.2) ∙ s))
      | inr b ↦ (bases, b.1)
    ]
sealed_makes lanes plans h (Report r need) a right s =
    (let m = refused_or (is_sealed h) why.Sealed a _ s right in absurd (false≢true (sym (ap seals m.2 ∙ report_seals _ _ _) ∙ s)))
sealed_makes lanes plans h (Claim w i) a right s = absurd (false≢true (sym (ap seals right ∙ refused_seals (barred_after lanes plans h w i) _ (touch_seals touch.Claim (cell_after h i) w true)) ∙ s))
sealed_makes lanes plans h (Finish w i) a right s =
    absurd (false≢true (sym (ap seals right ∙ refused_seals (barred_after lanes plans h w i) _ (touch_seals touch.Finish (cell_after h i) w (is_placed h (get_or (gives_so_far plans h) i no_give).0))) ∙ s))
sealed_makes lanes plans h (Miss w i) a right s = absurd (false≢true (sym (ap seals right ∙ refused_seals (barred_after lanes plans h w i) _ (touch_seals touch.Miss (cell_after h i) w true)) ∙ s))
sealed_makes lanes plans h (Release w i) a right s = absurd (false≢true (sym (ap seals right ∙ refused_seals (barred_after lanes plans h w i) _ (touch_seals touch.Release (cell_after h i) w true)) ∙ s))
sealed_makes lanes plans h (Insert id) a right s = absurd (false≢true (sym (ap seals right) ∙ s))

-- a cell that is finished is one of the last plan's
finish_range : (lanes : List ℕ) (plans : List Planned) (h : History) (e : RoundEvent) (a : Answer) (k : ℕ) → Right lanes plans h e a → finishes k e a ≡ true → (length (gives_before plans h) ≤ k) × (k < length (gives_so_far plans h))
finish_range lanes plans h (Finish w j) Finished k right t =
    subst (λ n. (length (gives_before plans h) ≤ n) × (n < length (gives_so_far plans h))) (eqb-true j k t)
    (range_right (is_sealed h) lanes (length (gives_before plans h)) (length (gives_so_far plans h)) (get_or (gives_so_far plans h) j no_give).1 w j _ Finished right)
finish_range lanes plans h e a k right t = absurd (false≢true t)

sealed_finishes : (k : ℕ) (e : RoundEvent) (a : Answer) → seals a ≡ true → finishes k e a ≡ false
sealed_finishes k (Finish w j) Finished s = absurd (false≢true s)
sealed_finishes k e a s = refl

-- ---- an offered id has a relay
has_relay : (rs : List ℕ) → 0 < length rs → (r : ℕ) × (is_among rs r ≡ true)
has_relay [] lt = absurd (omega (arith, lt))
has_relay (r ∷ rs) lt = (r, or_left (r == r) (is_among rs r) (eq-eqb r r refl))

abbrev no_offer : Id × List ℕ
no_offer = (record { 0 = [] }, [])

offered_by : (offers : List (Id × List ℕ)) (j : ℕ) → IsOffers offers → j < length offers → (r : ℕ) × (is_among (relays_of offers (get_or offers j no_offer).0) r ≡ true)
offered_by offers j ok lt =
    let i : Id = (get_or offers j no_offer).0 in
    let all : first_of (λ k. get_or offers k no_offer) (length offers) ≡ offers = first_all no_offer offers in
    elim (found (λ k. get_or offers k no_offer) (length offers) i) [
      | inl e ↦ absurd (false≢true (sym (e.0 j lt) ∙ id_itself i))
      | inr e ↦
          (let is : relays_of offers i ≡ (get_or offers e.0 no_offer).1 = ap (λ os. relays_of os i) (sym all) ∙ ap (λ o. unwrap_or o []) e.3 in
          let r = has_relay (get_or offers e.0 no_offer).1 (All-get_or (λ (p : Id × List ℕ). 0 < length p.1) offers e.0 no_offer e.1 ok.some) in
          (r.0, ap (λ rs. is_among rs r.0) is ∙ r.1))
    ]

-- ---- what is so of the cells of a legal history
abbrev id_of : List Planned → ℕ → Id
id_of plans i = (get_or (gives_of plans) i no_give).0

record Fresh (plans : List Planned) (h : History) : Type 0 where
  within : (k : ℕ) → has_finished h k ≡ true → k < length (gives_so_far plans h)
  -- no id of the last plan was finished in an earlier one
  fresh : (k i : ℕ) → k < length (gives_before plans h) → length (gives_before plans h) ≤ i → i < length (gives_so_far plans h) → has_finished h k ≡ true → is_id (id_of plans k) (id_of plans i) ≡ false
  -- and none stands in it twice
  own : (k i : ℕ) → length (gives_before plans h) ≤ k → k < length (gives_so_far plans h) → length (gives_before plans h) ≤ i → i < length (gives_so_far plans h) → is_id (id_of plans k) (id_of plans i) ≡ true → k ≡ i

module _ (lanes : List ℕ) (plans : List Planned) (h : History) (e : RoundEvent) (a : Answer) (right : Right lanes plans h e a) where
  fresh_plain : seals a ≡ false → Fresh plans h → Fresh plans (h ++ (e, a) ∷ [])
  fresh_plain unsealed f =
      let count : sealings h ≡ sealings (h ++ (e, a) ∷ []) = omega (arith, sealings_push h e a, ap {B = ℕ} (λ b. cond b 1 0) unsealed) in
      let was : (k : ℕ) → has_finished (h ++ (e, a) ∷ []) k ≡ true → (has_finished h k ≡ true) ⊎ (finishes k e a ≡ true) = λ k t. (elim (cases_Bool (finishes k e a)) [
        | inl y ↦ inr y
        | inr n ↦ inl (sym (finished_push h e a k ∙ ap (λ b. has_finished h k || b) n ∙ or_false (has_finished h k)) ∙ t)
      ]) in
      let old : Fresh plans h = f in
      record {
        within = λ k t. subst (λ n. k < length (gives_of (take n plans))) count (elim (was k t) [
          | inl y ↦ old.within k y
          | inr y ↦ (finish_range lanes plans h e a k right y).1
        ]);
        fresh = λ k i lt le end t. (
            let low : k < length (gives_before plans h) = subst (λ n. k < length (gives_of (take (n - 1) plans))) (sym count) lt in
            elim (was k t) [
              | inl y ↦ old.fresh k i low (subst (λ n. length (gives_of (take (n - 1) plans)) ≤ i) (sym count) le) (subst (λ n. i < length (gives_of (take n plans))) (sym count) end) y
              | inr y ↦ absurd (omega (arith, low, (finish_range lanes plans h e a k right y).0))
            ]);
        own = λ k i lk hk li hi t. old.own k i (subst (λ n. length (gives_of (take (n - 1) plans)) ≤ k) (sym count) lk) (subst (λ n. k < length (gives_of (take n plans))) (sym count) hk) (subst (λ n. length (gives_of (take (n - 1) plans)) ≤ i) (sym count) li) (subst (λ n. i < length (gives_of (take n plans))) (sym count) hi) t;
      }

  fresh_sealed : seals a ≡ true → legal_after lanes plans [] h → Fresh plans h → Fresh plans (h ++ (e, a) ∷ [])
  fresh_sealed sealing l f =
      let m = (sealed_makes lanes plans h e a right sealing).1 in
      let count : sealings (h ++ (e, a) ∷ []) ≡ sealings h + 1 = omega (arith, sealings_push h e a, ap {B = ℕ} (λ b. cond b 1 0) sealing) in
      let past : gives_before plans (h ++ (e, a) ∷ []) ≡ gives_so_far plans h = ap (λ n. gives_of (take n plans)) (let n : sealings (h ++ (e, a) ∷ []) - 1 ≡ sealings h = omega (arith, count) in n) in
      let all : gives_so_far plans (h ++ (e, a) ∷ []) ≡ gives_so_far plans h ++ m.plan.gives = ap (λ n. gives_of (take n plans)) count ∙ gives_next plans (sealings h) m.plan m.next in
      let long : length (gives_so_far plans (h ++ (e, a) ∷ [])) ≡ length (gives_so_far plans h) + length m.plan.gives = ap length all ∙ length-append (gives_so_far plans h) m.plan.gives in
      let was : (k : ℕ) → has_finished (h ++ (e, a) ∷ []) k ≡ true → has_finished h k ≡ true = λ k t. sym (finished_push h e a k ∙ ap (λ b. has_finished h k || b) (sealed_finishes k e a sealing) ∙ or_false (has_finished h k)) ∙ t in
      let give : (i : ℕ) → length (gives_so_far plans h) ≤ i → i < length (gives_so_far plans (h ++ (e, a) ∷ [])) → get_or (gives_of plans) i no_give ≡ get_or m.plan.gives (i - length (gives_so_far plans h)) no_give =
      λ i le lt. sym (give_made plans (sealings (h ++ (e, a) ∷ [])) i lt) ∙ ap (λ gs. get_or gs i no_give) all ∙ get_or-append_right (gives_so_far plans h) m.plan.gives (length (gives_so_far plans h)) i no_give refl le in
      let old : Fresh plans h = f in
      record {
        within = λ k t. omega (arith, old.within k (was k t), long);
        fresh = λ k i lt le end t. (
            let low : k < length (gives_so_far plans h) = omega (arith, lt, ap length past) in
            let high : length (gives_so_far plans h) ≤ i = omega (arith, le, ap length past) in
            let j : ℕ = i - length (gives_so_far plans h) in
            let within : j < length m.plan.gives = omega (arith, high, end, long) in
            let counts : length m.plan.gives ≡ length m.offered = sym (length-map m.plan.gives (λ (g : Id × ℕ). g.0)) ∙ ap length m.planned.ids ∙ length-map m.offered (λ (o : Id × List ℕ). o.0) in
            let id : id_of plans i ≡ (get_or m.offered j no_offer).0 =
            ap (λ (g : Id × ℕ). g.0) (give i high end) ∙ sym (get_or-map (λ (g : Id × ℕ). g.0) m.plan.gives j no_give no_give.0 within) ∙ ap (λ is. get_or is j no_give.0) m.planned.ids ∙ get_or-map (λ (o : Id × List ℕ). o.0) m.offered j no_offer no_give.0 (omega (arith, within, counts)) in
            let r = offered_by m.offered j m.offers.ordered (omega (arith, within, counts)) in
            let s : Stands h (gives_so_far plans h) r.0 (get_or m.offered j no_offer).0 = m.offers.sound r.0 (get_or m.offered j no_offer).0 r.1 in
            let out : is_id (get_or m.offered j no_offer).0 (get_or (gives_so_far plans h) k no_give).0 ≡ false =
            sym (ap (λ c. leaves_out c (get_or (gives_so_far plans h) k no_give) r.0 (get_or m.offered j no_offer).0) (done_cell lanes plans h l k (was k t))) ∙ s.kept k low in
            ap (is_id (id_of plans k)) id ∙ ap (λ (g : Id × ℕ). is_id g.0 (get_or m.offered j no_offer).0) (sym (give_made plans (sealings h) k low))
            ∙ id_flips (get_or m.offered j no_offer).0 (get_or (gives_so_far plans h) k no_give).0 out);
        own = λ k i lk hk li hi t. (
            let lo_k : length (gives_so_far plans h) ≤ k = omega (arith, lk, ap length past) in
            let lo_i : length (gives_so_far plans h) ≤ i = omega (arith, li, ap length past) in
            let same : k - length (gives_so_far plans h) ≡ i - length (gives_so_far plans h) =
            apart [] m.plan.gives [] (k - length (gives_so_far plans h)) (i - length (gives_so_far plans h)) m.planned.plan_ok.ascend (omega (arith, lo_k, hk, long)) (omega (arith, lo_i, hi, long)) (id_of plans k)
            (ap (λ (g : Id × ℕ). is_id (id_of plans k) g.0) (sym (give k lo_k hk)) ∙ id_itself (id_of plans k))
            (ap (λ (g : Id × ℕ). is_id (id_of plans k) g.0) (sym (give i lo_i hi)) ∙ t) in
            omega (arith, lo_k, lo_i, same));
      }

none_fresh : (plans : List Planned) → Fresh plans []
none_fresh plans = record {
  within = λ k t. absurd (false≢true t);
  fresh = λ k i lt le end t. absurd (false≢true t);
  own = λ k i lk hk li hi t. absurd (omega (arith, hk));
}

fresh_cells : (lanes : List ℕ) (plans : List Planned) (h : History) → legal_after lanes plans [] h → legal_after lanes plans [] h × Fresh plans h
fresh_cells lanes plans h l =
    by_right lanes plans (λ h. legal_after lanes plans [] h × Fresh plans h) (tt, none_fresh plans)
    (λ h e a right was. (
      legal_push lanes plans [] h e a was.0 right,
      elim (cases_Bool (seals a)) [
        | inl t ↦ fresh_sealed lanes plans h e a right t was.0 was.1
        | inr t ↦ fresh_plain lanes plans h e a right t was.1
      ],
    )) h l

placed_if : (o : Option Refusal) (held placed : Bool) → Finished ≡ or_refused o (cond held (cond placed Finished (Refused why.NotPlaced)) (Refused why.NotHeld)) → placed ≡ true
placed_if None true true e = refl
placed_if None true false e = absurd (cc)
placed_if None false placed e = absurd (cc)
placed_if (Some r) held placed e = absurd (cc)

module _ (lanes : List ℕ) (plans : List Planned) (before after : History) (w i : ℕ) (l : legal_after lanes plans [] (before ++ (Finish w i, Finished) ∷ after)) where
  at : legal_after lanes plans [] before × Right lanes plans before (Finish w i) Finished
  at = legal_at lanes plans [] before after (Finish w i, Finished) l

  range : (length (gives_before plans before) ≤ i) × (i < length (gives_so_far plans before))
  range = finish_range lanes plans before (Finish w i) Finished i at.1 (eq-eqb i i refl)

  pub placed_before : is_placed before (id_of plans i) ≡ true
  placed_before =
      ap (λ (g : Id × ℕ). is_placed before g.0) (sym (give_made plans (sealings before) i range.1))
      ∙ placed_if (barred_after lanes plans before w i) (is_held_by (cell_after before i) w) (is_placed before (get_or (gives_so_far plans before) i no_give).0) at.1

  pub finished_first : (k : ℕ) → has_finished before k ≡ true → is_id (id_of plans k) (id_of plans i) ≡ false
  finished_first k t =
      let f : Fresh plans before = (fresh_cells lanes plans before at.0).1 in
      elim (cases_lt k (length (gives_before plans before))) [
        | inl lt ↦ f.fresh k i lt range.0 range.1 t
        | inr le ↦ false_from_ne_true _ (λ same.
            (let is : k ≡ i = f.own k i le (f.within k t) range.0 range.1 same in
            let held : cell_after before i ≡ Held w = holder_is (cell_after before i) w (held_if (barred_after lanes plans before w i) (is_held_by (cell_after before i) w) _ Finished at.1 (λ r e. cc)) in
            let x : Held w ≡ Done = sym held ∙ ap (cell_after before) (sym is) ∙ done_cell lanes plans before at.0 k t in cc))
      ]
