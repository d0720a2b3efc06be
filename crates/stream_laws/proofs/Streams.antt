-- From what sessions and fetches logged to what went over their streams.
use Rattle.std.proofs.Common.{◌≡◌, ℕ, zero, suc, ◌+◌, List, [], ◌∷◌, ◌++◌, length, drop, Option, None, Some, true, refl, sym, ap, ◌∙◌, subst, inl, inr, arith}
use Rattle.std.specs.Prelude.{Contains, All, slice_get, is_some, unwrap_or}
use Rattle.std.proofs.lemmas.Option.{same_Some}
use Rattle.std.proofs.lemmas.List.Elements.{All-contains}
use Rattle.neg_codec.proofs.Stretches.{contains_head, contains_tail, contains_cases, contains_none}
use Rattle.item_key.specs.declared.Id.{Id}
use Rattle.item_key.specs.declared.Item.{Item}
use Rattle.neg_initiator.specs.declared.initiator.Outcome.{Outcome}
use Rattle.neg_session.specs.Exchange.{Exchange, gained}
use Rattle.neg_session.specs.Ran.{IsOffered}
use Rattle.neg_session.specs.declared.limits.SessionLimits.{SessionLimits}
use Rattle.nostr_filter.specs.declared.filter.Filter.{Filter}
use Rattle.nostr_wire.specs.Writing.{text_of}
use Rattle.sharing.proofs.Looks.{found_itself}
use Rattle.sharing.specs.Offers.{beside, relays_of, relay_in}
use Rattle.sharing.specs.Sharing.{is_among}
use Rattle.offer_table.specs.Table.{Table}
use Rattle.fetch_plan.specs.Plan.{Planned, IsPlanOf}
use Rattle.mirror_core.specs.declared.end.End.{End}
use Rattle.mirror_core.specs.declared.end.End.TheVariants.{Finished}
use Rattle.mirror_core.specs.Ends.{EachRan, FinishedWith}
use Rattle.mirror_core.specs.Headline.{MayHold}
use Rattle.mirror_core.specs.Tables.{IsTableOf}
use Rattle.mirror_core.proofs.Headline.{needed}
use Rattle.mirror_core.proofs.Looks.{also_beside, shared_to}
use Rattle.mirror_core.proofs.Three.{AllThree-at}
use Rattle.wire.specs.Line.{Talk}
use Rattle.wire.specs.Talk.{Grows}
use Rattle.wire.proofs.Growing.{grows_chain, grows_heard, grows_said, grows_same, prefix_trans}
use Rattle.ws_link.specs.Held.{left_of}
use Rattle.ws_link.specs.Spoken.{Exchanged, Spoken, WasSpoken, asking}
use Rattle.stream_laws.specs.Streams.{AtRelay, IsListedOver, IsToldOver, PlanIsOverStreams, WentOver}
use Rattle.ws_link.specs.Wired.{Wired}

-- ---- lists

pub contains_at : {X : Type 0} → (xs : List X) (k : ℕ) (x : X) → slice_get xs k ≡ Some x → Contains xs x
contains_at [] k x e = cc
contains_at (y ∷ xs) zero x e = subst (Contains (y ∷ xs)) (same_Some _ _ e) (contains_head y xs)
contains_at (y ∷ xs) (suc k) x e = contains_tail y xs x (contains_at xs k x e)

pub contains_later : {X : Type 0} → (n : ℕ) (xs : List X) (x : X) → Contains (drop n xs) x → Contains xs x
contains_later zero xs x h = h
contains_later (suc n) [] x h = h
contains_later (suc n) (y ∷ xs) x h = contains_tail y xs x (contains_later n xs x h)

from_zero : (k r : ℕ) → r ≡ 0 + k → k ≡ r
from_zero k r h = omega arith

-- ---- exchanges

spoken_parts : (opens : Option Filter) (es fs : List Exchange) (old new : Talk) → Spoken opens old (es ++ fs) new → (mid : Talk) × Spoken opens old es mid × Spoken (left_of opens es) mid fs new
spoken_parts opens [] fs old new h = (old, refl, h)
spoken_parts opens (e ∷ []) fs old new h = (h.0, (h.0, h.1, refl), h.2)
spoken_parts opens (e ∷ f ∷ es) fs old new h =
    let rest = spoken_parts None (f ∷ es) fs h.0 new h.2 in
    (rest.0, (h.0, h.1, rest.1), rest.2)

grows_exchanged : (opens : Option Filter) (old new : Talk) (e : Exchange) → Exchanged opens old e new → Grows old new
grows_exchanged opens old new e h =
    grows_chain old h.0 new (grows_said old h.0 (text_of (asking opens e.asked)) h.1) (grows_heard h.0 new h.2.0 h.2.1)

grows_spoken : (opens : Option Filter) (old new : Talk) (es : List Exchange) → Spoken opens old es new → Grows old new
grows_spoken opens old new [] h = grows_same old new h
grows_spoken opens old new (e ∷ es) h = grows_chain old h.0 new (grows_exchanged opens old h.0 e h.1) (grows_spoken None h.0 new es h.2)

-- a pair of a log that was spoken
abbrev pub PairWent : Exchange → Talk → Type 0
PairWent pair new = (opens : Option Filter) × (before after : Talk) × Exchanged opens before pair after × Grows after new

pair_went : (opens : Option Filter) (old new : Talk) (es : List Exchange) (pair : Exchange) → Spoken opens old es new → Contains es pair → PairWent pair new
pair_went opens old new [] pair h k = absurd (contains_none pair k)
pair_went opens old new (e ∷ es) pair h k =
    elim (contains_cases e es pair k) [
      | inl same ↦ (opens, old, h.0, subst (λ (x : Exchange). Exchanged opens old x h.0) same h.1, grows_spoken None h.0 new es h.2)
      | inr later ↦ pair_went None h.0 new es pair h.2 later
    ]

-- ---- a session

module _ (p : Wired Exchange) (was : WasSpoken p) (own : List Item) where
  went_over : (earlier said : List Exchange) → p.log ≡ earlier ++ said → WentOver said p
  went_over earlier said e =
      let parts = spoken_parts p.opens earlier said was.first was.last (rw e at was.spoken) in
      record {
        earlier = earlier;
        first = was.first;
        begun = parts.0;
        last = was.last;
        fresh = was.fresh;
        before = parts.1;
        spoken = parts.2;
        given = was.given;
        taken = was.taken;
      }

  listed_over : (i : Id) (said : List Exchange) → ((pair : Exchange) → Contains said pair → Contains p.log pair) → IsOffered own said i → IsListedOver own i p
  listed_over i said logged o =
      let went = pair_went p.opens was.first was.last p.log o.pair was.spoken (logged o.pair o.stands) in
      record {
        opens = went.0;
        before = went.1;
        pair = o.pair;
        after = went.2;
        answered = o.answered;
        exchanged = went.3;
        read = o.read;
        listed = o.listed;
        given = prefix_trans went.2.given was.last.given p.given went.4.0 was.given;
        taken = prefix_trans went.2.taken was.last.taken p.taken went.4.1 was.taken;
      }

-- ---- the round

-- what each relay's log gained
said_by : {P : Type 0} → (P → List Exchange) → List P → List P → ℕ → List Exchange
said_by log [] news r = []
said_by log (p ∷ ps) [] r = []
said_by log (p ∷ ps) (q ∷ qs) zero = gained (log p) (log q)
said_by log (p ∷ ps) (q ∷ qs) (suc r) = said_by log ps qs r

said_at : {P : Type 0} → (log : P → List Exchange) (olds news : List P) (r : ℕ) (p q : P) → slice_get olds r ≡ Some p → slice_get news r ≡ Some q → said_by log olds news r ≡ gained (log p) (log q)
unfolding said_by
said_at log [] news r p q e f = cc
said_at log (x ∷ xs) [] r p q e f = cc
said_at log (x ∷ xs) (y ∷ ys) zero p q e f = rw (same_Some _ _ e, same_Some _ _ f) refl
said_at log (x ∷ xs) (y ∷ ys) (suc r) p q e f = said_at log xs ys r p q e f

module _ {P : Type 0} (log : P → List Exchange) (faults : P → ℕ) (becomes : P → P → Type 0) (stream : P → Wired Exchange) (logs : (p : P) → log p ≡ (stream p).log)
    (own : List Item) (limits : SessionLimits) (olds news : List P) (ends : List End) (ran : EachRan log faults becomes own limits olds news ends) (spoken : All (λ p. WasSpoken (stream p)) news) where
  logged_in : (p q : P) (pair : Exchange) → Contains (gained (log p) (log q)) pair → Contains (stream q).log pair
  logged_in p q pair k = subst (λ (l : List Exchange). Contains l pair) (logs q) (contains_later (length (log p)) (log q) pair k)

  listed_at : (r : ℕ) (o : Outcome) → FinishedWith ends r o → (i : Id) → Contains o.need.keys i → AtRelay news r (λ p. IsListedOver own i (stream p))
  listed_at r o f i h =
      let at = AllThree-at _ olds news ends r (Finished o) ran f in
      let was = All-contains (λ p. WasSpoken (stream p)) news at.1 spoken (contains_at news r at.1 at.3) in
      (at.1, at.3, listed_over (stream at.1) was own i (gained (log at.0) (log at.1)) (logged_in at.0 at.1) (at.4.0.offered i h))

  told_at : (r : ℕ) (o : Outcome) → FinishedWith ends r o → AtRelay news r (λ p. IsToldOver own (said_by log olds news r) o (stream p))
  told_at r o f =
      let at = AllThree-at _ olds news ends r (Finished o) ran f in
      let was = All-contains (λ p. WasSpoken (stream p)) news at.1 spoken (contains_at news r at.1 at.3) in
      let told : IsToldOver own (gained (log at.0) (log at.1)) o (stream at.1) = record {
        went = went_over (stream at.1) was own (log at.0) (gained (log at.0) (log at.1)) (sym (logs at.1) ∙ at.4.0.appended);
        listed = λ i h. listed_over (stream at.1) was own i (gained (log at.0) (log at.1)) (logged_in at.0 at.1) (at.4.0.offered i h);
        right = at.4.0.exact;
      } in
      (at.1, at.3, subst (λ said. IsToldOver own said o (stream at.1)) (sym (said_at log olds news r at.0 at.1 at.2 at.3)) told)

  given_at : (bases : List ℕ) (table : Table) (plan : Planned) → IsTableOf 0 ends table → IsPlanOf bases table.offers plan → (k : ℕ) (i : Id) (r : ℕ) → slice_get plan.gives k ≡ Some (i, r) → AtRelay news r (λ p. IsListedOver own i (stream p))
  given_at bases table plan t planned k i r e =
      let itself : beside plan.gives i ≡ Some r = All-contains (λ (g : Id × ℕ). beside plan.gives g.0 ≡ Some g.1) plan.gives (i, r) (found_itself plan.gives planned.plan_ok.ascend) (contains_at plan.gives k (i, r) e) in
      let there = also_beside table.offers plan.gives i (sym planned.ids) (ap is_some itself) in
      let shared : is_among (relays_of table.offers i) r ≡ true =
      subst (λ x. is_among (relays_of table.offers i) x ≡ true) (ap (λ x. unwrap_or x 0) itself) (shared_to (relay_in plan.gives) table.offers i planned.least.sharing (ap is_some there.1)) in
      let it = needed 0 ends r i (sym (t.offers i r) ∙ shared) in
      let same : it.0 ≡ r = from_zero it.0 r it.1 in
      listed_at r it.2.0 (subst (λ x. FinishedWith ends x it.2.0) same it.2.1) i it.2.2

pub planned_over : {P : Type 0} → (log : P → List Exchange) (faults : P → ℕ) (becomes : P → P → Type 0) → PlanIsOverStreams log faults becomes
planned_over log faults becomes stream logs own limits bases olds news ends table plan ran t planned headline spoken =
    record {
      said = said_by log olds news;
      told = told_at log faults becomes stream logs own limits olds news ends ran spoken;
      given = given_at log faults becomes stream logs own limits olds news ends ran spoken bases table plan t planned;
      least = λ holds may. headline holds (λ r p q o e f finished.
          subst (λ said. MayHold own (holds r) said o) (said_at log olds news r p q e f) (may r o finished));
    }
