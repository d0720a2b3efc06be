-- What a report is answered, from the faults of the tables.
use Rattle.std.proofs.Common.{◌≡◌, ℕ, ◌+◌, ◌==◌, ◌&&◌, ◌||◌, not, nat_lt, Bool, true, false, cond, List, [], ◌∷◌, length, map, Option, Some, None, Ok, Err, refl, sym, ap, ◌∙◌, subst, arith, inl, inr}
use Rattle.std.specs.Prelude.{is_some, unwrap_or, MatchOption, Result}
use Rattle.std.specs.List.{list_any}
use Rattle.std.proofs.lemmas.Bool.{cases_Bool, eq-eqb, ne_eqb, cases_eq}
use Rattle.std.proofs.lemmas.List.Sums.{sum_by-cons}
use Rattle.item_key.specs.declared.Id.{Id}
use Rattle.sharing.specs.declared.TheConstants.{RELAYS, MOST_IDS}
use Rattle.sharing.specs.Sharing.{is_among}
use Rattle.sharing.specs.Offers.{is_id, beside, relays_of, AreRelays}
use Rattle.offer_table.specs.Table.{Table, IsTable, new_in}
use Rattle.offer_table.specs.declared.faults.OfferFault.{OfferFault}
use Rattle.offer_table.specs.declared.faults.OfferFault.TheVariants as fault
use Rattle.offer_table.specs.Faults.{report_fault, merge_fault}
use Rattle.round_core.specs.declared.events.Refusal.TheVariants as why
use Rattle.round_core.specs.declared.events.Answer.{Answer}
use Rattle.round_core.specs.declared.events.Answer.TheVariants.{Taken, Refused}
use Rattle.round_core.specs.Legal.{report_answer, new_ids}
use Rattle.round_core.specs.Left.{refused_by, HasReport, Adds}

abbrev pub each_with : ℕ → List Id → List (Id × List ℕ)
each_with relay ids = map (λ i. (i, relay ∷ [])) ids

or_false : (b : Bool) → (b || false) ≡ b
or_false true = refl
or_false false = refl

new_each : (offers : List (Id × List ℕ)) (relay : ℕ) (ids : List Id) → new_in offers (each_with relay ids) ≡ new_ids offers ids
new_each offers relay [] = refl
new_each offers relay (i ∷ is) =
    omega (arith, new_each offers relay is, sum_by-cons (λ (p : Id × List ℕ). cond (not (is_some (beside offers p.0))) 1 0) (i, relay ∷ []) (each_with relay is), sum_by-cons (λ (i : Id). cond (not (is_some (beside offers i))) 1 0) i is)

same_eq : (x y : ℕ) → (x == y) ≡ (y == x)
same_eq x y =
    elim (cases_eq x y) [
      | inl e ↦ eq-eqb x y e ∙ sym (eq-eqb y x (sym e))
      | inr ne ↦ ne_eqb x y ne ∙ sym (ne_eqb y x (λ e. ne (sym e)))
    ]

meets_one : (relay : ℕ) (xs : List ℕ) → list_any (is_among (relay ∷ [])) xs ≡ is_among xs relay
meets_one relay [] = refl
meets_one relay (x ∷ xs) = ap (λ b. b || list_any (is_among (relay ∷ [])) xs) (or_false (x == relay) ∙ same_eq x relay) ∙ ap (λ b. (relay == x) || b) (meets_one relay xs)

each_among : (relay : ℕ) (ids : List Id) (i : Id) (r : ℕ) → is_among (relays_of (each_with relay ids) i) r ≡ ((r == relay) && list_any (is_id i) ids)
each_among relay [] i r = sym (and_none (r == relay))
  where
    and_none : (b : Bool) → (b && false) ≡ false
    and_none true = refl
    and_none false = refl
each_among relay (j ∷ js) i r =
    elim (cases_Bool (is_id i j)) [
      | inl t ↦
          ap (λ b. is_among (unwrap_or (cond b (Some (relay ∷ [])) (beside (each_with relay js) i)) []) r) t ∙ or_false (r == relay)
          ∙ sym (ap (λ b. (r == relay) && (b || list_any (is_id i) js)) t ∙ and_yes (r == relay))
      | inr f ↦
          ap (λ b. is_among (unwrap_or (cond b (Some (relay ∷ [])) (beside (each_with relay js) i)) []) r) f ∙ each_among relay js i r
          ∙ sym (ap (λ b. (r == relay) && (b || list_any (is_id i) js)) f)
    ]
  where
    and_yes : (b : Bool) → (b && true) ≡ b
    and_yes true = refl
    and_yes false = refl

abbrev answer_by : Bool → Bool → Bool → Bool → Answer
answer_by a b c d = cond (not a) (Refused why.Relay) (cond (b || c) (Refused why.TableFull) (cond d (Refused why.Double) Taken))

abbrev fault_by : Bool → Bool → Option OfferFault
fault_by a b = cond (not a) (Some fault.Relay) (cond b (Some fault.TableFull) None)

abbrev merge_by : Bool → Bool → Option OfferFault
merge_by c d = cond c (Some fault.TableFull) (cond d (Some fault.Double) None)

-- what the merge's fault says, where the report made a table
merge_fault_is : (table report : Table) (relay : ℕ) (need : List Id) → report.reported ≡ relay ∷ [] → report.offers ≡ each_with relay need →
    merge_fault table report ≡ merge_by (nat_lt MOST_IDS (length table.offers + new_ids table.offers need)) (is_among table.reported relay)
merge_fault_is table report relay need one each =
    ap (λ os. merge_by (nat_lt MOST_IDS (length table.offers + new_in table.offers os)) (list_any (is_among report.reported) table.reported)) each
    ∙ ap (λ n. merge_by (nat_lt MOST_IDS (length table.offers + n)) (list_any (is_among report.reported) table.reported)) (new_each table.offers relay need)
    ∙ ap (λ rs. merge_by (nat_lt MOST_IDS (length table.offers + new_ids table.offers need)) (list_any (is_among rs) table.reported)) one
    ∙ ap (merge_by (nat_lt MOST_IDS (length table.offers + new_ids table.offers need))) (meets_one relay table.reported)

-- a table was made, so the number is a relay and the ids are few
made_fault : (a b : Bool) (report : Table) → MatchOption (fault_by a b) (Unit {0}) (λ g. Ok report ≡ Err g) → (a ≡ true) × (b ≡ false)
made_fault false b report h = absurd (cc)
made_fault true true report h = absurd (cc)
made_fault true false report h = (refl, refl)

-- the merge gave a table, so it met no fault
merged_fault : (c d : Bool) (P : OfferFault → Type 0) → ((g : OfferFault) → P g → ⊥) → MatchOption (merge_by c d) (Unit {0}) P → (c ≡ false) × (d ≡ false)
merged_fault true d P never h = absurd (never fault.TableFull h)
merged_fault false true P never h = absurd (never fault.Double h)
merged_fault false false P never h = (refl, refl)

pub taken_is : (table report : Table) (relay : ℕ) (need : List Id) (P : OfferFault → Type 0) → ((g : OfferFault) → P g → ⊥) → MatchOption (report_fault relay (length need)) (Unit {0}) (λ g. Ok report ≡ Err g) → report.reported ≡ relay ∷ [] → report.offers ≡ each_with relay need →
    MatchOption (merge_fault table report) (Unit {0}) P → Taken ≡ report_answer table relay need
taken_is table report relay need P never h one each m =
    let x : (nat_lt relay RELAYS ≡ true) × (nat_lt MOST_IDS (length need) ≡ false) = made_fault (nat_lt relay RELAYS) (nat_lt MOST_IDS (length need)) report h in
    let y : (nat_lt MOST_IDS (length table.offers + new_ids table.offers need) ≡ false) × (is_among table.reported relay ≡ false) =
    merged_fault (nat_lt MOST_IDS (length table.offers + new_ids table.offers need)) (is_among table.reported relay) P never (subst (λ o. MatchOption o (Unit {0}) P) (merge_fault_is table report relay need one each) m) in
    sym (ap (λ t. answer_by t (nat_lt MOST_IDS (length need)) (nat_lt MOST_IDS (length table.offers + new_ids table.offers need)) (is_among table.reported relay)) x.0
    ∙ ap (λ t. answer_by true t (nat_lt MOST_IDS (length table.offers + new_ids table.offers need)) (is_among table.reported relay)) x.1
    ∙ ap (λ t. answer_by true false t (is_among table.reported relay)) y.0
    ∙ ap (answer_by true false false) y.1)

-- a merge that was refused
refused_by_parts : (table : Table) (relay : ℕ) (need : List Id) (c d : Bool) (f : OfferFault) → answer_by true false c d ≡ report_answer table relay need → MatchOption (merge_by c d) (f ≡ fault.Memory) (λ g. f ≡ g) → Adds table relay need table (refused_by f)
refused_by_parts table relay need true d f e h = subst (λ g. Adds table relay need table (refused_by g)) (sym h) (e, refl)
refused_by_parts table relay need false true f e h = subst (λ g. Adds table relay need table (refused_by g)) (sym h) (e, refl)
refused_by_parts table relay need false false f e h = subst (λ g. Adds table relay need table (refused_by g)) (sym h) refl

pub refused_is : (table report : Table) (relay : ℕ) (need : List Id) (f : OfferFault) → MatchOption (report_fault relay (length need)) (Unit {0}) (λ g. Ok report ≡ Err g) → report.reported ≡ relay ∷ [] → report.offers ≡ each_with relay need →
    MatchOption (merge_fault table report) (f ≡ fault.Memory) (λ g. f ≡ g) → Adds table relay need table (refused_by f)
refused_is table report relay need f h one each m =
    let x : (nat_lt relay RELAYS ≡ true) × (nat_lt MOST_IDS (length need) ≡ false) = made_fault (nat_lt relay RELAYS) (nat_lt MOST_IDS (length need)) report h in
    refused_by_parts table relay need (nat_lt MOST_IDS (length table.offers + new_ids table.offers need)) (is_among table.reported relay) f
    (sym (ap (λ t. answer_by t (nat_lt MOST_IDS (length need)) (nat_lt MOST_IDS (length table.offers + new_ids table.offers need)) (is_among table.reported relay)) x.0
    ∙ ap (λ t. answer_by true t (nat_lt MOST_IDS (length table.offers + new_ids table.offers need)) (is_among table.reported relay)) x.1))
    (subst (λ o. MatchOption o (f ≡ fault.Memory) (λ g. f ≡ g)) (merge_fault_is table report relay need one each) m)

-- the merged table has the report beside what was there
pub has_report : (table report both : Table) (relay : ℕ) (need : List Id) → report.reported ≡ relay ∷ [] → report.offers ≡ each_with relay need →
    ((r : ℕ) → is_among both.reported r ≡ (is_among table.reported r || is_among report.reported r)) → AreRelays both.reported →
    ((i : Id) (r : ℕ) → is_among (relays_of both.offers i) r ≡ (is_among (relays_of table.offers i) r || is_among (relays_of report.offers i) r)) → IsTable both → HasReport table relay need both
has_report table report both relay need one each reported relays offers ok = record {
  offers = λ i r. offers i r ∙ ap (λ os. is_among (relays_of table.offers i) r || is_among (relays_of os i) r) each ∙ ap (λ b. is_among (relays_of table.offers i) r || b) (each_among relay need i r);
  reported = λ r. reported r ∙ ap (λ rs. is_among table.reported r || is_among rs r) one ∙ ap (λ b. is_among table.reported r || b) (or_false (r == relay));
  relays = relays;
  table = ok;
}

pub ok_never : {A B : Type 0} (r : Result A B) (x : A) (y : B) → r ≡ Ok x → r ≡ Err y → ⊥
ok_never r x y p q = cc

abbrev pub handed : OfferFault → Table → Table → Result Table (OfferFault × Table × Table)
handed f m b = Err (f, m, b)

first_of : OfferFault → Result Table (OfferFault × Table × Table) → OfferFault
first_of f (Ok x) = f
first_of f (Err e) = e.0

first_same : (f g : OfferFault) (m n b c : Table) → handed f m b ≡ handed g n c → f ≡ g
unfolding first_of
first_same f g m n b c h = ap (first_of f) h

pub merge_said : (o : Option OfferFault) (f : OfferFault) (m n b c : Table) → MatchOption o (f ≡ fault.Memory) (λ g. handed f m b ≡ handed g n c) → MatchOption o (f ≡ fault.Memory) (λ g. f ≡ g)
merge_said None f m n b c h = h
merge_said (Some g) f m n b c h = first_same f g m n b c h
