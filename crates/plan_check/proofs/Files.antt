-- Lists that have no fault are a plan file.
use Rattle.std.proofs.Common.{◌≡◌, ℕ, ◌+◌, ◌<◌, ◌&&◌, ◌||◌, not, Bool, true, false, cond, List, [], ◌∷◌, length, map, Option, Some, None, refl, sym, ap, ◌∙◌, arith, inl, inr}
use Rattle.std.specs.Prelude.{option_map, nat_lt}
use Rattle.std.specs.declared.cmp.Ordering.{Ordering}
use Rattle.std.specs.declared.cmp.Ordering.TheVariants.{Less, Equal, Greater}
use Rattle.std.specs.Ordering.{nat_cmp, is_lt}
use Rattle.std.specs.Cmp.{IsTotalOrder}
use Rattle.std.specs.List.{All}
use Rattle.std.specs.List.Sorted.{IsStrictlySortedBy}
use Rattle.std.proofs.lemmas.Bool.{false≢true, cases_Bool, and_parts, or_parts, ltb-true, not-false}
use Rattle.std.proofs.lemmas.Cmp.{nat_cmp_total}
use Rattle.std.proofs.lemmas.List.{length-map}
use Rattle.std.proofs.lemmas.List.Elements.{All-cons, All-nil, All-weaker, recursion_from_All}
use Rattle.item_key.specs.declared.Id.{Id}
use Rattle.sharing.specs.declared.TheConstants.{RELAYS, MOST_BASE}
use Rattle.sharing.specs.Offers.{id_cmp, Ascend, AreRelays}
use Rattle.sharing.proofs.Orders.{id_total, head_sorted}
use Rattle.plan_check.specs.File.{File, IsBase, IsFile}
use Rattle.plan_check.specs.Lines.{first_at, first_out, first_place, place_in, is_base, is_behind, rises_from, rises, or_else, are_relays, is_empty, malformed_at, misplaced_at}

pub none_left : {X : Type 0} (o : Option X) → ((x : X) → o ≡ Some x → ⊥) → o ≡ None
none_left None h = refl
none_left (Some x) h = absurd (h x refl)

module _ {X : Type 0} where
  pub first_at_map : {Y : Type 0} (p : X → Bool) (f : Y → X) (n : ℕ) (ys : List Y) → first_at p n (map f ys) ≡ first_at (λ y. p (f y)) n ys
  first_at_map p f n [] = refl
  first_at_map p f n (y ∷ ys) = ap (λ o. cond (p (f y)) (Some n) o) (first_at_map p f (n + 1) ys)

  pub first_out_map : {Y K : Type 0} (c : K → K → Ordering) (key : X → K) (fine : X → Bool) (f : Y → X) (before : Option K) (n : ℕ) (ys : List Y) → first_out c key fine before n (map f ys) ≡ first_out c (λ y. key (f y)) (λ y. fine (f y)) before n ys
  first_out_map c key fine f before n [] = refl
  first_out_map c key fine f before n (y ∷ ys) = ap (λ o. cond (is_behind c before (key (f y)) && fine (f y)) o (Some n)) (first_out_map c key fine f (Some (key (f y))) (n + 1) ys)

  none_pass : (p : X → Bool) (n : ℕ) (xs : List X) → first_at p n xs ≡ None → All (λ x. p x ≡ false) xs
  none_pass p n [] h = All-nil (λ x. p x ≡ false)
  none_pass p n (x ∷ xs) h =
      elim (cases_Bool (p x)) [
        | inl t ↦ absurd (let e : Some n ≡ None = sym (ap (λ b. cond b (Some n) (first_at p (n + 1) xs)) t) ∙ h in cc)
        | inr f ↦ All-cons (λ x. p x ≡ false) x xs f (none_pass p (n + 1) xs (sym (ap (λ b. cond b (Some n) (first_at p (n + 1) xs)) f) ∙ h))
      ]

-- behind what stands before, each of a list in order
abbrev pub Behind : {K : Type 0} → (K → K → Ordering) → Option K → List K → Type 0
Behind c None xs = IsStrictlySortedBy c xs
Behind c (Some b) xs = IsStrictlySortedBy c (b ∷ xs)

less_if : (o : Ordering) → is_lt o ≡ true → o ≡ Less
less_if Less h = refl
less_if Equal h = absurd (false≢true h)
less_if Greater h = absurd (false≢true h)

module _ {K : Type 0} {c : K → K → Ordering} (total : IsTotalOrder c) where
  one_more : (b x : K) (xs : List K) → c b x ≡ Less → IsStrictlySortedBy c (x ∷ xs) → IsStrictlySortedBy c (b ∷ x ∷ xs)
  unfolding IsStrictlySortedBy
  one_more b x xs less h =
      (recursion_from_All (λ y. c b y ≡ Less) (x ∷ xs) (All-cons (λ y. c b y ≡ Less) x xs less (All-weaker (λ y. c x y ≡ Less) (λ y. c b y ≡ Less) (λ y l. total.trans b x y less l) xs (head_sorted c x xs h))), h)

  behind_cons : (before : Option K) (x : K) (xs : List K) → is_behind c before x ≡ true → IsStrictlySortedBy c (x ∷ xs) → Behind c before (x ∷ xs)
  behind_cons None x xs h sorted = sorted
  behind_cons (Some b) x xs h sorted = one_more b x xs (less_if (c b x) h) sorted

  behind_none : (before : Option K) → Behind c before []
  unfolding IsStrictlySortedBy
  behind_none None = tt
  behind_none (Some b) = (tt, tt)

rising : (before : Option ℕ) (xs : List ℕ) → rises_from before xs ≡ true → Behind nat_cmp before xs
rising before [] h = behind_none nat_cmp_total before
rising before (x ∷ xs) h =
    let parts : (is_behind nat_cmp before x ≡ true) × (rises_from (Some x) xs ≡ true) = and_parts (is_behind nat_cmp before x) (rises_from (Some x) xs) h in
    behind_cons nat_cmp_total before x xs parts.0 (rising (Some x) xs parts.1)

module _ {X K : Type 0} {c : K → K → Ordering} (total : IsTotalOrder c) (key : X → K) (fine : X → Bool) where
  pub none_out : (before : Option K) (n : ℕ) (xs : List X) → first_out c key fine before n xs ≡ None → Behind c before (map key xs) × All (λ x. fine x ≡ true) xs
  none_out before n [] h = (behind_none total before, All-nil (λ x. fine x ≡ true))
  none_out before n (x ∷ xs) h =
      elim (cases_Bool (is_behind c before (key x) && fine x)) [
        | inl t ↦
            (let parts : (is_behind c before (key x) ≡ true) × (fine x ≡ true) = and_parts (is_behind c before (key x)) (fine x) t in
            let rest : Behind c (Some (key x)) (map key xs) × All (λ x. fine x ≡ true) xs = none_out (Some (key x)) (n + 1) xs (sym (ap (λ b. cond b (first_out c key fine (Some (key x)) (n + 1) xs) (Some n)) t) ∙ h) in
            (behind_cons total before (key x) (map key xs) parts.0 rest.0, All-cons (λ x. fine x ≡ true) x xs parts.1 rest.1))
        | inr f ↦ absurd (let e : Some n ≡ None = sym (ap (λ b. cond b (first_out c key fine (Some (key x)) (n + 1) xs) (Some n)) f) ∙ h in cc)
      ]

small_relays : (rs : List ℕ) → are_relays rs ≡ true → All (λ r. r < RELAYS) rs
small_relays [] h = All-nil (λ r. r < RELAYS)
small_relays (r ∷ rs) h =
    let parts : (nat_lt r RELAYS ≡ true) × (are_relays rs ≡ true) = and_parts (nat_lt r RELAYS) (are_relays rs) h in
    All-cons (λ r. r < RELAYS) r rs (ltb-true r RELAYS parts.0) (small_relays rs parts.1)

some_relay : (rs : List ℕ) → is_empty rs ≡ false → 0 < length rs
some_relay [] h = absurd (false≢true (sym h))
some_relay (r ∷ rs) h = omega arith

or_none : (a b : Option ℕ) → or_else a b ≡ None → (a ≡ None) × (b ≡ None)
or_none None b h = (refl, h)
or_none (Some n) b h = absurd (cc)

if_none : (t : Bool) (n : ℕ) → cond t None (Some n) ≡ None → t ≡ true
if_none true n h = refl
if_none false n h = absurd (cc)

map_none : (m : ℕ) (o : Option ℕ) → option_map (λ k. m + k) o ≡ None → o ≡ None
map_none m None h = refl
map_none m (Some k) h = absurd (cc)

-- no place was found: none in any part
nowhere : (file : File) (b o g : Option ℕ) (t : Bool) → place_in file b o g t ≡ None → (b ≡ None) × (o ≡ None) × (g ≡ None) × (t ≡ true)
nowhere file b o g t h =
    let one = or_none b _ h in
    let two = or_none (option_map (λ k. length file.bases + k) o) _ one.1 in
    let three = or_none (option_map (λ k. length file.bases + length file.offers + k) g) _ two.1 in
    (one.0, map_none (length file.bases) o two.0, map_none (length file.bases + length file.offers) g three.0, if_none t _ three.1)

base_is : (b : ℕ × ℕ) → not (is_base b) ≡ false → IsBase b
base_is b h =
    let one : (nat_lt b.0 RELAYS ≡ true) × ((nat_lt 0 b.1 && nat_lt b.1 (MOST_BASE + 1)) ≡ true) = and_parts _ _ (not-false (is_base b) h) in
    let two : (nat_lt 0 b.1 ≡ true) × (nat_lt b.1 (MOST_BASE + 1) ≡ true) = and_parts _ _ one.1 in
    record { relay = ltb-true b.0 RELAYS one.0; some = ltb-true 0 b.1 two.0; small = omega (arith, ltb-true b.1 (MOST_BASE + 1) two.1) }

pub file_ok : (file : File) → malformed_at file ≡ None → misplaced_at file ≡ None → IsFile file
file_ok file m s =
    let form = nowhere file (first_at (λ b. not (is_base b)) 0 file.bases) (first_at (λ o. is_empty o.1 || not (are_relays o.1)) 0 file.offers) (first_at (λ g. not (nat_lt g.1 RELAYS)) 0 file.gives) (are_relays file.group) m in
    let order = nowhere file (first_out nat_cmp (λ b. b.0) (λ _. true) None 0 file.bases) (first_out id_cmp (λ o. o.0) (λ o. rises o.1) None 0 file.offers) (first_out id_cmp (λ g. g.0) (λ _. true) None 0 file.gives) (rises file.group) s in
    let small : All (λ (g : Id × ℕ). not (nat_lt g.1 RELAYS) ≡ false) file.gives = none_pass (λ g. not (nat_lt g.1 RELAYS)) 0 file.gives form.2 in
    let fine : All (λ (o : Id × List ℕ). (is_empty o.1 || not (are_relays o.1)) ≡ false) file.offers = none_pass (λ o. is_empty o.1 || not (are_relays o.1)) 0 file.offers form.1 in
    let bases = none_out nat_cmp_total (λ (b : ℕ × ℕ). b.0) (λ _. true) None 0 file.bases order.0 in
    let offers = none_out id_total (λ (o : Id × List ℕ). o.0) (λ o. rises o.1) None 0 file.offers order.1 in
    let gives = none_out id_total (λ (g : Id × ℕ). g.0) (λ _. true) None 0 file.gives order.2 in
    record {
      bases_ok = record { ascend = bases.0; each = All-weaker (λ b. not (is_base b) ≡ false) IsBase base_is file.bases (none_pass (λ b. not (is_base b)) 0 file.bases form.0) };
      offers_ok = record {
        ascend = offers.0;
        relays = λ k d lt.
            (let parts = or_parts _ _ (fine k d lt) in
            record { ascend = rising None _ (offers.1 k d lt); small = small_relays _ (not-false _ parts.1) });
        some = λ k d lt. (let parts = or_parts _ _ (fine k d lt) in some_relay _ parts.0);
      };
      ascend = gives.0;
      relays = All-weaker (λ (g : Id × ℕ). not (nat_lt g.1 RELAYS) ≡ false) (λ g. g.1 < RELAYS) (λ g h. ltb-true g.1 RELAYS (not-false (nat_lt g.1 RELAYS) h)) file.gives small;
      group_ok = record { ascend = rising None file.group order.3; small = small_relays file.group form.3 };
    }

-- relays that rise, and gives in order
pub risen : (relays : List ℕ) → All (λ r. r < RELAYS) relays → rises relays ≡ true → AreRelays relays
risen relays small h = record { ascend = rising None relays h; small = small }

pub gives_ascend : (gives : List (Id × ℕ)) → first_out id_cmp (λ g. g.0) (λ _. true) None 0 gives ≡ None → Ascend (map (λ g. g.0) gives)
gives_ascend gives h = (none_out id_total (λ (g : Id × ℕ). g.0) (λ _. true) None 0 gives h).0

pub place_same : {a d b e c f : ℕ} {x u y v z w : Option ℕ} {s t : Bool} → a ≡ d → b ≡ e → c ≡ f → x ≡ u → y ≡ v → z ≡ w → s ≡ t → first_place a b c x y z s ≡ first_place d e f u v w t
place_same p q r h k l m = λ i. first_place (p i) (q i) (r i) (h i) (k i) (l i) (m i)

-- the places by what was found in each list
module _ {V : Type 0} (items : V → List ℕ) (bases : List (ℕ × ℕ)) (offers : List (Id × V)) (gives : List (Id × ℕ)) (group : List ℕ) where
  abbrev pub made : File
  made = record { bases = bases; offers = map (λ o. (o.0, items o.1)) offers; gives = gives; group = group }

  place_len : length (map {A = Id × V} {B = Id × List ℕ} (λ o. (o.0, items o.1)) offers) ≡ length offers
  place_len = length-map offers (λ (o : Id × V). (o.0, items o.1))

  pub malformed_is : first_place (length bases) (length offers) (length gives) (first_at (λ b. not (is_base b)) 0 bases) (first_at (λ o. is_empty (items o.1) || not (are_relays (items o.1))) 0 offers) (first_at (λ g. not (nat_lt g.1 RELAYS)) 0 gives) (are_relays group) ≡ malformed_at made
  malformed_is =
      sym (ap (λ n. first_place (length bases) n (length gives) (first_at (λ b. not (is_base b)) 0 bases) (first_at (λ o. is_empty o.1 || not (are_relays o.1)) 0 made.offers) (first_at (λ g. not (nat_lt g.1 RELAYS)) 0 gives) (are_relays group)) place_len
      ∙ ap (λ x. first_place (length bases) (length offers) (length gives) (first_at (λ b. not (is_base b)) 0 bases) x (first_at (λ g. not (nat_lt g.1 RELAYS)) 0 gives) (are_relays group)) (first_at_map (λ o. is_empty o.1 || not (are_relays o.1)) (λ (o : Id × V). (o.0, items o.1)) 0 offers))

  pub misplaced_is : first_place (length bases) (length offers) (length gives) (first_out nat_cmp (λ b. b.0) (λ _. true) None 0 bases) (first_out id_cmp (λ o. o.0) (λ o. rises (items o.1)) None 0 offers) (first_out id_cmp (λ g. g.0) (λ _. true) None 0 gives) (rises group) ≡ misplaced_at made
  misplaced_is =
      sym (ap (λ n. first_place (length bases) n (length gives) (first_out nat_cmp (λ b. b.0) (λ _. true) None 0 bases) (first_out id_cmp (λ o. o.0) (λ o. rises o.1) None 0 made.offers) (first_out id_cmp (λ g. g.0) (λ _. true) None 0 gives) (rises group)) place_len
      ∙ ap (λ x. first_place (length bases) (length offers) (length gives) (first_out nat_cmp (λ b. b.0) (λ _. true) None 0 bases) x (first_out id_cmp (λ g. g.0) (λ _. true) None 0 gives) (rises group)) (first_out_map id_cmp (λ o. o.0) (λ o. rises o.1) (λ (o : Id × V). (o.0, items o.1)) None 0 offers))
