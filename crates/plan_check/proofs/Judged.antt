-- The gives have no fault just where they are a sharing of the offers.
use Rattle.std.proofs.Common.{◌≡◌, ℕ, suc, ◌+◌, ◌<◌, length, ◌&&◌, ◌||◌, not, Bool, true, false, cond, List, [], ◌∷◌, get_or, map, Option, Some, None, Ok, Err, refl, sym, ap, ◌∙◌, subst, arith, inl, inr}
use Rattle.std.specs.Prelude.{is_some, unwrap_or, Result}
use Rattle.std.specs.declared.cmp.Ordering.{Ordering}
use Rattle.std.specs.declared.cmp.Ordering.TheVariants.{Less, Equal, Greater}
use Rattle.std.specs.Ordering.{is_eq, ordering_reverse}
use Rattle.std.specs.List.{All, list_any}
use Rattle.std.proofs.lemmas.Bool.{false≢true, cases_Bool, cases_eq, or_parts, or_from, true_from_ne_false, not-false}
use Rattle.std.proofs.lemmas.List.{get_or_default}
use Rattle.std.proofs.lemmas.List.Elements.{All-head, All-tail, All-cons, All-nil, All-weaker, All-map}
use Rattle.item_key.specs.declared.Id.{Id}
use Rattle.sharing.specs.Sharing.{is_among, load, IsSharing, IsGreatest, Shows}
use Rattle.sharing.specs.Bases.{base_in}
use Rattle.sharing.specs.Offers.{id_cmp, is_id, Ascend, beside, relays_of, relay_in}
use Rattle.sharing.proofs.Orders.{id_total, id_apart, same_id, head_sorted, tail_sorted, All-unmap}
use Rattle.sharing.proofs.Looks.{found_itself, gives_agree, load_by_gives}
use Rattle.plan_check.specs.declared.faults.PlanFault.{PlanFault}
use Rattle.plan_check.specs.declared.faults.PlanFault.TheVariants.{NotOffered, Missing, Stranger, GroupTooSmall}
use Rattle.plan_check.specs.File.{File, IsFile, pairs_of}
use Rattle.std.specs.Global.{Vec}
use Rattle.plan_check.specs.Verdict.{is_not_offered, is_missing, is_stranger, gives_fault, given_load, IsSharedOut, GroupShows, Judges, JudgesBy}

any_none : {X : Type 0} (p : X → Bool) (xs : List X) → list_any p xs ≡ false → All (λ x. p x ≡ false) xs
any_none p [] h = All-nil (λ x. p x ≡ false)
any_none p (x ∷ xs) h = let parts : (p x ≡ false) × (list_any p xs ≡ false) = or_parts (p x) (list_any p xs) h in All-cons (λ x. p x ≡ false) x xs parts.0 (any_none p xs parts.1)

none_any : {X : Type 0} (p : X → Bool) (xs : List X) → All (λ x. p x ≡ false) xs → list_any p xs ≡ false
none_any p [] h = refl
none_any p (x ∷ xs) h = or_from (p x) (list_any p xs) (All-head (λ x. p x ≡ false) x xs h) (none_any p xs (All-tail (λ x. p x ≡ false) x xs h))

-- ---- ids in order with the same members are the same
abbrev pub has : List Id → Id → Bool
has ids i = list_any (is_id i) ids

beside_has : {X : Type 0} (pairs : List (Id × X)) (i : Id) → is_some (beside pairs i) ≡ has (map (λ p. p.0) pairs) i
beside_has [] i = refl
beside_has (p ∷ ps) i =
    elim (cases_Bool (is_id i p.0)) [
      | inl t ↦ ap (λ b. is_some (cond b (Some p.1) (beside ps i))) t ∙ sym (ap (λ b. b || has (map (λ p. p.0) ps) i) t)
      | inr f ↦ ap (λ b. is_some (cond b (Some p.1) (beside ps i))) f ∙ beside_has ps i ∙ sym (ap (λ b. b || has (map (λ p. p.0) ps) i) f)
    ]

absent_id : (x : Id) (ys : List Id) → All (λ y. id_cmp x y ≡ Less) ys → has ys x ≡ false
absent_id x ys h = none_any (is_id x) ys (All-weaker (λ y. id_cmp x y ≡ Less) (λ y. is_id x y ≡ false) (λ y l. ap is_eq l) ys h)

lower_absent : (x y : Id) (ys : List Id) → id_cmp x y ≡ Less → Ascend (y ∷ ys) → has (y ∷ ys) x ≡ false
lower_absent x y ys less h =
    or_from (is_id x y) (has ys x) (ap is_eq less) (absent_id x ys (All-weaker (λ z. id_cmp y z ≡ Less) (λ z. id_cmp x z ≡ Less) (λ z l. id_total.trans x y z less l) ys (head_sorted id_cmp y ys h)))

ordering_is : (o : Ordering) → is_eq o ≡ false → (o ≡ Less → ⊥) → (o ≡ Greater → ⊥) → ⊥
ordering_is Less e l g = l refl
ordering_is Equal e l g = false≢true (sym e)
ordering_is Greater e l g = g refl

first_same : (x y : Id) (xs ys : List Id) → Ascend (x ∷ xs) → Ascend (y ∷ ys) → has (y ∷ ys) x ≡ true → has (x ∷ xs) y ≡ true → x ≡ y
first_same x y xs ys h g hx hy =
    same_id x y (true_from_ne_false (is_id x y) (λ e. ordering_is (id_cmp x y) e
    (λ less. false≢true (sym (lower_absent x y ys less g) ∙ hx))
    (λ greater. false≢true (sym (lower_absent y x xs (id_total.antisymm y x ∙ ap ordering_reverse greater) h) ∙ hy))))

-- what stands behind the first is among the others
behind_first : (x : Id) (xs ys : List Id) → All (λ z. id_cmp x z ≡ Less) xs → All (λ z. has (x ∷ ys) z ≡ true) xs → All (λ z. has ys z ≡ true) xs
behind_first x xs ys less h k d lt = sym (ap (λ b. b || has ys (get_or xs k d)) (id_apart x (get_or xs k d) (less k d lt))) ∙ h k d lt

same_ids : (xs ys : List Id) → Ascend xs → Ascend ys → All (λ x. has ys x ≡ true) xs → All (λ y. has xs y ≡ true) ys → xs ≡ ys
same_ids [] [] h g hx hy = refl
same_ids [] (y ∷ ys) h g hx hy = absurd (false≢true (All-head (λ y. has [] y ≡ true) y ys hy))
same_ids (x ∷ xs) [] h g hx hy = absurd (false≢true (All-head (λ x. has [] x ≡ true) x xs hx))
same_ids (x ∷ xs) (y ∷ ys) h g hx hy =
    let e : x ≡ y = first_same x y xs ys h g (All-head (λ z. has (y ∷ ys) z ≡ true) x xs hx) (All-head (λ z. has (x ∷ xs) z ≡ true) y ys hy) in
    let tx : All (λ z. has (x ∷ ys) z ≡ true) xs = subst (λ v. All (λ z. has (v ∷ ys) z ≡ true) xs) (sym e) (All-tail (λ z. has (y ∷ ys) z ≡ true) x xs hx) in
    let ty : All (λ z. has (x ∷ xs) z ≡ true) ys = All-tail (λ z. has (x ∷ xs) z ≡ true) y ys hy in
    let gx : All (λ z. id_cmp x z ≡ Less) ys = subst (λ v. All (λ z. id_cmp v z ≡ Less) ys) (sym e) (head_sorted id_cmp y ys g) in
    ap (λ zs. x ∷ zs) (same_ids xs ys (tail_sorted id_cmp x xs h) (tail_sorted id_cmp y ys g) (behind_first x xs ys (head_sorted id_cmp x xs h) tx) (behind_first x ys xs gx ty)) ∙ ap (λ z. z ∷ ys) e

-- ---- place by place, where R finds the offers and F tells the gives
module _ (R : Id → Option (List ℕ)) (F : Id → ℕ) where
  abbrev pub unoffered : Id × ℕ → Bool
  unoffered g = is_some (R g.0) && not (is_among (unwrap_or (R g.0) []) g.1)

  fine_one : (rs : List ℕ) (r : ℕ) (o : Option (List ℕ)) → o ≡ Some rs → is_among rs r ≡ true → (is_some o && not (is_among (unwrap_or o []) r)) ≡ false
  fine_one rs r o e h = ap (λ p. is_some p && not (is_among (unwrap_or p []) r)) e ∙ ap not h

  one_fine : (rs : List ℕ) (r : ℕ) (o : Option (List ℕ)) → o ≡ Some rs → (is_some o && not (is_among (unwrap_or o []) r)) ≡ false → is_among rs r ≡ true
  one_fine rs r o e h = not-false (is_among rs r) (sym (ap (λ p. is_some p && not (is_among (unwrap_or p []) r)) e) ∙ h)

  to_fine : (os : List (Id × List ℕ)) (gs : List (Id × ℕ)) → map (λ g. g.0) gs ≡ map (λ o. o.0) os → All (λ o. R o.0 ≡ Some o.1) os → All (λ g. F g.0 ≡ g.1) gs → IsSharing F os → All (λ g. unoffered g ≡ false) gs
  to_fine [] [] same r f s = All-nil (λ g. unoffered g ≡ false)
  to_fine [] (g ∷ gs) same r f s = absurd (cc)
  to_fine (o ∷ os) [] same r f s = All-nil (λ g. unoffered g ≡ false)
  to_fine (o ∷ os) (g ∷ gs) same r f s =
      let head : g.0 ≡ o.0 = cc in
      let tail : map (λ g. g.0) gs ≡ map (λ o. o.0) os = cc in
      All-cons (λ g. unoffered g ≡ false) g gs
      (fine_one o.1 g.1 (R g.0) (ap R head ∙ All-head (λ (o : Id × List ℕ). R o.0 ≡ Some o.1) o os r)
      (ap (is_among o.1) (sym (All-head (λ (g : Id × ℕ). F g.0 ≡ g.1) g gs f) ∙ ap F head) ∙ All-head (λ (p : Id × List ℕ). is_among p.1 (F p.0) ≡ true) o os s))
      (to_fine os gs tail (All-tail (λ (o : Id × List ℕ). R o.0 ≡ Some o.1) o os r) (All-tail (λ (g : Id × ℕ). F g.0 ≡ g.1) g gs f) (All-tail (λ (p : Id × List ℕ). is_among p.1 (F p.0) ≡ true) o os s))

  from_fine : (os : List (Id × List ℕ)) (gs : List (Id × ℕ)) → map (λ g. g.0) gs ≡ map (λ o. o.0) os → All (λ o. R o.0 ≡ Some o.1) os → All (λ g. F g.0 ≡ g.1) gs → All (λ g. unoffered g ≡ false) gs → IsSharing F os
  from_fine [] gs same r f s = All-nil (λ (p : Id × List ℕ). is_among p.1 (F p.0) ≡ true)
  from_fine (o ∷ os) [] same r f s = absurd (cc)
  from_fine (o ∷ os) (g ∷ gs) same r f s =
      let head : g.0 ≡ o.0 = cc in
      let tail : map (λ g. g.0) gs ≡ map (λ o. o.0) os = cc in
      All-cons (λ (p : Id × List ℕ). is_among p.1 (F p.0) ≡ true) o os
      (ap (is_among o.1) (ap F (sym head) ∙ All-head (λ (g : Id × ℕ). F g.0 ≡ g.1) g gs f) ∙ one_fine o.1 g.1 (R g.0) (ap R head ∙ All-head (λ (o : Id × List ℕ). R o.0 ≡ Some o.1) o os r) (All-head (λ g. unoffered g ≡ false) g gs s))
      (from_fine os gs tail (All-tail (λ (o : Id × List ℕ). R o.0 ≡ Some o.1) o os r) (All-tail (λ (g : Id × ℕ). F g.0 ≡ g.1) g gs f) (All-tail (λ g. unoffered g ≡ false) g gs s))

-- each pair's id is among the ids
own_ids : {X : Type 0} (pairs : List (Id × X)) → Ascend (map (λ p. p.0) pairs) → All (λ p. is_some (beside pairs p.0) ≡ true) pairs
own_ids pairs h k d lt = ap is_some (found_itself pairs h k d lt)

-- the give is of the offer, to a relay that offers it
pub record Fits (o : Id × List ℕ) (g : Id × ℕ) : Type 0 where
  pub id : g.0 ≡ o.0
  pub offered : is_among o.1 g.1 ≡ true

-- the first so many gives fit the offers at their places
abbrev pub AllFit : List (Id × List ℕ) → List (Id × ℕ) → ℕ → Type 0
AllFit offers gives n = (k : ℕ) (o : Id × List ℕ) (g : Id × ℕ) → k < n → Fits (get_or offers k o) (get_or gives k g)

ids_by_place : (os : List (Id × List ℕ)) (gs : List (Id × ℕ)) → length os ≡ length gs → AllFit os gs (length gs) → map (λ g. g.0) gs ≡ map (λ o. o.0) os
ids_by_place [] [] len fits = refl
ids_by_place [] (g ∷ gs) len fits = absurd (omega arith)
ids_by_place (o ∷ os) [] len fits = absurd (omega arith)
ids_by_place (o ∷ os) (g ∷ gs) len fits =
    ap (λ i. i ∷ map (λ g. g.0) gs) (fits 0 o g (omega arith)).id ∙ ap (λ is. o.0 ∷ is) (ids_by_place os gs (omega arith) (λ k a b lt. fits (suc k) a b (omega arith)))

-- one more that fits
pub fits_more : (offers : List (Id × List ℕ)) (gives : List (Id × ℕ)) (n : ℕ) (a : Id × List ℕ) (b : Id × ℕ) → n < length offers → n < length gives → AllFit offers gives n → Fits (get_or offers n a) (get_or gives n b) → AllFit offers gives (n + 1)
fits_more offers gives n a b some_offer some_give before one = λ k o g lt.
    elim (cases_eq k n) [
      | inl is ↦
          (let offer : get_or offers k o ≡ get_or offers n a = ap (λ j. get_or offers j o) is ∙ get_or_default offers n o a some_offer in
          let give : get_or gives k g ≡ get_or gives n b = ap (λ j. get_or gives j g) is ∙ get_or_default gives n g b some_give in
          subst (λ x. Fits x (get_or gives k g)) (sym offer) (subst (λ y. Fits (get_or offers n a) y) (sym give) one))
      | inr other ↦ before k o g (omega arith)
    ]

module _ (file : File) (ok : IsFile file) where
  abbrev pub F : Id → ℕ
  F i = relay_in file.gives i

  abbrev pub R : Id → Option (List ℕ)
  R i = beside file.offers i

  -- ids of one list are found in the other, where the ids are the same
  found_in : {X Y : Type 0} (xs : List (Id × X)) (ys : List (Id × Y)) → Ascend (map (λ y. y.0) ys) → map (λ x. x.0) xs ≡ map (λ y. y.0) ys → All (λ x. not (is_some (beside ys x.0)) ≡ false) xs
  found_in xs ys h e =
      let mine : All (λ i. has (map (λ y. y.0) ys) i ≡ true) (map (λ y. y.0) ys) = All-map (λ i. has (map (λ y. y.0) ys) i ≡ true) (λ (y : Id × _). y.0) ys (λ k d lt. sym (beside_has ys _) ∙ own_ids ys h k d lt) in
      let theirs : All (λ i. has (map (λ y. y.0) ys) i ≡ true) (map (λ x. x.0) xs) = subst (All (λ i. has (map (λ y. y.0) ys) i ≡ true)) (sym e) mine in
      λ k d lt. ap not (beside_has ys _ ∙ All-unmap (λ i. has (map (λ y. y.0) ys) i ≡ true) (λ (x : Id × _). x.0) xs theirs k d lt)

  pub no_fault : (most : ℕ) → IsSharedOut file most → gives_fault file ≡ None
  no_fault most s =
      let a : is_not_offered file ≡ false = none_any (unoffered R F) file.gives (to_fine R F file.offers file.gives s.ids (found_itself file.offers ok.offers_ok.ascend) (gives_agree file.gives ok.ascend) s.sharing) in
      let b : is_missing file ≡ false = none_any (λ o. not (is_some (beside file.gives o.0))) file.offers (found_in file.offers file.gives ok.ascend (sym s.ids)) in
      let c : is_stranger file ≡ false = none_any (λ g. not (is_some (beside file.offers g.0))) file.gives (found_in file.gives file.offers ok.offers_ok.ascend s.ids) in
      ap (λ t. cond t (Some NotOffered) (cond (is_missing file) (Some Missing) (cond (is_stranger file) (Some Stranger) None))) a
      ∙ ap (λ t. cond t (Some Missing) (cond (is_stranger file) (Some Stranger) None)) b ∙ ap (λ t. cond t (Some Stranger) None) c

  present : {X Y : Type 0} (xs : List (Id × X)) (ys : List (Id × Y)) → list_any (λ x. not (is_some (beside ys x.0))) xs ≡ false → All (λ i. has (map (λ y. y.0) ys) i ≡ true) (map (λ x. x.0) xs)
  present xs ys h =
      All-map (λ i. has (map (λ y. y.0) ys) i ≡ true) (λ (x : Id × _). x.0) xs
      (λ k d lt. sym (beside_has ys _) ∙ not-false _ (any_none (λ x. not (is_some (beside ys x.0))) xs h k d lt))

  pub shared_out : (most : ℕ) → is_not_offered file ≡ false → is_missing file ≡ false → is_stranger file ≡ false → IsGreatest (given_load file.bases file.gives) most → IsSharedOut file most
  shared_out most a b c greatest =
      let ids : map (λ g. g.0) file.gives ≡ map (λ o. o.0) file.offers = same_ids (map (λ g. g.0) file.gives) (map (λ o. o.0) file.offers) ok.ascend ok.offers_ok.ascend (present file.gives file.offers c) (present file.offers file.gives b) in
      let base : ℕ → ℕ = base_in file.bases in
      let loads : (r : ℕ) → load base F file.offers r ≡ given_load file.bases file.gives r = λ r. load_by_gives base F file.offers file.gives r (sym ids) (gives_agree file.gives ok.ascend) in
      record {
        ids = ids;
        sharing = from_fine R F file.offers file.gives ids (found_itself file.offers ok.offers_ok.ascend) (gives_agree file.gives ok.ascend) (any_none (unoffered R F) file.gives a);
        greatest = ((λ r. omega (arith, loads r, greatest.0 r)), (greatest.1.0, loads greatest.1.0 ∙ greatest.1.1));
      }

  pub fault_first : is_not_offered file ≡ true → gives_fault file ≡ Some NotOffered
  fault_first a = ap (λ t. cond t (Some NotOffered) (cond (is_missing file) (Some Missing) (cond (is_stranger file) (Some Stranger) None))) a

  pub fault_second : is_not_offered file ≡ false → is_missing file ≡ true → gives_fault file ≡ Some Missing
  fault_second a b =
      ap (λ t. cond t (Some NotOffered) (cond (is_missing file) (Some Missing) (cond (is_stranger file) (Some Stranger) None))) a
      ∙ ap (λ t. cond t (Some Missing) (cond (is_stranger file) (Some Stranger) None)) b

  pub fault_third : is_not_offered file ≡ false → is_missing file ≡ false → is_stranger file ≡ true → gives_fault file ≡ Some Stranger
  fault_third a b c =
      ap (λ t. cond t (Some NotOffered) (cond (is_missing file) (Some Missing) (cond (is_stranger file) (Some Stranger) None))) a
      ∙ ap (λ t. cond t (Some Missing) (cond (is_stranger file) (Some Stranger) None)) b ∙ ap (λ t. cond t (Some Stranger) None) c

  pub fault_none : is_not_offered file ≡ false → is_missing file ≡ false → is_stranger file ≡ false → gives_fault file ≡ None
  fault_none a b c =
      ap (λ t. cond t (Some NotOffered) (cond (is_missing file) (Some Missing) (cond (is_stranger file) (Some Stranger) None))) a
      ∙ ap (λ t. cond t (Some Missing) (cond (is_stranger file) (Some Stranger) None)) b ∙ ap (λ t. cond t (Some Stranger) None) c

  -- where each give fits the offer at its place there is no fault
  pub paired : length file.offers ≡ length file.gives → AllFit file.offers file.gives (length file.gives) → gives_fault file ≡ None
  paired len fits =
      let ids : map (λ g. g.0) file.gives ≡ map (λ o. o.0) file.offers = ids_by_place file.offers file.gives len fits in
      let a : is_not_offered file ≡ false =
      none_any (unoffered R F) file.gives
      (λ k d lt.
      let o : Id × List ℕ = get_or file.offers k (d.0, []) in
      let fit : Fits o (get_or file.gives k d) = fits k (d.0, []) d lt in
      fine_one R F o.1 (get_or file.gives k d).1 (R (get_or file.gives k d).0) (ap R fit.id ∙ found_itself file.offers ok.offers_ok.ascend k (d.0, []) (omega (arith, len))) fit.offered) in
      let b : is_missing file ≡ false = none_any (λ o. not (is_some (beside file.gives o.0))) file.offers (found_in file.offers file.gives ok.ascend (sym ids)) in
      let c : is_stranger file ≡ false = none_any (λ g. not (is_some (beside file.offers g.0))) file.gives (found_in file.gives file.offers ok.offers_ok.ascend ids) in
      fault_none a b c

no_fault_by : (a b c : Bool) → cond a (Some NotOffered) (cond b (Some Missing) (cond c (Some Stranger) None)) ≡ None → (a ≡ false) × (b ≡ false) × (c ≡ false)
no_fault_by true b c none = absurd (cc)
no_fault_by false true c none = absurd (cc)
no_fault_by false false true none = absurd (cc)
no_fault_by false false false none = (refl, refl, refl)

-- gives without a fault are a sharing
pub shared_by : (file : File) → IsFile file → (most : ℕ) → gives_fault file ≡ None → IsGreatest (given_load file.bases file.gives) most → IsSharedOut file most
shared_by file ok most none greatest = let parts = no_fault_by (is_not_offered file) (is_missing file) (is_stranger file) none in shared_out file ok most parts.0 parts.1 parts.2 greatest

one_most : (file : File) (a b : ℕ) → IsSharedOut file a → IsSharedOut file b → a ≡ b
one_most file a b s t = omega (arith, s.greatest.0 t.greatest.1.0, t.greatest.1.1, t.greatest.0 s.greatest.1.0, s.greatest.1.1)

-- a judgement by the fault that was found
pub judge_fault : (file : File) (f : PlanFault) → gives_fault file ≡ Some f → Judges file (Err f)
judge_fault file f e = subst (λ o. JudgesBy o file (Err f)) (sym e) refl

pub judge_ok : (file : File) (most : ℕ) → gives_fault file ≡ None → IsSharedOut file most → GroupShows file most → Judges file (Ok most)
judge_ok file most e s shows = subst (λ o. JudgesBy o file (Ok most)) (sym e) (s, shows)

pub judge_small : (file : File) (least : ℕ) → gives_fault file ≡ None → IsSharedOut file least → (GroupShows file least → ⊥) → Judges file (Err GroupTooSmall)
judge_small file least e s small = subst (λ o. JudgesBy o file (Err GroupTooSmall)) (sym e) (refl, λ most t shows. small (subst (GroupShows file) (one_most file most least t s) shows))

module _ (file : File) (ok : IsFile file) where
  exact_by : (o : Option PlanFault) (result : Result ℕ PlanFault) → gives_fault file ≡ o →
      JudgesBy o file result →
      (most : ℕ) → ((result ≡ Ok most) → IsSharedOut file most × GroupShows file most) × ((IsSharedOut file most × GroupShows file most) → result ≡ Ok most)
  exact_by None (Ok least) e j most =
      ((λ is. let same : least ≡ most = cc in subst (λ n. IsSharedOut file n × GroupShows file n) same j), λ s. ap Ok (one_most file least most j.0 s.0))
  exact_by None (Err f) e j most = ((λ is. absurd (cc)), λ s. absurd (j.1 most s.0 s.1))
  exact_by (Some f) result e j most = ((λ is. absurd (let x : Err f ≡ Ok most = sym j ∙ is in cc)), λ s. absurd (let x : Some f ≡ None = sym e ∙ no_fault file ok most s.0 in cc))

  pub exact_from : (result : Result ℕ PlanFault) → Judges file result → (most : ℕ) → ((result ≡ Ok most) → IsSharedOut file most × GroupShows file most) × ((IsSharedOut file most × GroupShows file most) → result ≡ Ok most)
  exact_from result j = exact_by (gives_fault file) result refl j

-- what the lists that were lent say of the file
pub lent_not_offered : (file : File) (offers : List (Id × List ℕ)) (gives : List (Id × ℕ)) → offers ≡ file.offers → gives ≡ file.gives → list_any (λ g. is_some (beside offers g.0) && not (is_among (relays_of offers g.0) g.1)) gives ≡ is_not_offered file
lent_not_offered file offers gives e g = ap (λ os. list_any (λ g. is_some (beside os g.0) && not (is_among (relays_of os g.0) g.1)) gives) e ∙ ap (λ gs. list_any (λ g. is_some (beside file.offers g.0) && not (is_among (relays_of file.offers g.0) g.1)) gs) g

pub lent_stranger : (file : File) (offers : List (Id × List ℕ)) (gives : List (Id × ℕ)) → offers ≡ file.offers → gives ≡ file.gives → list_any (λ g. not (is_some (beside offers g.0))) gives ≡ is_stranger file
lent_stranger file offers gives e g = ap (λ os. list_any (λ g. not (is_some (beside os g.0))) gives) e ∙ ap (λ gs. list_any (λ g. not (is_some (beside file.offers g.0))) gs) g

any_map : {X Y : Type 0} (p : Y → Bool) (f : X → Y) (xs : List X) → list_any p (map f xs) ≡ list_any (λ x. p (f x)) xs
any_map p f [] = refl
any_map p f (x ∷ xs) = ap (λ b. p (f x) || b) (any_map p f xs)

pub lent_missing : (file : File) (offers : List (Id × Vec ℕ)) (gives : List (Id × ℕ)) → pairs_of offers ≡ file.offers → gives ≡ file.gives → list_any (λ o. not (is_some (beside gives o.0))) offers ≡ is_missing file
lent_missing file offers gives e g =
    sym (any_map (λ (o : Id × List ℕ). not (is_some (beside gives o.0))) (λ (o : Id × Vec ℕ). (o.0, o.1.items)) offers)
    ∙ ap (list_any (λ (o : Id × List ℕ). not (is_some (beside gives o.0)))) e ∙ ap (λ gs. list_any (λ (o : Id × List ℕ). not (is_some (beside gs o.0))) file.offers) g

pub lent_paired : (file : File) → IsFile file → (offers : List (Id × List ℕ)) (gives : List (Id × ℕ)) → offers ≡ file.offers → gives ≡ file.gives → length offers ≡ length gives → AllFit offers gives (length gives) → gives_fault file ≡ None
lent_paired file ok offers gives e g len fits =
    paired file ok (ap length (sym e) ∙ len ∙ ap length g) (subst (λ os. AllFit os file.gives (length file.gives)) e (subst (λ gs. AllFit offers gs (length gs)) g fits))

-- what the lists that were lent say of the loads, and of what the group shows
pub lent_most : (file : File) (bases : List (ℕ × ℕ)) (gives : List (Id × ℕ)) (loads : ℕ → ℕ) (most : ℕ) → bases ≡ file.bases → gives ≡ file.gives → ((r : ℕ) → loads r ≡ given_load bases gives r) → IsGreatest loads most → IsGreatest (given_load file.bases file.gives) most
lent_most file bases gives loads most b g same h =
    let each : (r : ℕ) → loads r ≡ given_load file.bases file.gives r = λ r. same r ∙ ap (λ bs. given_load bs gives r) b ∙ ap (λ gs. given_load file.bases gs r) g in
    ((λ r. omega (arith, each r, h.0 r)), (h.1.0, sym (each h.1.0) ∙ h.1.1))

pub lent_shows : (file : File) (bases : List (ℕ × ℕ)) (offers : List (Id × List ℕ)) (group : List ℕ) (most : ℕ) → bases ≡ file.bases → offers ≡ file.offers → group ≡ file.group → Shows (base_in bases) group offers most → GroupShows file most
lent_shows file bases offers group most b o g h =
    subst (λ bs. Shows (base_in bs) file.group file.offers most) b (subst (λ os. Shows (base_in bases) file.group os most) o (subst (λ gs. Shows (base_in bases) gs offers most) g h))

pub lent_shows_back : (file : File) (bases : List (ℕ × ℕ)) (offers : List (Id × List ℕ)) (group : List ℕ) (most : ℕ) → bases ≡ file.bases → offers ≡ file.offers → group ≡ file.group → GroupShows file most → Shows (base_in bases) group offers most
lent_shows_back file bases offers group most b o g h =
    subst (λ bs. Shows (base_in bs) group offers most) (sym b) (subst (λ os. Shows (base_in file.bases) group os most) (sym o) (subst (λ gs. Shows (base_in file.bases) gs file.offers most) (sym g) h))
