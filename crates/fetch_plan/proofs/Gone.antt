-- What the cells of a plan leave out of later plans.
use Rattle.std.proofs.Common.{◌≡◌, ℕ, zero, suc, ◌<◌, ◌==◌, ◌||◌, Bool, true, false, cond, List, [], ◌∷◌, ◌++◌, length, map, get_or, refl, sym, ap, ◌∙◌, arith, inl, inr, ◌⊎◌, Some, None}
use Rattle.std.specs.Prelude.{unwrap_or}
use Rattle.std.specs.declared.cmp.Ordering.TheVariants.{Less}
use Rattle.std.specs.Ordering.{is_eq}
use Rattle.std.proofs.lemmas.List.{map-append, get_or-map, length-map}
use Rattle.std.proofs.lemmas.Map.Keys.{Less-from_sorted}
use Rattle.std.proofs.lemmas.Bool.{false≢true, cases_lt, cases_eq, cases_Bool, and_parts, and_from}
use Rattle.item_key.specs.declared.Id.{Id}
use Rattle.sharing.specs.Sharing.{is_among}
use Rattle.sharing.specs.Offers.{id_cmp, is_id, beside, relays_of, Ascend}
use Rattle.sharing.proofs.Orders.{same_id, id_itself}
use Rattle.fetch_plan.specs.declared.cell.Cell.{Cell}
use Rattle.fetch_plan.specs.declared.cell.Cell.TheVariants.{Free, Held, Done, Missed}
use Rattle.fetch_plan.specs.LeftOut.{no_give, leaves_out, gone_beside, first_of, gone_of}

or_false : (b : Bool) → (b || false) ≡ b
or_false true = refl
or_false false = refl

-- ---- lists by their places
first_shift : {A : Type 0} (f : ℕ → A) (n : ℕ) → first_of f (suc n) ≡ f 0 ∷ first_of (λ k. f (suc k)) n
first_shift f zero = refl
first_shift f (suc n) = ap (λ xs. xs ++ f (suc n) ∷ []) (first_shift f n)

first_map : {A B : Type 0} (g : A → B) (f : ℕ → A) (n : ℕ) → map g (first_of f n) ≡ first_of (λ k. g (f k)) n
first_map g f zero = refl
first_map g f (suc n) = map-append g (first_of f n) (f n ∷ []) ∙ ap (λ xs. xs ++ g (f n) ∷ []) (first_map g f n)

first_get : {A B : Type 0} (g : A → B) (d : A) (xs : List A) → first_of (λ k. g (get_or xs k d)) (length xs) ≡ map g xs
first_get g d [] = refl
first_get g d (x ∷ xs) = first_shift (λ k. g (get_or (x ∷ xs) k d)) (length xs) ∙ ap (λ ys. g x ∷ ys) (first_get g d xs)

pub first_all : {A : Type 0} (d : A) (xs : List A) → first_of (λ k. get_or xs k d) (length xs) ≡ xs
first_all d [] = refl
first_all d (x ∷ xs) = first_shift (λ k. get_or (x ∷ xs) k d) (length xs) ∙ ap (λ ys. x ∷ ys) (first_all d xs)

-- ---- what stands beside an id
beside_some : {X : Type 0} (xs : List (Id × X)) (y : Id × X) (i : Id) (x : X) → beside xs i ≡ Some x → beside (xs ++ y ∷ []) i ≡ Some x
beside_some [] y i x e = absurd (cc)
beside_some (z ∷ zs) y i x e =
    elim (cases_Bool (is_id i z.0)) [
      | inl t ↦ ap (λ b. cond b (Some z.1) (beside (zs ++ y ∷ []) i)) t ∙ sym (ap (λ b. cond b (Some z.1) (beside zs i)) t) ∙ e
      | inr t ↦ ap (λ b. cond b (Some z.1) (beside (zs ++ y ∷ []) i)) t ∙ beside_some zs y i x (sym (ap (λ b. cond b (Some z.1) (beside zs i)) t) ∙ e)
    ]

beside_none : {X : Type 0} (xs : List (Id × X)) (y : Id × X) (i : Id) → beside xs i ≡ None → beside (xs ++ y ∷ []) i ≡ cond (is_id i y.0) (Some y.1) None
beside_none [] y i e = refl
beside_none (z ∷ zs) y i e =
    elim (cases_Bool (is_id i z.0)) [
      | inl t ↦ absurd (let x : Some z.1 ≡ None = sym (ap (λ b. cond b (Some z.1) (beside zs i)) t) ∙ e in cc)
      | inr t ↦ ap (λ b. cond b (Some z.1) (beside (zs ++ y ∷ []) i)) t ∙ beside_none zs y i (sym (ap (λ b. cond b (Some z.1) (beside zs i)) t) ∙ e)
    ]

-- a search among pairs finds none, or the pair at some place
abbrev pub Found : {X : Type 0} → (ℕ → Id × X) → ℕ → Id → Type 0
Found {X} f n i = (((j : ℕ) → j < n → is_id i (f j).0 ≡ false) × (beside (first_of f n) i ≡ None)) ⊎ ((j : ℕ) × (j < n) × (is_id i (f j).0 ≡ true) × (beside (first_of f n) i ≡ Some (f j).1))

pub found : {X : Type 0} (f : ℕ → Id × X) (n : ℕ) (i : Id) → Found f n i
found f zero i = inl (λ j lt. absurd (omega (arith, lt)), refl)
found f (suc n) i =
    elim (found f n i) [
      | inr e ↦ inr (e.0, omega (arith, e.1), e.2, beside_some (first_of f n) (f n) i (f e.0).1 e.3)
      | inl e ↦ elim (cases_Bool (is_id i (f n).0)) [
        | inl t ↦ inr (n, omega arith, t, beside_none (first_of f n) (f n) i e.1 ∙ ap (λ b. cond b (Some (f n).1) None) t)
        | inr t ↦ inl (
          λ j lt. elim (cases_eq j n) [
            | inl same ↦ ap (λ k. is_id i (f k).0) same ∙ t
            | inr ne ↦ e.0 j (omega (arith, lt, ne))
          ],
          beside_none (first_of f n) (f n) i e.1 ∙ ap (λ b. cond b (Some (f n).1) None) t,
        )
      ]
    ]

-- ---- what one cell leaves out
leaves_id : (c : Cell) (g : Id × ℕ) (r : ℕ) (i : Id) → leaves_out c g r i ≡ true → is_id i g.0 ≡ true
leaves_id Done g r i h = h
leaves_id Missed g r i h = (and_parts (is_id i g.0) (r == g.1) h).0
leaves_id Free g r i h = absurd (false≢true h)
leaves_id (Held w) g r i h = absurd (false≢true h)

gone_leaves : (offers : List (Id × List ℕ)) (c : Cell) (g : Id × ℕ) (r : ℕ) (i : Id) → is_id i g.0 ≡ true → is_among (gone_beside offers c g) r ≡ true → leaves_out c g r i ≡ true
gone_leaves offers Done g r i t h = t
gone_leaves offers Missed g r i t h = and_from (is_id i g.0) (r == g.1) t (sym (or_false (r == g.1)) ∙ h)
gone_leaves offers Free g r i t h = absurd (false≢true h)
gone_leaves offers (Held w) g r i t h = absurd (false≢true h)

leaves_gone : (offers : List (Id × List ℕ)) (c : Cell) (g : Id × ℕ) (r : ℕ) (i : Id) → leaves_out c g r i ≡ true → is_among (relays_of offers i) r ≡ true → is_among (gone_beside offers c g) r ≡ true
leaves_gone offers Done g r i h m = ap (λ (k : Id). is_among (relays_of offers k) r) (sym (same_id i g.0 h)) ∙ m
leaves_gone offers Missed g r i h m = or_false (r == g.1) ∙ (and_parts (is_id i g.0) (r == g.1) h).1
leaves_gone offers Free g r i h m = absurd (false≢true h)
leaves_gone offers (Held w) g r i h m = absurd (false≢true h)

-- ---- what all of them leave out
module _ (offers : List (Id × List ℕ)) (gives : List (Id × ℕ)) (cells : List Cell) where
  pub gone_ids : map (λ o. o.0) (gone_of offers gives cells) ≡ map (λ g. g.0) gives
  gone_ids = first_map (λ (o : Id × List ℕ). o.0) (λ k. ((get_or gives k no_give).0, gone_beside offers (get_or cells k Free) (get_or gives k no_give))) (length gives) ∙ first_get (λ (g : Id × ℕ). g.0) no_give gives

  looked : (i : Id) → Found (λ k. ((get_or gives k no_give).0, gone_beside offers (get_or cells k Free) (get_or gives k no_give))) (length gives) i
  looked i = found (λ k. ((get_or gives k no_give).0, gone_beside offers (get_or cells k Free) (get_or gives k no_give))) (length gives) i

  pub gone_from : (i : Id) (r : ℕ) → is_among (relays_of (gone_of offers gives cells) i) r ≡ true → (j : ℕ) × (j < length gives) × (leaves_out (get_or cells j Free) (get_or gives j no_give) r i ≡ true)
  gone_from i r m =
      elim (looked i) [
        | inl e ↦ absurd (false≢true (ap (λ o. is_among (unwrap_or o []) r) (sym e.1) ∙ m))
        | inr e ↦ (e.0, e.1, gone_leaves offers (get_or cells e.0 Free) (get_or gives e.0 no_give) r i e.2 (sym (ap (λ o. is_among (unwrap_or o []) r) e.3) ∙ m))
      ]

  less_apart : (j k : ℕ) → Ascend (map (λ g. g.0) gives) → j < k → k < length gives → (i : Id) → is_id i (get_or gives j no_give).0 ≡ true → is_id i (get_or gives k no_give).0 ≡ true → ⊥
  less_apart j k ascend lt end i a b =
      let less : id_cmp (get_or gives j no_give).0 (get_or gives k no_give).0 ≡ Less =
      ap (λ x. id_cmp x (get_or gives k no_give).0) (sym (get_or-map (λ (g : Id × ℕ). g.0) gives j no_give no_give.0 (omega (arith, lt, end))))
      ∙ ap (id_cmp (get_or (map (λ g. g.0) gives) j no_give.0)) (sym (get_or-map (λ (g : Id × ℕ). g.0) gives k no_give no_give.0 end))
      ∙ Less-from_sorted id_cmp (map (λ g. g.0) gives) j k no_give.0 ascend lt (omega (arith, end, length-map gives (λ (g : Id × ℕ). g.0))) in
      let one : id_cmp i i ≡ Less = ap (λ x. id_cmp x i) (same_id i (get_or gives j no_give).0 a) ∙ ap (id_cmp (get_or gives j no_give).0) (same_id i (get_or gives k no_give).0 b) ∙ less in
      false≢true (sym (ap is_eq one) ∙ id_itself i)

  pub apart : (j k : ℕ) → Ascend (map (λ g. g.0) gives) → j < length gives → k < length gives → (i : Id) → is_id i (get_or gives j no_give).0 ≡ true → is_id i (get_or gives k no_give).0 ≡ true → j ≡ k
  apart j k ascend lt end i a b =
      elim (cases_lt j k) [
        | inl below ↦ absurd (less_apart j k ascend below end i a b)
        | inr le ↦ elim (cases_lt k j) [
          | inl above ↦ absurd (less_apart k j ascend above lt i b a)
          | inr ge ↦ omega (arith, le, ge)
        ]
      ]

  pub gone_has : (j : ℕ) (i : Id) (r : ℕ) → Ascend (map (λ g. g.0) gives) → j < length gives → leaves_out (get_or cells j Free) (get_or gives j no_give) r i ≡ true → is_among (relays_of offers i) r ≡ true → is_among (relays_of (gone_of offers gives cells) i) r ≡ true
  gone_has j i r ascend lt leaves m =
      let t : is_id i (get_or gives j no_give).0 ≡ true = leaves_id (get_or cells j Free) (get_or gives j no_give) r i leaves in
      elim (looked i) [
        | inl e ↦ absurd (false≢true (sym (e.0 j lt) ∙ t))
        | inr e ↦
            (let same : e.0 ≡ j = apart e.0 j ascend e.1 lt i e.2 t in
            ap (λ o. is_among (unwrap_or o []) r) e.3
            ∙ ap (λ k. is_among (gone_beside offers (get_or cells k Free) (get_or gives k no_give)) r) same
            ∙ leaves_gone offers (get_or cells j Free) (get_or gives j no_give) r i leaves m)
      ]
