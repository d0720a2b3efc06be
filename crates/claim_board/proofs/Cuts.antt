-- Views are cut and joined, and the rule at the start.
use Rattle.std.proofs.Common.{◌≡◌, ◌≢◌, ◌⊎◌, ℕ, suc, zero, ◌+◌, ◌<◌, ◌≤◌, List, [], ◌∷◌, ◌++◌, length, get_or, set, sym, refl, ap, ◌∙◌, subst, ⊎_elim, inl, inr, arith}
use Rattle.std.specs.Prelude.{Contains, slice_index}
use mathlib.Core.Option.{some, some-injective, some-ne-none}
use lib.ListN.{get_elem?}
use Rattle.atomic_table.specs.Table.{State, Splits, Joins, opening}
use Rattle.atomic_table.proofs.Lists.{at_set}
use Rattle.fetch_plan.specs.declared.cell.Cell.TheVariants.{Held, Done, Missed}
use Rattle.claim_board.specs.declared.records.LaneRecord.{LaneRecord}
use Rattle.claim_board.specs.Rules.{word, fresh, named, Stands, Tells, Stays, Fits, Kept}
use Rattle.claim_board.specs.Steps.{first_of, others_of}

abbrev St : Type 0
St = State ℕ (List LaneRecord)

in_range : {A : Type 0} (l : List A) (j : ℕ) (a : A) → get_elem? l j ≡ some a → j < length l
in_range [] j a e = absurd (some-ne-none a (sym e))
in_range (x ∷ xs) zero a e = omega arith
in_range (x ∷ xs) (suc j) a e = let h = in_range xs j a e in omega arith

length_set : {A : Type 0} (l : List A) (i : ℕ) (a : A) → length (set l i a) ≡ length l
length_set [] i a = refl
length_set (x ∷ xs) zero a = refl
length_set (x ∷ xs) (suc i) a = ap suc (length_set xs i a)

-- the last element of a longer list, by its place
at_end : {A : Type 0} (l : List A) (a b : A) (j : ℕ) → get_elem? (l ++ a ∷ []) j ≡ some b → (get_elem? l j ≡ some b) ⊎ ((j ≡ length l) × (a ≡ b))
at_end [] a b zero e = inr (refl, some-injective a b e)
at_end [] a b (suc j) e = absurd (some-ne-none b (sym e))
at_end (x ∷ xs) a b zero e = inl e
at_end (x ∷ xs) a b (suc j) e = ⊎_elim (λ z. inl z) (λ (z : (j ≡ length xs) × (a ≡ b)). inr (ap suc z.0, z.1)) (at_end xs a b j e)

at_append : {A : Type 0} (v w : List A) (p : ℕ) (f : A) → get_elem? (v ++ w) p ≡ some f → ((p < length v) × (get_elem? v p ≡ some f)) ⊎ ((q : ℕ) × (p ≡ length v + q) × (get_elem? w q ≡ some f))
at_append [] w p f e = inr (p, omega arith, e)
at_append (x ∷ xs) w zero f e = inl (omega arith, e)
at_append (x ∷ xs) w (suc p) f e = ⊎_elim (λ (z : (p < length xs) × (get_elem? xs p ≡ some f)). let h = z.0 in inl (omega arith, z.1))
    (λ (z : (q : ℕ) × (p ≡ length xs + q) × (get_elem? w q ≡ some f)). let h = z.1 in inr (z.0, omega arith, z.2)) (at_append xs w p f e)

others_at : (v : List LaneRecord) (p : ℕ) (f : LaneRecord) → get_elem? (others_of v) p ≡ some f → get_elem? v (p + 1) ≡ some f
others_at [] p f e = absurd (some-ne-none f (sym e))
others_at (x ∷ xs) p f e = let n : p + 1 ≡ suc p = omega arith in subst (λ (k : ℕ). get_elem? (x ∷ xs) k ≡ some f) (sym n) e

first_at : (v : List LaneRecord) (p : ℕ) (f : LaneRecord) → get_elem? (first_of v) p ≡ some f → (p ≡ 0) × (get_elem? v 0 ≡ some f)
first_at [] p f e = absurd (some-ne-none f (sym e))
first_at (x ∷ xs) zero f e = (refl, e)
first_at (x ∷ xs) (suc p) f e = absurd (some-ne-none f (sym e))

module _ (rs ls : List ℕ) where
  -- the same lanes stand at other places, each once: R a p b q says that what stands at p of a stood at q of b
  rearranged : (s : St) (r : Kept rs ls s) (views : List (List LaneRecord)) (R : ℕ → ℕ → ℕ → ℕ → Type 0)
      → ((a p : ℕ) (f : LaneRecord) → Stands views a p f → (b : ℕ) × (q : ℕ) × R a p b q × Stands s.views b q f)
      → ((a p a' p' b q : ℕ) → R a p b q → R a' p' b q → (a ≡ a') × (p ≡ p'))
      → Kept rs ls record { words = s.words; homes = s.homes; views = views }
  rearranged s r views R was one = record {
    wide = r.wide;
    few = r.few;
    names = r.names;
    fits = λ a p f at. let o = was a p f at in r.fits o.0 o.1 f o.3;
    tells = λ a p f at. let o = was a p f at in r.tells o.0 o.1 f o.3;
    apart = λ a p f a' p' g at at' same. let o = was a p f at in let o' = was a' p' g at' in let t = r.apart o.0 o.1 f o'.0 o'.1 g o.3 o'.3 same in
        one a p a' p' o'.0 o'.1 (subst (λ (z : ℕ × ℕ). R a p z.0 z.1) (λ k. (t.0 k, t.1 k)) o.2) o'.2;
    stays = λ a p f at. let o = was a p f at in let old = r.stays o.0 o.1 f o.3 in record {
      done = old.done;
      missed = old.missed;
      held = λ i w c b q g at'. let o' = was b q g at' in old.held i w c o'.0 o'.1 g o'.3;
    };
  }

  -- where the lanes of a cut view stood
  abbrev Cut : ℕ → ℕ → ℕ → ℕ → ℕ → ℕ → Type 0
  Cut id m a p b q = ((a ≢ id) × (a ≢ m) × (b ≡ a) × (q ≡ p)) ⊎ (((a ≡ id) × (b ≡ id) × (q ≡ p + 1)) ⊎ ((a ≡ m) × (p ≡ 0) × (b ≡ id) × (q ≡ 0)))

  cut_once : (id m : ℕ) → id ≢ m → (a p a' p' b q : ℕ) → Cut id m a p b q → Cut id m a' p' b q → (a ≡ a') × (p ≡ p')
  cut_once id m apart a p a' p' b q x y = ⊎_elim
      (λ (t : (a ≢ id) × (a ≢ m) × (b ≡ a) × (q ≡ p)). ⊎_elim (λ (u : (a' ≢ id) × (a' ≢ m) × (b ≡ a') × (q ≡ p')). (sym t.2 ∙ u.2, sym t.3 ∙ u.3))
      (⊎_elim (λ (u : (a' ≡ id) × (b ≡ id) × (q ≡ p' + 1)). absurd (t.0 (sym t.2 ∙ u.1))) (λ (u : (a' ≡ m) × (p' ≡ 0) × (b ≡ id) × (q ≡ 0)). absurd (t.0 (sym t.2 ∙ u.2)))) y)
      (⊎_elim
      (λ (t : (a ≡ id) × (b ≡ id) × (q ≡ p + 1)). ⊎_elim (λ (u : (a' ≢ id) × (a' ≢ m) × (b ≡ a') × (q ≡ p')). absurd (u.0 (sym u.2 ∙ t.1)))
      (⊎_elim (λ (u : (a' ≡ id) × (b ≡ id) × (q ≡ p' + 1)). (t.0 ∙ sym u.0, let h = t.2 in let k = u.2 in omega arith)) (λ (u : (a' ≡ m) × (p' ≡ 0) × (b ≡ id) × (q ≡ 0)). let h = t.2 in let k = u.3 in absurd (omega arith))) y)
      (λ (t : (a ≡ m) × (p ≡ 0) × (b ≡ id) × (q ≡ 0)). ⊎_elim (λ (u : (a' ≢ id) × (a' ≢ m) × (b ≡ a') × (q ≡ p')). absurd (u.0 (sym u.2 ∙ t.2)))
      (⊎_elim (λ (u : (a' ≡ id) × (b ≡ id) × (q ≡ p' + 1)). let h = t.3 in let k = u.2 in absurd (omega arith)) (λ (u : (a' ≡ m) × (p' ≡ 0) × (b ≡ id) × (q ≡ 0)). (t.0 ∙ sym u.0, t.1 ∙ sym u.1))) y))
      x

  pub splits : (id : ℕ) (v : List LaneRecord) → Splits (Kept rs ls) id v (others_of v) (first_of v)
  splits id v s r at =
      let m : ℕ = length s.views in
      let low = in_range s.views id v at in
      let apart : id ≢ m = λ e. omega arith in
      let len : length (set s.views id (others_of v)) ≡ m = length_set s.views id (others_of v) in
      rearranged s r (set s.views id (others_of v) ++ first_of v ∷ []) (Cut id m)
      (λ a p f now. ⊎_elim
      (λ (t : get_elem? (set s.views id (others_of v)) a ≡ some now.0).
      let short = in_range (set s.views id (others_of v)) a now.0 t in ⊎_elim
      (λ (u : (a ≡ id) × (others_of v ≡ now.0)). (id, p + 1, inr (inl (u.0, refl, refl)), (v, at, others_at v p f (subst (λ (z : List LaneRecord). get_elem? z p ≡ some f) (sym u.1) now.2))))
      (λ (u : (a ≢ id) × (get_elem? s.views a ≡ some now.0)). (a, p, inl (u.0, (λ e. omega arith), refl, refl), (now.0, u.1, now.2)))
      (at_set s.views id a (others_of v) now.0 t))
      (λ (t : (a ≡ length (set s.views id (others_of v))) × (first_of v ≡ now.0)). let w = first_at v p f (subst (λ (z : List LaneRecord). get_elem? z p ≡ some f) (sym t.1) now.2) in
      (id, 0, inr (inr (t.0 ∙ len, w.0, refl, refl)), (v, at, w.1)))
      (at_end (set s.views id (others_of v)) (first_of v) now.0 a now.1))
      (cut_once id m apart)

  -- where the lanes of a view stood that two views, of which the first had n, were joined in
  abbrev Glued : ℕ → ℕ → ℕ → ℕ → ℕ → ℕ → ℕ → Type 0
  Glued id o n a p b q = ((a ≢ id) × (a ≢ o) × (b ≡ a) × (q ≡ p)) ⊎ (((a ≡ id) × (p < n) × (b ≡ id) × (q ≡ p)) ⊎ ((a ≡ id) × (p ≡ n + q) × (b ≡ o)))

  glued_once : (id o n : ℕ) → o ≢ id → (a p a' p' b q : ℕ) → Glued id o n a p b q → Glued id o n a' p' b q → (a ≡ a') × (p ≡ p')
  glued_once id o n apart a p a' p' b q x y = ⊎_elim
      (λ (t : (a ≢ id) × (a ≢ o) × (b ≡ a) × (q ≡ p)). ⊎_elim (λ (u : (a' ≢ id) × (a' ≢ o) × (b ≡ a') × (q ≡ p')). (sym t.2 ∙ u.2, sym t.3 ∙ u.3))
      (⊎_elim (λ (u : (a' ≡ id) × (p' < n) × (b ≡ id) × (q ≡ p')). absurd (t.0 (sym t.2 ∙ u.2))) (λ (u : (a' ≡ id) × (p' ≡ n + q) × (b ≡ o)). absurd (t.1 (sym t.2 ∙ u.2)))) y)
      (⊎_elim
      (λ (t : (a ≡ id) × (p < n) × (b ≡ id) × (q ≡ p)). ⊎_elim (λ (u : (a' ≢ id) × (a' ≢ o) × (b ≡ a') × (q ≡ p')). absurd (u.0 (sym u.2 ∙ t.2)))
      (⊎_elim (λ (u : (a' ≡ id) × (p' < n) × (b ≡ id) × (q ≡ p')). (t.0 ∙ sym u.0, sym t.3 ∙ u.3)) (λ (u : (a' ≡ id) × (p' ≡ n + q) × (b ≡ o)). absurd (apart (sym u.2 ∙ t.2)))) y)
      (λ (t : (a ≡ id) × (p ≡ n + q) × (b ≡ o)). ⊎_elim (λ (u : (a' ≢ id) × (a' ≢ o) × (b ≡ a') × (q ≡ p')). absurd (u.1 (sym u.2 ∙ t.2)))
      (⊎_elim (λ (u : (a' ≡ id) × (p' < n) × (b ≡ id) × (q ≡ p')). absurd (apart (sym t.2 ∙ u.2))) (λ (u : (a' ≡ id) × (p' ≡ n + q) × (b ≡ o)). (t.0 ∙ sym u.0, t.1 ∙ sym u.1))) y))
      x

  pub joins : (id : ℕ) (v : List LaneRecord) (o : ℕ) (w : List LaneRecord) → Joins (Kept rs ls) id v o w (v ++ w) []
  joins id v o w s r at apart there =
      let was : get_elem? s.views o ≡ some w = ⊎_elim (λ (u : (o ≡ id) × (v ++ w ≡ w)). absurd (apart u.0)) (λ (u : (o ≢ id) × (get_elem? s.views o ≡ some w)). u.1) (at_set s.views id o (v ++ w) w there) in
      rearranged s r (set (set s.views id (v ++ w)) o []) (Glued id o (length v))
      (λ a p f now. ⊎_elim
      (λ (t : (a ≡ o) × ([] ≡ now.0)). absurd (some-ne-none f (sym (subst (λ (z : List LaneRecord). get_elem? z p ≡ some f) (sym t.1) now.2))))
      (λ (t : (a ≢ o) × (get_elem? (set s.views id (v ++ w)) a ≡ some now.0)). ⊎_elim
      (λ (u : (a ≡ id) × (v ++ w ≡ now.0)). ⊎_elim
      (λ (z : (p < length v) × (get_elem? v p ≡ some f)). (id, p, inr (inl (u.0, z.0, refl, refl)), (v, at, z.1)))
      (λ (z : (q : ℕ) × (p ≡ length v + q) × (get_elem? w q ≡ some f)). (o, z.0, inr (inr (u.0, z.1, refl)), (w, was, z.2)))
      (at_append v w p f (subst (λ (z : List LaneRecord). get_elem? z p ≡ some f) (sym u.1) now.2)))
      (λ (u : (a ≢ id) × (get_elem? s.views a ≡ some now.0)). (a, p, inl (u.0, t.0, refl, refl), (now.0, u.1, now.2)))
      (at_set s.views id a (v ++ w) now.0 t.1))
      (at_set (set s.views id (v ++ w)) o a [] now.0 now.1))
      (glued_once id o (length v) apart)

named_at : (n : ℕ) (ls : List ℕ) (p : ℕ) (f : LaneRecord) → get_elem? (named n ls) p ≡ some f → (p < length ls) × (fresh (n + p) (slice_index ls p) ≡ f)
named_at n [] p f e = absurd (some-ne-none f (sym e))
named_at n (x ∷ xs) zero f e = (omega arith, let z : n + 0 ≡ n = omega arith in ap (λ (k : ℕ). fresh k x) z ∙ some-injective (fresh n x) f e)
named_at n (x ∷ xs) (suc p) f e = let t = named_at (suc n) xs p f e in let h = t.0 in let z : n + suc p ≡ suc n + p = omega arith in (omega arith, ap (λ (k : ℕ). fresh k (slice_index xs p)) z ∙ t.1)

pub none_in : {X : Type 0} (x : X) → Contains [] x → ⊥
none_in x c = let h = c.1 in omega arith

pub starts : (rs ls ws : List ℕ) → length ws ≡ length rs + 1 → length ls ≤ 1024 → ((i : ℕ) → get_or ws i 0 ≡ 0) → Kept rs ls (opening ws [] (named 0 ls))
starts rs ls ws wide few blank = record {
  wide = wide;
  few = few;
  names = λ i. inl (blank (i + 1));
  fits = λ a p f at. let o = one a p f at in let h = o.1 in subst (Fits rs ls) o.2 record { lane = omega arith; relay = refl; held = λ i c. absurd (none_in i c); ended = λ i k c. absurd (none_in (i, k) c); met = λ i w c. absurd (none_in (i, Held w) c) };
  tells = λ a p f at i. let o = one a p f at in subst (Tells i (word ws i)) o.2 (let b = blank (i + 1) in record {
    held = ((λ c. absurd (none_in i c)), λ z. absurd (omega arith));
    done = ((λ c. absurd (none_in (i, Done) c)), λ z. absurd (omega arith));
    missed = ((λ c. absurd (none_in (i, Missed) c)), λ z. absurd (omega arith));
  });
  apart = λ a p f b q g at at' same. let o = one a p f at in let o' = one b q g at' in (o.0 ∙ sym o'.0, ap (λ (z : LaneRecord). z.lane) o.2 ∙ (same ∙ sym (ap (λ (z : LaneRecord). z.lane) o'.2)));
  stays = λ a p f at. let o = one a p f at in subst (Stays ws (named 0 ls ∷ [])) o.2 record {
    done = λ i c. absurd (none_in (i, Done) c);
    missed = λ i c. absurd (none_in (i, Missed) c);
    held = λ i w c. absurd (none_in (i, Held w) c);
  };
}
  where
    alone : (a : ℕ) (v : List LaneRecord) → get_elem? (named 0 ls ∷ []) a ≡ some v → (a ≡ 0) × (named 0 ls ≡ v)
    alone zero v e = (refl, some-injective (named 0 ls) v e)
    alone (suc a) v e = absurd (some-ne-none v (sym e))

    one : (a p : ℕ) (f : LaneRecord) → Stands (named 0 ls ∷ []) a p f → (a ≡ 0) × (p < length ls) × (fresh p (slice_index ls p) ≡ f)
    one a p f at = let t = alone a at.0 at.1 in let u = named_at 0 ls p f (subst (λ (z : List LaneRecord). get_elem? z p ≡ some f) (sym t.1) at.2) in let z : 0 + p ≡ p = omega arith in (t.0, u.0, ap (λ (k : ℕ). fresh k (slice_index ls p)) (sym z) ∙ u.1)
