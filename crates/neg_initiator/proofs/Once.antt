-- Trusted stretches in order, each once: the same as before.
use Rattle.std.proofs.Common.{◌≡◌, ℕ, ◌==◌, ◌&&◌, Bool, true, false, bytes_eq, inl, inr, List, [], ◌∷◌, map, refl, sym, ap, ap₂, subst, ◌∙◌}
use Rattle.std.specs.Prelude.{Any, Contains, ◌↔◌}
use Rattle.std.proofs.lemmas.Bool.{eqb-true}
use Rattle.std.proofs.lemmas.Slice.Eq.{bytes_eq-Decides}
use Rattle.neg_codec.proofs.Stretches.{contains_head, contains_tail, contains_cases, contains_none}
use Rattle.neg_codec.specs.declared.Bound.{Bound}
use Rattle.neg_codec.specs.declared.Bound.TheVariants.{At, Infinite}
use Rattle.item_key.specs.declared.key.Key.{Key}

map_has : {X Y : Type 0} (f : X → Y) (xs : List X) (x : X) → Contains xs x → Contains (map f xs) (f x)
map_has f [] x h = absurd (contains_none x h)
map_has f (z ∷ zs) x h = elim (contains_cases z zs x h) [
  | inl e ↦ subst (λ y. Contains (map f (z ∷ zs)) (f y)) e (contains_head (f z) (map f zs))
  | inr rest ↦ contains_tail (f z) (map f zs) (f x) (map_has f zs x rest)
]

map_gives : {X Y : Type 0} (f : X → Y) (xs : List X) (y : Y) → Contains (map f xs) y → (x : X) × Contains xs x × (f x ≡ y)
map_gives f [] y h = absurd (contains_none y h)
map_gives f (z ∷ zs) y h = elim (contains_cases (f z) (map f zs) y h) [
  | inl e ↦ (z, contains_head z zs, e)
  | inr rest ↦ let g = map_gives f zs y rest in (g.0, contains_tail z zs g.0 g.1, g.2)
]

-- lists with the same values, where those that count as the same are
pub same_values : {X Y : Type 0} {E : X → X → Bool} (f : X → Y) (old new : List X) → ((x : X) → Contains old x → Any (λ y. E x y ≡ true) new) → ((x : X) → Contains new x → Contains old x)
    → ((x y : X) → E x y ≡ true → x ≡ y) → (y : Y) → Contains (map f new) y ↔ Contains (map f old) y
same_values f old new kept from exact y = (
  λ h. let g = map_gives f new y h in subst (Contains (map f old)) g.2 (map_has f old g.0 (from g.0 g.1)),
  λ h.
      let g = map_gives f old y h in
      let k = kept g.0 g.1 in
      subst (Contains (map f new)) (ap f (sym (exact g.0 k.1 k.4)) ∙ g.2) (map_has f new k.1 (k.0, k.2, k.3)),
)

abbrev same_key : Key → Key → Bool
same_key k j = (k.time == j.time) && bytes_eq k.id.0 j.id.0

both : (a b : Bool) → (a && b) ≡ true → (a ≡ true) × (b ≡ true)
both true b e = (refl, e)
both false b e = absurd (no_true e)
  where
    no_true : false ≡ true → ⊥
    no_true h = cc

key_by : ℕ → List ℕ → Key
key_by time id = record { time = time; id = record { 0 = id } }

one_key : (k j : Key) → same_key k j ≡ true → k ≡ j
unfolding key_by
one_key k j e =
    let parts = both (k.time == j.time) (bytes_eq k.id.0 j.id.0) e in
    let time : k.time ≡ j.time = eqb-true k.time j.time parts.0 in
    let id : k.id.0 ≡ j.id.0 = (bytes_eq-Decides k.id.0 j.id.0).0 parts.1 in
    let is : key_by k.time k.id.0 ≡ key_by j.time j.id.0 = ap₂ key_by time id in
    is

-- a test of stretches by their keys finds none but the same
pub one_stretch : (E : Key × Bound → Key × Bound → Bool) → ((k j a b : Key) → E (k, At a) (j, At b) ≡ (same_key k j && same_key a b)) → ((k j a : Key) → E (k, At a) (j, Infinite) ≡ (same_key k j && false))
    → ((k j b : Key) → E (k, Infinite) (j, At b) ≡ (same_key k j && false)) → ((k j : Key) → E (k, Infinite) (j, Infinite) ≡ (same_key k j && true)) → (x y : Key × Bound) → E x y ≡ true → x ≡ y
one_stretch E keys above below ends (k, At a) (j, At b) e =
    let p = both (same_key k j) (same_key a b) (sym (keys k j a b) ∙ e) in
    ap₂ (λ (x y : Key). (x, At y)) (one_key k j p.0) (one_key a b p.1)
one_stretch E keys above below ends (k, At a) (j, Infinite) e = let p = both (same_key k j) false (sym (above k j a) ∙ e) in absurd (let no = p.1 in cc)
one_stretch E keys above below ends (k, Infinite) (j, At b) e = let p = both (same_key k j) false (sym (below k j b) ∙ e) in absurd (let no = p.1 in cc)
one_stretch E keys above below ends (k, Infinite) (j, Infinite) e =
    let p = both (same_key k j) true (sym (ends k j) ∙ e) in
    ap (λ (x : Key). (x, Infinite)) (one_key k j p.0)
