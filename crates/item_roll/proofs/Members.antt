-- What is in a part of a roll, and which ids it has.
use Rattle.std.proofs.Common.{◌≡◌, ◌<◌, ◌≤◌, inl, inr, Bool, true, false, cond, ltb, leb, List, [], ◌∷◌, map, refl, sym, ap, subst, ◌∙◌}
use Rattle.std.specs.Prelude.{Contains, filter}
use Rattle.std.proofs.lemmas.Bool.{ltb-true, leb-true, lt-ltb, le-leb, and_parts, and_from}
use Rattle.neg_codec.proofs.Stretches.{contains_head, contains_tail, contains_cases, contains_none}
use Rattle.item_key.specs.declared.Id.{Id}
use Rattle.item_key.specs.declared.Item.{Item}
use Rattle.item_key.specs.Keys.{place}
use Rattle.item_roll.specs.Parts.{is_between, part, ids_of}

pub filter_keeps : {X : Type 0} → (p : X → Bool) (xs : List X) (y : X) → Contains xs y → p y ≡ true → Contains (filter p xs) y
filter_keeps {X} p [] y h e = absurd (contains_none y h)
filter_keeps {X} p (x ∷ xs) y h e = go (p x) refl (λ (rest : Contains xs y). filter_keeps p xs y rest e)
  where
    go : (b : Bool) → p x ≡ b → (Contains xs y → Contains (filter p xs) y) → Contains (cond b (x ∷ filter p xs) (filter p xs)) y
    go true is again = elim (contains_cases x xs y h) [
      | inl same ↦ subst (λ (z : X). Contains (x ∷ filter p xs) z) same (contains_head x (filter p xs))
      | inr rest ↦ contains_tail x (filter p xs) y (again rest)
    ]
    go false is again = elim (contains_cases x xs y h) [
      | inl same ↦ absurd (let clash : p x ≡ true = ap p same ∙ e in cc)
      | inr rest ↦ again rest
    ]

pub filter_gives : {X : Type 0} → (p : X → Bool) (xs : List X) (y : X) → Contains (filter p xs) y → Contains xs y × (p y ≡ true)
filter_gives {X} p [] y h = absurd (contains_none y h)
filter_gives {X} p (x ∷ xs) y h = go (p x) refl (λ (rest : Contains (filter p xs) y). filter_gives p xs y rest) h
  where
    go : (b : Bool) → p x ≡ b → (Contains (filter p xs) y → Contains xs y × (p y ≡ true)) → Contains (cond b (x ∷ filter p xs) (filter p xs)) y → Contains (x ∷ xs) y × (p y ≡ true)
    go true is again h' = elim (contains_cases x (filter p xs) y h') [
      | inl same ↦ (subst (λ (z : X). Contains (x ∷ xs) z) same (contains_head x xs), ap p (sym same) ∙ is)
      | inr rest ↦ let r = again rest in (contains_tail x xs y r.0, r.1)
    ]
    go false is again h' = let r = again h' in (contains_tail x xs y r.0, r.1)

pub map_gives : {X Y : Type 0} → (f : X → Y) (xs : List X) (y : Y) → Contains (map f xs) y → (x : X) × Contains xs x × (f x ≡ y)
map_gives f [] y h = absurd (contains_none y h)
map_gives f (x ∷ xs) y h = elim (contains_cases (f x) (map f xs) y h) [
  | inl same ↦ (x, contains_head x xs, same)
  | inr rest ↦ let r = map_gives f xs y rest in (r.0, contains_tail x xs r.0 r.1, r.2)
]

pub map_keeps : {X Y : Type 0} → (f : X → Y) (xs : List X) (x : X) → Contains xs x → Contains (map f xs) (f x)
map_keeps {X} {Y} f [] x h = absurd (contains_none x h)
map_keeps {X} {Y} f (z ∷ xs) x h = elim (contains_cases z xs x h) [
  | inl same ↦ subst (λ (y : Y). Contains (f z ∷ map f xs) y) (ap f same) (contains_head (f z) (map f xs))
  | inr rest ↦ contains_tail (f z) (map f xs) (f x) (map_keeps f xs x rest)
]

-- an item lies in a part exactly if it is in the roll and between the bounds
pub part_keeps : (items : List Item) (l u k : Item) → Contains items k → place l ≤ place k → place k < place u → Contains (part items l u) k
unfolding part
part_keeps items l u k h le lt = filter_keeps (is_between l u) items k h (and_from (leb (place l) (place k)) (ltb (place k) (place u)) (le-leb _ _ le) (lt-ltb _ _ lt))

pub part_gives : (items : List Item) (l u k : Item) → Contains (part items l u) k → Contains items k × (place l ≤ place k) × (place k < place u)
unfolding part
part_gives items l u k h =
    let r = filter_gives (is_between l u) items k h in
    let b = and_parts (leb (place l) (place k)) (ltb (place k) (place u)) r.1 in
    (r.0, leb-true _ _ b.0, ltb-true _ _ b.1)

pub ids_give : (items : List Item) (i : Id) → Contains (ids_of items) i → (k : Item) × Contains items k × (k.id ≡ i)
ids_give items i h = map_gives (λ k. k.id) items i h

pub ids_keep : (items : List Item) (k : Item) → Contains items k → Contains (ids_of items) k.id
ids_keep items k h = map_keeps (λ k. k.id) items k h
