-- One write after another.
use Rattle.std.proofs.Common.{◌≡◌, ℕ, ◌+◌, ◌<◌, List, [], ◌∷◌, ◌++◌, length, take, get_or, flat_map, Option, None, Some, ap, sym, ◌∙◌, subst, append_assoc}
use Rattle.std.proofs.lemmas.List.{append-nil, take_more}
use Rattle.std.proofs.lemmas.Grind.{flat_map-append}
use Rattle.std.specs.Io.KnownBytes.{Appends}

-- nothing is written
pub Appends-nothing : (a : Option (List ℕ)) → Appends a a []
Appends-nothing None = tt
Appends-nothing (Some xs) = sym (append-nil xs)

-- first these bytes, then those
pub Appends-both : (a b c : Option (List ℕ)) (first second : List ℕ) → Appends a b first → Appends b c second → Appends a c (first ++ second)
Appends-both None b c first second h k = tt
Appends-both (Some xs) None c first second h k = absurd h
Appends-both (Some xs) (Some ys) None first second h k = absurd k
Appends-both (Some xs) (Some ys) (Some zs) first second h k = k ∙ ap (λ t. t ++ second) h ∙ append_assoc xs first second

-- the same bytes
pub Appends-same : (a b : Option (List ℕ)) (first second : List ℕ) → first ≡ second → Appends a b first → Appends a b second
Appends-same a b first second same h = let P : List ℕ → Type 0 = λ t. Appends a b t in subst P same h

-- the text of one element more
pub flat_map-push : {X : Type 0} (f : X → List ℕ) (xs : List X) (x : X) → flat_map f (xs ++ x ∷ []) ≡ flat_map f xs ++ f x
flat_map-push f xs x = flat_map-append f xs (x ∷ []) ∙ ap (λ t. flat_map f xs ++ t) (append-nil (f x))

pub flat_map-more : {X : Type 0} (f : X → List ℕ) (xs : List X) (i : ℕ) (x : X) → i < length xs → x ≡ get_or xs i x → flat_map f (take (i + 1) xs) ≡ flat_map f (take i xs) ++ f x
flat_map-more f xs i x within is = ap (flat_map f) (take_more xs i x within) ∙ flat_map-push f (take i xs) (get_or xs i x) ∙ ap (λ y. flat_map f (take i xs) ++ f y) (sym is)
