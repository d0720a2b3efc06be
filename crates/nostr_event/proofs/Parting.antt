-- Parts of lists: one more behind the others, and those from one to another.
use Rattle.std.proofs.Common.{◌≡◌, ◌≤◌, ◌∙◌, ◌-◌, ◌+◌, ℕ, zero, suc, List, [], ◌∷◌, ◌++◌, length, take, drop, get_or, refl, sym, ap, ap₂, arith, length-append, Some, None, option_map}
use Rattle.std.specs.List.{slice_get}
use Rattle.std.proofs.lemmas.List.{take-append-le, drop-append-le, take_all, length-drop}
use Rattle.std.proofs.Math.Seq.{drop-append_seam}
use Rattle.nostr_event.specs.Parts.{part, parts, Rise}

pub rises_within : (start : ℕ) (ends : List ℕ) (last : ℕ) → Rise start ends last → start ≤ last
rises_within start [] last rise = omega (arith, rise)
rises_within start (end ∷ ends) last rise = omega (arith, rise.0, rises_within end ends last rise.1)

-- one more place behind the others
pub rises_more : (start : ℕ) (ends : List ℕ) (last more : ℕ) → Rise start ends last → last ≤ more → Rise start (ends ++ more ∷ []) more
rises_more start [] last more rise fits = (omega (arith, rise, fits), refl)
rises_more start (end ∷ ends) last more rise fits = (rise.0, rises_more end ends last more rise.1 fits)

-- a part of the beginning
part_before : {X : Type 0} (xs ys : List X) (start end : ℕ) → start ≤ end → end ≤ length xs → part (xs ++ ys) start end ≡ part xs start end
part_before xs ys start end up fits =
    ap (take (end - start)) (drop-append-le start xs ys (omega (arith, up, fits)))
    ∙ take-append-le (end - start) (drop start xs) ys (omega (arith, length-drop start xs, fits))

-- what stands behind the beginning
part_behind : {X : Type 0} (xs ys : List X) (start : ℕ) → start ≡ length xs → part (xs ++ ys) start (length (xs ++ ys)) ≡ ys
part_behind xs ys start at =
    ap (λ (n : ℕ). take (length (xs ++ ys) - start) (drop n (xs ++ ys))) at
    ∙ ap (take (length (xs ++ ys) - start)) (drop-append_seam xs ys)
    ∙ take_all (length (xs ++ ys) - start) ys (omega (arith, length-append xs ys, at))

-- one more part behind the others
pub one_more_part : {X : Type 0} (xs ys : List X) (start : ℕ) (ends : List ℕ) → Rise start ends (length xs) → parts (xs ++ ys) start (ends ++ length (xs ++ ys) ∷ []) ≡ parts xs start ends ++ ys ∷ []
one_more_part xs ys start [] rise = ap (λ p. p ∷ []) (part_behind xs ys start rise)
one_more_part xs ys start (end ∷ ends) rise =
    ap₂ (λ p ps. p ∷ ps) (part_before xs ys start end rise.0 (rises_within end ends (length xs) rise.1)) (one_more_part xs ys end ends rise.1)

pub length_parts : {X : Type 0} (xs : List X) (start : ℕ) (ends : List ℕ) → length (parts xs start ends) ≡ length ends
length_parts xs start [] = refl
length_parts xs start (end ∷ ends) = ap suc (length_parts xs end ends)

pub take_parts : {X : Type 0} (xs : List X) (start n : ℕ) (ends : List ℕ) → take n (parts xs start ends) ≡ parts xs start (take n ends)
take_parts xs start zero ends = refl
take_parts xs start (suc n) [] = refl
take_parts xs start (suc n) (end ∷ ends) = ap (λ ps. part xs start end ∷ ps) (take_parts xs end n ends)

pub drop_parts : {X : Type 0} (xs : List X) (start k : ℕ) (ends : List ℕ) → drop (suc k) (parts xs start ends) ≡ parts xs (get_or ends k 0) (drop (suc k) ends)
drop_parts xs start k [] = refl
drop_parts xs start zero (end ∷ ends) = refl
drop_parts xs start (suc k) (end ∷ ends) = drop_parts xs end k ends

pub get_parts : {X : Type 0} (xs : List X) (start k : ℕ) (ends : List ℕ) → slice_get (parts xs start ends) (suc k) ≡ option_map (part xs (get_or ends k 0)) (slice_get ends (suc k))
get_parts xs start k [] = refl
get_parts xs start zero (end ∷ []) = refl
get_parts xs start zero (end ∷ next ∷ ends) = refl
get_parts xs start (suc k) (end ∷ ends) = get_parts xs end k ends

-- where the part behind so many begins, as `start_behind` finds it
pub record IsStart (ends : List ℕ) (count from : ℕ) : Type 0 where
  pub none : count ≡ 0 → from ≡ 0
  pub some : (k : ℕ) → count ≡ k + 1 → from ≡ get_or ends k 0

-- parts of a list that is in parts itself
pub part_of_parts : {X : Type 0} (xs : List X) (ends : List ℕ) (start end from : ℕ) → IsStart ends start from → parts xs from (part ends start end) ≡ part (parts xs 0 ends) start end
part_of_parts xs ends zero end from is = ap (λ (s : ℕ). parts xs s (part ends 0 end)) (is.none refl) ∙ sym (take_parts xs 0 (end - 0) ends)
part_of_parts xs ends (suc k) end from is =
    ap (λ (s : ℕ). parts xs s (part ends (suc k) end)) (is.some k (omega arith))
    ∙ sym (take_parts xs (get_or ends k 0) (end - suc k) (drop (suc k) ends))
    ∙ ap (take (end - suc k)) (sym (drop_parts xs 0 k ends))

pub found_part : {X : Type 0} (xs : List X) (ends : List ℕ) (at end from : ℕ) → slice_get ends at ≡ Some end → IsStart ends at from → slice_get (parts xs 0 ends) at ≡ Some (part xs from end)
found_part xs [] zero end from found is = cc
found_part xs (e ∷ ends) zero end from found is = ap (λ o. option_map (part xs 0) o) found ∙ ap (λ (s : ℕ). Some (part xs s end)) (sym (is.none refl))
found_part xs ends (suc k) end from found is =
    get_parts xs 0 k ends
    ∙ ap (option_map (part xs (get_or ends k 0))) found
    ∙ ap (λ (s : ℕ). Some (part xs s end)) (sym (is.some k (omega arith)))

pub missing_part : {X : Type 0} (xs : List X) (ends : List ℕ) (at : ℕ) → slice_get ends at ≡ None → slice_get (parts xs 0 ends) at ≡ None
missing_part xs [] zero missing = refl
missing_part xs (e ∷ ends) zero missing = cc
missing_part xs ends (suc k) missing = get_parts xs 0 k ends ∙ ap (option_map (part xs (get_or ends k 0))) missing
