-- Plain bytes stand for themselves in a string.
use Rattle.std.proofs.Common.{◌≡◌, ℕ, ◌-◌, ◌≤◌, true, ◌&&◌, List, [], ◌∷◌, ◌++◌, flat_map, take, drop, refl, sym, ap, ap₂, ◌∙◌, arith, take-add}
use Rattle.std.proofs.lemmas.Bool.{and_parts}
use Rattle.std.proofs.lemmas.Bool.Decides.{nat_tests}
use Rattle.std.proofs.lemmas.List.{take-append-drop}
use Rattle.std.proofs.lemmas.List.Concat.{flat_map-append}
use Rattle.std.proofs.lemmas.List.Folds.{list_all-append}
use Rattle.std.specs.List.{list_all}
use Rattle.nostr_event.specs.declared.draft.Spelling.{Spelling}
use Rattle.nostr_event.specs.IdText.{byte_text}
use Rattle.nostr_event.specs.Runs.{is_plain}

plain_byte : (s : Spelling) (x : ℕ) → is_plain x ≡ true → byte_text s x ≡ x ∷ []
unfolding byte_text
plain_byte s x e = grind (arith, nat_tests)

pub plain_text : (s : Spelling) (xs : List ℕ) → list_all is_plain xs ≡ true → flat_map (byte_text s) xs ≡ xs
plain_text s [] e = refl
plain_text s (x ∷ xs) e =
    let p = and_parts _ _ e in
    ap₂ (λ (a b : List ℕ). a ++ b) (plain_byte s x p.0) (plain_text s xs p.1)

pub plain_front : (s : Spelling) (xs : List ℕ) (n : ℕ) → list_all is_plain (take n xs) ≡ true
    → flat_map (byte_text s) xs ≡ take n xs ++ flat_map (byte_text s) (drop n xs)
plain_front s xs n e =
    ap (flat_map (byte_text s)) (sym (take-append-drop n xs)) ∙ flat_map-append (byte_text s) (take n xs) (drop n xs)
    ∙ ap (λ l. l ++ flat_map (byte_text s) (drop n xs)) (plain_text s (take n xs) e)

-- a run goes on with plain bytes
pub plain_more : (xs : List ℕ) (i j : ℕ) → i ≤ j → list_all is_plain (take i xs) ≡ true → list_all is_plain (take (j - i) (drop i xs)) ≡ true
    → list_all is_plain (take j xs) ≡ true
plain_more xs i j below run more =
    let whole : take j xs ≡ take i xs ++ take (j - i) (drop i xs) = ap (λ n. take n xs) (omega arith) ∙ take-add i (j - i) xs in
    ap (list_all is_plain) whole ∙ list_all-append is_plain (take i xs) (take (j - i) (drop i xs)) ∙ ap₂ (λ a b. a && b) run more
