-- Texts that are looked up by their places.
use Rattle.std.proofs.Common.{◌≡◌, ◌∙◌, ◌∷◌, [], List, ℕ, Result, Ok, Err, inl, inr, refl, sym, ap, length, take, ◌+◌, ◌<◌, ◌++◌, ◌||◌, get_or, bytes_eq, arith}
use Rattle.std.specs.Prelude.{is_ok}
use Rattle.std.specs.declared.cmp.Ordering.{Ordering}
use Rattle.std.specs.Ordering.{nat_cmp, is_eq, ordering_index}
use Rattle.std.specs.Cmp.Lexicographic.{slice_cmp}
use Rattle.std.specs.List.{list_any}
use Rattle.std.specs.List.Sorted.{IsSearchInRange, IsBinarySearchResult, IsNonDecreasingBy}
use Rattle.std.proofs.lemmas.Bool.{cases_lt}
use Rattle.std.proofs.lemmas.Cmp.{nat_list_cmp_total}
use Rattle.std.proofs.lemmas.List.{take_more}
use Rattle.std.proofs.lemmas.List.Folds.{list_any-append, list_any_at, list_any_none}
use Rattle.std.proofs.lemmas.List.Sorted.{searchable_from_sorted}
use Rattle.std.proofs.lemmas.Map.Text.{is_eq-slice_cmp}
use Rattle.nostr_filter.specs.Members.{has_text, text_at, is_at, AreInOrder}

-- a binary search finds what is there
found : (ord : ℕ → Ordering) (xs : List ℕ) (r : Result ℕ ℕ) → IsSearchInRange r (length xs) → IsBinarySearchResult ord xs r → IsNonDecreasingBy (λ y. ordering_index (ord y)) xs → is_ok r ≡ list_any (λ y. is_eq (ord y)) xs
found ord xs (Ok i) within holds rises = sym (list_any_at (λ y. is_eq (ord y)) xs i 0 within (ap is_eq (holds 0)))
found ord xs (Err i) within parted rises =
    let parts = parted rises in
    sym (list_any_none (λ y. is_eq (ord y)) xs (λ k d lt. elim (cases_lt k i) [ inl below ↦ ap is_eq (parts.0 k d (omega arith) below) | inr above ↦ ap is_eq (parts.1 k d above lt) ]))

matched : (texts : List (List ℕ)) (places : List ℕ) (text : List ℕ) → list_any (λ p. is_eq (slice_cmp nat_cmp (text_at texts p) text)) places ≡ is_at texts places text
matched texts [] text = refl
matched texts (p ∷ places) text = rw (is_eq-slice_cmp (text_at texts p) text, matched texts places text) refl

-- a search of the places in order tells whether the text is listed
pub looked : (texts : List (List ℕ)) (places : List ℕ) (text : List ℕ) (r : Result ℕ ℕ) → AreInOrder texts places → IsSearchInRange r (length places) → IsBinarySearchResult (λ p. slice_cmp nat_cmp (text_at texts p) text) places r → is_ok r ≡ has_text texts text
looked texts places text r ordered within found_there =
    found (λ p. slice_cmp nat_cmp (text_at texts p) text) places r within found_there (searchable_from_sorted nat_list_cmp_total (text_at texts) places text ordered.ascend)
    ∙ (matched texts places text ∙ ordered.all text)

-- the places to one more number are those of one more text
pub one_more : (texts : List (List ℕ)) (places : List ℕ) (i : ℕ) (text : List ℕ) → i < length texts
    → is_at texts places text ≡ has_text (take i texts) text → is_at texts (places ++ i ∷ []) text ≡ has_text (take (i + 1) texts) text
one_more texts places i text below so_far =
    let last = get_or texts i [] ∷ [] in
    list_any-append (λ p. bytes_eq (text_at texts p) text) places (i ∷ []) ∙ ap (λ b. b || has_text last text) so_far
    ∙ sym (list_any-append (λ t. bytes_eq t text) (take i texts) last) ∙ ap (λ ts. has_text ts text) (sym (take_more texts i [] below))
