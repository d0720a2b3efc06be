-- Sums of the ids of items, as items come and go.
use Rattle.std.proofs.Common.{◌≡◌, ℕ, ◌+◌, ◌-◌, ◌%◌, ◌^◌, ◌<◌, ◌≤◌, List, [], ◌∷◌, ◌++◌, length, get_or, take, drop, add-one, refl, sym, ap, ◌∙◌, arith}
use Rattle.std.proofs.Math.Seq.{take-suc}
use Rattle.std.specs.List.{insert, sum_by, fold, slice_range}
use Rattle.std.proofs.lemmas.List.{length-take, length-drop}
use Rattle.std.proofs.lemmas.List.Sums.{sum_by-insert, sum_by-append}
use Rattle.item_key.specs.declared.Id.{Id}
use Rattle.item_key.specs.declared.Item.{Item}
use Rattle.neg_print.specs.Print.{little_number, sum_of, print_by, print_of}
use Rattle.item_roll.specs.Parts.{ids_of}
use Rattle.item_roll.specs.Sums.{sum_at}

abbrev by_items : List Item → ℕ
by_items xs = sum_by (λ (k : Item). little_number k.id.0) xs

ids_fold : (xs : List Item) (a : ℕ) → fold (λ (n : ℕ) (i : Id). n + little_number i.0) a (ids_of xs) ≡ fold (λ (n : ℕ) (k : Item). n + little_number k.id.0) a xs
ids_fold [] a = refl
ids_fold (x ∷ xs) a = ids_fold xs (a + little_number x.id.0)

ids_sum : (xs : List Item) → sum_by (λ i. little_number i.0) (ids_of xs) ≡ by_items xs
ids_sum xs = ids_fold xs 0

pub sum_is : (xs : List Item) → sum_at xs ≡ by_items xs % 2 ^ 256
unfolding sum_of
sum_is xs = ap (λ (n : ℕ). n % 2 ^ 256) (ids_sum xs)

mod_more : (a b : ℕ) → (a + b) % 2 ^ 256 ≡ (a % 2 ^ 256 + b) % 2 ^ 256
mod_more a b = omega arith

mod_both : (a b : ℕ) → (a + b) % 2 ^ 256 ≡ (a % 2 ^ 256 + b % 2 ^ 256) % 2 ^ 256
mod_both a b = omega arith

pub sum_insert : (xs : List Item) (j : ℕ) (x : Item) → sum_at (insert xs j x) ≡ (sum_at xs + little_number x.id.0) % 2 ^ 256
sum_insert xs j x =
    sum_is (insert xs j x) ∙ ap (λ (n : ℕ). n % 2 ^ 256) (sum_by-insert (λ (k : Item). little_number k.id.0) xs j x) ∙ mod_more (by_items xs) (little_number x.id.0)
    ∙ ap (λ (n : ℕ). (n + little_number x.id.0) % 2 ^ 256) (sym (sum_is xs))

pub sum_append : (xs ys : List Item) → sum_at (xs ++ ys) ≡ (sum_at xs + sum_at ys) % 2 ^ 256
sum_append xs ys =
    sum_is (xs ++ ys) ∙ ap (λ (n : ℕ). n % 2 ^ 256) (sum_by-append (λ (k : Item). little_number k.id.0) xs ys) ∙ mod_both (by_items xs) (by_items ys)
    ∙ ap (λ (n : ℕ). (n + by_items ys % 2 ^ 256) % 2 ^ 256) (sym (sum_is xs)) ∙ ap (λ (n : ℕ). (sum_at xs + n) % 2 ^ 256) (sym (sum_is ys))

pub sum_small : (xs : List Item) → sum_at xs < 2 ^ 256
sum_small xs = omega (arith, sum_is xs)

pub sum_none : sum_at [] ≡ 0
sum_none = sum_is []

-- one more item
pub sum_more : (xs : List Item) (i : ℕ) (d : Item) → i < length xs → (sum_of (ids_of (take i xs)) + little_number (get_or xs i d).id.0) % 2 ^ 256 ≡ sum_of (ids_of (take (i + 1) xs))
sum_more xs i d lt =
    let t : take (i + 1) xs ≡ take i xs ++ get_or xs i d ∷ [] = rw (add-one i) (take-suc xs i d lt) in
    let s = sum_by-append (λ (k : Item). little_number k.id.0) (take i xs) (get_or xs i d ∷ []) in
    let one : by_items (get_or xs i d ∷ []) ≡ little_number (get_or xs i d).id.0 = omega arith in
    rw (t, sum_is (take i xs ++ get_or xs i d ∷ []), s, sum_is (take i xs)) (omega (arith, one))

ids_len : (xs : List Item) → length (ids_of xs) ≡ length xs
ids_len [] = refl
ids_len (x ∷ xs) = omega (arith, ids_len xs)

-- how many ids a piece has
pub piece_len : (items : List Item) (lo hi : ℕ) → hi ≤ length items → length (ids_of (slice_range items lo hi)) ≡ hi - lo
piece_len items lo hi le = ids_len (slice_range items lo hi) ∙ omega (arith, length-take (hi - lo) (drop lo items), length-drop lo items)

pub print_piece : (items : List Item) (lo hi total : ℕ) → hi ≤ length items → total ≡ sum_of (ids_of (slice_range items lo hi)) → print_by total (hi - lo) ≡ print_of (ids_of (slice_range items lo hi))
unfolding print_of
print_piece items lo hi total le e =
    ap (λ (n : ℕ). print_by n (hi - lo)) e ∙ ap (λ (n : ℕ). print_by (sum_of (ids_of (slice_range items lo hi))) n) (sym (piece_len items lo hi le))
