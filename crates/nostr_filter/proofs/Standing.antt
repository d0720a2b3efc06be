-- Lists that stand among others, and letters.
use Rattle.std.proofs.Common.{◌≡◌, ℕ, zero, suc, ◌+◌, ◌<◌, ◌≤◌, ◌==◌, Bool, true, false, cond, nat_lt, nat_eq, List, [], ◌∷◌, length, get_or, map, drop, refl, sym, ap, ◌∙◌, subst, arith, true≢false}
use Rattle.std.proofs.lemmas.Bool.{and_parts, ltb-true, eqb-true}
use Rattle.std.proofs.lemmas.Bool.Decides.{nat_tests}
use Rattle.std.proofs.lemmas.List.{drop_more, drop_all}
use Rattle.std.specs.List.{list_all}
use Rattle.nostr_filter.specs.declared.conditions.TagCondition.{TagCondition}
use Rattle.nostr_filter.specs.Tags.{letters, stand_among, are_in_order}

-- the letters of conditions
abbrev pub letters_of : List TagCondition → List ℕ
letters_of cs = map (λ (c : TagCondition). c.letter) cs

pub none_among : (xs : List ℕ) → stand_among xs [] ≡ true
none_among [] = refl
none_among (x ∷ xs) = refl

eqb_itself : (x : ℕ) → (x == x) ≡ true
eqb_itself x = grind (arith, nat_tests)

-- ---- more to stand among, and less that stands

more_at : (b : Bool) (xs : List ℕ) (y : ℕ) (ys : List ℕ) → stand_among xs (y ∷ ys) ≡ true → stand_among xs ys ≡ true → cond b (stand_among xs ys) (stand_among xs (y ∷ ys)) ≡ true
more_at true xs y ys h rest = rest
more_at false xs y ys h rest = h

more_by : (xs : List ℕ) → ((y : ℕ) (ys : List ℕ) → stand_among xs (y ∷ ys) ≡ true → stand_among xs ys ≡ true) → (x : ℕ) (ys : List ℕ) → stand_among xs ys ≡ true → stand_among (x ∷ xs) ys ≡ true
more_by xs rest x [] h = refl
more_by xs rest x (y ∷ ys) h = more_at (x == y) xs y ys h (rest y ys h)

rest_at : (b : Bool) (xs : List ℕ) (x y : ℕ) (ys : List ℕ) → ((z : ℕ) (zs : List ℕ) → stand_among xs (z ∷ zs) ≡ true → stand_among xs zs ≡ true)
    → cond b (stand_among xs ys) (stand_among xs (y ∷ ys)) ≡ true → stand_among (x ∷ xs) ys ≡ true
rest_at true xs x y ys rest h = more_by xs rest x ys h
rest_at false xs x y ys rest h = more_by xs rest x ys (rest y ys h)

pub rest_among : (xs : List ℕ) (y : ℕ) (ys : List ℕ) → stand_among xs (y ∷ ys) ≡ true → stand_among xs ys ≡ true
rest_among [] y ys h = absurd (true≢false (sym h))
rest_among (x ∷ xs) y ys h = rest_at (x == y) xs x y ys (λ z zs. rest_among xs z zs) h

pub more_among : (x : ℕ) (xs ys : List ℕ) → stand_among xs ys ≡ true → stand_among (x ∷ xs) ys ≡ true
more_among x xs ys h = more_by xs (rest_among xs) x ys h

pub first_among : (x : ℕ) (xs ys : List ℕ) → stand_among xs ys ≡ true → stand_among (x ∷ xs) (x ∷ ys) ≡ true
first_among x xs ys h = rw (eqb_itself x) h

-- ---- what holds of all holds of those that stand among them

all_at : (p : ℕ → Bool) (b : Bool) (x y : ℕ) (xs ys : List ℕ) → (x == y) ≡ b → p x ≡ true
    → (stand_among xs ys ≡ true → list_all p ys ≡ true) → (stand_among xs (y ∷ ys) ≡ true → list_all p (y ∷ ys) ≡ true)
    → cond b (stand_among xs ys) (stand_among xs (y ∷ ys)) ≡ true → list_all p (y ∷ ys) ≡ true
all_at p true x y xs ys is px here later h = let e : x ≡ y = eqb-true x y is in rw (← e, px) (here h)
all_at p false x y xs ys is px here later h = later h

pub all_among : (p : ℕ → Bool) (xs ys : List ℕ) → list_all p xs ≡ true → stand_among xs ys ≡ true → list_all p ys ≡ true
all_among p [] [] all h = refl
all_among p [] (y ∷ ys) all h = absurd (true≢false (sym h))
all_among p (x ∷ xs) [] all h = refl
all_among p (x ∷ xs) (y ∷ ys) all h =
    let parts = and_parts (p x) (list_all p xs) all in
    all_at p (x == y) x y xs ys refl parts.0 (all_among p xs ys parts.1) (all_among p xs (y ∷ ys) parts.1) h

small_at : (cs : List TagCondition) (k : ℕ) (d : TagCondition) → list_all (λ x. nat_lt x 128) (letters_of cs) ≡ true → k < length cs → (get_or cs k d).letter < 128
small_at [] k d all below = absurd (omega arith)
small_at (c ∷ cs) zero d all below = ltb-true c.letter 128 (and_parts (nat_lt c.letter 128) _ all).0
small_at (c ∷ cs) (suc k) d all below = small_at cs k d (and_parts (nat_lt c.letter 128) _ all).1 (omega arith)

letters_below : list_all (λ x. nat_lt x 128) letters ≡ true
unfolding letters
letters_below = refl

-- letters are ASCII
pub letter_small : (cs : List TagCondition) (k : ℕ) (d : TagCondition) → are_in_order cs ≡ true → k < length cs → (get_or cs k d).letter < 128
letter_small cs k d up below = small_at cs k d (all_among (λ x. nat_lt x 128) letters (letters_of cs) letters_below up) below

small_letters : (xs : List ℕ) (k : ℕ) → list_all (λ x. nat_lt x 128) xs ≡ true → k < length xs → get_or xs k 0 < 128
small_letters [] k all below = absurd (omega arith)
small_letters (x ∷ xs) zero all below = ltb-true x 128 (and_parts (nat_lt x 128) _ all).0
small_letters (x ∷ xs) (suc k) all below = small_letters xs k (and_parts (nat_lt x 128) _ all).1 (omega arith)

pub fifty_two : length letters ≡ 52
unfolding letters
fifty_two = refl

pub letters_are : letters ≡ 65 ∷ 66 ∷ 67 ∷ 68 ∷ 69 ∷ 70 ∷ 71 ∷ 72 ∷ 73 ∷ 74 ∷ 75 ∷ 76 ∷ 77 ∷ 78 ∷ 79 ∷ 80 ∷ 81 ∷ 82 ∷ 83 ∷ 84 ∷ 85 ∷ 86 ∷ 87 ∷ 88 ∷ 89 ∷ 90 ∷ 97 ∷ 98 ∷ 99 ∷ 100 ∷ 101 ∷ 102 ∷ 103 ∷ 104 ∷ 105 ∷ 106 ∷ 107 ∷ 108 ∷ 109 ∷ 110 ∷ 111 ∷ 112 ∷ 113 ∷ 114 ∷ 115 ∷ 116 ∷ 117 ∷ 118 ∷ 119 ∷ 120 ∷ 121 ∷ 122 ∷ []
unfolding letters
letters_are = refl

pub small_letter : (k : ℕ) → k < 52 → get_or letters k 0 < 128
small_letter k below = small_letters letters k letters_below (omega (arith, fifty_two))

-- ---- one step of a walk

pub step_same : (xs : List ℕ) (cs : List TagCondition) (i n x : ℕ) (c : TagCondition) → i < length xs → n < length cs → get_or xs i 0 ≡ x → get_or cs n c ≡ c → c.letter ≡ x
    → stand_among (drop i xs) (letters_of (drop n cs)) ≡ stand_among (drop (i + 1) xs) (letters_of (drop (n + 1) cs))
step_same xs cs i n x c below within at this is =
    let test : (x == c.letter) ≡ true = grind (arith, nat_tests) in
    rw (drop_more xs i 0 below, drop_more cs n c within, at, this, test) refl

pub step_other : (xs : List ℕ) (cs : List TagCondition) (i n x : ℕ) (c : TagCondition) → i < length xs → n < length cs → get_or xs i 0 ≡ x → get_or cs n c ≡ c → ¬ (c.letter ≡ x)
    → stand_among (drop i xs) (letters_of (drop n cs)) ≡ stand_among (drop (i + 1) xs) (letters_of (drop n cs))
step_other xs cs i n x c below within at this other =
    let test : (x == c.letter) ≡ false = grind (arith, nat_tests) in
    let rest = drop (i + 1) xs in
    let xs_is : drop i xs ≡ x ∷ rest = drop_more xs i 0 below ∙ ap (λ h. h ∷ rest) at in
    let cs_is : drop n cs ≡ c ∷ drop (n + 1) cs = drop_more cs n c within ∙ ap (λ h. h ∷ drop (n + 1) cs) this in
    let moved : stand_among (x ∷ rest) (letters_of (c ∷ drop (n + 1) cs)) ≡ stand_among rest (letters_of (c ∷ drop (n + 1) cs)) = rw test refl in
    ap (λ l. stand_among l (letters_of (drop n cs))) xs_is
    ∙ subst (λ (l : List TagCondition). stand_among (x ∷ rest) (letters_of l) ≡ stand_among rest (letters_of l)) (sym cs_is) moved

pub step_end : (xs : List ℕ) (cs : List TagCondition) (i n : ℕ) → length cs ≤ n
    → stand_among (drop i xs) (letters_of (drop n cs)) ≡ stand_among (drop (i + 1) xs) (letters_of (drop n cs))
step_end xs cs i n past = rw (drop_all n cs past) (none_among (drop i xs) ∙ sym (none_among (drop (i + 1) xs)))

pub walk_end : (cs : List TagCondition) (n : ℕ) → n ≤ length cs → nat_eq n (length cs) ≡ stand_among [] (letters_of (drop n cs))
walk_end [] zero h = refl
walk_end [] (suc n) h = absurd (omega arith)
walk_end (c ∷ cs) zero h = grind (arith, nat_tests)
walk_end (c ∷ cs) (suc n) h = let later = walk_end cs n (omega arith) in grind (arith, nat_tests)
