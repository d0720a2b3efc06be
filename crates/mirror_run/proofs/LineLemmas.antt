-- The first line of a text.
use Rattle.std.proofs.Common.{◌≡◌, ℕ, zero, suc, ◌<◌, ◌==◌, Bool, true, false, List, [], ◌∷◌, ◌++◌, length, take, drop, slice_index, refl, ap, if◌then◌else◌, arith}
use Rattle.std.proofs.lemmas.Bool.{eqb-true}
use Rattle.mirror_run.specs.Lines.{lines_of, onto_line}

not_true : (b : Bool) → (b ≡ true → ⊥) → b ≡ false
not_true true never = absurd (never refl)
not_true false never = refl

-- the first line ends before the first line feed
pub lines_of-cut : (text : List ℕ) (at : ℕ) → at < length text → ((k : ℕ) → k < at → (slice_index text k == 10) ≡ true → ⊥)
    → (slice_index text at == 10) ≡ true → lines_of text ≡ take at text ∷ lines_of (drop (suc at) text)
lines_of-cut [] at lt never found = absurd (omega arith)
lines_of-cut (b ∷ bs) zero lt never found = rw found refl
lines_of-cut (b ∷ bs) (suc k) lt never found =
    let off : (b == 10) ≡ false = not_true _ (never 0 (omega arith)) in
    let ih : lines_of bs ≡ take k bs ∷ lines_of (drop (suc k) bs) = lines_of-cut bs k (omega arith) (λ j l. never (suc j) (omega arith)) found in
    rw off (ap (onto_line b) ih)

-- and the text is that line, the line feed and the rest
pub parts_at : (text : List ℕ) (at : ℕ) → at < length text → (slice_index text at == 10) ≡ true → text ≡ take at text ++ 10 ∷ drop (suc at) text
parts_at [] at lt found = absurd (omega arith)
parts_at (b ∷ bs) zero lt found = ap (λ c. c ∷ bs) (eqb-true b 10 found)
parts_at (b ∷ bs) (suc k) lt found = ap (λ t. b ∷ t) (parts_at bs k (omega arith) found)

-- a text without a line feed is one line
whole : (b : ℕ) (bs : List ℕ) → ((k : ℕ) → k < length (b ∷ bs) → (slice_index (b ∷ bs) k == 10) ≡ true → ⊥) → lines_of (b ∷ bs) ≡ (b ∷ bs) ∷ []
whole b [] never = let off : (b == 10) ≡ false = not_true _ (never 0 (omega arith)) in rw off refl
whole b (c ∷ cs) never =
    let off : (b == 10) ≡ false = not_true _ (never 0 (omega arith)) in
    let ih : lines_of (c ∷ cs) ≡ (c ∷ cs) ∷ [] = whole c cs (λ j l. never (suc j) (omega arith)) in
    rw off (ap (onto_line b) ih)

pub lines_of-whole : (text : List ℕ) → 0 < length text → ((k : ℕ) → k < length text → (slice_index text k == 10) ≡ true → ⊥) → lines_of text ≡ text ∷ []
lines_of-whole [] some never = absurd (omega arith)
lines_of-whole (b ∷ bs) some never = whole b bs never

onto_some : (b : ℕ) (lines : List (List ℕ)) → onto_line b lines ≡ [] → ⊥
onto_some b [] e = cc
onto_some b (l ∷ ls) e = cc

first_some : (feed : Bool) (b : ℕ) (bs : List ℕ) → (if feed then [] ∷ lines_of bs else onto_line b (lines_of bs)) ≡ [] → ⊥
first_some true b bs e = cc
first_some false b bs e = onto_some b (lines_of bs) e

-- only the empty text has no line
pub some_lines : (text : List ℕ) → 0 < length text → lines_of text ≡ [] → ⊥
some_lines [] some e = absurd (omega arith)
some_lines (b ∷ bs) some e = first_some (b == 10) b bs e
