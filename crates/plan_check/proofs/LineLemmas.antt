-- The first line of a text.
use Rattle.std.proofs.Common.{◌≡◌, ◌≢◌, ℕ, ◌<◌, ◌==◌, Bool, true, false, List, [], ◌∷◌, ◌++◌, length, refl, ap, sym, subst, arith, length-append, drop, take, take-append-drop, slice_index, ◌+◌, ◌∙◌, if◌then◌else◌}
use Rattle.std.proofs.Math.Seq.{get_or-append_seam}
use Rattle.std.proofs.lemmas.List.{append_cancel_right, drop_more, get_or-take, length-take-le, get_or_default}
use Rattle.std.specs.List.{All}
use Rattle.std.proofs.lemmas.Bool.{ne_eqb, eqb-true, eq-eqb}
use Rattle.std.proofs.lemmas.List.Elements.{All-head, All-tail}
use Rattle.plan_check.specs.TextLines.{lines_of, onto_line, ended, IsEnded, FirstIsNot}

abbrev pub NoFeed : ℕ → Type 0
NoFeed b = b ≢ 10

-- the first line ends with the first line feed
pub lines_of-first : (line rest : List ℕ) → All NoFeed line → lines_of (line ++ 10 ∷ rest) ≡ ended line ∷ lines_of rest
lines_of-first [] rest h = refl
lines_of-first (b ∷ bs) rest h =
    let off : (b == 10) ≡ false = ne_eqb b 10 (All-head NoFeed b bs h) in
    rw off (ap (onto_line b) (lines_of-first bs rest (All-tail NoFeed b bs h)))

-- a text without a line feed is one line
pub lines_of-one : (b : ℕ) (bs : List ℕ) → All NoFeed (b ∷ bs) → lines_of (b ∷ bs) ≡ (b ∷ bs) ∷ []
lines_of-one b [] h = let off : (b == 10) ≡ false = ne_eqb b 10 (All-head NoFeed b [] h) in rw off refl
lines_of-one b (c ∷ cs) h =
    let off : (b == 10) ≡ false = ne_eqb b 10 (All-head NoFeed b (c ∷ cs) h) in
    let ih : lines_of (c ∷ cs) ≡ (c ∷ cs) ∷ [] = lines_of-one c cs (All-tail NoFeed b (c ∷ cs) h) in
    rw off (ap (onto_line b) ih)

not_ended : (line : List ℕ) → All NoFeed line → IsEnded line → ⊥
not_ended line h (words, e) =
    let all : All NoFeed (words ++ 10 ∷ []) = subst (All NoFeed) e h in
    all (length words) 0 (omega (arith, length-append words (10 ∷ []))) (get_or-append_seam words 10 [] 0)

pub unended : (text : List ℕ) → All NoFeed text → FirstIsNot IsEnded (lines_of text)
unended [] h = tt
unended (b ∷ bs) h = subst (FirstIsNot IsEnded) (sym (lines_of-one b bs h)) (not_ended (b ∷ bs) h)

-- no place has a line feed
pub no_feed : (text : List ℕ) → ((k : ℕ) → k < length text → (slice_index text k == 10) ≡ true → ⊥) → All NoFeed text
no_feed text never = λ k d lt is. never k lt (eq-eqb (slice_index text k) 10 (get_or_default text k 0 d lt ∙ is))

-- the first line feed stands there
pub cut_there : (text : List ℕ) (at : ℕ) → at < length text → ((k : ℕ) → k < at → (slice_index text k == 10) ≡ true → ⊥)
    → (slice_index text at == 10) ≡ true → lines_of text ≡ ended (take at text) ∷ lines_of (drop (at + 1) text)
cut_there text at lt never found =
    let feed : slice_index text at ≡ 10 = eqb-true (slice_index text at) 10 found in
    let line : All NoFeed (take at text) = no_feed (take at text) (λ k within. let below : k < at = omega (arith, within, length-take-le at text (omega arith)) in rw (get_or-take at text k 0 below) (never k below)) in
    let parts : text ≡ take at text ++ 10 ∷ drop (at + 1) text = sym (take-append-drop at text) ∙ ap (λ t. take at text ++ t) (drop_more text at 0 lt ∙ ap (λ b. b ∷ drop (at + 1) text) feed) in
    ap lines_of parts ∙ lines_of-first (take at text) (drop (at + 1) text) line

-- lines that are the same with their line feeds are the same
pub same_words : (a b : List ℕ) → ended a ≡ ended b → a ≡ b
same_words a b e = append_cancel_right a b (10 ∷ []) e

onto_some : (b : ℕ) (lines : List (List ℕ)) → onto_line b lines ≡ [] → ⊥
onto_some b [] e = cc
onto_some b (l ∷ ls) e = cc

first_some : (feed : Bool) (b : ℕ) (bs : List ℕ) → (if feed then (10 ∷ []) ∷ lines_of bs else onto_line b (lines_of bs)) ≡ [] → ⊥
first_some true b bs e = cc
first_some false b bs e = onto_some b (lines_of bs) e

-- only the empty text has no line
pub some_lines : (text : List ℕ) → 0 < length text → lines_of text ≡ [] → ⊥
some_lines [] some e = absurd (omega arith)
some_lines (b ∷ bs) some e = first_some (b == 10) b bs e

pub no_lines : (text : List ℕ) → length text ≡ 0 → lines_of text ≡ []
no_lines [] none = refl
no_lines (b ∷ bs) none = absurd (omega arith)

pub no_text : (text : List ℕ) → lines_of text ≡ [] → length text ≡ 0
no_text [] e = refl
no_text (b ∷ bs) e = absurd (some_lines (b ∷ bs) (omega arith) e)
