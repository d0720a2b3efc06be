-- The first line that is wrong.
use Rattle.std.proofs.Common.{◌≡◌, ◌≢◌, ℕ, ◌+◌, ◌-◌, ◌⊎◌, inl, inr, List, [], ◌∷◌, ◌++◌, length, take, map, refl, ap, sym, ◌∙◌, subst, arith, append_assoc, length-append, take_at}
use Rattle.std.specs.List.{All}
use Rattle.std.proofs.lemmas.List.{append-nil, length-map}
use Rattle.std.proofs.lemmas.List.Elements.{All-nil, All-head, All-tail}
use Rattle.item_key.specs.declared.Item.{Item}
use Rattle.mirror_run.specs.Lines.{FirstIsNot}
use Rattle.mirror_run.specs.ItemLists.{item_line, IsItem, IsItemLine, mine_line, theirs_line, input_lines, Begins, IsFirstWrong}
use Rattle.mirror_run.proofs.ItemLemmas.{length-line}

-- an item's line is longer than the word
line_not_theirs : (item : Item) → IsItem item → item_line item ≡ theirs_line → ⊥
line_not_theirs item is same = omega (arith, length-line theirs_line item is (sym same))

-- what follows the items of the first list
after_mine : (mine m : List Item) (l : List ℕ) (after rest : List (List ℕ)) → All IsItem mine → All IsItem m
    → map item_line mine ++ l ∷ after ≡ map item_line m ++ theirs_line ∷ rest → IsItemLine l ⊎ (l ≡ theirs_line)
after_mine [] [] l after rest a b e = inr (cc)
after_mine [] (x ∷ m) l after rest a b e = inl (x, All-head IsItem x m b, cc)
after_mine (y ∷ ys) [] l after rest a b e = absurd (line_not_theirs y (All-head IsItem y ys a) (cc))
after_mine (y ∷ ys) (x ∷ m) l after rest a b e = after_mine ys m l after rest (All-tail IsItem y ys a) (All-tail IsItem x m b) (cc)

-- the first list alone is no input
mine_alone : (mine m : List Item) (rest : List (List ℕ)) → All IsItem mine → map item_line mine ≡ map item_line m ++ theirs_line ∷ rest → ⊥
mine_alone [] [] rest a e = cc
mine_alone [] (x ∷ m) rest a e = cc
mine_alone (y ∷ ys) [] rest a e = line_not_theirs y (All-head IsItem y ys a) (cc)
mine_alone (y ∷ ys) (x ∷ m) rest a e = mine_alone ys m rest (All-tail IsItem y ys a) (cc)

-- what follows the items of the second list
after_items : (theirs t : List Item) (l : List ℕ) (after : List (List ℕ)) → All IsItem t → map item_line theirs ++ l ∷ after ≡ map item_line t → IsItemLine l
after_items [] [] l after b e = cc
after_items [] (x ∷ t) l after b e = (x, All-head IsItem x t b, cc)
after_items (y ∷ ys) [] l after b e = cc
after_items (y ∷ ys) (x ∷ t) l after b e = after_items ys t l after (All-tail IsItem x t b) (cc)

after_theirs : (mine m theirs t : List Item) (l : List ℕ) (after : List (List ℕ)) → All IsItem mine → All IsItem m → All IsItem t
    → map item_line mine ++ theirs_line ∷ (map item_line theirs ++ l ∷ after) ≡ map item_line m ++ theirs_line ∷ map item_line t → IsItemLine l
after_theirs [] [] theirs t l after a b d e = after_items theirs t l after d (cc)
after_theirs [] (x ∷ m) theirs t l after a b d e = absurd (line_not_theirs x (All-head IsItem x m b) (cc))
after_theirs (y ∷ ys) [] theirs t l after a b d e = absurd (line_not_theirs y (All-head IsItem y ys a) (cc))
after_theirs (y ∷ ys) (x ∷ m) theirs t l after a b d e = after_theirs ys m theirs t l after (All-tail IsItem y ys a) (All-tail IsItem x m b) d (cc)

-- after lines that begin an input, and are none, a line with which they don't, or the end
pub wrong_after : (front rest lines : List (List ℕ)) (n : ℕ) → lines ≡ front ++ rest → n ≡ length front + 1 → Begins front
    → (rest ≡ [] → (mine theirs : List Item) → All IsItem mine → All IsItem theirs → front ≢ input_lines mine theirs)
    → FirstIsNot (λ l. Begins (front ++ l ∷ [])) rest → IsFirstWrong lines n
wrong_after front [] lines n e at begins ended wrong =
    let P : List (List ℕ) → Type 0 = λ t. Begins t in
    let len : length lines ≡ length front = ap length e ∙ ap length (append-nil front) in
    let before : take (n - 1) lines ≡ front = ap (take (n - 1)) e ∙ take_at front [] (n - 1) (omega arith) in
    record {
      counted = omega arith;
      near = omega arith;
      before = subst P (sym before) begins;
      wrong = λ within. absurd (omega arith);
      ended = λ past mine theirs a b same. ended refl mine theirs a b (sym (e ∙ append-nil front) ∙ same);
    }
wrong_after front (l ∷ ls) lines n e at begins ended wrong =
    let P : List (List ℕ) → Type 0 = λ t. Begins t in
    let len : length lines ≡ length front + length (l ∷ ls) = ap length e ∙ length-append front (l ∷ ls) in
    let before : take (n - 1) lines ≡ front = ap (take (n - 1)) e ∙ take_at front (l ∷ ls) (n - 1) (omega arith) in
    let one : length (front ++ l ∷ []) ≡ n = length-append front (l ∷ []) ∙ sym at in
    let here : take n lines ≡ front ++ l ∷ [] =
    ap (take n) (e ∙ sym (append_assoc front (l ∷ []) ls)) ∙ take_at (front ++ l ∷ []) ls n one in
    record {
      counted = omega arith;
      near = omega arith;
      before = subst P (sym before) begins;
      wrong = λ within b. wrong (subst P here b);
      ended = λ past. absurd (omega arith);
    }

-- the first line isn't `mine`
pub wrong_at_mine : (lines : List (List ℕ)) → FirstIsNot (λ line. line ≡ mine_line) lines → IsFirstWrong lines 1
wrong_at_mine [] first =
    wrong_after [] [] [] 1 refl refl ([], [], input_lines [] [], All-nil IsItem, All-nil IsItem, refl) (λ none m t a b same. cc) tt
wrong_at_mine (l ∷ ls) first =
    wrong_after [] (l ∷ ls) (l ∷ ls) 1 refl refl ([], [], input_lines [] [], All-nil IsItem, All-nil IsItem, refl) (λ none m t a b same. cc)
    (λ begins. let e = begins.5 in first (cc))

-- the line after the first list isn't `theirs`
pub wrong_at_theirs : (mine : List Item) (rest lines : List (List ℕ)) (n : ℕ) → lines ≡ mine_line ∷ (map item_line mine ++ rest) → n ≡ length mine + 2 → All IsItem mine
    → FirstIsNot IsItemLine rest → FirstIsNot (λ line. line ≡ theirs_line) rest → IsFirstWrong lines n
wrong_at_theirs mine [] lines n e at a items first =
    wrong_after (mine_line ∷ map item_line mine) [] lines n e (omega (arith, length-map mine item_line))
    (mine, [], theirs_line ∷ [], a, All-nil IsItem, refl)
    (λ none m t am bt same. mine_alone mine m (map item_line t) a (cc)) tt
wrong_at_theirs mine (l ∷ ls) lines n e at a items first =
    wrong_after (mine_line ∷ map item_line mine) (l ∷ ls) lines n e (omega (arith, length-map mine item_line))
    (mine, [], theirs_line ∷ [], a, All-nil IsItem, refl)
    (λ none m t am bt same. cc)
    (λ begins.
    let m = begins.0 in
    let t = begins.1 in
    let after = begins.2 in
    let same : map item_line mine ++ l ∷ after ≡ map item_line m ++ theirs_line ∷ map item_line t =
    sym (append_assoc (map item_line mine) (l ∷ []) after) ∙ (let whole = begins.5 in cc) in
    elim (after_mine mine m l after (map item_line t) a begins.3 same) [ inl item ↦ items item | inr word ↦ first word ])

-- a line follows the second list
pub wrong_at_end : (mine theirs : List Item) (rest lines : List (List ℕ)) (n : ℕ)
    → lines ≡ mine_line ∷ (map item_line mine ++ theirs_line ∷ (map item_line theirs ++ rest)) → n ≡ length mine + length theirs + 3
    → All IsItem mine → All IsItem theirs → FirstIsNot IsItemLine rest → rest ≢ [] → IsFirstWrong lines n
wrong_at_end mine theirs [] lines n e at a b items some = absurd (some refl)
wrong_at_end mine theirs (l ∷ ls) lines n e at a b items some =
    let told = map item_line mine ++ theirs_line ∷ map item_line theirs in
    let grouped : lines ≡ input_lines mine theirs ++ l ∷ ls =
    e ∙ ap (λ t. mine_line ∷ t) (sym (append_assoc (map item_line mine) (theirs_line ∷ map item_line theirs) (l ∷ ls))) in
    let len : length told ≡ length mine + length theirs + 1 =
    length-append (map item_line mine) (theirs_line ∷ map item_line theirs) ∙ omega (arith, length-map mine item_line, length-map theirs item_line) in
    wrong_after (input_lines mine theirs) (l ∷ ls) lines n grouped (omega arith) (mine, theirs, [], a, b, append-nil (input_lines mine theirs))
    (λ none m t am bt same. cc)
    (λ begins.
    let m = begins.0 in
    let t = begins.1 in
    let after = begins.2 in
    let regrouped : (told ++ l ∷ []) ++ after ≡ map item_line mine ++ theirs_line ∷ (map item_line theirs ++ l ∷ after) =
    append_assoc told (l ∷ []) after ∙ append_assoc (map item_line mine) (theirs_line ∷ map item_line theirs) (l ∷ after) in
    let whole : (told ++ l ∷ []) ++ after ≡ map item_line m ++ theirs_line ∷ map item_line t = (let e = begins.5 in cc) in
    items (after_theirs mine m theirs t l after a begins.3 begins.4 (sym regrouped ∙ whole)))
