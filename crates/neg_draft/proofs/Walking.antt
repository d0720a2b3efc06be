-- The range at a place of a list of ranges.
use Rattle.std.proofs.Common.{◌≡◌, ℕ, zero, suc, ◌+◌, ◌<◌, ◌≤◌, List, [], ◌∷◌, ◌++◌, length, map, take, drop, get_or, refl, sym, ap, ◌∙◌, arith}
use Rattle.std.proofs.lemmas.List.{take_more, map-append}
use Rattle.neg_codec.specs.declared.Range.{Range}
use Rattle.item_key.specs.declared.Item.{Item}
use Rattle.item_key.specs.Keys.{place}
use Rattle.neg_codec.specs.Ranges.{Span, Ascends, span_of}
use Rattle.neg_draft.specs.Coverage.{end_of}

split_there : {X : Type 0} → (xs : List X) (i : ℕ) (d : X) → i < length xs → xs ≡ take i xs ++ (get_or xs i d ∷ drop (suc i) xs)
split_there [] i d lt = absurd (omega arith)
split_there (x ∷ xs) zero d lt = refl
split_there {X} (x ∷ xs) (suc i) d lt = ap (λ (t : List X). x ∷ t) (split_there xs i d (omega (arith, lt)))

pub ranges_at : (ranges : List Range) (i : ℕ) (r : Range) → i < length ranges → r ≡ get_or ranges i r
    → map span_of ranges ≡ map span_of (take i ranges) ++ (span_of r ∷ map span_of (drop (suc i) ranges))
ranges_at ranges i r lt is =
    ap (map span_of) (split_there ranges i r lt) ∙ map-append span_of (take i ranges) (get_or ranges i r ∷ drop (suc i) ranges)
    ∙ ap (λ (x : Range). map span_of (take i ranges) ++ (span_of x ∷ map span_of (drop (suc i) ranges))) (sym is)

pub ranges_upto : (ranges : List Range) (i : ℕ) (r : Range) → i < length ranges → r ≡ get_or ranges i r
    → map span_of (take (i + 1) ranges) ≡ map span_of (take i ranges) ++ (span_of r ∷ [])
ranges_upto ranges i r lt is =
    ap (map span_of) (take_more ranges i r lt) ∙ map-append span_of (take i ranges) (get_or ranges i r ∷ [])
    ∙ ap (λ (x : Range). map span_of (take i ranges) ++ (span_of x ∷ [])) (sym is)

-- ranges of a message stand in order
pub ascends_after : (lower : Item) (front : List Span) (r : Span) (back : List Span) → Ascends lower (front ++ (r ∷ back)) → place (end_of lower front) ≤ place r.upper
ascends_after lower [] r back up = up.1
ascends_after lower (f ∷ front) r back up = ascends_after f.upper front r back up.2
