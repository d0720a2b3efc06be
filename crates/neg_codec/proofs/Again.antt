-- What is spelled so is read.
use Rattle.std.proofs.Common.{◌≡◌, ℕ, zero, suc, ◌+◌, ◌-◌, ◌*◌, ◌<◌, ◌≤◌, true, false, ltb, List, [], ◌∷◌, ◌++◌, length, drop, replicate, Result, Ok, refl, sym, ap, subst, ◌∙◌, append_assoc, arith}
use Rattle.std.specs.Prelude.{All}
use Rattle.std.specs.List.{flat_map}
use Rattle.std.proofs.lemmas.Bool.{lt-ltb, le-ltb}
use Rattle.std.proofs.lemmas.List.{take_at, drop_at, length-append}
use Rattle.std.proofs.lemmas.List.Elements.{All-head, All-tail}
use Rattle.std.proofs.lemmas.List.Concat.{flat_map-cons}
use Rattle.neg_varint.specs.Spelling.{IsSpelling}
use Rattle.neg_varint.proofs.Laws.{number_again}
use Rattle.item_key.specs.declared.Id.{Id}
use Rattle.item_key.specs.declared.Item.{Item}
use Rattle.neg_codec.specs.declared.CodecFault.{CodecFault}
use Rattle.item_key.specs.Keys.{place, endless, least, item_of, IsId}
use Rattle.neg_codec.specs.Ranges.{Claim, skip, print, ids, Span}
use Rattle.neg_codec.specs.Text.{IsBound, SpellsBound, SpellsClaim, SpellsRange, SpellsRanges, Spells}
use Rattle.neg_codec.specs.Reading.{◌>>=◌, place_in, varint_at, front_at, time_of_code, bound_of, bound_at, ids_of, ids_at, payload_at, claim_at, range_at, ranges_at, versioned_at, message_at, longest}
use Rattle.neg_codec.proofs.Messages.{range_some}
use Rattle.neg_codec.proofs.Takes.{ok_is}

pub varint_again : (total n : ℕ) (text rest : List ℕ) → IsSpelling n text → varint_at total (text ++ rest) ≡ Ok (n, rest)
unfolding varint_at
varint_again total n text rest s = rw (number_again n text rest s, varint_at) refl

pub front_again : (total n : ℕ) (a rest : List ℕ) → length a ≡ n → front_at total n (a ++ rest) ≡ Ok (a, rest)
unfolding front_at
front_again total n a rest len =
    let long : ltb (length (a ++ rest)) n ≡ false = le-ltb _ _ (omega (arith, length-append a rest)) in
    rw (long, take_at a rest n len, drop_at a rest n len) refl

-- the time of a code, and the bound that it makes
time_again : (start before code : ℕ) (front : List ℕ) (upper : Item) → IsBound before code front upper → (t : ℕ) × (time_of_code start before code ≡ Ok t) × (bound_of t front ≡ upper)
unfolding time_of_code
time_again start before zero front upper b = (endless, refl, sym b)
time_again start before (suc more) front upper b =
    let lt : before + more < endless = omega (arith, b.0, b.1) in
    let test : ltb (before + more) endless ≡ true = lt-ltb _ _ lt in
    (before + more, rw test refl, rw test (ap (λ (t : ℕ). item_of t (front ++ replicate (32 - length front) 0)) (sym b.0) ∙ ap (item_of upper.time) (sym b.2)))

pub bound_again : (total : ℕ) (lower upper : Item) (text rest : List ℕ) → SpellsBound lower.time upper text → place lower ≤ place upper → bound_at total lower (text ++ rest) ≡ Ok (upper, rest)
unfolding bound_at
bound_again total lower upper text rest s le =
    let regrouped : text ++ rest ≡ s.code_text ++ (s.length_text ++ (s.front ++ rest)) =
    ap (λ (x : List ℕ). x ++ rest) s.parts ∙ append_assoc s.code_text (s.length_text ++ s.front) rest ∙ ap (λ (x : List ℕ). s.code_text ++ x) (append_assoc s.length_text s.front rest) in
    let t = time_again (place_in total (s.code_text ++ (s.length_text ++ (s.front ++ rest)))) lower.time s.code s.front upper s.bound in
    let short : ltb 32 (length s.front) ≡ false = le-ltb _ _ s.short in
    let up : ltb (place upper) (place lower) ≡ false = le-ltb _ _ le in
    ap (bound_at total lower) regrouped
    ∙ rw (varint_again total s.code s.code_text (s.length_text ++ (s.front ++ rest)) s.code_is, t.1, varint_again total (length s.front) s.length_text (s.front ++ rest) s.length_is, short, front_again total (length s.front) s.front rest refl, t.2, up) refl

-- ---- ids

length_ids : (is : List Id) → All IsId is → length (flat_map (λ (i : Id). i.0) is) ≡ 32 * length is
length_ids [] fits = refl
length_ids (i ∷ is) fits =
    let ih = length_ids is (All-tail IsId i is fits) in
    let e : length (flat_map (λ (i : Id). i.0) (i ∷ is)) ≡ length i.0 + length (flat_map (λ (i : Id). i.0) is) = ap length (flat_map-cons (λ (i : Id). i.0) i is) ∙ length-append i.0 (flat_map (λ (i : Id). i.0) is) in
    omega (arith, ih, e, (All-head IsId i is fits).len)

ids_again : (is : List Id) → All IsId is → ids_of (length is) (flat_map (λ (i : Id). i.0) is) ≡ is
ids_again [] fits = refl
ids_again (i ∷ is) fits =
    let len = (All-head IsId i is fits).len in
    let text = flat_map (λ (i : Id). i.0) is in
    let ih = ids_again is (All-tail IsId i is fits) in
    let made = λ (bytes : List ℕ) (others : List Id). let first : Id = record { 0 = bytes } in first ∷ others in
    ap (ids_of (suc (length is))) (flat_map-cons (λ (i : Id). i.0) i is)
    ∙ ap (λ (x : List ℕ). made x (ids_of (length is) (drop 32 (i.0 ++ text)))) (take_at i.0 text 32 len)
    ∙ ap (λ (x : List ℕ). made i.0 (ids_of (length is) x)) (drop_at i.0 text 32 len)
    ∙ ap (made i.0) ih

pub claim_again : (total : ℕ) (c : Claim) (text rest : List ℕ) → SpellsClaim c text → claim_at total (text ++ rest) ≡ Ok (c, rest)
unfolding claim_at payload_at ids_at
claim_again total skip text rest s = rw (varint_again total 0 text rest s) refl
claim_again total (print p) text rest s =
    let regrouped : text ++ rest ≡ s.0 ++ (p ++ rest) = ap (λ (x : List ℕ). x ++ rest) s.2 ∙ append_assoc s.0 p rest in
    ap (claim_at total) regrouped ∙ rw (varint_again total 1 s.0 (p ++ rest) s.1, front_again total 16 p rest s.3) refl
claim_again total (ids is) text rest s =
    let list = flat_map (λ (i : Id). i.0) is in
    let regrouped : text ++ rest ≡ s.0 ++ (s.1 ++ (list ++ rest)) =
    ap (λ (x : List ℕ). x ++ rest) s.4 ∙ append_assoc s.0 (s.1 ++ list) rest ∙ ap (λ (x : List ℕ). s.0 ++ x) (append_assoc s.1 list rest) in
    ap (claim_at total) regrouped
    ∙ rw (varint_again total 2 s.0 (s.1 ++ (list ++ rest)) s.2, varint_again total (length is) s.1 (list ++ rest) s.3, front_again total (32 * length is) list rest (length_ids is s.5), ids_again is s.5) refl

-- ---- ranges

pub range_again : (total : ℕ) (lower : Item) (r : Span) (text rest : List ℕ) → SpellsRange lower r text → range_at total lower (text ++ rest) ≡ Ok (r, rest)
unfolding range_at
range_again total lower r text rest s =
    let regrouped : text ++ rest ≡ s.bound_text ++ (s.claim_text ++ rest) = ap (λ (x : List ℕ). x ++ rest) s.parts ∙ append_assoc s.bound_text s.claim_text rest in
    let test : ltb lower.time endless ≡ true = lt-ltb _ _ s.finite in
    ap (range_at total lower) regrouped
    ∙ rw (test, bound_again total lower r.upper s.bound_text (s.claim_text ++ rest) s.bound s.ascends, claim_again total r.claim s.claim_text rest s.claim) refl

abbrev one_range : ℕ → ℕ → Item → List ℕ → Result (List Span) CodecFault
one_range n total lower bytes = range_at total lower bytes >>= λ range. ranges_at n total range.0.upper range.1 >>= λ others. Ok (range.0 ∷ others)

pub ranges_step : (n total : ℕ) (lower : Item) (bytes : List ℕ) → 0 < length bytes → ranges_at (suc n) total lower bytes ≡ one_range n total lower bytes
unfolding ranges_at
ranges_step n total lower [] some = absurd (omega arith)
ranges_step n total lower (b ∷ bytes) some = refl

pub ranges_end : (n total : ℕ) (lower : Item) → ranges_at n total lower [] ≡ Ok []
unfolding ranges_at
ranges_end zero total lower = refl
ranges_end (suc n) total lower = refl

pub ranges_again : (n total : ℕ) (lower : Item) (rs : List Span) (bytes : List ℕ) → length bytes ≤ n → SpellsRanges lower rs bytes → ranges_at n total lower bytes ≡ Ok rs
ranges_again n total lower [] bytes le s = ap (ranges_at n total lower) s ∙ ranges_end n total lower
ranges_again zero total lower (r ∷ rs) bytes le s = absurd (omega (arith, ap length s.2, length-append s.0 s.1, range_some lower r s.0 s.3))
ranges_again (suc n) total lower (r ∷ rs) bytes le s =
    let some = range_some lower r s.0 s.3 in
    let len = length-append s.0 s.1 in
    let size : length bytes ≡ length (s.0 ++ s.1) = ap length s.2 in
    ap (ranges_at (suc n) total lower) s.2 ∙ ranges_step n total lower (s.0 ++ s.1) (omega (arith, some, len))
    ∙ rw (range_again total lower r s.0 s.1 s.3, ranges_again n total r.upper rs s.1 (omega (arith, some, len, size, le)) s.4) refl

pub message_again : (bytes : List ℕ) (rs : List Span) → length bytes ≤ longest → Spells bytes rs → message_at bytes ≡ Ok rs
unfolding message_at versioned_at
message_again bytes rs le s =
    let test : ltb longest (length (0x61 ∷ s.0)) ≡ false = le-ltb _ _ (omega (arith, ap length s.1, le)) in
    ap message_at s.1 ∙ rw test (ranges_again (length s.0) (length s.0 + 1) least rs s.0 (omega arith) s.2)

rest_is : (x : ℕ) (xs ys : List ℕ) → x ∷ xs ≡ x ∷ ys → xs ≡ ys
rest_is x xs ys e = cc

pub one_message : (bytes : List ℕ) (a b : List Span) → Spells bytes a → Spells bytes b → a ≡ b
one_message bytes a b s t =
    let same : t.0 ≡ s.0 = rest_is 0x61 t.0 s.0 (sym t.1 ∙ s.1) in
    let again = subst (λ (x : List ℕ). SpellsRanges least b x) same t.2 in
    ok_is a b (sym (ranges_again (length s.0) 0 least a s.0 (omega arith) s.2) ∙ ranges_again (length s.0) 0 least b s.0 (omega arith) again)
