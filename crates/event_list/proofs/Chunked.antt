-- Lists in chunks.
use Rattle.std.proofs.Common.{◌≡◌, ℕ, zero, suc, ◌+◌, ◌-◌, ◌*◌, ◌/◌, ◌%◌, ◌<◌, ◌≤◌, ◌^◌, List, [], ◌∷◌, ◌++◌, length, get_or, Some, slice_get, take, refl, sym, ap, subst, ◌∙◌, arith, append_assoc, length-append}
use Rattle.std.proofs.lemmas.List.{append-nil, get_or_append_left, get_or-append-add}
use Rattle.std.proofs.lemmas.Option.{slice_get_within, get_or_from_slice_get, slice_get-get_or}
use Rattle.std.proofs.lemmas.Grind.{flat_map-append}
use Rattle.std.proofs.Math.Seq.{take-suc}
use Rattle.event_list.specs.Chunks.{joined, AreFull, IsChunked}

pub joined_length : {A : Type 0} (chunks : List (List A)) → AreFull chunks → length (joined chunks) ≡ length chunks * 128
joined_length [] h = refl
joined_length (c ∷ chunks) h = omega (arith, length-append c (joined chunks), h.0, joined_length chunks h.1)

joined_at : {A : Type 0} (chunks : List (List A)) (q r : ℕ) (c : List A) (d : A) → AreFull chunks → q < length chunks → r < 128
    → get_or (joined chunks) (q * 128 + r) d ≡ get_or (get_or chunks q c) r d
joined_at [] q r c d h lt low = absurd (omega arith)
joined_at (x ∷ chunks) zero r c d h lt low =
    let at : zero * 128 + r ≡ r = omega arith in
    ap (λ n. get_or (x ++ joined chunks) n d) at ∙ get_or_append_left x (joined chunks) d r (omega (arith, h.0))
joined_at (x ∷ chunks) (suc q) r c d h lt low =
    let at : suc q * 128 + r ≡ length x + (q * 128 + r) = omega (arith, h.0) in
    ap (λ n. get_or (x ++ joined chunks) n d) at ∙ get_or-append-add x (joined chunks) (q * 128 + r) d ∙ joined_at chunks q r c d h.1 (omega arith) low

pub full_at : {A : Type 0} (chunks : List (List A)) (i : ℕ) (d : List A) → AreFull chunks → i < length chunks → length (get_or chunks i d) ≡ 128
full_at [] i d h lt = absurd (omega arith)
full_at (c ∷ chunks) zero d h lt = h.0
full_at (c ∷ chunks) (suc i) d h lt = full_at chunks i d h.1 (omega arith)

-- an item of a full chunk
pub found_full : {A : Type 0} (chunks : List (List A)) (c : List A) (place : ℕ) (x : A) → AreFull chunks → place < length (joined chunks)
    → get_or chunks (place / 128) c ≡ c → slice_get c (place % 128) ≡ Some x → slice_get (joined chunks) place ≡ Some x
found_full chunks c place x h lt at is =
    let all = joined_length chunks h in
    let cut : place / 128 * 128 + place % 128 ≡ place = omega arith in
    let low : place % 128 < 128 = omega arith in
    let chunk : place / 128 < length chunks = omega (arith, all, lt) in
    slice_get-get_or (joined chunks) place x lt
    ∙ ap Some (ap (λ n. get_or (joined chunks) n x) (sym cut)
    ∙ joined_at chunks (place / 128) (place % 128) c x h chunk low
    ∙ ap (λ b. get_or b (place % 128) x) at
    ∙ get_or_from_slice_get c (place % 128) x x is)

pub found_first : {A : Type 0} (xs ys : List A) (place : ℕ) (x : A) → place < length xs → slice_get xs place ≡ Some x → slice_get (xs ++ ys) place ≡ Some x
found_first xs ys place x lt is =
    slice_get-get_or (xs ++ ys) place x (omega (arith, length-append xs ys, lt))
    ∙ ap Some (get_or_append_left xs ys x place lt ∙ get_or_from_slice_get xs place x x is)

pub found_last : {A : Type 0} (xs ys : List A) (n place : ℕ) (x : A) → n ≡ length xs → n ≤ place → slice_get ys (place - n) ≡ Some x → slice_get (xs ++ ys) place ≡ Some x
found_last xs ys n place x all le is =
    let within = slice_get_within ys (place - n) x is in
    let cut : place ≡ length xs + (place - n) = omega (arith, all) in
    slice_get-get_or (xs ++ ys) place x (omega (arith, length-append xs ys, all, within))
    ∙ ap Some (ap (λ k. get_or (xs ++ ys) k x) cut ∙ get_or-append-add xs ys (place - n) x ∙ get_or_from_slice_get ys (place - n) x x is)

full_more : {A : Type 0} (chunks : List (List A)) (c : List A) → AreFull chunks → length c ≡ 128 → AreFull (chunks ++ c ∷ [])
full_more [] c h is = (is, tt)
full_more (x ∷ chunks) c h is = (h.0, full_more chunks c h.1 is)

-- a full last chunk becomes one of the full ones
pub same_list : {A : Type 0} (chunks more : List (List A)) (last : List A) → more ≡ chunks ++ last ∷ [] → joined more ++ [] ≡ joined chunks ++ last
same_list chunks more last is =
    append-nil (joined more) ∙ ap joined is ∙ flat_map-append (λ c. c) chunks (last ∷ []) ∙ ap (λ xs. joined chunks ++ xs) (append-nil last)

pub chunked_more : {A : Type 0} (chunks more : List (List A)) (last : List A) → more ≡ chunks ++ last ∷ [] → length last ≡ 128 → IsChunked chunks last → IsChunked more []
chunked_more chunks more last is len h = record {
  whole = subst AreFull (sym is) (full_more chunks last h.whole len);
  short = omega arith;
  few = omega (arith, ap length (same_list chunks more last is), h.few);
}

pub chunked_push : {A : Type 0} (chunks : List (List A)) (last longer : List A) (e : A) → longer ≡ last ++ e ∷ [] → length last < 128
    → length (joined chunks ++ last) + 1 < 2 ^ 64 → IsChunked chunks last → IsChunked chunks longer
chunked_push chunks last longer e is lt room h = record {
  whole = h.whole;
  short = omega (arith, ap length is, length-append last (e ∷ []), lt);
  few = omega (arith, ap length is, length-append last (e ∷ []), length-append (joined chunks) last, length-append (joined chunks) longer, room);
}

pub pushed : {A : Type 0} (chunks : List (List A)) (last longer : List A) (e : A) → longer ≡ last ++ e ∷ [] → joined chunks ++ longer ≡ (joined chunks ++ last) ++ e ∷ []
pushed chunks last longer e is = ap (λ xs. joined chunks ++ xs) is ∙ sym (append_assoc (joined chunks) last (e ∷ []))

-- one turn of a loop over a list
pub took_more : {X : Type 0} (xs : List X) (i : ℕ) (x : X) → slice_get xs i ≡ Some x → take (i + 1) xs ≡ take i xs ++ x ∷ []
took_more xs i x at =
    let next : i + 1 ≡ suc i = omega arith in
    ap (λ n. take n xs) next ∙ take-suc xs i x (slice_get_within xs i x at) ∙ ap (λ y. take i xs ++ y ∷ []) (get_or_from_slice_get xs i x x at)
