-- What is written for a message spells it.
use Rattle.std.proofs.Common.{◌≡◌, ◌≢◌, ℕ, zero, suc, ◌+◌, ◌-◌, ◌^◌, ◌<◌, ◌≤◌, inl, inr, Bool, true, false, ltb, eqb, List, [], ◌∷◌, ◌++◌, length, get_or, take, drop, replicate, refl, sym, ap, subst, ◌∙◌, append_assoc, arith, drop-cons}
use Rattle.std.specs.Prelude.{All}
use Rattle.std.proofs.lemmas.Bool.{lt-ltb, eq-eqb, ne_eqb, eqb-true}
use Rattle.std.proofs.lemmas.List.{length-take, append-nil, replicate-append-replicate}
use Rattle.std.proofs.lemmas.List.Folds.{drop_split}
use Rattle.std.proofs.lemmas.List.Elements.{All-head, All-tail}
use Rattle.neg_varint.specs.Spelling.{IsSpelling, spelling}
use Rattle.neg_varint.proofs.Sole.{spelling_spells}
use Rattle.item_key.specs.declared.Item.{Item}
use Rattle.item_key.specs.Keys.{place, endless, least, infinity, number_of_bytes}
use Rattle.neg_codec.specs.Ranges.{Claim, skip, print, ids, Span, Ascends, IsEdge, IsClaim, IsSpan, IsMessage}
use Rattle.neg_codec.specs.Text.{SpellsBound, SpellsClaim, SpellsRange, SpellsRanges, Spells}
use Rattle.neg_codec.specs.Encoding.{length_kept, bytes_kept, bound_text, claim_text, range_text, ranges_text, text_of}
use Rattle.item_key.proofs.Order.{number_below}

-- ---- the bytes that are kept

pub record Kept (bytes : List ℕ) : Type 0 where
  pub within : length_kept bytes ≤ length bytes
  pub parts : bytes ≡ bytes_kept bytes ++ replicate (length bytes - length_kept bytes) 0

kept_more : (b : ℕ) (bs : List ℕ) (m n : ℕ) → m ≡ suc n → bs ≡ take n bs ++ replicate (length bs - n) 0 → (b ∷ bs) ≡ take m (b ∷ bs) ++ replicate (length (b ∷ bs) - m) 0
kept_more b bs m n e h =
    let d : length (b ∷ bs) - suc n ≡ length bs - n = omega arith in
    rw (e, d) (ap (λ (x : List ℕ). b ∷ x) h)

none_kept : (bs : List ℕ) → length_kept bs ≡ 0 → Kept bs → bs ≡ replicate (length bs) 0
none_kept bs none k =
    let d : length bs - 0 ≡ length bs = omega arith in
    k.parts ∙ ap (λ (n : ℕ). take n bs ++ replicate (length bs - n) 0) none ∙ ap (λ (n : ℕ). replicate n 0) d

pub kept : (bytes : List ℕ) → Kept bytes
kept [] = record { within = omega arith; parts = refl }
kept (b ∷ bs) = go (eqb (b + length_kept bs) 0) refl (kept bs)
  where
    go : (t : Bool) → eqb (b + length_kept bs) 0 ≡ t → Kept bs → Kept (b ∷ bs)
    go true is k =
        let none : b + length_kept bs ≡ 0 = eqb-true _ _ is in
        let first : b ≡ 0 = omega arith in
        let zeros = none_kept bs (omega arith) k in
        let d : length (b ∷ bs) - 0 ≡ suc (length bs) = omega arith in
        record { within = rw is (omega arith); parts = rw (is, d) (ap (λ (x : ℕ). x ∷ bs) first ∙ ap (λ (x : List ℕ). 0 ∷ x) zeros) }
    go false is k =
        record { within = rw is (omega (arith, k.within)); parts = rw is (kept_more b bs (length_kept bs + 1) (length_kept bs) (omega arith) k.parts) }

-- a length with only zeros after it, and no zero before it
pub kept_at : (bytes : List ℕ) (n m : ℕ) → n + m ≡ length bytes → drop n bytes ≡ replicate m 0 → (0 < n → get_or bytes (n - 1) 0 ≢ 0) → length_kept bytes ≡ n
kept_at [] n m all zeros last = omega arith
kept_at (b ∷ bs) zero zero all zeros last = absurd (omega arith)
kept_at (b ∷ bs) zero (suc m) all zeros last =
    let first : b ≡ 0 = cc in
    let others : bs ≡ replicate m 0 = cc in
    let none = kept_at bs zero m (omega arith) others (λ some. absurd (omega arith)) in
    let test : eqb (b + length_kept bs) 0 ≡ true = eq-eqb _ _ (omega arith) in
    rw test refl
kept_at (b ∷ bs) (suc zero) m all zeros last =
    let some : b ≢ 0 = last (omega arith) in
    let none = kept_at bs zero m (omega arith) zeros (λ s. absurd (omega arith)) in
    let test : eqb (b + length_kept bs) 0 ≡ false = ne_eqb _ _ (λ e. some (omega arith)) in
    rw test (omega arith)
kept_at (b ∷ bs) (suc (suc k)) m all zeros last =
    let back : suc (suc k) - 1 ≡ suc k = omega arith in
    let here : suc k - 1 ≡ k = omega arith in
    let some : get_or bs k 0 ≢ 0 = rw back at (last (omega arith)) in
    let more = kept_at bs (suc k) m (omega arith) zeros (λ s. rw here some) in
    let test : eqb (b + length_kept bs) 0 ≡ false = ne_eqb _ _ (λ e. omega arith) in
    rw test (omega arith)

pub zeros_more : (bytes : List ℕ) (n k m p : ℕ) → k ≡ suc n → p ≡ suc m → n < length bytes → get_or bytes n 0 ≡ 0 → drop k bytes ≡ replicate m 0 → drop n bytes ≡ replicate p 0
zeros_more bytes n k m p e f lt zero_at zeros =
    let after : drop (suc n) bytes ≡ replicate m 0 = ap (λ (x : ℕ). drop x bytes) (sym e) ∙ zeros in
    drop-cons bytes n 0 lt ∙ ap (λ (x : ℕ). x ∷ drop (suc n) bytes) zero_at ∙ ap (λ (x : List ℕ). 0 ∷ x) after ∙ ap (λ (x : ℕ). replicate x 0) (sym f)

-- eight zeros, and only zeros after them
pub zeros_before : (bytes : List ℕ) (n k m p : ℕ) → k ≡ n + 8 → p ≡ 8 + m → take 8 (drop n bytes) ≡ replicate 8 0 → drop k bytes ≡ replicate m 0 → drop n bytes ≡ replicate p 0
zeros_before bytes n k m p e f word zeros =
    let eight : k - n ≡ 8 = omega (arith, e) in
    drop_split bytes n k (omega (arith, e)) ∙ ap (λ (x : ℕ). take x (drop n bytes) ++ drop k bytes) eight ∙ ap (λ (x : List ℕ). x ++ drop k bytes) word
    ∙ ap (λ (x : List ℕ). replicate 8 0 ++ x) zeros ∙ replicate-append-replicate 8 m 0 ∙ ap (λ (x : ℕ). replicate x 0) (sym f)

-- ---- bounds

pub bound_spells : (before : ℕ) (upper : Item) → IsEdge upper → before ≤ upper.time → SpellsBound before upper (bound_text before upper)
bound_spells before upper (inl e) le =
    let none : IsSpelling 0 (0 ∷ []) = record { value = refl; marked = omega arith; unpadded = λ w. absurd (omega arith); in_range = omega arith } in
    let all : SpellsBound before infinity (0 ∷ 0 ∷ []) = record { code = 0; code_text = 0 ∷ []; length_text = 0 ∷ []; front = []; parts = refl; code_is = none; length_is = none; short = omega arith; bound = refl } in
    subst (λ (x : Item). SpellsBound before x (bound_text before x)) (sym e) all
bound_spells before upper (inr key) le =
    let k = kept upper.id.0 in
    let test : ltb upper.time endless ≡ true = lt-ltb _ _ key.time in
    let len : length (bytes_kept upper.id.0) ≡ length_kept upper.id.0 = omega (arith, k.within, length-take (length_kept upper.id.0) upper.id.0) in
    let code : suc (upper.time - before) < 2 ^ 64 = omega (arith, key.time) in
    let all : SpellsBound before upper (spelling (suc (upper.time - before)) ++ (spelling (length_kept upper.id.0) ++ bytes_kept upper.id.0)) = record {
      code = suc (upper.time - before);
      code_text = spelling (suc (upper.time - before));
      length_text = spelling (length_kept upper.id.0);
      front = bytes_kept upper.id.0;
      parts = refl;
      code_is = spelling_spells (suc (upper.time - before)) code;
      length_is = rw len (spelling_spells (length_kept upper.id.0) (omega (arith, k.within, key.id.len)));
      short = omega (arith, len, k.within, key.id.len);
      bound = (omega arith, key.time, k.parts ∙ ap (λ (n : ℕ). bytes_kept upper.id.0 ++ replicate n 0) (omega (arith, len, key.id.len)));
    } in
    let one : 1 + (upper.time - before) ≡ suc (upper.time - before) = omega arith in
    rw (test, one) all

-- ---- claims

pub claim_spells : (c : Claim) → IsClaim c → SpellsClaim c (claim_text c)
claim_spells skip is = spelling_spells 0 (omega arith)
claim_spells (print bytes) is = (spelling 1, spelling_spells 1 (omega arith), refl, is.0)
claim_spells (ids list) is = (spelling 2, spelling (length list), spelling_spells 2 (omega arith), spelling_spells (length list) is.1, refl, is.0)

-- ---- ranges

-- a place tells its time
pub time_le : (a b : Item) → IsEdge b → place a ≤ place b → a.time ≤ b.time
unfolding place
time_le a b (inl e) le =
    let at : place b ≡ place infinity = ap place e in
    let time : b.time ≡ endless = ap (λ (x : Item). x.time) e in
    omega (arith, at, le)
time_le a b (inr key) le =
    let n : number_of_bytes b.id.0 < 256 ^ 32 = subst (λ (l : ℕ). number_of_bytes b.id.0 < 256 ^ l) key.id.len (number_below b.id.0 key.id.bytes) in
    omega (arith, n, le)

ranges_spell : (lower : Item) (rs : List Span) → Ascends lower rs → All IsSpan rs → SpellsRanges lower rs (ranges_text lower.time rs)
unfolding ranges_text
ranges_spell lower [] up fits = refl
ranges_spell lower (r ∷ rs) up fits =
    let first = All-head IsSpan r rs fits in
    let spelled : SpellsRange lower r (range_text lower.time r) = record {
      bound_text = bound_text lower.time r.upper;
      claim_text = claim_text r.claim;
      parts = refl;
      finite = up.0;
      bound = bound_spells lower.time r.upper first.upper (time_le lower r.upper first.upper up.1);
      ascends = up.1;
      claim = claim_spells r.claim first.claim;
    } in
    (range_text lower.time r, ranges_text r.upper.time rs, refl, spelled, ranges_spell r.upper rs up.2 (All-tail IsSpan r rs fits))

pub message_spells : (rs : List Span) → IsMessage rs → Spells (text_of rs) rs
unfolding text_of
message_spells rs is = (ranges_text 0 rs, refl, ranges_spell least rs is.ascends is.fits)

-- ---- range by range

-- what is left of a message's ranges, after a bound at that time
pub record Rest (before : ℕ) (rs : List Span) : Type 0 where
  pub lower : Item
  pub time : lower.time ≡ before
  pub ascends : Ascends lower rs

pub rest_time : (before : ℕ) (r : Span) (rs : List Span) → Rest before (r ∷ rs) → IsSpan r → before ≤ r.upper.time
rest_time before r rs rest is = omega (arith, rest.time, time_le rest.lower r.upper is.upper rest.ascends.1)

pub rest_next : (before : ℕ) (r : Span) (rs : List Span) → Rest before (r ∷ rs) → Rest r.upper.time rs
rest_next before r rs rest = record { lower = r.upper; time = refl; ascends = rest.ascends.2 }

pub written_all : (before : ℕ) (old : List ℕ) (rs : List Span) (all : List ℕ) → rs ≡ [] → old ++ ranges_text before rs ≡ all → old ≡ all
unfolding ranges_text
written_all before old rs all none so_far = sym (append-nil old) ∙ ap (λ (x : List Span). old ++ ranges_text before x) (sym none) ∙ so_far

pub written_more : (before : ℕ) (old new : List ℕ) (r : Span) (rs : List Span) (all : List ℕ) → new ≡ old ++ range_text before r → old ++ ranges_text before (r ∷ rs) ≡ all → new ++ ranges_text r.upper.time rs ≡ all
unfolding ranges_text
written_more before old new r rs all is so_far =
    ap (λ (x : List ℕ). x ++ ranges_text r.upper.time rs) is ∙ append_assoc old (range_text before r) (ranges_text r.upper.time rs) ∙ so_far

pub written_none : (rs : List Span) → (0x61 ∷ []) ++ ranges_text 0 rs ≡ text_of rs
unfolding text_of
written_none rs = refl
