-- What is read is spelled so: claims, ranges, messages.
use Rattle.std.proofs.Common.{◌≡◌, ℕ, zero, suc, ◌+◌, ◌*◌, ◌<◌, ◌≤◌, cond, ltb, eqb, List, [], ◌∷◌, ◌++◌, length, take, drop, Ok, Err, refl, sym, ap, subst, ◌∙◌, arith}
use Rattle.std.specs.Prelude.{All}
use Rattle.std.specs.List.{flat_map}
use Rattle.std.proofs.lemmas.Bool.{ltb-true, ltb-false, eqb-true}
use Rattle.std.proofs.lemmas.List.{take-append-drop, length-append, length-take, length-drop, get_or-drop, get_or-take}
use Rattle.std.proofs.lemmas.List.Elements.{All-cons, All-from_get_or}
use Rattle.std.proofs.lemmas.List.Concat.{flat_map-cons}
use Rattle.neg_varint.specs.Spelling.{IsSpelling}
use Rattle.item_key.specs.declared.Id.{Id}
use Rattle.item_key.specs.declared.Item.{Item}
use Rattle.neg_codec.specs.declared.CodecFault.{CodecFault}
use Rattle.neg_codec.specs.declared.CodecFault.TheVariants as fault
use Rattle.item_key.specs.Keys.{endless, least, IsId}
use Rattle.neg_codec.specs.Ranges.{Claim, skip, print, ids, Span, Ascends}
use Rattle.neg_codec.specs.Text.{SpellsClaim, SpellsRange, SpellsRanges, Spells}
use Rattle.neg_codec.specs.Reading.{◌>>=◌, place_in, varint_at, front_at, bound_at, ids_of, ids_at, payload_at, claim_at, range_at, ranges_at, versioned_at, message_at, longest}
use Rattle.neg_codec.proofs.Takes.{IsBytes, bind_ok, past, within, done, no_error, ok_is, Takes, Takes-then, varint_takes, front_takes, bound_takes}

-- ---- ids

IsBytes-drop : (n : ℕ) (bytes : List ℕ) → IsBytes bytes → IsBytes (drop n bytes)
IsBytes-drop n bytes h i = rw get_or-drop (h (n + i))

id_front : (n : ℕ) (bytes : List ℕ) → IsBytes bytes → length bytes ≡ 32 * suc n → IsId (record { 0 = take 32 bytes })
id_front n bytes fits len = record {
  len = omega (arith, length-take 32 bytes);
  bytes = All-from_get_or (λ b. b < 256) (take 32 bytes) 0 (λ i lt. rw (get_or-take 32 bytes i 0 (omega (arith, length-take 32 bytes))) (fits i));
}

-- the ids that stand in bytes, 32 each
pub ids_take : (n : ℕ) (bytes : List ℕ) → IsBytes bytes → length bytes ≡ 32 * n → (bytes ≡ flat_map (λ (i : Id). i.0) (ids_of n bytes)) × (length (ids_of n bytes) ≡ n) × All IsId (ids_of n bytes)
ids_take zero [] fits len = (refl, refl, λ k d lt. absurd (omega arith))
ids_take zero (b ∷ bytes) fits len = absurd (omega arith)
ids_take (suc n) bytes fits len =
    let ih = ids_take n (drop 32 bytes) (IsBytes-drop 32 bytes fits) (omega (arith, length-drop 32 bytes)) in
    let first : Id = record { 0 = take 32 bytes } in (
      sym (flat_map-cons (λ (i : Id). i.0) first (ids_of n (drop 32 bytes)) ∙ ap (λ (x : List ℕ). take 32 bytes ++ x) (sym ih.0) ∙ take-append-drop 32 bytes),
      ap suc ih.1,
      All-cons IsId first (ids_of n (drop 32 bytes)) (id_front n bytes fits len) ih.2,
    )

pub record Claimed (c : Claim) (bytes rest : List ℕ) : Type 0 where
  pub text : List ℕ
  pub takes : Takes bytes text rest
  pub spelling : SpellsClaim c text

payload_takes : (total mode : ℕ) (unknown : CodecFault) (bytes text after : List ℕ) (x : Claim × List ℕ) → Takes bytes text after → IsSpelling mode text → payload_at total mode unknown after ≡ Ok x → Claimed x.0 bytes x.1
unfolding payload_at ids_at
payload_takes total zero unknown bytes text after x t s e =
    let all : Claimed skip bytes after = record { text = text; takes = t; spelling = s } in
    subst (λ (y : Claim × List ℕ). Claimed y.0 bytes y.1) (ok_is (skip, after) x e) all
payload_takes total (suc zero) unknown bytes text after x t s e =
    let a = bind_ok (front_at total 16 after) (λ f. done (print f.0, f.1)) x e in
    let f = front_takes total 16 after a.0.0 a.0.1 t.rest_fits a.1 in
    let made : Claim × List ℕ = (print a.0.0, a.0.1) in
    let all : Claimed made.0 bytes made.1 = record { text = text ++ a.0.0; takes = Takes-then bytes text after a.0.0 a.0.1 t f.0; spelling = (text, s, refl, f.1) } in
    subst (λ (y : Claim × List ℕ). Claimed y.0 bytes y.1) (ok_is made x a.2) all
payload_takes total (suc (suc zero)) unknown bytes text after x t s e =
    let a = bind_ok (varint_at total after) (λ n. front_at total (32 * n.0) n.1 >>= λ f. done (ids (ids_of n.0 f.0), f.1)) x e in
    let b = bind_ok (front_at total (32 * a.0.0) a.0.1) (λ f. done (ids (ids_of a.0.0 f.0), f.1)) x a.2 in
    let count = varint_takes total after a.0.0 a.0.1 t.rest_fits a.1 in
    let f = front_takes total (32 * a.0.0) a.0.1 b.0.0 b.0.1 count.takes.rest_fits b.1 in
    let list = ids_take a.0.0 b.0.0 f.2 f.1 in
    let inner = Takes-then after count.text a.0.1 b.0.0 b.0.1 count.takes f.0 in
    let whole = Takes-then bytes text after (count.text ++ b.0.0) b.0.1 t inner in
    let made : Claim × List ℕ = (ids (ids_of a.0.0 b.0.0), b.0.1) in
    let counted : IsSpelling (length (ids_of a.0.0 b.0.0)) count.text = subst (λ (n : ℕ). IsSpelling n count.text) (sym list.1) count.spelling in
    let all : Claimed made.0 bytes made.1 = record {
      text = text ++ (count.text ++ b.0.0);
      takes = whole;
      spelling = (text, count.text, s, counted, ap (λ (l : List ℕ). text ++ (count.text ++ l)) list.0, list.2);
    } in
    subst (λ (y : Claim × List ℕ). Claimed y.0 bytes y.1) (ok_is made x b.2) all
payload_takes total (suc (suc (suc mode))) unknown bytes text after x t s e = absurd cc

pub claim_takes : (total : ℕ) (bytes : List ℕ) (x : Claim × List ℕ) → IsBytes bytes → claim_at total bytes ≡ Ok x → Claimed x.0 bytes x.1
unfolding claim_at
claim_takes total bytes x fits e =
    let a = bind_ok (varint_at total bytes) (λ mode. payload_at total mode.0 (fault.Mode (place_in total bytes)) mode.1) x e in
    let mode = varint_takes total bytes a.0.0 a.0.1 fits a.1 in
    payload_takes total a.0.0 (fault.Mode (place_in total bytes)) bytes mode.text a.0.1 x mode.takes mode.spelling a.2

-- ---- ranges

pub record Ranged (lower : Item) (r : Span) (bytes rest : List ℕ) : Type 0 where
  pub text : List ℕ
  pub takes : Takes bytes text rest
  pub spelling : SpellsRange lower r text

pub range_takes : (total : ℕ) (lower : Item) (bytes : List ℕ) (x : Span × List ℕ) → IsBytes bytes → range_at total lower bytes ≡ Ok x → Ranged lower x.0 bytes x.1
unfolding range_at
range_takes total lower bytes x fits e =
    let last = λ (upper : Item × List ℕ) (claim : Claim × List ℕ). let made : Span × List ℕ = (record { upper = upper.0; claim = claim.0 }, claim.1) in done made in
    let g = within (ltb lower.time endless) (fault.AfterInfinity (place_in total bytes)) (bound_at total lower bytes >>= λ upper. claim_at total upper.1 >>= last upper) x e in
    let a = bind_ok (bound_at total lower bytes) (λ upper. claim_at total upper.1 >>= last upper) x g.1 in
    let b = bind_ok (claim_at total a.0.1) (last a.0) x a.2 in
    let upper = bound_takes total lower bytes a.0 fits a.1 in
    let claim = claim_takes total a.0.1 b.0 upper.takes.rest_fits b.1 in
    let made : Span × List ℕ = (record { upper = a.0.0; claim = b.0.0 }, b.0.1) in
    let spelling : SpellsRange lower made.0 (upper.text ++ claim.text) = record {
      bound_text = upper.text;
      claim_text = claim.text;
      parts = refl;
      finite = ltb-true _ _ g.0;
      bound = upper.spelling;
      ascends = upper.ascends;
      claim = claim.spelling;
    } in
    let all : Ranged lower made.0 bytes made.1 = record { text = upper.text ++ claim.text; takes = Takes-then bytes upper.text a.0.1 claim.text b.0.1 upper.takes claim.takes; spelling = spelling } in
    subst (λ (y : Span × List ℕ). Ranged lower y.0 bytes y.1) (ok_is made x b.2) all

some_byte : (n : ℕ) (text : List ℕ) → IsSpelling n text → 0 < length text
some_byte n [] s = absurd s.marked
some_byte n (b ∷ text) s = omega arith

pub range_some : (lower : Item) (r : Span) (text : List ℕ) → SpellsRange lower r text → 0 < length text
range_some lower r text s =
    omega (arith, ap length s.parts, length-append s.bound_text s.claim_text, ap length s.bound.parts, length-append s.bound.code_text (s.bound.length_text ++ s.bound.front), some_byte s.bound.code s.bound.code_text s.bound.code_is)

pub ranges_take : (n total : ℕ) (lower : Item) (bytes : List ℕ) (rs : List Span) → length bytes ≤ n → IsBytes bytes → ranges_at n total lower bytes ≡ Ok rs → SpellsRanges lower rs bytes
unfolding ranges_at
ranges_take zero total lower [] rs le fits e = let same : [] ≡ rs = ok_is [] rs e in subst (λ (x : List Span). SpellsRanges lower x []) same refl
ranges_take (suc n) total lower [] rs le fits e = let same : [] ≡ rs = ok_is [] rs e in subst (λ (x : List Span). SpellsRanges lower x []) same refl
ranges_take zero total lower (b ∷ bytes) rs le fits e = absurd (omega arith)
ranges_take (suc n) total lower (b ∷ bytes) rs le fits e =
    let a = bind_ok (range_at total lower (b ∷ bytes)) (λ range. ranges_at n total range.0.upper range.1 >>= λ others. done (range.0 ∷ others)) rs e in
    let o = bind_ok (ranges_at n total a.0.0.upper a.0.1) (λ others. done (a.0.0 ∷ others)) rs a.2 in
    let r = range_takes total lower (b ∷ bytes) a.0 fits a.1 in
    let shorter : length a.0.1 ≤ n = omega (arith, ap length r.takes.parts, length-append r.text a.0.1, range_some lower a.0.0 r.text r.spelling) in
    let others = ranges_take n total a.0.0.upper a.0.1 o.0 shorter r.takes.rest_fits o.1 in
    let all : SpellsRanges lower (a.0.0 ∷ o.0) (b ∷ bytes) = (r.text, a.0.1, r.takes.parts, r.spelling, others) in
    subst (λ (x : List Span). SpellsRanges lower x (b ∷ bytes)) (ok_is (a.0.0 ∷ o.0) rs o.2) all

pub ascends_from : (lower : Item) (rs : List Span) (bytes : List ℕ) → SpellsRanges lower rs bytes → Ascends lower rs
ascends_from lower [] bytes s = tt
ascends_from lower (r ∷ rs) bytes s = (s.3.finite, s.3.ascends, ascends_from r.upper rs s.1 s.4)

IsBytes-rest : (b : ℕ) (bytes : List ℕ) → IsBytes (b ∷ bytes) → IsBytes bytes
IsBytes-rest b bytes h i = h (suc i)

no_message : (rs : List Span) → message_at [] ≡ Ok rs → ⊥
unfolding message_at versioned_at
no_message rs e = no_error fault.Empty rs e

pub message_takes : (bytes : List ℕ) (rs : List Span) → IsBytes bytes → message_at bytes ≡ Ok rs → (length bytes ≤ longest) × Spells bytes rs
unfolding message_at versioned_at
message_takes [] rs fits e = absurd (no_message rs e)
message_takes (b ∷ bytes) rs fits e =
    let g = past (ltb longest (length (b ∷ bytes))) fault.TooLong (cond (eqb b 0x61) (ranges_at (length bytes) (length bytes + 1) least bytes) (Err (fault.Version b))) rs e in
    let h = within (eqb b 0x61) (fault.Version b) (ranges_at (length bytes) (length bytes + 1) least bytes) rs g.1 in
    let same : b ≡ 0x61 = eqb-true _ _ h.0 in
    (ltb-false _ _ g.0, (bytes, ap (λ (x : ℕ). x ∷ bytes) same, ranges_take (length bytes) (length bytes + 1) least bytes rs (omega arith) (IsBytes-rest b bytes fits) h.1))
