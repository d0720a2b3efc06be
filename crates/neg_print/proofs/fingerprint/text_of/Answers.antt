use Rattle.std.proofs.Common.{◌≡◌, ℕ, ◌++◌, ◌<◌, ◌^◌, List, [], length, get_or, replicate, append_assoc, length-append, sym, ap, ◌∙◌, arith}
use mathlib.Core.List.{append-nil}
use borrow.Rule.Slice.PartMut.{put_mid}
use Rattle.std.proofs.Math.Seq.{take-append_seam, drop-append_seam}
use Rattle.std.specs.Int.{w64, to_le_bytes}
use Rattle.neg_print.specs.Print.{little_bytes}
use Rattle.neg_print.specs.Total.{limb_number}
use Rattle.neg_print.proofs.Digits.{limbs_bytes}
use Rattle.neg_print.proofs.fingerprint.text_of.Goals as goal

-- a part that is written behind others
step : (front old back new : List ℕ) (n k : ℕ) → length front ≡ n → length old ≡ k → put_mid n k (front ++ (old ++ back)) new ≡ (front ++ new) ++ back
step front old back new n k e f = rw (← e, ← f, take-append_seam front (old ++ back), drop-append_seam front (old ++ back), drop-append_seam old back) (sym (append_assoc front new back))

written : (a b c d e : List ℕ) → length a ≡ 8 → length b ≡ 8 → length c ≡ 8 → length d ≡ 8
    → put_mid 32 10 (put_mid 24 8 (put_mid 16 8 (put_mid 8 8 (a ++ replicate 34 0) b) c) d) e ≡ (((a ++ b) ++ c) ++ d) ++ e
written a b c d e la lb lc ld =
    let ab = length-append a b in
    let abc = length-append (a ++ b) c in
    let abcd = length-append ((a ++ b) ++ c) d in
    ap (λ (x : List ℕ). put_mid 32 10 (put_mid 24 8 (put_mid 16 8 x c) d) e) (step a (replicate 8 0) (replicate 26 0) b 8 8 la (omega arith))
    ∙ ap (λ (x : List ℕ). put_mid 32 10 (put_mid 24 8 x d) e) (step (a ++ b) (replicate 8 0) (replicate 18 0) c 16 8 (omega (arith, ab, la, lb)) (omega arith))
    ∙ ap (λ (x : List ℕ). put_mid 32 10 x e) (step ((a ++ b) ++ c) (replicate 8 0) (replicate 10 0) d 24 8 (omega (arith, abc, ab, la, lb, lc)) (omega arith))
    ∙ step (((a ++ b) ++ c) ++ d) (replicate 10 0) [] e 32 10 (omega (arith, abcd, abc, ab, la, lb, lc, ld)) (omega arith)
    ∙ append-nil ((((a ++ b) ++ c) ++ d) ++ e)

-- the digits' bytes and those behind them
message : (limbs a b c d e last : List ℕ) → length limbs ≡ 4 → ((i : ℕ) → get_or limbs i 0 < 2 ^ 64)
    → a ≡ to_le_bytes w64 (get_or limbs 0 0) → b ≡ to_le_bytes w64 (get_or limbs 1 0) → c ≡ to_le_bytes w64 (get_or limbs 2 0) → d ≡ to_le_bytes w64 (get_or limbs 3 0)
    → e ≡ last → (((a ++ b) ++ c) ++ d) ++ e ≡ little_bytes 32 (limb_number limbs) ++ last
message limbs a b c d e last len fits ea eb ec ed ee = rw (ea, eb, ec, ed, ee) (ap (λ (bs : List ℕ). bs ++ last) (limbs_bytes limbs len fits))

eight : (xs : List ℕ) (x : ℕ) → xs ≡ to_le_bytes w64 x → length xs ≡ 8
eight xs x e = ap length e

pub returns : goal.returns
returns c =
    let first = c.copy_from_slice.ensures.after ∙ c.to_le_bytes.ensures in
    let second = c.copy_from_slice-2.ensures.after ∙ c.to_le_bytes-2.ensures in
    let third = c.copy_from_slice-3.ensures.after ∙ c.to_le_bytes-3.ensures in
    let fourth = c.copy_from_slice-4.ensures.after ∙ c.to_le_bytes-4.ensures in
    written c.copy_from_slice.new.self c.copy_from_slice-2.new.self c.copy_from_slice-3.new.self c.copy_from_slice-4.new.self c.copy_from_slice-5.new.self
    (eight _ _ first) (eight _ _ second) (eight _ _ third) (eight _ _ fourth)
    ∙ message c.args.limbs.now _ _ _ _ _ c.args.last.now c.told-limbs c.fits-limbs first second third fourth c.copy_from_slice-5.ensures.after
