use Rattle.std.proofs.Common.{◌≡◌, ℕ, zero, suc, ◌++◌, ◌+◌, ◌-◌, ◌/◌, List, refl, length, take, replicate, sym, ap, ◌∙◌}
use Rattle.std.proofs.Math.Seq.{take-append_seam, take-append-add}
use Rattle.sha2.specs.Sha256.{sha256}
use Rattle.neg_varint.specs.Spelling.{spelling}
use Rattle.neg_print.specs.Print.{print_by, little_bytes}
use Rattle.neg_print.specs.Total.{limb_number}
use Rattle.neg_print.proofs.fingerprint.print_limbs.Goals as goal

little_len : (n x : ℕ) → length (little_bytes n x) ≡ n
unfolding little_bytes
little_len zero x = refl
little_len (suc n) x = ap suc (little_len n (x / 256))

front : (bytes text zeros : List ℕ) (len : ℕ) → length text ≡ len → bytes ≡ text ++ zeros → take len bytes ≡ text
front bytes text zeros len e is = rw (is, ← e) (take-append_seam text zeros)

-- the message that was hashed
message : (number len : ℕ) (bytes digits text zeros : List ℕ) → bytes ≡ little_bytes 32 number ++ digits → length text ≡ len → digits ≡ text ++ zeros → take (32 + len) bytes ≡ little_bytes 32 number ++ text
message number len bytes digits text zeros e f is =
    ap (λ (xs : List ℕ). take (32 + len) xs) e ∙ ap (λ (n : ℕ). take (n + len) (little_bytes 32 number ++ digits)) (sym (little_len 32 number))
    ∙ take-append-add (little_bytes 32 number) digits len ∙ ap (λ (xs : List ℕ). little_bytes 32 number ++ xs) (front digits text zeros len f is)

pub returns : goal.returns
unfolding print_by
returns c =
    let d : c.finalize-digest.result ≡ sha256 (take (32 + c.spell-len.result.1) c.text_of-text.result) = c.finalize-digest.ensures _ (c.update.ensures _ c.new-hasher.ensures) in
    let m = message (limb_number c.args.limbs.now) c.spell-len.result.1 c.text_of-text.result c.spell-len.result.0 (spelling c.args.count) (replicate (10 - c.spell-len.result.1) 0) c.text_of-text.ensures (sym c.spell-len.ensures.len) c.spell-len.ensures.value in
    c.copy_from_slice.ensures.after ∙ ap (take 16) (d ∙ ap sha256 m)
