-- Names of sessions.
use Rattle.std.proofs.Common.{◌≡◌, ℕ, ◌<◌, ◌&&◌, List, [], ◌∷◌, length, true, refl, arith}
use Rattle.std.specs.Prelude.{nat_le}
use Rattle.std.specs.List.{AllByRecursion}
use Rattle.std.specs.Str.{IsAscii}
use Rattle.std.proofs.lemmas.Str.{chars-IsAscii}
use Rattle.std.proofs.lemmas.Str.Ascii.{IsAscii-nil, IsAscii-cons}
use Rattle.nostr_wire.specs.Elements.{is_sub}

is_ascii : (bs : List ℕ) → AllByRecursion (λ b. b < 128) bs → IsAscii bs
is_ascii [] h = IsAscii-nil
is_ascii (b ∷ bs) h = IsAscii-cons b bs h.0 (is_ascii bs h.1)

-- a text of 1 to 64 ASCII characters is a name
ascii_name : (bs : List ℕ) → AllByRecursion (λ b. b < 128) bs → nat_le 1 (length bs) && nat_le (length bs) 64 ≡ true → is_sub bs ≡ true
ascii_name bs low h = rw (chars-IsAscii bs (is_ascii bs low)) h

-- m, i, r, r, o, r
pub mirror_is_name : is_sub (109 ∷ 105 ∷ 114 ∷ 114 ∷ 111 ∷ 114 ∷ []) ≡ true
mirror_is_name =
    ascii_name (109 ∷ 105 ∷ 114 ∷ 114 ∷ 111 ∷ 114 ∷ [])
    (omega arith, (omega arith, (omega arith, (omega arith, (omega arith, (omega arith, tt))))))
    refl

-- f, e, t, c, h
pub fetch_is_name : is_sub (102 ∷ 101 ∷ 116 ∷ 99 ∷ 104 ∷ []) ≡ true
fetch_is_name =
    ascii_name (102 ∷ 101 ∷ 116 ∷ 99 ∷ 104 ∷ [])
    (omega arith, (omega arith, (omega arith, (omega arith, (omega arith, tt)))))
    refl

-- l, i, v, e
pub live_is_name : is_sub (108 ∷ 105 ∷ 118 ∷ 101 ∷ []) ≡ true
live_is_name =
    ascii_name (108 ∷ 105 ∷ 118 ∷ 101 ∷ [])
    (omega arith, (omega arith, (omega arith, (omega arith, tt))))
    refl
